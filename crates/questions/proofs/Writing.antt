-- Values of keys are written to the front of an area.
use Rattle.std.proofs.Common.{◌≡◌, ℕ, zero, suc, ◌+◌, ◌<◌, Some, Option, List, [], ◌∷◌, length, set, sym, refl, ◌∙◌, subst, inl, inr, arith}
use Rattle.std.proofs.lemmas.Bool.{cases_eq}
use Rattle.std.specs.List.{slice_get}
use Rattle.questions.specs.Search.{Written}

pub slice_get-set_same : {A : Type 0} (xs : List A) (i : ℕ) (y : A) → i < length xs → slice_get (set xs i y) i ≡ Some y
slice_get-set_same [] i y h = absurd (omega arith)
slice_get-set_same (x ∷ xs) zero y h = refl
slice_get-set_same (x ∷ xs) (suc i) y h = slice_get-set_same xs i y (omega arith)

pub slice_get-set_other : {A : Type 0} (xs : List A) (i j : ℕ) (y : A) → (j ≡ i → ⊥) → slice_get (set xs i y) j ≡ slice_get xs j
slice_get-set_other [] i j y h = refl
slice_get-set_other (x ∷ xs) zero zero y h = absurd (h refl)
slice_get-set_other (x ∷ xs) zero (suc j) y h = refl
slice_get-set_other (x ∷ xs) (suc i) zero y h = refl
slice_get-set_other (x ∷ xs) (suc i) (suc j) y h = slice_get-set_other xs i j y (λ e. h (omega arith))

module _ {A : Type 0} (Form : Option ℕ → A → Type 0) where
  -- the form that stands at k is that of the value of each number that is k
  form_at : (d : ℕ → Option ℕ) (new : List A) (k j : ℕ) → j ≡ k → (y : A) × (slice_get new k ≡ Some y) × Form (d k) y →
      (y : A) × (slice_get new j ≡ Some y) × Form (d j) y
  form_at d new k j e here =
      let P : ℕ → Type 0 = λ i. (y : A) × (slice_get new i ≡ Some y) × Form (d i) y in
      subst P (sym e) here

  -- one value more, where nothing else is written
  pub written_more : (d : ℕ → Option ℕ) (k : ℕ) (old now new : List A) → Written Form d k old now →
      ((j : ℕ) → (j ≡ k → ⊥) → slice_get new j ≡ slice_get now j) → (y : A) × (slice_get new k ≡ Some y) × Form (d k) y → Written Form d (k + 1) old new
  written_more d k old now new w stays here = record {
    front = λ j h. elim (cases_eq j k) [
      | inl e ↦ form_at d new k j e here
      | inr e ↦ (let (z, is, f) = w.front j (omega arith) in (z, stays j e ∙ is, f))
    ];
    others = λ j h. (stays j (λ e. omega arith) ∙ w.others j (omega arith));
  }

  -- the value of one key is another, where nothing else is written
  pub written_at : (d e : ℕ → Option ℕ) (k n : ℕ) (old now new : List A) → Written Form d n old now → k < n →
      ((j : ℕ) → (j ≡ k → ⊥) → e j ≡ d j) → ((j : ℕ) → (j ≡ k → ⊥) → slice_get new j ≡ slice_get now j) →
      {x : Option ℕ} → e k ≡ x → (y : A) × (slice_get new k ≡ Some y) × Form x y → Written Form e n old new
  written_at d e k n old now new w l same stays {x} is-x (y, is-y, form) = record {
    front = λ j h. elim (cases_eq j k) [
      | inl z ↦ form_at e new k j z (y, is-y, subst (λ v. Form v y) (sym is-x) form)
      | inr z ↦ (let (y, is, f) = w.front j h in (y, stays j z ∙ is, subst (λ v. Form v y) (sym (same j z)) f))
    ];
    others = λ j h. (stays j (λ z. omega arith) ∙ w.others j h);
  }

  -- what stands for values stands for the same ones
  fronts : (d e : ℕ → Option ℕ) (n : ℕ) (new : List A) → ((k : ℕ) → k < n → e k ≡ d k) → ((k : ℕ) → k < n → (y : A) × (slice_get new k ≡ Some y) × Form (d k) y) →
      (k : ℕ) → k < n → (y : A) × (slice_get new k ≡ Some y) × Form (e k) y
  fronts d e n new same w k h = let (y, is, f) = w k h in (y, is, subst (λ v. Form v y) (sym (same k h)) f)

  -- the values stand in what was written
  pub written_self : (d e : ℕ → Option ℕ) (n : ℕ) (old new : List A) → Written Form d n old new → ((k : ℕ) → e k ≡ d k) → Written Form e n new new
  written_self d e n old new w same = record {
    front = fronts d e n new (λ k h. same k) w.front;
    others = λ k h. refl;
  }

  -- values are written over others, and in the end they are these
  pub written_over : (c d e : ℕ → Option ℕ) (n : ℕ) (old now new : List A) → Written Form c n old now → Written Form d n now new →
      ((k : ℕ) → k < n → e k ≡ d k) → Written Form e n old new
  written_over c d e n old now new v w same = record {
    front = fronts d e n new same w.front;
    others = λ k h. (w.others k h ∙ v.others k h);
  }
