-- A call of one past that is a call of another at another time, and orders made of others.
use Rattle.std.proofs.Common.{◌≡◌, ℕ, Bool, List, [], ◌∷◌, ◌++◌, map, Some, None, Option, IsSome, All, refl, sym, ◌∙◌, ap, subst, subst₂, inl, inr, arith}
use Rattle.std.proofs.lemmas.List.Elements.{All-nil, All-cons, All-head, All-tail}
use Rattle.places.specs.declared.place.Call.{Call}
use Rattle.questions.specs.Graph.{Graph}
use Rattle.order.specs.Graph.{Feed, Shows, is_change, after}
use Rattle.order.specs.Past.{Finish, Past, Belongs, fed_until, fed_as, fed}
use Rattle.order.specs.Order.{standings, left_by, ExplainedBy, Explained, counts_as, stamping_as, stamping}

-- the same answer and page, at another time
abbrev pub SameFinish : (ℕ → ℕ) → Option Finish → Option Finish → Type 0
SameFinish m None None = Unit {0}
SameFinish m (Some e) (Some f) = (f.time ≡ m e.time) × (f.answer ≡ e.answer) × (f.page ≡ e.page)
SameFinish m None (Some f) = ⊥
SameFinish m (Some e) None = ⊥

-- the call b of the past h is the call m b of the past k
pub record Copy (h k : Past) (m : ℕ → ℕ) (b : ℕ) : Type 0 where
  pub begun : k.begun (m b) ≡ h.begun b
  pub finish : SameFinish m (h.finish b) (k.finish (m b))
  pub stamp : k.stamp (m b) ≡ h.stamp b
  pub raise : k.raise (m b) ≡ h.raise b
  pub lower_end : k.lower_end (m b) ≡ h.lower_end b

module _ (m : ℕ → ℕ) where
  pub fed_same : (x : Option Call) (o p : Option Finish) → SameFinish m o p → fed_as x p ≡ fed_as x o
  fed_same None o p s = refl
  fed_same (Some c) None None s = refl
  fed_same (Some c) (Some e) (Some f) s = ap (fed_until c) s.1
  fed_same (Some c) None (Some f) s = absurd s
  fed_same (Some c) (Some e) None s = absurd s

  pub explained_same : (g : Graph) (f : Feed) (lower : Bool) (o p : Option Finish) → SameFinish m o p → ExplainedBy g f lower o → ExplainedBy g f lower p
  explained_same g f lower None None s x = x
  explained_same g f lower (Some e) (Some d) s x = record { answer = s.1 ∙ x.answer; page = subst (Shows g f) (sym s.2) x.page }
  explained_same g f lower None (Some d) s x = absurd s
  explained_same g f lower (Some e) None s x = absurd s

  pub counts_same : (lower : Bool) (o p : Option Finish) → SameFinish m o p → counts_as p lower ≡ counts_as o lower
  counts_same lower None None s = refl
  counts_same lower (Some e) (Some f) s = ap is_change s.1
  counts_same lower None (Some f) s = absurd s
  counts_same lower (Some e) None s = absurd s

  pub finished_same : (o p : Option Finish) → SameFinish m o p → (f : Finish) → p ≡ Some f → (e : Finish) × (o ≡ Some e) × (f.time ≡ m e.time)
  finished_same None None s f q = absurd (grind arith)
  finished_same (Some e) (Some d) s f q = (e, refl, ap time_of (sym q) ∙ s.0)
    where
      time_of : Option Finish → ℕ
      time_of None = 0
      time_of (Some f) = f.time
  finished_same None (Some d) s f q = absurd s
  finished_same (Some e) None s f q = absurd s

  pub done_same : (o p : Option Finish) → SameFinish m o p → IsSome o → IsSome p
  done_same None None s x = x
  done_same (Some e) (Some f) s x = refl
  done_same None (Some f) s x = absurd s
  done_same (Some e) None s x = absurd s

  pub done_back : (o p : Option Finish) → SameFinish m o p → IsSome p → IsSome o
  done_back None None s x = x
  done_back (Some e) (Some f) s x = refl
  done_back None (Some f) s x = absurd s
  done_back (Some e) None s x = absurd s

module _ (h k : Past) (m : ℕ → ℕ) where
  pub fed_copy : (b : ℕ) → Copy h k m b → fed k (m b) ≡ fed h b
  fed_copy b c = ap (λ x. fed_as x (k.finish (m b))) c.begun ∙ fed_same m (h.begun b) (h.finish b) (k.finish (m b)) c.finish

  pub stamping_copy : (b : ℕ) → Copy h k m b → stamping k (m b) ≡ stamping h b
  stamping_copy b c =
      ap (λ l. stamping_as (counts_as (k.finish (m b)) l) (k.stamp (m b)) (k.raise (m b))) c.lower_end
      ∙ ap (λ x. stamping_as x (k.stamp (m b)) (k.raise (m b))) (counts_same m (h.lower_end b) (h.finish b) (k.finish (m b)) c.finish)
      ∙ ap (λ x. stamping_as (counts_as (h.finish b) (h.lower_end b)) x (k.raise (m b))) c.stamp
      ∙ ap (λ x. stamping_as (counts_as (h.finish b) (h.lower_end b)) (h.stamp b) x) c.raise

  pub explained_copy : (g : Graph) (b : ℕ) → Copy h k m b → Explained h (record { call = b; before = g }) → Explained k (record { call = m b; before = g })
  explained_copy g b c x =
      subst₂ (λ f l. ExplainedBy g f l (k.finish (m b))) (sym (fed_copy b c)) (sym c.lower_end)
      (explained_same m g (fed h b) (h.lower_end b) (h.finish b) (k.finish (m b)) c.finish x)

  pub belongs_copy : (b : ℕ) → Copy h k m b → Belongs h b → Belongs k (m b)
  belongs_copy b c x = record {
    began = subst IsSome (sym c.begun) x.began;
    done = elim x.done [ inl d ↦ inl (done_same m (h.finish b) (k.finish (m b)) c.finish d) | inr d ↦ inr (subst IsSome (sym c.stamp) d) ];
  }

  pub belongs_back : (b : ℕ) → Copy h k m b → Belongs k (m b) → Belongs h b
  belongs_back b c x = record {
    began = subst IsSome c.begun x.began;
    done = elim x.done [ inl d ↦ inl (done_back m (h.finish b) (k.finish (m b)) c.finish d) | inr d ↦ inr (subst IsSome c.stamp d) ];
  }

  pub left_copy : (order : List ℕ) (g : Graph) → All (Copy h k m) order → left_by k g (map m order) ≡ left_by h g order
  left_copy [] g a = refl
  left_copy (b ∷ bs) g a =
      ap (λ f. left_by k (after g f) (map m bs)) (fed_copy b (All-head (Copy h k m) b bs a)) ∙ left_copy bs (after g (fed h b)) (All-tail (Copy h k m) b bs a)

  pub explains_copy : (order : List ℕ) (g : Graph) → All (Copy h k m) order → All (Explained h) (standings h g order) → All (Explained k) (standings k g (map m order))
  explains_copy [] g a x = All-nil (Explained k)
  explains_copy (b ∷ bs) g a x =
      let c = All-head (Copy h k m) b bs a in
      let rest = explains_copy bs (after g (fed h b)) (All-tail (Copy h k m) b bs a) (All-tail (Explained h) _ _ x) in
      All-cons (Explained k) _ _ (explained_copy g b c (All-head (Explained h) _ _ x))
      (subst (λ f. All (Explained k) (standings k (after g f) (map m bs))) (sym (fed_copy b c)) rest)

-- one order after another
module _ (k : Past) where
  pub left_append : (xs ys : List ℕ) (g : Graph) → left_by k g (xs ++ ys) ≡ left_by k (left_by k g xs) ys
  left_append [] ys g = refl
  left_append (x ∷ xs) ys g = left_append xs ys (after g (fed k x))

  pub explains_append : (xs ys : List ℕ) (g : Graph) → All (Explained k) (standings k g xs) → All (Explained k) (standings k (left_by k g xs) ys) →
      All (Explained k) (standings k g (xs ++ ys))
  explains_append [] ys g a b = b
  explains_append (x ∷ xs) ys g a b = All-cons (Explained k) _ _ (All-head (Explained k) _ _ a)
      (explains_append xs ys (after g (fed k x)) (All-tail (Explained k) _ _ a) b)
