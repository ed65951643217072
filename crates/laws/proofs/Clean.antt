-- Clean states keep what every run keeps, and every opening is clean.
use Rattle.std.proofs.Common.{◌≡◌, ℕ, ◌<◌, ◌≤◌, List, length, get_or, drop, replicate, refl, ◌∙◌, subst, inl, inr, ⊎_elim, arith}
use Rattle.std.proofs.lemmas.List.{length-set, length-append, length-replicate, get_or-set_same, get_or-set_other, get_or_append_left}
use Rattle.layout.specs.declared.sizes.Sizes.{Sizes}
use Rattle.layout.specs.declared.names.Kind.{Kind}
use Rattle.layout.specs.declared.names.Field.{Field}
use Rattle.layout.specs.declared.names.Field.TheVariants.{Ins, Del}
use Rattle.layout.specs.declared.names.Head.{Head}
use Rattle.layout.specs.declared.names.Head.TheVariants as head
use Rattle.layout.specs.declared.names.Cell.TheVariants as cell
use Rattle.layout.specs.Layout.{needed, index_of, Named}
use Rattle.layout.proofs.Regions.{index_lt}
use Rattle.layout.proofs.Owners.{own_row}
use Rattle.places.specs.declared.place.Place.TheVariants as place
use Rattle.places.specs.Touches.{head_kind}
use Rattle.machine.specs.States.{State}
use Rattle.machine.specs.Opening.{cleared, opened_state}
use Rattle.machine.specs.Workers.{fresh, nobody}
use Rattle.laws.specs.Fits.{Linked, InChain.at_head, InChain.below, Counted, RowOrNone}
use Rattle.laws.specs.Changes.{number_in}
use Rattle.laws.specs.Clean.{head_in, Stands, Clean, OpeningsClean}
use Rattle.laws.specs.Stamps.{Holds, Holds.not_ended, Holds.stamped}
use Rattle.laws.proofs.Served.{get_or-replicate, blank_queue}

module _ (s : State) (c : Clean s) where
  -- a linked row of a clean state is the row of a head
  pub record Top (k : Kind) (r : ℕ) : Type 0 where
    pub head : Head
    pub named : Named s.sizes (cell.Head head)
    pub kind : head_kind head ≡ k
    pub is : head_in s head ≡ r
    pub stands : Stands s head

  pub top_of : (k : Kind) (r : ℕ) → Linked s k r → Top k r
  top_of k r (at_head h _ n e f l) = ⊎_elim
      (λ (z : head_in s h ≡ 0). absurd (omega (arith, l.0, z, f)))
      (λ (x : Stands s h). record { head = h; named = n; kind = e; is = f; stands = x })
      (c.heads h n)
  top_of k r (below q _ x f l) =
      let t = top_of k q x in
      let z : number_in s (cell.Older k q) ≡ 0 = subst (λ (j : Kind). number_in s (cell.Older j q) ≡ 0) t.kind (subst (λ n. number_in s (cell.Older (head_kind t.head) n) ≡ 0) t.is t.stands.alone) in
      absurd (omega (arith, l.0, z, f))

  pub clean_counted : (k : Kind) (r : ℕ) → Linked s k r → Counted s k r
  clean_counted k r l = let t = top_of k r l in subst (λ (j : Kind). Counted s j r) t.kind (subst (Counted s (head_kind t.head)) t.is t.stands.counted)

  pub clean_heads : (h : Head) → Named s.sizes (cell.Head h) → RowOrNone s (head_kind h) (number_in s (cell.Head h))
  clean_heads h n = ⊎_elim (λ (z : head_in s h ≡ 0). inl z)
      (λ (x : Stands s h). inr (at_head h (head_in s h) n refl refl (own_row s.sizes (head_kind h) x.counted.owner x.counted.nth (head_in s h) x.counted.is).0))
      (c.heads h n)

  pub clean_olders : (k : Kind) (r : ℕ) → Linked s k r → RowOrNone s k (number_in s (cell.Older k r))
  clean_olders k r l =
      let t = top_of k r l in
      inl (subst (λ (j : Kind). number_in s (cell.Older j r) ≡ 0) t.kind (subst (λ n. number_in s (cell.Older (head_kind t.head) n) ≡ 0) t.is t.stands.alone))

  head_holds : (f : Field) (h : Head) → Stands s h → Holds s.sizes f (number_in s (cell.Stamp (head_kind h) f (head_in s h)))
  head_holds Ins h x = stamped (omega (arith, x.stamp), omega (arith, x.born, c.clock.1))
  head_holds Del h x = not_ended refl x.alive

  pub clean_holds : (k : Kind) (f : Field) (r : ℕ) → Linked s k r → Holds s.sizes f (number_in s (cell.Stamp k f r))
  clean_holds k f r l =
      let t = top_of k r l in
      subst (λ (j : Kind). Holds s.sizes f (number_in s (cell.Stamp j f r))) t.kind (subst (λ n. Holds s.sizes f (number_in s (cell.Stamp (head_kind t.head) f n))) t.is (head_holds f t.head t.stands))

index_head : (z : Sizes) (h : Head) → index_of z (cell.Head h) ≡ 0 → ⊥
index_head z (head.Vertex i) e = omega arith
index_head z (head.Edge i j) e = omega arith

module _ (z : Sizes) (cs : List ℕ) (l : needed z ≤ length cs) where
  abbrev start : State
  start = opened_state cs z

  pub head_none : (h : Head) → Named z (cell.Head h) → number_in start (cell.Head h) ≡ 0
  head_none h m = get_or-set_other (cleared (needed z) cs) 0 (index_of z (cell.Head h)) 1 0 (index_head z h) ∙ get_or_append_left (replicate (needed z) 0) (drop (needed z) cs) 0 (index_of z (cell.Head h)) (simp length-replicate (index_lt z (cell.Head h) m))
      ∙ get_or-replicate (λ (x : ℕ). x ≡ 0) (needed z) (index_of z (cell.Head h)) 0 0 refl refl

  clock_one : number_in start cell.Clock ≡ 1
  clock_one = let long : 0 < length (cleared (needed z) cs) = simp (length-append, length-replicate) (omega arith) in get_or-set_same (cleared (needed z) cs) 0 1 0 long

  pub open_clean : Clean (opened_state cs z)
  open_clean = record {
    cells = simp (length-set, length-append, length-replicate) (omega arith);
    table = omega arith;
    clock = let e = clock_one in (omega arith, omega arith);
    idle = λ w b. get_or-replicate (λ u. u.place ≡ place.Idle) 8 w fresh nobody refl refl;
    books = λ w n h. get_or-replicate (λ u. get_or u.book.queue n 0 < z.keys) 8 w fresh nobody (blank_queue z.keys 0 (omega arith) n) (omega arith);
    heads = λ h n. inl (head_none h n);
    apart = λ h g n m k e p. absurd (omega (arith, p, head_none h n));
    joined = λ i j a b p. absurd (omega (arith, p, head_none (head.Edge i j) (a, b)));
  }

pub openings_clean : OpeningsClean
openings_clean z cs l = open_clean z cs l
