-- What changes at the key of a call is the call's own change, and where no call has the key nothing changes.
use Rattle.std.proofs.Common.{◌≡◌, ℕ, suc, ◌+◌, ◌<◌, ◌≤◌, true, Some, sym, ◌∙◌, ap, inl, inr, arith}
use Rattle.std.proofs.lemmas.Bool.{cases_Bool}
use Rattle.order.specs.Past.{Past}
use Rattle.order.specs.Keys.{Key, Bounded, number}
use Rattle.order.specs.Marks.{source_end, target_end, Mark, Old, change_key, moved_key, has_effect}
use Rattle.order.specs.Rows.{far_key, unborn, edge_number}
use Rattle.order.specs.Finds.{RowChange, no_change, vertex_born, vertex_ends, edge_born, edge_ends}
use Rattle.order.specs.Marked.{Marking, MadeAtKey, before_start, by_call, Marked, start_key, end_key}
use Rattle.order.proofs.Keys.{compared}
use Rattle.order.proofs.Moves.{moved_for_le, moved_part_is, bounded_change, bounded_moved}
use Rattle.order.proofs.Lives.{edge_number_effect, edge_number_far}
use Rattle.order.proofs.Changes.{Only}
use Rattle.order.proofs.Numbered.{rows, key, bounded_start, bounded_end, bottom, span, bottom_and_span, apart}

module _ {h : Past} {run : Marking} (p : Marked h run) where
  -- the change v at the key after n is that of a call with that key
  abbrev Owned : ℕ → RowChange → Type 0
  Owned n v = (b : ℕ) × (key p b ≡ Some (suc n)) × (run.change b ≡ v)

  owned_by : (k : Key) (n : ℕ) (v : RowChange) → number run.bound k ≡ suc n → (b : ℕ) → run.key b ≡ Some k → run.change b ≡ v → Owned n v
  owned_by k n v q b e f = (b, cc, f)

  module _ (n : ℕ) (low : bottom p ≤ n) (high : n < bottom p + span p) where
    -- a vertex change at the key after n
    vertex_owned : (x : Mark) (v : RowChange) → x.time < run.bound → number run.bound (change_key run.bound x) ≡ suc n →
        (x.stamp ≤ run.top → MadeAtKey run x (change_key run.bound x) v) → Owned n v
    vertex_owned x v t q by =
        let bounded = bounded_change run.bound x t in
        elim (by (omega (arith, bottom_and_span p, compared run.bound (change_key run.bound x) (end_key run) bounded (bounded_end p)))) [
          | before_start old ↦ absurd (omega (arith, old, compared run.bound (change_key run.bound x) (start_key run) bounded (bounded_start p)))
          | by_call b e f ↦ owned_by (change_key run.bound x) n v q b e f
        ]

    -- a far key is above those of all calls
    far_not_next : (m : ℕ) → run.top < m → number run.bound (far_key run.bound m) ≡ suc n → ⊥
    far_not_next m far q =
        let bounded_far : Bounded run.bound (far_key run.bound m) = omega (arith, p.some_time) in
        omega (arith, bottom_and_span p, compared run.bound (far_key run.bound m) (end_key run) bounded_far (bounded_end p))

    -- an edge change from before the start has a key of the start
    old_not_next : (d f x : Mark) → x.time < run.bound → Old run.clock x → number run.bound (moved_key run.bound d f x) ≡ suc n → ⊥
    old_not_next d f x t old q =
        let order = compared run.bound (moved_key run.bound d f x) (start_key run) (bounded_moved run.bound d f x t) (bounded_start p) in
        omega (arith, old, order, moved_for_le d x, moved_part_is run.bound d f x)

    -- an edge change at the key after n
    edge_owned : (m : ℕ) (d f x : Mark) (v : RowChange) → run.top < m → x.time < run.bound → edge_number run.bound run.top m d f x ≡ suc n →
        (has_effect run.top d f x ≡ true → MadeAtKey run x (moved_key run.bound d f x) v) → Owned n v
    edge_owned m d f x v far t q by = elim (cases_Bool (has_effect run.top d f x)) [
      | inr h ↦ absurd (far_not_next m far (sym (edge_number_far run.bound run.top m d f x h) ∙ q))
      | inl h ↦
          (let at = sym (edge_number_effect run.bound run.top m d f x h) ∙ q in
          elim (by h) [
            | before_start old ↦ absurd (old_not_next d f x t old at)
            | by_call b e g ↦ owned_by (moved_key run.bound d f x) n v at b e g
          ])
    ]

    vertex_birth_owned : (r : ℕ) → (rows p).vertex_born r ≡ suc n → Owned n (vertex_born r)
    vertex_birth_owned r q = vertex_owned (run.marks.vertex_ins r) (vertex_born r) (p.sound.vertex_ins r) q (p.vertex_births r)

    vertex_end_owned : (r : ℕ) → (rows p).vertex_ends r ≡ suc n → Owned n (vertex_ends r)
    vertex_end_owned r q = vertex_owned (run.marks.vertex_del r) (vertex_ends r) (p.sound.vertex_del r) q (p.vertex_endings r)

    edge_birth_owned : (e : ℕ) → (rows p).edge_born e ≡ suc n → Owned n (edge_born e)
    edge_birth_owned e q =
        edge_owned (unborn run.top) (source_end run.marks e) (target_end run.marks e) (run.marks.edge_ins e) (edge_born e)
        (omega arith) (p.sound.edge_ins e) q (p.edge_births e)

    edge_end_owned : (e : ℕ) → (rows p).edge_ends e ≡ suc n → Owned n (edge_ends e)
    edge_end_owned e q =
        edge_owned (suc run.top) (source_end run.marks e) (target_end run.marks e) (run.marks.edge_del e) (edge_ends e)
        (omega arith) (p.sound.edge_del e) q (p.edge_endings e)

    -- where a call has the key after n, nothing but its own change happens there
    pub only_own : (b : ℕ) → key p b ≡ Some (suc n) → Only (rows p) n (run.change b)
    only_own b e = record {
      vertex_birth = λ r q. own (vertex_born r) (vertex_birth_owned r q);
      vertex_end = λ r q. own (vertex_ends r) (vertex_end_owned r q);
      edge_birth = λ f q. own (edge_born f) (edge_birth_owned f q);
      edge_end = λ f q. own (edge_ends f) (edge_end_owned f q);
    }
      where
        own : (v : RowChange) → Owned n v → run.change b ≡ v
        own v (c, f, g) = ap run.change (apart p b c (suc n) e f) ∙ g

    -- where no call has it, nothing happens
    pub only_nothing : ((b : ℕ) → key p b ≡ Some (suc n) → ⊥) → Only (rows p) n no_change
    only_nothing free = record {
      vertex_birth = λ r q. none (vertex_born r) (vertex_birth_owned r q);
      vertex_end = λ r q. none (vertex_ends r) (vertex_end_owned r q);
      edge_birth = λ f q. none (edge_born f) (edge_birth_owned f q);
      edge_end = λ f q. none (edge_ends f) (edge_end_owned f q);
    }
      where
        none : (v : RowChange) → Owned n v → no_change ≡ v
        none v (b, e, f) = absurd (free b e)
