-- Rows that are linked, and the row that comes next.
use Rattle.std.proofs.Common.{◌≡◌, ℕ, ◌+◌, ◌*◌, ◌<◌, ◌≤◌, Some, ap, arith}
use Rattle.std.proofs.lemmas.Bool.{ltb-true}
use Rattle.layout.specs.declared.names.Kind.{Kind}
use Rattle.layout.specs.declared.names.Kind.TheVariants.{Vertex, Edge}
use Rattle.layout.specs.declared.sizes.Sizes.{Sizes}
use Rattle.layout.specs.Layout.{IsRow}
use Rattle.layout.specs.Rows.{rows_each, row_at, Owns}
use Rattle.layout.proofs.Owners.{own_row, one_owner}
use Rattle.machine.specs.States.{State}
use Rattle.machine.specs.Turns.{worker_at}
use Rattle.machine.specs.Workers.{linked_of}
use Rattle.laws.specs.Fits.{Linked, InChain.at_head, InChain.below, Counted}
use Rattle.laws.specs.Changes.{next_own}

-- a linked row is a row
pub linked_row : (s : State) (k : Kind) (r : ℕ) → Linked s k r → IsRow s.sizes k r
linked_row s k r (at_head h _ n e f l) = l
linked_row s k r (below q _ x f l) = l

-- and so is a counted one
pub counted_row : (s : State) (k : Kind) (r : ℕ) → Counted s k r → IsRow s.sizes k r
counted_row s k r x = (own_row s.sizes k x.owner x.nth r x.is).0

few_rows : (z : Sizes) (k : Kind) → rows_each z k ≤ 2048
few_rows z Vertex = omega arith
few_rows z Edge = omega arith

-- the number of a row that there is
row_is : (z : Sizes) (k : Kind) (w n r : ℕ) → row_at z k w n ≡ Some r → w * rows_each z k + n + 1 ≡ r
row_is z k w n r e = grind arith

-- and its place among its worker's rows
pub row_bound : (z : Sizes) (k : Kind) (w n r : ℕ) → row_at z k w n ≡ Some r → n < 2048
row_bound z k w n r e = grind (arith, few_rows, ltb-true)

-- the row that comes next is one of the worker's own
pub next_own_lem : (s : State) (w : ℕ) (k : Kind) (r : ℕ) → next_own s w k ≡ Some r → IsRow s.sizes k r × Owns s.sizes k w r
next_own_lem s w k r e = own_row s.sizes k w (linked_of (worker_at s w) k) r e

-- and it is not used yet
pub next_unused : (s : State) (w : ℕ) (k : Kind) (r : ℕ) → next_own s w k ≡ Some r → Counted s k r → ⊥
next_unused s w k r e l =
    let z = s.sizes in
    let a = own_row z k l.owner l.nth r l.is in
    let o : l.owner ≡ w = one_owner z k l.owner w r a.1 (next_own_lem s w k r e).1 in
    let p : l.owner * rows_each z k + l.nth + 1 ≡ r = row_is z k l.owner l.nth r l.is in
    let q : w * rows_each z k + linked_of (worker_at s w) k + 1 ≡ r = row_is z k w (linked_of (worker_at s w) k) r e in
    let m : l.owner * rows_each z k ≡ w * rows_each z k = ap (λ v. v * rows_each z k) o in
    let b : linked_of (worker_at s l.owner) k ≡ linked_of (worker_at s w) k = ap (λ v. linked_of (worker_at s v) k) o in
    omega (arith, l.before)
