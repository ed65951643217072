-- The worked case of a run that starts with an edge.
use Rattle.std.proofs.Common.{◌≡◌, ℕ, zero, suc, ◌<◌, ◌≤◌, ◌⊎◌, true, ◌↔◌, Some, get_or, refl, inl, inr, ⊎_elim, arith, lit≤}
use Rattle.std.proofs.lemmas.Bool.{ne_eqb, cases_eq}
use Rattle.layout.specs.declared.names.Head.{Head}
use Rattle.layout.specs.declared.names.Head.TheVariants as head
use Rattle.layout.specs.declared.names.Cell.TheVariants as cell
use Rattle.layout.specs.Layout.{Named}
use Rattle.laws.specs.Changes.{number_in}
use Rattle.laws.specs.Clean.{head_in, Stands, Joins, Clean}
use Rattle.order.specs.Started.{two_joined}
use Rattle.places.specs.declared.place.Place.TheVariants as place
use Rattle.places.specs.Touches.{head_kind}
use Rattle.machine.specs.Workers.{nobody}
use Rattle.laws.proofs.Served.{get_or-replicate}
use Rattle.runs.specs.Worked.{tiny, worker, joined_state, state_after, Worked}

stands_first : Stands joined_state (head.Vertex 0)
stands_first = record { counted = record { owner = 0; nth = 0; before = lit≤ tt; is = refl }; born = lit≤ tt; stamp = lit≤ tt; alive = refl; alone = refl }

stands_second : Stands joined_state (head.Vertex 1)
stands_second = record { counted = record { owner = 0; nth = 1; before = lit≤ tt; is = refl }; born = lit≤ tt; stamp = lit≤ tt; alive = refl; alone = refl }

stands_edge : Stands joined_state (head.Edge 0 1)
stands_edge = record { counted = record { owner = 0; nth = 0; before = lit≤ tt; is = refl }; born = lit≤ tt; stamp = lit≤ tt; alive = refl; alone = refl }

heads : (h : Head) → Named tiny (cell.Head h) → (head_in joined_state h ≡ 0) ⊎ Stands joined_state h
heads (head.Vertex zero) n = inr stands_first
heads (head.Vertex (suc zero)) n = inr stands_second
heads (head.Vertex (suc (suc i))) n = absurd (omega arith)
heads (head.Edge zero zero) n = inl refl
heads (head.Edge zero (suc zero)) n = inr stands_edge
heads (head.Edge (suc zero) zero) n = inl refl
heads (head.Edge (suc zero) (suc zero)) n = inl refl
heads (head.Edge i (suc (suc j))) n = absurd (omega (arith, n.1))
heads (head.Edge (suc (suc i)) j) n = absurd (omega (arith, n.0))

-- the heads that are rows
first_pair : (i j : ℕ) → i < 2 → j < 2 → 1 ≤ head_in joined_state (head.Edge i j) → (i ≡ 0) × (j ≡ 1)
first_pair zero zero a b l = absurd (omega arith)
first_pair zero (suc zero) a b l = (refl, refl)
first_pair (suc zero) zero a b l = absurd (omega arith)
first_pair (suc zero) (suc zero) a b l = absurd (omega arith)
first_pair i (suc (suc j)) a b l = absurd (omega arith)
first_pair (suc (suc i)) j a b l = absurd (omega arith)

joins : Joins joined_state 0 1
joins = record { apart = λ e. omega arith; source = refl; target = refl; from = lit≤ tt; to = lit≤ tt; weight = (lit≤ tt, lit≤ tt) }

joined : (i j : ℕ) → i < 2 → j < 2 → 1 ≤ head_in joined_state (head.Edge i j) → Joins joined_state i j
joined i j a b l = let e = first_pair i j a b l in rw (e.0, e.1) joins

apart : (h g : Head) → Named tiny (cell.Head h) → Named tiny (cell.Head g) → head_kind h ≡ head_kind g → head_in joined_state h ≡ head_in joined_state g → 1 ≤ head_in joined_state h → h ≡ g
apart (head.Vertex zero) (head.Vertex zero) n m k e l = refl
apart (head.Vertex zero) (head.Vertex (suc zero)) n m k e l = absurd (omega arith)
apart (head.Vertex (suc zero)) (head.Vertex zero) n m k e l = absurd (omega arith)
apart (head.Vertex (suc zero)) (head.Vertex (suc zero)) n m k e l = refl
apart (head.Vertex i) (head.Vertex (suc (suc j))) n m k e l = absurd (omega arith)
apart (head.Vertex (suc (suc i))) (head.Vertex j) n m k e l = absurd (omega arith)
apart (head.Edge i j) (head.Edge a b) n m k e l =
    let x = first_pair i j n.0 n.1 l in
    let y = first_pair a b m.0 m.1 (omega arith) in
    rw (x.0, x.1, y.0, y.1) refl
apart (head.Vertex i) (head.Edge a b) n m k e l = absurd cc
apart (head.Edge i j) (head.Vertex a) n m k e l = absurd cc

clean : Clean joined_state
clean = record {
  cells = lit≤ tt;
  table = lit≤ tt;
  clock = (lit≤ tt, lit≤ tt);
  idle = λ w b. get_or-replicate (λ u. u.place ≡ place.Idle) 8 w worker nobody refl refl;
  books = λ w n b. get_or-replicate (λ u. get_or u.book.queue n 0 < 2) 8 w worker nobody (get_or-replicate (λ (x : ℕ). x < 2) 64 n 0 0 (lit≤ tt) (lit≤ tt)) (lit≤ tt);
  heads = heads;
  apart = apart;
  joined = joined;
}

shown_vertex : (i : ℕ) → (two_joined.has i ≡ true) ↔ ((i < 2) × (1 ≤ head_in joined_state (head.Vertex i)))
shown_vertex zero = (λ e. (lit≤ tt, lit≤ tt), λ x. refl)
shown_vertex (suc zero) = (λ e. (lit≤ tt, lit≤ tt), λ x. refl)
shown_vertex (suc (suc i)) = (λ e. absurd (let x = rw (ne_eqb (suc (suc i)) 0 (λ q. omega arith), ne_eqb (suc (suc i)) 1 (λ q. omega arith)) at e in cc), λ x. absurd (omega (arith, x.0)))

no_pair : (i j : ℕ) → ¬ ((i ≡ 0) × (j ≡ 1)) → (w : ℕ) → (two_joined.edge i j ≡ Some w) ↔ ((i < 2) × (j < 2) × (1 ≤ head_in joined_state (head.Edge i j)) × (number_in joined_state (cell.Weight (head_in joined_state (head.Edge i j))) ≡ w))
no_pair i j n w = (λ e. absurd (n (of_edge i j w e)), λ x. absurd (n (first_pair i j x.0 x.1 x.2)))
  where
    of_edge : (i j w : ℕ) → two_joined.edge i j ≡ Some w → (i ≡ 0) × (j ≡ 1)
    of_edge zero j w e = ⊎_elim (λ (q : j ≡ 1). (refl, q)) (λ (q : ¬ (j ≡ 1)). absurd (let x = rw (ne_eqb j 1 q) at e in cc)) (cases_eq j 1)
    of_edge (suc i) j w e = absurd (let x = rw (ne_eqb (suc i) 0 (λ q. omega arith)) at e in cc)

shown_edge : (i j w : ℕ) → (two_joined.edge i j ≡ Some w) ↔ ((i < 2) × (j < 2) × (1 ≤ head_in joined_state (head.Edge i j)) × (number_in joined_state (cell.Weight (head_in joined_state (head.Edge i j))) ≡ w))
shown_edge zero (suc zero) w = (λ e. (lit≤ tt, lit≤ tt, lit≤ tt, cc), λ x. (let e = x.3 in cc))
shown_edge zero zero w = no_pair zero zero (λ x. omega (arith, x.1)) w
shown_edge zero (suc (suc j)) w = no_pair zero (suc (suc j)) (λ x. omega (arith, x.1)) w
shown_edge (suc i) j w = no_pair (suc i) j (λ x. omega (arith, x.0)) w

pub worked : Worked
unfolding state_after
worked = record { clean = clean; shows = record { vertices = shown_vertex; edges = shown_edge }; present = refl; removed = refl; absent = refl }
