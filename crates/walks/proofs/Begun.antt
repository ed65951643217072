-- A call that adds an edge names two keys that differ, and a weight that is not 0.
use Rattle.std.proofs.Common.{◌≡◌, ℕ, ◌<◌, ◌≤◌, ◌≢◌, Bool, true, false, cond, not, ◌&&◌, ◌==◌, nat_lt, subst, Ok, ⊎_elim, arith}
use Rattle.std.proofs.lemmas.Bool.{le-leb, lt-leb, leb-true, eq-eqb, and_parts, cases_lt}
use Rattle.codes.specs.declared.refusal.Refusal.TheVariants.{NoSuchCall, KeyOutside, WeightOutside}
use Rattle.layout.specs.Limits.{between}
use Rattle.places.specs.declared.call.Begin.{Begin}
use Rattle.places.specs.declared.place.Op.{Op}
use Rattle.places.specs.declared.place.Op.TheVariants.{Add}
use Rattle.places.specs.declared.place.Survey.TheVariants.{Snapshot, Reach}
use Rattle.places.specs.declared.place.Pair.{Pair}
use Rattle.places.specs.declared.place.Call.TheVariants as call
use Rattle.places.specs.Calls.{op_of, edge_keys_fit, edge_weight_fits, edge_named, keys_fit, weight_fits, call_named, call_of}
use Rattle.machine.specs.States.{State}
use Rattle.machine.specs.Requests.{call_to_begin}
use Rattle.laws.proofs.Taken.{ok_if, begin_taken}
use Rattle.runs.proofs.Sights.{one_call_of}

one_pair : {o u : Op} {p q : Pair} → call.Edge o p ≡ call.Edge u q → (o ≡ u) × (p ≡ q)
one_pair e = (cc, cc)

pub record AddsEdge (p : Pair) : Type 0 where
  pub apart : p.from ≢ p.to
  pub weight : 0 < p.weight

module _ (n : ℕ) (b : Begin) (p : Pair) where
  low : b.call < 4 → call_named b ≡ call.Edge Add p → ⊥
  low l e = (let x = rw (le-leb b.call 3 (omega arith)) at e in absurd cc)

  high : 7 ≤ b.call → call_named b ≡ call.Edge Add p → ⊥
  high l e = by_test (b.call == 7) (rw (lt-leb b.call 3 (omega arith), lt-leb b.call 6 (omega arith)) at e)
    where
      by_test : (t : Bool) → cond t (call.Survey Snapshot) (call.Survey (Reach b.from)) ≡ call.Edge Add p → ⊥
      by_test true x = absurd cc
      by_test false x = absurd cc

  differ : edge_keys_fit n b ≡ true → b.from ≢ b.to
  differ k e = by_parts (and_parts (nat_lt b.from n) (nat_lt b.to n && not (b.from == b.to)) k)
    where
      by_parts : (nat_lt b.from n ≡ true) × ((nat_lt b.to n && not (b.from == b.to)) ≡ true) → ⊥
      by_parts x = (let y : not (b.from == b.to) ≡ true = (and_parts (nat_lt b.to n) (not (b.from == b.to)) x.1).1 in let z = rw (eq-eqb b.from b.to e) at y in absurd cc)

  middle : 4 ≤ b.call → b.call < 7 → keys_fit n b ≡ true → weight_fits b ≡ true → call_named b ≡ call.Edge Add p → AddsEdge p
  middle l m k w e =
      let lo = le-leb 4 b.call l in
      let hi = le-leb b.call 6 (omega arith) in
      let keys : edge_keys_fit n b ≡ true = rw (lo, hi) at k in
      let weight : edge_weight_fits (op_of b.call) b ≡ true = rw (lo, hi) at w in
      let named : edge_named (op_of b.call) b ≡ call.Edge Add p = rw (lt-leb b.call 3 (omega arith), hi) at e in
      let same = one_pair named in
      let heavy : edge_weight_fits Add b ≡ true = rw same.0 at weight in
      let one : 1 ≤ b.weight = leb-true 1 b.weight (and_parts _ _ heavy).0 in
      subst AddsEdge same.1 (record { apart = differ keys; weight = one })

  named_adds : keys_fit n b ≡ true → weight_fits b ≡ true → call_named b ≡ call.Edge Add p → AddsEdge p
  named_adds k w e =
      ⊎_elim (λ (l : b.call < 4). absurd (low l e))
      (λ (l : 4 ≤ b.call). ⊎_elim (λ (m : b.call < 7). middle l m k w e) (λ (m : 7 ≤ b.call). absurd (high m e)) (cases_lt b.call 7))
      (cases_lt b.call 4)

  called_adds : call_of n b ≡ Ok (call.Edge Add p) → AddsEdge p
  called_adds e =
      let known = ok_if (between 1 b.call 8) _ NoSuchCall (call.Edge Add p) e in
      let keys = ok_if (keys_fit n b) _ KeyOutside (call.Edge Add p) known.1 in
      let weight = ok_if (weight_fits b) _ WeightOutside (call.Edge Add p) keys.1 in
      named_adds keys.0 weight.0 (one_call_of (call_named b) (call.Edge Add p) weight.1)

pub begun_adds : (s : State) (b : Begin) (p : Pair) → call_to_begin s b ≡ Ok (call.Edge Add p) → AddsEdge p
begun_adds s b p e = called_adds s.sizes.keys b p (begin_taken s b (call.Edge Add p) e).call
