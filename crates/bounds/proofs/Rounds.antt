-- The turns of the rounds that an add of an edge has lost: twenty-five for each link of another worker on its pair.
use Rattle.std.proofs.Common.{◌≡◌, ℕ, suc, ◌+◌, ◌*◌, ◌≤◌, Bool, true, false, eqb, Some, refl, ap, arith}
use Rattle.std.proofs.lemmas.Bool.{eqb-true}
use Rattle.places.specs.declared.place.Op.TheVariants.{Add, Remove, Contains}
use Rattle.places.specs.declared.place.Call.{Call}
use Rattle.places.specs.declared.place.Call.TheVariants as call
use Rattle.places.specs.declared.place.Pair.{Pair}
use Rattle.places.specs.declared.place.Place.{Place}
use Rattle.runs.specs.Runs.{RunInTime}
use Rattle.runs.specs.Views.{head_at}
use Rattle.runs.specs.Seen.{open_at}
use Rattle.bounds.specs.Bounds.{is_turn_of_other, links_of_others}
use Rattle.bounds.proofs.Budgets.{hand, lost_upto, stale}
use Rattle.bounds.proofs.OwnTurn.{pair_head, watched}
use Rattle.bounds.proofs.Counts.{links_more, link_counts}

module _ (R : RunInTime) (w b : ℕ) where
  abbrev pub rounds : Call → ℕ → ℕ
  rounds (call.Edge Add p) k = 25 * links_of_others R w b (pair_head p) k
  rounds c k = 0

  pub rounds_more : (c : Call) (k : ℕ) → rounds c k ≤ rounds c (suc k)
  rounds_more (call.Edge Add p) k = omega (arith, links_more R w b k (pair_head p))
  rounds_more (call.Edge Remove p) k = omega arith
  rounds_more (call.Edge Contains p) k = omega arith
  rounds_more (call.Vertex o i) k = omega arith
  rounds_more (call.Survey v) k = omega arith

  -- a turn of another worker leaves the head of a pair, or adds a round
  module _ (q : Pair) (k : ℕ) (o : open_at R k w ≡ Some b) (t : is_turn_of_other w (R.request k) ≡ true) (p : Place) where
    abbrev old : ℕ
    old = head_at R k (pair_head q)

    abbrev new : ℕ
    new = head_at R (suc k) (pair_head q)

    head_round : (v : Bool) → eqb new old ≡ v → rounds (call.Edge Add q) k + stale new p ≤ rounds (call.Edge Add q) (suc k) + stale old p
    head_round true e = let same : stale new p ≡ stale old p = ap (λ n. stale n p) (eqb-true new old e) in omega (arith, same, links_more R w b k (pair_head q))
    head_round false e = omega (arith, link_counts R w b k (pair_head q) o t e, lost_upto new (hand new p))

  pub others_round : (c : Call) (k : ℕ) (p : Place) → open_at R k w ≡ Some b → is_turn_of_other w (R.request k) ≡ true →
      rounds c k + stale (watched (R.state (suc k)) c) p ≤ rounds c (suc k) + stale (watched (R.state k) c) p
  others_round (call.Edge Add q) k p o t = head_round q k o t p _ refl
  others_round (call.Edge Remove q) k p o t = omega arith
  others_round (call.Edge Contains q) k p o t = omega arith
  others_round (call.Vertex d i) k p o t = omega arith
  others_round (call.Survey v) k p o t = omega arith
