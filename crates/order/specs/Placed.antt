-- Keys that put the calls of a run in order, and the graph at each key.
use Rattle.std.specs.Prelude.{◌≡◌, ℕ, suc, ◌+◌, ◌<◌, ◌≤◌, ◌≢◌, Some, Option}
use Rattle.questions.specs.Graph.{Graph}
use Rattle.order.specs.Graph.{after}
use Rattle.order.specs.Past.{Past, Precedes, Belongs, fed}
use Rattle.order.specs.Order.{Standing, Explained, stamping, StampOrder, Ordered}

-- the call b at the key after k
abbrev pub next_key : (ℕ → Graph) → ℕ → ℕ → Standing
next_key graph b k = record { call = b; before = graph k }

-- what has to be known of keys, which are numbers here
pub record Placed (h : Past) : Type 0 where
  -- the calls began before this time
  pub now : ℕ
  -- their keys are greater than bottom, and at most bottom + span
  pub bottom : ℕ
  pub span : ℕ
  -- the key of the call that began at a time, exactly if it belongs to the order
  pub key : ℕ → Option ℕ
  pub belongs : (b k : ℕ) → key b ≡ Some k → Belongs h b
  pub keyed : (b : ℕ) → Belongs h b → (k : ℕ) × (key b ≡ Some k)
  pub ranges : (b k : ℕ) → key b ≡ Some k → (b < now) × (bottom < k) × (k ≤ bottom + span)
  -- no two calls have one key
  pub apart : (b c k : ℕ) → key b ≡ Some k → key c ≡ Some k → b ≡ c
  -- a call that was finished before another began has the smaller key
  pub precedence : (b c k l : ℕ) → key b ≡ Some k → key c ≡ Some l → Precedes h b c → k < l
  -- the graph at each key, after the call of that key
  pub graph : ℕ → Graph
  -- at the key of a call the graph becomes what the plain graph makes of the call
  pub change : (b k : ℕ) → key b ≡ Some (suc k) → graph (suc k) ≡ after (graph k) (fed h b)
  -- at any other key it stays
  pub still : (k : ℕ) → bottom ≤ k → k < bottom + span → ((b : ℕ) → key b ≢ Some (suc k)) → graph (suc k) ≡ graph k
  -- the graph just before its key gives a finished call its answer and its page
  pub explained : (b k : ℕ) → key b ≡ Some (suc k) → Explained h (next_key graph b k)
  -- changes and raises have keys by their stamps
  pub stamps : (b c k l : ℕ) → key b ≡ Some k → key c ≡ Some l → k < l → StampOrder (stamping h b) (stamping h c)

-- calls that are placed have one order that explains them, from the graph below all keys to the graph at the greatest
abbrev pub PlacedStands : Type 0
PlacedStands = (h : Past) (p : Placed h) → Ordered h (p.graph p.bottom) (p.graph (p.bottom + p.span))
