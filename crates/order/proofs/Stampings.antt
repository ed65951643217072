-- What calls do by the clock and to it stands by the stamps of their keys.
use Rattle.std.proofs.Common.{◌≡◌, ℕ, suc, ◌<◌, ◌≤◌, Bool, true, false, Some, None, Option, refl, inl, inr, arith}
use Rattle.std.proofs.lemmas.Bool.{cases_lt}
use Rattle.codes.specs.declared.answer.Answer.{Answer}
use Rattle.order.specs.Graph.{Feed, is_change}
use Rattle.order.specs.Order.{Stamping, changes, raises, neither, stamping_as, StampOrder}
use Rattle.order.specs.Keys.{Key, Bounded, number}
use Rattle.order.specs.Marks.{Mark, Marks, source_end, target_end, edge_key, MarksSound}
use Rattle.order.specs.Finds.{RowChange, makes_change, Finds}
use Rattle.order.specs.Finds.{adds_vertex, removes_vertex, adds_edge, removes_edge, finds_vertex, finds_no_vertex, finds_edge, takes_snapshot, reaches, reaches_none, ends_spent}
use Rattle.order.proofs.Keys.{compared}
use Rattle.order.proofs.Moves.{moved_part_is}

-- a change stands at its stamp, no later than a raise of the same time; a raise stands at its number and its time
abbrev pub StampingAt : (ℕ → ℕ) → ℕ → Key → Stamping → Type 0
StampingAt clock bound k (changes n) = (k.stamp ≡ n) × (k.part ≤ bound)
StampingAt clock bound k (raises t) = (k.stamp ≡ t) × (k.part ≡ bound) × (clock (suc k.time) ≡ suc t)
StampingAt clock bound k neither = Unit {0}

module _ (clock : ℕ → ℕ) (rises : (s t : ℕ) → s ≤ t → clock s ≤ clock t) (bound : ℕ)
    (k l : Key) (bounded_k : Bounded bound k) (bounded_l : Bounded bound l) (less : number bound k < number bound l) where
  -- after a raise from t the clock is greater than t
  after_raise : (t : ℕ) → StampingAt clock bound k (raises t) → clock l.time ≤ l.stamp → l.part ≤ bound → suc t ≤ l.stamp
  after_raise t d fair part = elim (cases_lt k.time l.time) [
    | inl z ↦ omega (arith, compared bound k l bounded_k bounded_l, rises (suc k.time) l.time z)
    | inr z ↦ omega (arith, compared bound k l bounded_k bounded_l)
  ]

  pub stampings_in_order : (c e : Stamping) → clock l.time ≤ l.stamp → StampingAt clock bound k c → StampingAt clock bound l e → StampOrder c e
  stampings_in_order (changes n) (changes m) fair d f = omega (arith, compared bound k l bounded_k bounded_l)
  stampings_in_order (changes n) (raises t) fair d f = omega (arith, compared bound k l bounded_k bounded_l)
  stampings_in_order (changes n) neither fair d f = tt
  stampings_in_order (raises t) (changes n) fair d f = omega (arith, after_raise t d fair (omega arith))
  stampings_in_order (raises t) (raises u) fair d f = omega (arith, after_raise t d fair (omega arith))
  stampings_in_order (raises t) neither fair d f = tt
  stampings_in_order neither e fair d f = tt

module _ (bound top : ℕ) (m : Marks) (s : MarksSound bound top m) (k : Key) where
  edge_part : (e : ℕ) (x : Mark) → x.time < bound → (edge_key bound m e x).part ≤ bound
  edge_part e x l = omega (arith, moved_part_is bound (source_end m e) (target_end m e) x)

  -- a call stands at the key of its change, if it makes one
  pub change_part : (f : Feed) (v : RowChange) (a : Answer) → Finds bound top m k f v a → makes_change v ≡ true → k.part ≤ bound
  change_part f v a (adds_vertex r h) e = rw h.key (omega arith)
  change_part f v a (removes_vertex r h) e = rw h.key (omega arith)
  change_part f v a (adds_edge x h) e = rw h.key (edge_part x (m.edge_ins x) (s.edge_ins x))
  change_part f v a (removes_edge x weight h) e = rw h.key (edge_part x (m.edge_del x) (s.edge_del x))
  change_part f v a (finds_vertex o i there h n) e = absurd (grind arith)
  change_part f v a (finds_no_vertex o p h) e = absurd (grind arith)
  change_part f v a (finds_edge o p r t there h i n) e = absurd (grind arith)
  change_part f v a takes_snapshot e = absurd (grind arith)
  change_part f v a (reaches i h) e = absurd (grind arith)
  change_part f v a (reaches_none i h) e = absurd (grind arith)
  change_part f v a (ends_spent b n) e = absurd (grind arith)

  -- and answers that it changed the graph exactly if it makes one
  pub change_answered : (f : Feed) (v : RowChange) (a : Answer) → Finds bound top m k f v a → is_change a ≡ makes_change v
  change_answered f v a (adds_vertex r h) = refl
  change_answered f v a (removes_vertex r h) = refl
  change_answered f v a (adds_edge x h) = refl
  change_answered f v a (removes_edge x weight h) = refl
  change_answered f v a (finds_vertex o i there h n) = n
  change_answered f v a (finds_no_vertex o p h) = refl
  change_answered f v a (finds_edge o p r t there h i n) = n
  change_answered f v a takes_snapshot = refl
  change_answered f v a (reaches i h) = refl
  change_answered f v a (reaches_none i h) = refl
  change_answered f v a (ends_spent b n) = n

-- what is known of the stamp and the raise of a call that stands at the key k
pub stamping_at : (clock : ℕ → ℕ) (bound : ℕ) (k : Key) (counts : Bool) (stamp raise : Option ℕ) → (counts ≡ true → (stamp ≡ Some k.stamp) × (k.part ≤ bound)) →
    ((t : ℕ) → raise ≡ Some t → (k.stamp ≡ t) × (k.part ≡ bound) × (clock (suc k.time) ≡ suc t)) → StampingAt clock bound k (stamping_as counts stamp raise)
stamping_at clock bound k true (Some n) raise h g = let (e, l) = h refl in (let q : n ≡ k.stamp = cc in omega arith, l)
stamping_at clock bound k true None raise h g = tt
stamping_at clock bound k false stamp (Some t) h g = g t refl
stamping_at clock bound k false stamp None h g = tt
