-- One order of the calls of a run that explains what the run shows of them.
use Rattle.std.specs.Prelude.{◌≡◌, ℕ, suc, ◌≤◌, Bool, true, false, not, ◌≢◌, ◌↔◌, List, [], ◌∷◌, Some, None, Option, All, AllPairs, Contains}
use Rattle.questions.specs.Graph.{Graph}
use Rattle.order.specs.Graph.{Feed, answer_to, is_change, after, Shows}
use Rattle.order.specs.Past.{Finish, Past, Precedes, Belongs, fed}

-- a call of an order, with the graph that the calls before it leave
pub record Standing : Type 0 where
  pub call : ℕ
  pub before : Graph

-- the plain graph, from g on, is fed the calls of an order in turn
abbrev pub standings : Past → Graph → List ℕ → List Standing
standings h g [] = []
standings h g (b ∷ bs) = record { call = b; before = g } ∷ standings h (after g (fed h b)) bs

-- the graph that the calls of an order leave
abbrev pub left_by : Past → Graph → List ℕ → Graph
left_by h g [] = g
left_by h g (b ∷ bs) = left_by h (after g (fed h b)) bs

-- a call finished with what the graph g answers to it and shows of it
pub record RightFinish (g : Graph) (f : Feed) (e : Finish) : Type 0 where
  pub answer : e.answer ≡ answer_to g f
  pub page : Shows g f e.page

-- a finished call with the answer and the page that the graph g gives; an unfinished one, which changes g unless a vertex of it ended with a lower stamp
abbrev pub ExplainedBy : Graph → Feed → Bool → Option Finish → Type 0
ExplainedBy g f lower (Some e) = RightFinish g f e
ExplainedBy g f lower None = is_change (answer_to g f) ≡ not lower

-- this holds of a call where it stands
abbrev pub Explained : Past → Standing → Type 0
Explained h s = ExplainedBy s.before (fed h s.call) (h.lower_end s.call) (h.finish s.call)

-- the change of a finished call counts if it answered that it changed the graph; that of an unfinished one, unless a vertex of it ended with a lower stamp
abbrev pub counts_as : Option Finish → Bool → Bool
counts_as (Some e) lower = is_change e.answer
counts_as None lower = not lower

-- how a call stands to the clock: its change counts and has a stamp, it raises the clock from a number, or neither
pub data Stamping : Type 0 where
  changes : (n : ℕ) → Stamping
  raises : (t : ℕ) → Stamping
  neither : Stamping

-- from whether the change of the call counts, its stamp, and the number from which the call raised the clock
abbrev pub stamping_as : Bool → Option ℕ → Option ℕ → Stamping
stamping_as true (Some n) t = changes n
stamping_as true None t = neither
stamping_as false n (Some t) = raises t
stamping_as false n None = neither

-- the same of the call that began at b
abbrev pub stamping : Past → ℕ → Stamping
stamping h b = stamping_as (counts_as (h.finish b) (h.lower_end b)) (h.stamp b) (h.raise b)

-- a stamp, or a number from which the clock is raised, is n or more
abbrev pub AtLeast : ℕ → Stamping → Type 0
AtLeast n (changes m) = n ≤ m
AtLeast n (raises t) = n ≤ t
AtLeast n neither = Unit {0}

-- the first stands before the second by their numbers: these never fall, and after a raise from t they are greater than t
abbrev pub StampOrder : Stamping → Stamping → Type 0
StampOrder (changes n) s = AtLeast n s
StampOrder (raises t) s = AtLeast (suc t) s
StampOrder neither s = Unit {0}

-- an order of the calls of a past that explains them, from the graph g on
pub record OneOrder (h : Past) (g : Graph) (order : List ℕ) : Type 0 where
  -- it holds exactly the finished calls and those unfinished calls whose change bears its stamp
  pub members : (b : ℕ) → Contains order b ↔ Belongs h b
  -- each once
  pub once : AllPairs (λ b c. b ≢ c) order
  -- a call that was finished before another began stands before it
  pub precedence : AllPairs (λ b c. ¬ (Precedes h c b)) order
  -- changes and raises stand by their stamps
  pub stamps : AllPairs (λ b c. StampOrder (stamping h b) (stamping h c)) order
  -- the plain graph gives each finished call its answer and its page, and an unfinished call changes it exactly if its change counts
  pub explains : All (Explained h) (standings h g order)

-- one order explains the calls of a past from the graph g on, and leaves the graph e
abbrev pub Ordered : Past → Graph → Graph → Type 0
Ordered h g e = (order : List ℕ) × OneOrder h g order × (left_by h g order ≡ e)
