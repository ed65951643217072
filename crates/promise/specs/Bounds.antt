-- How many turns a call has had, and how many it may have had, from what was seen, newest first.
use Rattle.std.specs.Prelude.{◌≡◌, ℕ, ◌+◌, ◌*◌, ◌≤◌, Bool, true, false, if◌then◌else◌, not, ◌&&◌, List, [], ◌∷◌, length, Some, ◌==◌, nat_lt}
use Rattle.layout.specs.declared.sizes.Sizes.{Sizes}
use Rattle.layout.specs.declared.names.Head.{Head}
use Rattle.layout.specs.declared.names.Head.TheVariants as head
use Rattle.layout.specs.declared.names.Cell.TheVariants as cell
use Rattle.layout.specs.Rows.{no_row}
use Rattle.places.specs.declared.place.Op.{Op}
use Rattle.places.specs.declared.place.Op.TheVariants.{Add, Remove, Contains}
use Rattle.places.specs.declared.place.Pair.{Pair}
use Rattle.places.specs.declared.place.Call.{Call}
use Rattle.places.specs.declared.place.Call.TheVariants as call
use Rattle.machine.specs.Turns.{cell_at}
use Rattle.walks.specs.Budgets.{sum_below}
use Rattle.promise.specs.Sights.{Deed.links, Sight, Sight.turns}
use Rattle.promise.specs.Calls.{Begun, call_begun, is_sight_of_call}

-- one more where a test says so
abbrev pub one_if : Bool → ℕ → ℕ
one_if b n = if b then n + 1 else n

-- the turns that the call b has had
abbrev pub turns_had : List Sight → ℕ → ℕ
turns_had [] b = 0
turns_had (s ∷ ss) b = one_if (is_sight_of_call s ss b) (turns_had ss b)

-- what was seen up to the latest turn of the call b
abbrev pub until_turn : List Sight → ℕ → List Sight
until_turn [] b = []
until_turn (s ∷ ss) b = if is_sight_of_call s ss b then s ∷ ss else until_turn ss b

-- a row was linked
abbrev pub is_link : Sight → Bool
is_link (turns w (Some (links h r)) e) = true
is_link s = false

-- the rows that were linked, of both kinds and by all workers
abbrev pub rows_linked : List Sight → ℕ
rows_linked [] = 0
rows_linked (s ∷ ss) = one_if (is_link s) (rows_linked ss)

abbrev pub is_head_of : Pair → Head → Bool
is_head_of p (head.Edge i j) = (i == p.from) && (j == p.to)
is_head_of p (head.Vertex i) = false

-- a worker other than w linked a row at a pair
abbrev pub is_other_link : ℕ → Pair → Sight → Bool
is_other_link w p (turns v (Some (links h r)) e) = not (v == w) && is_head_of p h
is_other_link w p s = false

-- the links that workers other than w made on a pair after the time b
abbrev pub other_links : ℕ → Pair → ℕ → List Sight → ℕ
other_links w p b [] = 0
other_links w p b (s ∷ ss) = one_if (nat_lt b (length ss) && is_other_link w p s) (other_links w p b ss)

-- a head holds a row in these cells
abbrev pub one_row : Sizes → List ℕ → Head → ℕ
one_row z cells h = if cell_at z cells (cell.Head h) == no_row then 0 else 1

-- how many heads of keys and of pairs do
unfoldable pub rows_held : Sizes → List ℕ → ℕ
rows_held z cells = sum_below z.keys (λ i. one_row z cells (head.Vertex i)) + sum_below z.keys (λ i. sum_below z.keys (λ j. one_row z cells (head.Edge i j)))

-- a snapshot or reach: a turn for the raise, 8 for each walk, and one for each row that a head held at the start or that was linked up to its latest turn
abbrev pub survey_limit : Sizes → ℕ → ℕ
survey_limit z rows = 1 + 8 * z.keys * z.keys + rows

-- an add of an edge may start again for each link of another worker on its pair
abbrev pub edge_limit : Op → ℕ → ℕ
edge_limit Add others = 52 * (1 + others)
edge_limit Remove others = 48
edge_limit Contains others = 48

-- the most turns that the call b of a worker may have had, where heads held so many rows at the start and this was seen up to its latest turn
abbrev pub turn_limit : Sizes → ℕ → List Sight → ℕ → ℕ → Call → ℕ
turn_limit z held ss b w (call.Vertex o i) = 48
turn_limit z held ss b w (call.Edge o p) = edge_limit o (other_links w p b ss)
turn_limit z held ss b w (call.Survey v) = survey_limit z (held + rows_linked ss)

-- every call that began, finished or not, has had no more
abbrev pub KeepsBound : Sizes → ℕ → List Sight → Type 0
KeepsBound z held ss = (b : ℕ) (x : Begun) → call_begun ss b ≡ Some x → turns_had ss b ≤ turn_limit z held (until_turn ss b) b x.worker x.call
