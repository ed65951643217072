-- Worked case: a run that starts with two vertices and an edge between them. A contains finds the edge; after a remove another does not.
use Rattle.std.specs.Prelude.{◌≡◌, ℕ, zero, suc, List, [], ◌∷◌, ◌++◌, get_or, replicate}
use Rattle.std.proofs.Common.{lit≤}
use Rattle.codes.specs.declared.answer.Answer.TheVariants.{EdgePresent, EdgeRemoved, EdgeAbsent}
use Rattle.layout.specs.declared.sizes.Sizes.{Sizes}
use Rattle.machine.specs.declared.worker.Worker.{Worker}
use Rattle.machine.specs.declared.request.Request.{Request}
use Rattle.machine.specs.declared.request.Request.TheVariants.{Begin, Turn}
use Rattle.machine.specs.declared.request.Reply.TheVariants.{Answered}
use Rattle.machine.specs.States.{State}
use Rattle.machine.specs.Workers.{fresh}
use Rattle.machine.specs.Requests.{reply_of, stepped}
use Rattle.laws.specs.Clean.{Clean}
use Rattle.order.specs.Started.{two_joined}
use Rattle.runs.specs.Starts.{ShowsGraph}

-- two keys, one worker, with two vertex rows and one edge row
abbrev pub tiny : Sizes
tiny = record {
  keys = 2;
  workers = 1;
  vrows = 2;
  erows = 1;
  top = 9;
  keyed = (lit≤ tt, lit≤ tt);
  staffed = (lit≤ tt, lit≤ tt);
  vrowed = (lit≤ tt, lit≤ tt);
  erowed = (lit≤ tt, lit≤ tt);
  timed = (lit≤ tt, lit≤ tt);
}

-- the clock; the heads of the keys and of the pairs; the vertex rows, linked at 3 and 5; the edge row, linked at 6; a page with leavings
abbrev pub joined_cells : List ℕ
joined_cells =
    (7 ∷ 1 ∷ 2 ∷ 0 ∷ 1 ∷ 0 ∷ 0 ∷ []) ++ (0 ∷ 3 ∷ 0 ∷ 0 ∷ 5 ∷ 0 ∷ []) ++ (0 ∷ 6 ∷ 0 ∷ 1 ∷ 2 ∷ 5 ∷ []) ++ (1 ∷ 0 ∷ 4 ∷ 0 ∷ 0 ∷ 0 ∷ [])

-- the worker has used its rows
abbrev pub worker : Worker
worker = record fresh { vlinked = 2; elinked = 1; serial = 3 }

abbrev pub joined_state : State
joined_state = record { cells = joined_cells; sizes = tiny; workers = replicate 8 worker }

-- the worker begins call n of the pair and has k turns
abbrev pub calls : ℕ → ℕ → List Request
calls n k = Begin (record { worker = 0; call = n; from = 0; to = 1; weight = 1 }) ∷ replicate k (Turn 0)

abbrev pub asks : List Request
asks = calls 6 12 ++ calls 5 17 ++ calls 6 12

unfoldable pub state_after : List Request → ℕ → State
state_after qs zero = joined_state
state_after qs (suc k) = stepped (state_after qs k) (get_or qs k (Turn 9))

pub record Worked : Type 0 where
  -- the state is clean and shows the graph
  pub clean : Clean joined_state
  pub shows : ShowsGraph joined_state two_joined
  -- the edge is there, is removed, and is not there
  pub present : reply_of (state_after asks 12) (Turn 0) ≡ Answered EdgePresent
  pub removed : reply_of (state_after asks 30) (Turn 0) ≡ Answered EdgeRemoved
  pub absent : reply_of (state_after asks 43) (Turn 0) ≡ Answered EdgeAbsent
