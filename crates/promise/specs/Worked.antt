-- What the definitions say of worked histories, and a page that they refuse.
use Rattle.std.specs.Prelude.{◌≡◌, ℕ, Bool, true, false, if◌then◌else◌, List, [], ◌∷◌, ◌++◌, drop, map, Some, None, Option, ◌==◌}
use Rattle.std.specs.Option.{option_map}
use Rattle.codes.specs.declared.answer.Answer.{Answer}
use Rattle.codes.specs.declared.answer.Answer.TheVariants.{VertexAdded, VertexAbsent, VertexRemoved, EdgeAdded, EdgeRemoved, EdgeAlready, SnapshotTaken, ReachTaken, ClockSpent}
use Rattle.layout.specs.declared.sizes.Sizes.{Sizes}
use Rattle.layout.specs.declared.names.Head.TheVariants as head
use Rattle.places.specs.declared.place.Op.TheVariants.{Add, Remove, Contains}
use Rattle.places.specs.declared.place.Survey.TheVariants.{Snapshot, Reach}
use Rattle.places.specs.declared.place.Call.{Call}
use Rattle.places.specs.declared.place.Call.TheVariants as call
use Rattle.machine.specs.History.{Event, Traces}
use Rattle.order.specs.Graph.{empty}
use Rattle.order.specs.Past.{Finish, Past}
use Rattle.order.specs.Order.{OneOrder}
use Rattle.promise.specs.Sights.{Deed.links, Sight, Sight.begins, page_graph}
use Rattle.promise.specs.Histories.{Shown, shown_by}
use Rattle.promise.specs.Calls.{past_of}
use Rattle.order.specs.Started.{two_joined}
use Rattle.runs.specs.Worked.{tiny, joined_cells, joined_state}
use Rattle.promise.specs.Bounds.{rows_held, turns_had, until_turn, other_links, rows_linked, KeepsBound}
use Rattle.promise.specs.Promise.{PagesStay, Promised}
use Rattle.promise.specs.Sessions.{two, small, opened_with, prelude, session, equal_stamps, lost_link, least, shown_edge, edge_removed, clock_spent}
use Rattle.promise.specs.Expected.{session_sights, session_cells, equal_sights, equal_cells, lost_sights, lost_cells, shown_sights, shown_cells, spent_sights, spent_cells, quiet, does}

-- what a history of an opening shows
abbrev pub shown_of : Sizes → List Event → Shown
shown_of z h = shown_by (opened_with z) h

-- when a call was finished, and with which answer
pub record Ended : Type 0 where
  pub time : ℕ
  pub answer : Answer

abbrev pub ended_of : Finish → Ended
ended_of f = record { time = f.time; answer = f.answer }

abbrev pub ended : ℕ → Answer → Option Ended
ended time a = Some (record { time = time; answer = a })

-- one call of a past: which it is, how it was finished, the stamp of its change, from where it raised the clock, whether a vertex row of its edge row ended with a
-- lower stamp, and the turns that it has had
pub record Line : Type 0 where
  pub call : Option Call
  pub ended : Option Ended
  pub stamp : Option ℕ
  pub raise : Option ℕ
  pub lower_end : Bool
  pub turns : ℕ

abbrev pub line_of : Sizes → Shown → ℕ → Line
line_of z x b = record {
  call = (past_of z x.sights x.state.cells).begun b;
  ended = option_map ended_of ((past_of z x.sights x.state.cells).finish b);
  stamp = (past_of z x.sights x.state.cells).stamp b;
  raise = (past_of z x.sights x.state.cells).raise b;
  lower_end = (past_of z x.sights x.state.cells).lower_end b;
  turns = turns_had x.sights b;
}

abbrev pub line : Call → Option Ended → Option ℕ → Option ℕ → ℕ → Line
line c e s r n = record { call = Some c; ended = e; stamp = s; raise = r; lower_end = false; turns = n }

-- a vertex row of its edge row ended with a lower stamp
abbrev pub overtaken : Line → Line
overtaken l = record l { lower_end = true }

abbrev pub add_edge : ℕ → Call
add_edge weight = call.Edge Add (record { from = 0; to = 1; weight = weight })

-- what a history has to show, and that it is a history
pub record Shows (z : Sizes) (h : List Event) (sights : List Sight) (cells : List ℕ) : Type 0 where
  pub traces : Traces (opened_with z) h (shown_of z h).state
  pub seen : (shown_of z h).sights ≡ sights
  pub left : (shown_of z h).state.cells ≡ cells

-- a snapshot whose page shows the weight 7 from 0 to 1, and none of these keys
abbrev pub hidden_weight : Past
hidden_weight = record {
  begun = λ b. if b == 0 then Some (call.Survey Snapshot) else None;
  finish = λ b.
      if b == 0 then Some (record { time = 7; answer = SnapshotTaken; page = page_graph 2 (0 ∷ 0 ∷ 0 ∷ 7 ∷ 0 ∷ 0 ∷ []) })
      else None;
  stamp = λ b. None;
  raise = λ b. if b == 0 then Some 1 else None;
  lower_end = λ b. false;
}

pub record Worked : Type 0 where
  -- The worked session: the add of the edge bears stamp 2 and ends with 13 after 17 turns.
  pub session_shows : Shows two session session_sights session_cells
  pub session_lines : map (line_of two (shown_of two session)) (0 ∷ 7 ∷ 14 ∷ 25 ∷ 34 ∷ []) ≡
      line (call.Vertex Add 0) (ended 6 VertexAdded) (Some 1) None 6 ∷
      (line (call.Vertex Add 1) (ended 13 VertexAdded) (Some 1) None 6 ∷
      (overtaken (line (add_edge 5) (ended 48 VertexAbsent) (Some 2) None 17) ∷
      (line (call.Vertex Remove 1) (ended 33 VertexRemoved) (Some 1) None 8 ∷
      (line (call.Survey Snapshot) (ended 41 SnapshotTaken) None (Some 1) 7 ∷ []))))
  pub session_promised : Promised (opened_with two) empty session
  -- Before its last turn it was not finished: it belongs to the order, and its change does not count.
  pub overtaken_line : line_of two (shown_of two (drop 1 session)) 14 ≡ overtaken (line (add_edge 5) None (Some 2) None 16)
  pub overtaken_promised : Promised (opened_with two) empty (drop 1 session)
  -- Before the snapshot the add had had 10 turns, was not finished and had no stamp.
  pub prelude_line : line_of two (shown_of two prelude) 14 ≡ line (add_edge 5) None None None 10
  -- The same without the snapshot: equal stamps let the edge in.
  pub equal_shows : Shows two equal_stamps equal_sights equal_cells
  pub equal_lines : map (line_of two (shown_of two equal_stamps)) (14 ∷ 25 ∷ []) ≡
      line (add_edge 5) (ended 40 EdgeAdded) (Some 1) None 17 ∷ (line (call.Vertex Remove 1) (ended 33 VertexRemoved) (Some 1) None 8 ∷ [])
  pub equal_promised : Promised (opened_with two) empty equal_stamps
  -- Before its last turn the change of the add counts.
  pub counted_line : line_of two (shown_of two (drop 1 equal_stamps)) 14 ≡ line (add_edge 5) None (Some 1) None 16
  pub counted_promised : Promised (opened_with two) empty (drop 1 equal_stamps)
  -- An add of an edge that lost a link once: 26 turns, L = 1. The add that won is not finished; its row was stamped by the loser, and it stands in the order.
  pub lost_shows : Shows small lost_link lost_sights lost_cells
  pub lost_lines : map (line_of small (shown_of small lost_link)) (14 ∷ 15 ∷ []) ≡
      line (add_edge 5) (ended 52 EdgeAlready) None None 26 ∷ (line (add_edge 7) None (Some 1) None 11 ∷ [])
  pub lost_links : other_links 0 (record { from = 0; to = 1; weight = 5 }) 14 (until_turn lost_sights 14) ≡ 1
  pub lost_promised : Promised (opened_with small) empty lost_link
  -- Right after the link neither had a stamp, and the link did not yet count for the loser, who had had no turn since.
  pub linked_lines : map (line_of small (shown_of small (drop 16 lost_link))) (14 ∷ 15 ∷ []) ≡
      line (add_edge 5) None None None 10 ∷ (line (add_edge 7) None None None 11 ∷ [])
  pub linked_links : other_links 0 (record { from = 0; to = 1; weight = 5 }) 14 (until_turn (drop 16 lost_sights) 14) ≡ 0
  -- Pages with an edge, and two refusals, which rest.
  pub edge_shows : Shows small shown_edge shown_sights shown_cells
  pub edge_lines : map (line_of small (shown_of small shown_edge)) (14 ∷ 34 ∷ 46 ∷ []) ≡
      line (add_edge 5) (ended 31 EdgeAdded) (Some 1) None 17 ∷
      (line (call.Survey Snapshot) (ended 45 SnapshotTaken) None (Some 1) 11 ∷
      (line (call.Survey (Reach 0)) (ended 57 ReachTaken) None (Some 2) 11 ∷ []))
  pub edge_rows : rows_linked (until_turn shown_sights 34) ≡ 3
  pub edge_promised : Promised (opened_with small) empty shown_edge
  -- a snapshot that ends for want of clock
  pub spent_shows : Shows least clock_spent spent_sights spent_cells
  pub spent_line : line_of least (shown_of least clock_spent) 0 ≡ line (call.Survey Snapshot) (ended 1 ClockSpent) None None 1
  pub spent_promised : Promised (opened_with least) empty clock_spent
  -- A start with an edge, which is removed: the order begins with the graph of the start, and three rows of its heads count in the bound of a snapshot.
  pub start_shows : Traces joined_state edge_removed (shown_by joined_state edge_removed).state
  pub start_line : line_of tiny (shown_by joined_state edge_removed) 0 ≡ line (call.Edge Remove (record { from = 0; to = 1; weight = 0 })) (ended 17 EdgeRemoved) (Some 7) None 17
  pub start_rows : rows_held tiny joined_cells ≡ 3
  pub start_promised : Promised joined_state two_joined edge_removed
  -- bounds refuse a turn too many: of a look for a vertex, and of an add of an edge for which no other worker linked a row
  pub look_bound : ¬ (KeepsBound two 0 (quiet 0 49 ++ (begins 0 (call.Vertex Contains 0) ∷ [])))
  pub add_bound : ¬ (KeepsBound two 0 (quiet 0 53 ++ (begins 0 (add_edge 5) ∷ [])))
  -- its own link, one at another pair, one after its latest turn and one before its begin do not count for it; another worker's at its pair does
  pub own_link : ¬ (KeepsBound two 0 (quiet 0 52 ++ (does 0 (links (head.Edge 0 1) 1) ∷ (begins 0 (add_edge 5) ∷ []))))
  pub far_link : ¬ (KeepsBound two 0 (quiet 0 53 ++ (does 1 (links (head.Edge 1 0) 5) ∷ (begins 0 (add_edge 5) ∷ []))))
  pub late_link : ¬ (KeepsBound two 0 (does 1 (links (head.Edge 0 1) 5) ∷ quiet 0 53 ++ (begins 0 (add_edge 5) ∷ [])))
  pub early_link : ¬ (KeepsBound two 0 (quiet 0 53 ++ (begins 0 (add_edge 5) ∷ (does 1 (links (head.Edge 0 1) 5) ∷ []))))
  pub other_link : KeepsBound two 0 (quiet 0 53 ++ (does 1 (links (head.Edge 0 1) 5) ∷ (begins 0 (add_edge 5) ∷ [])))
  -- a page that was finished may not change
  pub page_moved : ¬ (PagesStay small shown_sights lost_cells)
  -- no order explains a page with a weight between keys that it does not show
  pub hidden_refused : (order : List ℕ) → ¬ (OneOrder hidden_weight empty order)
