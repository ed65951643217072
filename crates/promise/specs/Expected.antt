-- What the worked histories have to show from outside, newest first, and the cells that they have to leave.
use Rattle.std.specs.Prelude.{ℕ, List, [], ◌∷◌, ◌++◌, replicate, Some, None}
use Rattle.codes.specs.declared.answer.Answer.{Answer}
use Rattle.codes.specs.declared.answer.Answer.TheVariants.{VertexAdded, VertexAbsent, VertexRemoved, EdgeAdded, EdgeAlready, SnapshotTaken, ReachTaken, ClockSpent}
use Rattle.layout.specs.declared.names.Kind.TheVariants.{Vertex}
use Rattle.layout.specs.declared.names.Head.TheVariants as head
use Rattle.places.specs.Marks.{pending}
use Rattle.places.specs.declared.place.Op.TheVariants.{Add, Remove}
use Rattle.places.specs.declared.place.Call.TheVariants as call
use Rattle.places.specs.declared.place.Survey.TheVariants.{Snapshot, Reach}
use Rattle.promise.specs.Sights.{Deed, Deed.links, Deed.ends, Deed.raises, Sight, Sight.begins, Sight.turns, Sight.rests}

-- n turns of worker w in which nothing is seen
abbrev pub quiet : ℕ → ℕ → List Sight
quiet w n = replicate n (turns w None None)

-- a turn of worker w that does a deed
abbrev pub does : ℕ → Deed → Sight
does w d = turns w (Some d) None

-- a turn of worker w that answers, while its page has these cells
abbrev pub ends_with : ℕ → Answer → List ℕ → Sight
ends_with w a page = turns w None (Some (record { answer = a; page = page }))

-- the cells of a page of two keys that shows nothing
abbrev pub blank_page : List ℕ
blank_page = replicate 6 0

-- worker w adds vertex i, as its row r
abbrev pub added : ℕ → ℕ → ℕ → List Sight
added w i r = ends_with w VertexAdded blank_page ∷ quiet w 3 ++ (does w (links (head.Vertex i) r) ∷ quiet w 1 ++ (begins w (call.Vertex Add i) ∷ []))

abbrev pub prelude_sights : List Sight
prelude_sights =
    ends_with 1 VertexRemoved blank_page ∷ quiet 1 3 ++ (does 1 (ends Vertex 5) ∷ quiet 1 3 ++ (begins 1 (call.Vertex Remove 1) ∷
    quiet 0 10 ++ (begins 0 (call.Edge Add (record { from = 0; to = 1; weight = 5 })) ∷ added 1 1 5 ++ added 0 0 1)))

abbrev pub session_sights : List Sight
session_sights =
    ends_with 0 VertexAbsent blank_page ∷ quiet 0 5 ++ (does 0 (links (head.Edge 0 1) 1) ∷
    (ends_with 1 SnapshotTaken (1 ∷ replicate 5 0) ∷ quiet 1 5 ++ (does 1 (raises 1) ∷ (begins 1 (call.Survey Snapshot) ∷ prelude_sights))))

-- clock 2; heads; vertex rows 1 and 5, of which 5 has ended with stamp 1; edge row 1, with stamp 2; pages
abbrev pub session_cells : List ℕ
session_cells =
    2 ∷ (1 ∷ 5 ∷ []) ++ ((0 ∷ 1 ∷ 0 ∷ 0 ∷ []) ++
    ((0 ∷ 1 ∷ 0 ∷ []) ++ (replicate 9 0 ++ ((0 ∷ 1 ∷ 1 ∷ []) ++ (replicate 9 0 ++
    ((0 ∷ 2 ∷ 0 ∷ 1 ∷ 5 ∷ 5 ∷ []) ++ (replicate 42 0 ++ (blank_page ++ (1 ∷ replicate 5 0)))))))))

abbrev pub equal_sights : List Sight
equal_sights = ends_with 0 EdgeAdded blank_page ∷ quiet 0 5 ++ (does 0 (links (head.Edge 0 1) 1) ∷ prelude_sights)

-- the same at clock 1, with stamp 1 in the edge row, and no page
abbrev pub equal_cells : List ℕ
equal_cells =
    1 ∷ (1 ∷ 5 ∷ []) ++ ((0 ∷ 1 ∷ 0 ∷ 0 ∷ []) ++
    ((0 ∷ 1 ∷ 0 ∷ []) ++ (replicate 9 0 ++ ((0 ∷ 1 ∷ 1 ∷ []) ++ (replicate 9 0 ++
    ((0 ∷ 1 ∷ 0 ∷ 1 ∷ 5 ∷ 5 ∷ []) ++ (replicate 42 0 ++ replicate 12 0)))))))

-- Worker 1 links its first edge row, 3. Worker 0 loses its link, starts again, and settles ins of that row.
abbrev pub lost_sights : List Sight
lost_sights =
    ends_with 0 EdgeAlready blank_page ∷ quiet 0 15 ++ (does 1 (links (head.Edge 0 1) 3) ∷ quiet 0 10 ++ (quiet 1 10 ++
    (begins 1 (call.Edge Add (record { from = 0; to = 1; weight = 7 })) ∷ (begins 0 (call.Edge Add (record { from = 0; to = 1; weight = 5 })) ∷
    added 0 1 2 ++ added 0 0 1))))

-- clock 1; heads; vertex rows 1 and 2; edge row 1, which worker 0 filled and did not link, with its ins pending; edge row 3
abbrev pub lost_cells : List ℕ
lost_cells =
    1 ∷ (1 ∷ 2 ∷ []) ++ ((0 ∷ 3 ∷ 0 ∷ 0 ∷ []) ++ ((0 ∷ 1 ∷ 0 ∷ []) ++ ((0 ∷ 1 ∷ 0 ∷ []) ++ (replicate 6 0 ++
    ((0 ∷ pending ∷ 0 ∷ 1 ∷ 2 ∷ 5 ∷ []) ++ (replicate 6 0 ++ ((0 ∷ 1 ∷ 0 ∷ 1 ∷ 2 ∷ 7 ∷ []) ++ (replicate 6 0 ++ replicate 12 0))))))))

-- vertex rows 1 and 2, and the weight 5 from 0 to 1
abbrev pub edge_page : List ℕ
edge_page = 1 ∷ 2 ∷ 0 ∷ 5 ∷ 0 ∷ 0 ∷ []

abbrev pub shown_sights : List Sight
shown_sights =
    ends_with 1 ReachTaken edge_page ∷ quiet 1 9 ++ (does 1 (raises 2) ∷ (begins 1 (call.Survey (Reach 0)) ∷
    (ends_with 1 SnapshotTaken edge_page ∷ quiet 1 9 ++ (does 1 (raises 1) ∷ (begins 1 (call.Survey Snapshot) ∷ (rests ∷ (rests ∷
    (ends_with 0 EdgeAdded blank_page ∷ quiet 0 5 ++ (does 0 (links (head.Edge 0 1) 1) ∷ quiet 0 10 ++
    (begins 0 (call.Edge Add (record { from = 0; to = 1; weight = 5 })) ∷ added 0 1 2 ++ added 0 0 1))))))))))

-- clock 3; heads; vertex rows 1 and 2; edge row 1; pages
abbrev pub shown_cells : List ℕ
shown_cells =
    3 ∷ (1 ∷ 2 ∷ []) ++ ((0 ∷ 1 ∷ 0 ∷ 0 ∷ []) ++ ((0 ∷ 1 ∷ 0 ∷ []) ++ ((0 ∷ 1 ∷ 0 ∷ []) ++ (replicate 6 0 ++
    ((0 ∷ 1 ∷ 0 ∷ 1 ∷ 2 ∷ 5 ∷ []) ++ (replicate 18 0 ++ (blank_page ++ edge_page)))))))

abbrev pub spent_sights : List Sight
spent_sights = ends_with 0 ClockSpent (0 ∷ 0 ∷ []) ∷ (begins 0 (call.Survey Snapshot) ∷ [])

abbrev pub spent_cells : List ℕ
spent_cells = 1 ∷ replicate 13 0
