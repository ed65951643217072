-- The worked cases, shown of the rules.
use Rattle.std.specs.Prelude.{◌≡◌, ℕ, List, [], ◌∷◌, ◌++◌, replicate, Some, Ok, Err, codes}
use Rattle.codes.specs.declared.refusal.Refusal.TheVariants.{SizeOutside, TooFewCells}
use Rattle.layout.specs.Layout.{needed}
use Rattle.layout.specs.Limits.{sized}
use Rattle.machine.specs.Opening.{opened}
use Rattle.machine.specs.Workers.{fresh_table}
use Rattle.questions.specs.Cases.{Only}
use Rattle.questions.specs.Measures.{total_scale, weakest_scale}
use Rattle.session.specs.Sessions.{SessionState, SessionState.Shut}
use Rattle.worked.specs.Plays.{Plays}
use Rattle.worked.specs.Openings.{least}

-- nothing is open over so many cells of 0
abbrev pub over : ℕ → SessionState
over n = Shut (replicate n 0)

-- two keys, two workers, four rows of each kind, greatest clock 9
abbrev pub opens_two : List ℕ
opens_two = codes "0102020004000400000009"

-- both keys are added, worker 0 is ten turns into adding edge (0, 1), and worker 1 removes key 1
abbrev pub removal : List (List ℕ)
removal =
    codes "020001000000000000" ∷ (codes "0300FF" ∷ (codes "020101010000000000" ∷ (codes "0301FF" ∷
    (codes "020004000100000005" ∷ (codes "03000A" ∷ (codes "020102010000000000" ∷ (codes "0301FF" ∷ [])))))))

-- and the replies to that
abbrev pub removed : List (List ℕ)
removed =
    codes "8200" ∷ (codes "831006" ∷ (codes "8200" ∷ (codes "831006" ∷
    (codes "8200" ∷ (codes "83000A" ∷ (codes "8200" ∷ (codes "831208" ∷ [])))))))

-- worker 1 takes a snapshot, the edge is tried on, and the page is shown
abbrev pub snapshot : List (List ℕ)
snapshot = codes "020107000000000000" ∷ (codes "0301FF" ∷ (codes "0300FF" ∷ (codes "0401" ∷ [])))

-- and the replies to that
abbrev pub snapshot_taken : List (List ℕ)
snapshot_taken = codes "8200" ∷ (codes "833007" ∷ (codes "831307" ∷ (codes "8400010000000000000000000000000000000000" ∷ [])))

pub record Table : Type 0 where
  -- The snapshot raises the clock. The edge then bears a higher stamp than the removal: 13. The page shows key 0 alone.
  pub worked_session : Plays (over 4096) (opens_two ∷ (removal ++ snapshot)) (codes "8100" ∷ (removed ++ snapshot_taken))
  -- Without the snapshot the two stamps are equal, which lets the edge in: 20.
  pub equal_stamps : Plays (over 4096) (opens_two ∷ (removal ++ (codes "0300FF" ∷ []))) (codes "8100" ∷ (removed ++ (codes "832007" ∷ [])))
  -- 64 keys are lawful, 65 are not
  pub most_sizes : sized 64 1 1 1 1 ≡ Ok (record { keys = 64; workers = 1; vrows = 1; erows = 1; top = 1 })
  pub too_many_sizes : sized 65 1 1 1 1 ≡ Err SizeOutside
  -- 64 keys open, where there are cells enough; 65 do not
  pub most_keys : Plays (over 8330) (codes "0140010001000100000001" ∷ []) (codes "8100" ∷ [])
  pub too_many_keys : Plays (over 8330) (codes "0141010001000100000001" ∷ []) (codes "81E1" ∷ [])
  -- One of everything needs 14 cells. On 13 it does not open, and they stay as they were; 14 become the clock at 1 and 0 else, and
  -- the workers are fresh.
  pub fourteen : needed least ≡ 14
  pub thirteen_kept : opened (replicate 13 7) least ≡ Err (replicate 13 7, TooFewCells)
  pub fourteen_opened : opened (replicate 14 7) least ≡ Ok (record { cells = 1 ∷ replicate 13 0; sizes = least; workers = fresh_table })
  pub thirteen_cells : Plays (over 13) (codes "0101010001000100000001" ∷ []) (codes "81E2" ∷ [])
  pub fourteen_cells : Plays (over 14) (codes "0101010001000100000001" ∷ []) (codes "8100" ∷ [])
  -- weight 1,000,000 begins; 1,000,001 and 0 do not
  pub weight_most : Plays (over 91) (opens_two ∷ (codes "0200040001000F4240" ∷ [])) (codes "8100" ∷ (codes "8200" ∷ []))
  pub weight_over : Plays (over 91) (opens_two ∷ (codes "0200040001000F4241" ∷ [])) (codes "8100" ∷ (codes "82E7" ∷ []))
  pub weight_zero : Plays (over 91) (opens_two ∷ (codes "020004000100000000" ∷ [])) (codes "8100" ∷ (codes "82E7" ∷ []))
  -- with the greatest clock 1 a snapshot ends at its first turn: 41
  pub clock_spent :
      Plays (over 14) (codes "0101010001000100000001" ∷ (codes "020007000000000000" ∷ (codes "0300FF" ∷ []))) (codes "8100" ∷ (codes "8200" ∷ (codes "834101" ∷ [])))
  -- with one vertex row a worker's second add ends at its link turn: 40
  pub rows_spent :
      Plays (over 22)
      (codes "0102010001000100000009" ∷ (codes "020001000000000000" ∷ (codes "0300FF" ∷ (codes "020001010000000000" ∷ (codes "0300FF" ∷ [])))))
      (codes "8100" ∷ (codes "8200" ∷ (codes "831006" ∷ (codes "8200" ∷ (codes "834002" ∷ [])))))
  -- edges 0 → 1 of 5, 1 → 2 of 2 and 0 → 2 of 9: from 0 to 2 the total is 7 and the weakest is 9, and nothing else
  pub total : Only total_scale 0 2 (Some 7)
  pub weakest : Only weakest_scale 0 2 (Some 9)
