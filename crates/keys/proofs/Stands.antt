-- Calls have keys, from the laws of runs.
use Rattle.keys.specs.Standing.{AnswersStand, ChangesStand}
use Rattle.keys.proofs.Answers.{answered, changed_yet}
use Rattle.keys.proofs.Turning.{run_laws}

module _ where
  pub answers_stand : AnswersStand
  answers_stand R N m tell ok a w b c x l asked reply whose begun rows =
      answered R N m (run_laws R N m tell ok) a w b c x l asked reply whose begun rows

  pub changes_stand : ChangesStand
  changes_stand R N m tell ok w b c n within whose begun s =
      changed_yet R N m (run_laws R N m tell ok) w b c within whose begun n s
