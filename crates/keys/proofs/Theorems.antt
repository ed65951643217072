-- The theorems of this crate, each from those of the crates below and from those above it in this file.
use Rattle.keys.specs.Marking.{RunsGiveKeys, RunsHaveOrder}
use Rattle.keys.specs.Standing.{AnswersStand, ChangesStand}
use Rattle.keys.specs.Told.{PastsTell, TurnsRaise}
use Rattle.keys.proofs.Orders as from_orders
use Rattle.keys.proofs.Pasts as from_pasts
use Rattle.keys.proofs.Stands as from_stands

-- Every answered call on vertices or edges has a key at which it finds its answer.
pub answers_stand : AnswersStand
answers_stand = from_stands.answers_stand

-- So has every unfinished one whose change bears its stamp.
pub changes_stand : ChangesStand
changes_stand = from_stands.changes_stand

-- A past that is made of what is seen tells the calls of the run.
pub pasts_tell : PastsTell
pasts_tell = from_pasts.pasts_tell

-- Where the snapshots and reaches of a run have keys, all its calls have, and each change of the rows is made by a call.
pub runs_give_keys : RunsGiveKeys
runs_give_keys = from_orders.give_keys

-- So one order explains them.
pub runs_have_one_order : RunsHaveOrder
runs_have_one_order = from_orders.have_order

-- A call that had a turn at which the clock is raised is a snapshot or reach.
pub turns_raise : TurnsRaise
turns_raise = from_pasts.turns_raise
