use Rattle.machine.proofs.Spent.{rows_spent_exactly, clock_spent_exactly}
use Rattle.machine.proofs.laws.spent_exactly.Goals as goal

pub returns-clause-rows : goal.returns-clause-rows
returns-clause-rows c = rows_spent_exactly

pub returns-clause-clock : goal.returns-clause-clock
returns-clause-clock c = clock_spent_exactly
