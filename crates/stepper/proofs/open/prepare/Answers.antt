use Rattle.std.proofs.Common.{rules}
use Rattle.machine.proofs.Clearing.{zeroed_opened}
use Rattle.stepper.proofs.open.prepare.Goals as goal

pub returns-clause-after : goal.returns-clause-after
returns-clause-after g c = search (rules, zeroed_opened)
