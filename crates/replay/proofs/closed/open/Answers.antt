use Rattle.std.proofs.Common.{nat_lt, length, sym, ap, ◌∙◌}
use Rattle.codes.specs.declared.refusal.Refusal.TheVariants.{TooFewCells}
use Rattle.layout.specs.Limits.{numbers_of}
use Rattle.layout.specs.Layout.{needed}
use Rattle.machine.specs.Opening.{empty_graph}
use Rattle.stepper.specs.Lent.{fresh_state}
use Rattle.session.proofs.Opening.{opens_run}
use Rattle.replay.proofs.Opened.{opened_by}
use Rattle.replay.proofs.closed.open.Goals as goal

pub returns-in-Ok-clear-clause-opens : goal.returns-in-Ok-clear-clause-opens
returns-in-Ok-clear-clause-opens g c =
    let cs = g.M.CellMemory.cells c.args.memory.now in
    let after = g.M.CellMemory.cells c.clear.new.memory in
    let z = c.in-Ok.sizes in
    opens_run c.args.opening cs z (fresh_state after z)
    (ap numbers_of (sym c.in-Ok.is) ∙ c.try_from.ensures)
    (opened_by (nat_lt (length cs) (needed z)) cs after (empty_graph cs z) z (cs, TooFewCells) c.in-Ok-clear.field-0 (sym c.in-Ok-clear.is ∙ c.clear.ensures.answer) c.clear.ensures.after)
