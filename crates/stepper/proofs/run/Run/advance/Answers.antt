use Rattle.machine.proofs.Counting.{can_count, turn_keeps}
use Rattle.stepper.specs.Runs.{state_of}
use Rattle.stepper.proofs.run.Run.advance.Goals as goal

pub advance-requires : goal.advance-requires
advance-requires g c = can_count (state_of g.M.CellMemory.cells c.args.self.now) c.args.index.index c.args.self.now.counts

pub invariant_of-self : goal.invariant_of-self
invariant_of-self g c =
    let kept = turn_keeps (state_of g.M.CellMemory.cells c.args.self.now) _ c.args.index.index c.advance.ensures.after c.args.self.now.room c.args.self.now.counts in
    record { room = kept.0; counts = kept.1 }
