use Rattle.std.proofs.Common.{◌∙◌}
use Rattle.stepper.specs.Runs.{state_of}
use Rattle.machine.proofs.SeveralTurns.{made_answer, made_more}
use Rattle.stepper.proofs.run.Run.make_turns.Goals as goal

pub returns-in-Some-clause-made : goal.returns-in-Some-clause-made
returns-in-Some-clause-made g c =
    made_answer _ (state_of g.M.CellMemory.cells c.loop-i.self) _ _ _ _ _ c.loop-i-test.true c.loop-i.invariant.state c.loop-i.invariant.quiet c.in-Some.ensures.answer c.in-Some.ensures.after

pub loop-i-preserved : goal.loop-i-preserved
loop-i-preserved g c =
    let more = made_more _ (state_of g.M.CellMemory.cells c.loop-i.self) _ _ _ c.loop-i.invariant.state c.loop-i.invariant.quiet c.in_default.ensures.answer c.in_default.ensures.after in
    record {
      state = more.0;
      quiet = more.1;
      spare = c.advance.ensures.spare ∙ c.loop-i.invariant.spare;
      name = c.advance.ensures.name ∙ c.loop-i.invariant.name;
    }
