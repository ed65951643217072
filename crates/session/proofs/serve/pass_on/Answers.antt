use Rattle.std.proofs.Common.{rules, take}
use borrow.Author.Tests.{tests}
use Rattle.session.specs.Sessions.{session_in}
use Rattle.session.proofs.Passing.{if_err, passes_none, passes_more, passes_all, passes_broken}
use Rattle.session.proofs.serve.pass_on.Goals as goal

pub loop-rest-init : goal.loop-rest-init
loop-rest-init g c = record {
  passes = passes_none (session_in g.M.CellMemory.cells c.args.slot.now) c.args.held.now c.args.bytes.now (g.W.Write.contents c.args.output.now);
  there = c.requires.there;
}

pub returns-in_err-write_whole-clause-err : goal.returns-in_err-write_whole-clause-err
returns-in_err-write_whole-clause-err g c =
    if_err c.from_residual.result _
    (passes_broken (session_in g.M.CellMemory.cells c.args.slot.now) (session_in g.M.CellMemory.cells c.loop-rest.slot) _ c.args.held.now c.loop-rest.held c.take_in-taken.new.held c.args.bytes.now c.loop-rest.rest.now _ (g.W.Write.contents c.loop-rest.output) _
    c.take_in-taken.result.used (c.in_err-write_whole.ensures.0) (take c.take_in-taken.result.end c.take_in-taken.new.out)
    c.loop-rest.invariant.passes c.take_in-taken.ensures.carries (c.in_err-write_whole.ensures.1))

pub loop-rest-preserved : goal.loop-rest-preserved
loop-rest-preserved g c = record {
  passes =
      passes_more (session_in g.M.CellMemory.cells c.args.slot.now) (session_in g.M.CellMemory.cells c.loop-rest.slot) _ c.args.held.now c.loop-rest.held c.take_in-taken.new.held c.args.bytes.now c.loop-rest.rest.now _ (g.W.Write.contents c.loop-rest.output) _
      c.take_in-taken.result.used (take c.take_in-taken.result.end c.take_in-taken.new.out)
      c.loop-rest.invariant.passes c.take_in-taken.ensures.carries c.in_ok-write_whole.ensures;
  there = c.take_in-taken.ensures.there;
}

pub returns-clause-ok : goal.returns-clause-ok
returns-clause-ok g c =
    passes_all (session_in g.M.CellMemory.cells c.args.slot.now) (session_in g.M.CellMemory.cells c.loop-rest.slot) c.args.held.now c.loop-rest.held c.args.bytes.now c.loop-rest.rest.now _ _
    c.loop-rest.invariant.passes (search (rules, tests))
