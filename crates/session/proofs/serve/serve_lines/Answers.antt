use Rattle.std.proofs.Common.{length, take, refl, ap}
use Rattle.session.specs.Sessions.{SessionState.Shut, session_in}
use Rattle.session.proofs.Servicing.{keeps_same, serving_begun, serving_more, serving_unread, serving_broken, serving_done, serving_undone}
use Rattle.session.proofs.serve.serve_lines.Goals.{in-Ok-finish, in-Err-finish}
use Rattle.session.proofs.serve.serve_lines.Goals as goal

pub loop-init : goal.loop-init
loop-init g c = record {
  serving = rw c.new-held.ensures (serving_begun (Shut (g.M.CellMemory.cells c.args.memory)) (g.R.Read.remaining c.args.input.now) (g.W.Write.contents c.args.output.now));
  there = refl;
}

pub loop-preserved : goal.loop-preserved
loop-preserved g c = record {
  serving =
      serving_more (Shut (g.M.CellMemory.cells c.args.memory)) (session_in g.M.CellMemory.cells c.loop.slot) (session_in g.M.CellMemory.cells c.pass_on.new.slot)
      (g.R.Read.remaining c.args.input.now) (g.R.Read.remaining c.loop.input) (g.R.Read.remaining c.read_some.new.input)
      (g.W.Write.contents c.args.output.now) (g.W.Write.contents c.loop.output) (g.W.Write.contents c.pass_on.new.output)
      c.loop.held c.pass_on.new.held (take c.in-Ok.got.len c.read_some.new.chunk) c.loop.invariant.serving c.in-Ok.ensures.bytes c.in-Ok-pass_on.ensures.ok;
  there = c.pass_on.ensures.there;
}

pub returns : goal.returns
returns g c =
    serving_unread (Shut (g.M.CellMemory.cells c.args.memory)) (session_in g.M.CellMemory.cells c.loop.slot)
    (g.R.Read.remaining c.args.input.now) (g.R.Read.remaining c.loop.input) (g.R.Read.remaining c.loop.input)
    (g.W.Write.contents c.args.output.now) (g.W.Write.contents c.loop.output) c.loop.held c.other.result c.loop.invariant.serving (keeps_same (g.R.Read.remaining c.loop.input))

pub returns-in-Err-pass_on : goal.returns-in-Err-pass_on
returns-in-Err-pass_on g c =
    serving_broken (Shut (g.M.CellMemory.cells c.args.memory)) (session_in g.M.CellMemory.cells c.loop.slot)
    (g.R.Read.remaining c.args.input.now) (g.R.Read.remaining c.loop.input) (g.R.Read.remaining c.read_some.new.input)
    (g.W.Write.contents c.args.output.now) (g.W.Write.contents c.loop.output) (g.W.Write.contents c.pass_on.new.output)
    c.loop.held (take c.in-Ok.got.len c.read_some.new.chunk) c.in-Err-pass_on.e c.loop.invariant.serving c.in-Ok.ensures.bytes c.in-Err-pass_on.ensures.err

pub returns-then-got : goal.returns-then-got
returns-then-got g c =
    elim c.match-finish.branch [
      | in-Ok-finish w ↦ rw w.result-is
          (serving_done (Shut (g.M.CellMemory.cells c.args.memory)) (session_in g.M.CellMemory.cells c.loop.slot)
          (g.R.Read.remaining c.args.input.now) (g.R.Read.remaining c.loop.input) (g.R.Read.remaining c.read_some.new.input)
          (g.W.Write.contents c.args.output.now) (g.W.Write.contents c.loop.output) (g.W.Write.contents c.finish.new.output)
          c.loop.held (take c.in-Ok.got.len c.read_some.new.chunk) c.loop.invariant.serving c.in-Ok.ensures.bytes
          (ap (λ n. length (take n c.read_some.new.chunk)) ((c.in-Ok.ensures.end c.if-got.true).0)) ((c.in-Ok.ensures.end c.if-got.true).1) w.in-Ok-finish.ensures)
      | in-Err-finish w ↦ rw w.result-is
          (serving_undone (Shut (g.M.CellMemory.cells c.args.memory)) (session_in g.M.CellMemory.cells c.loop.slot)
          (g.R.Read.remaining c.args.input.now) (g.R.Read.remaining c.loop.input) (g.R.Read.remaining c.read_some.new.input)
          (g.W.Write.contents c.args.output.now) (g.W.Write.contents c.loop.output) (g.W.Write.contents c.finish.new.output)
          c.loop.held (take c.in-Ok.got.len c.read_some.new.chunk) w.in-Err-finish.e w.in-Err-finish.e c.loop.invariant.serving c.in-Ok.ensures.bytes
          (ap (λ n. length (take n c.read_some.new.chunk)) ((c.in-Ok.ensures.end c.if-got.true).0)) ((c.in-Ok.ensures.end c.if-got.true).1) w.in-Err-finish.ensures)
    ]

pub returns-in-Err : goal.returns-in-Err
returns-in-Err g c =
    serving_unread (Shut (g.M.CellMemory.cells c.args.memory)) (session_in g.M.CellMemory.cells c.loop.slot)
    (g.R.Read.remaining c.args.input.now) (g.R.Read.remaining c.loop.input) (g.R.Read.remaining c.read_some.new.input)
    (g.W.Write.contents c.args.output.now) (g.W.Write.contents c.loop.output) c.loop.held c.in-Err.e c.loop.invariant.serving c.in-Err.ensures.err
