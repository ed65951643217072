use Rattle.std.proofs.Common.{◌≡◌, Err, rules}
use borrow.Author.Tests.{tests}
use Rattle.session.proofs.Passing.{partly_none, partly_more, partly_kept, partly_front, partly_flushed}
use Rattle.session.proofs.serve.write_whole.Goals as goal

pub loop-init : goal.loop-init
loop-init g c = partly_none (g.W.Write.contents c.args.output.now) c.args.bytes.now

pub returns-then-is_empty : goal.returns-then-is_empty
returns-then-is_empty g c =
    partly_flushed c.flush.result _ (g.W.Write.contents c.loop.output) _ c.args.bytes.now c.loop.rest.now c.loop.invariant (search (rules, tests)) c.flush.ensures.bytes

pub returns-in_err-n : goal.returns-in_err-n
returns-in_err-n g c =
    let e : c.from_residual.result ≡ Err c.in_err-n.field-0.0 = search rules in
    rw e (partly_front _ _ c.args.bytes.now c.loop.rest.now (partly_kept _ (g.W.Write.contents c.loop.output) _ c.args.bytes.now c.loop.rest.now c.loop.invariant c.in_err-n.ensures.bytes))

pub loop-preserved : goal.loop-preserved
loop-preserved g c = partly_more _ (g.W.Write.contents c.loop.output) _ c.args.bytes.now c.loop.rest.now c.in_ok-n.n c.loop.invariant c.in_ok-n.ensures.bytes

pub returns : goal.returns
returns g c = partly_front _ _ c.args.bytes.now c.loop.rest.now c.loop.invariant
