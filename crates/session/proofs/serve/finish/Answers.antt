use Rattle.std.proofs.Common.{◌≡◌, ◌<◌, length, ap, sym, ◌∙◌, arith, rules}
use borrow.Author.Tests.{tests}
use Rattle.frames.specs.Frames.{frame_in}
use Rattle.frames.specs.Hex.{bytes_of}
use Rattle.session.specs.Sessions.{session_in}
use Rattle.session.proofs.Servicing.{finished_empty, finished_line}
use Rattle.session.proofs.serve.finish.Goals as goal

pub returns-then-is_empty : goal.returns-then-is_empty
returns-then-is_empty g c =
    let z : length c.as_slice-line.result.now ≡ 0 = search (rules, tests) in
    finished_empty (session_in g.M.CellMemory.cells c.args.slot.now) c.args.held.now (g.W.Write.contents c.args.output.now) (ap length (sym c.as_slice-line.ensures) ∙ z)

pub returns : goal.returns
returns g c =
    let z : 0 < length c.as_slice-line.result.now = search (rules, tests) in
    finished_line (session_in g.M.CellMemory.cells c.args.slot.now) (session_in g.M.CellMemory.cells c.reply-end.new.slot) c.args.held.now
    (g.W.Write.contents c.args.output.now) (g.W.Write.contents c.write_whole.new.output)
    c.args.out.now c.reply-end.new.out c.reply-end.result c.parse.result c.write_whole.result
    (omega (arith, z, ap length c.as_slice-line.ensures)) (c.parse.ensures ∙ ap (λ zs. frame_in (bytes_of zs)) c.as_slice-line.ensures) c.reply-end.ensures.written c.write_whole.ensures
