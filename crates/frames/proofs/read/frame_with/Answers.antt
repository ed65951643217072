use Rattle.std.proofs.Common.{◌≡◌, Err, sym, ◌∙◌, rules}
use Rattle.frames.specs.Hex.{bytes_of}
use Rattle.frames.proofs.Decoding.{framed_err, framed_ok}
use Rattle.frames.proofs.read.frame_with.Goals as goal

pub returns-in_err-decode : goal.returns-in_err-decode
returns-in_err-decode g c =
    let e : c.from_residual.result ≡ Err c.in_err-decode.field-0.0 = search rules in
    e ∙ sym (framed_err (bytes_of c.args.line.now) c.decode.result c.in_err-decode.field-0.0 c.decode.ensures c.in_err-decode.was)

pub returns : goal.returns
returns g c = c.frame_of.ensures ∙ sym (framed_ok (bytes_of c.args.line.now) c.decode.result _ c.decode.ensures c.in_ok-decode.was)
