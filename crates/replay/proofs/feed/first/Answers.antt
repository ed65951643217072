use Rattle.std.proofs.Common.{◌≡◌, ◌+◌, take, drop, ap, ◌∙◌, rules}
use Rattle.std.proofs.lemmas.List.{take_rest}
use Rattle.frames.specs.Frames.{frame_in}
use Rattle.frames.specs.Hex.{bytes_of}
use Rattle.session.specs.Texts.{feed_at}
use Rattle.replay.proofs.Feeding.{feed_framed}
use Rattle.replay.proofs.feed.first.Goals as goal

pub returns-then-is_ok-clause-frame : goal.returns-then-is_ok-clause-frame
returns-then-is_ok-clause-frame c =
    let e : c.if-text-lt2.n ≡ feed_at c.args.text.now = feed_framed c.args.text.now c.if-text-lt2.n (search rules) (search rules) (search rules) in
    c.parse-frame.ensures ∙ ap (λ k. frame_in (bytes_of (take k c.args.text.now))) e

pub returns-then-is_ok-clause-rest : goal.returns-then-is_ok-clause-rest
returns-then-is_ok-clause-rest c =
    let e : c.if-text-lt2.n ≡ feed_at c.args.text.now = feed_framed c.args.text.now c.if-text-lt2.n (search rules) (search rules) (search rules) in
    take_rest c.args.text.now (c.if-text-lt2.n + 1) ∙ ap (λ k. drop (k + 1) c.args.text.now) e
