use Rattle.std.proofs.Common.{◌≡◌, ◌+◌, take, drop, sym, ap, ◌∙◌, arith}
use Rattle.std.proofs.lemmas.List.{take_all, take_rest, drop_all}
use Rattle.session.specs.Texts.{feed_at}
use Rattle.replay.proofs.Feeding.{feed_found, feed_none}
use Rattle.replay.proofs.feed.split.Goals as goal

pub returns-in-Some : goal.returns-in-Some
returns-in-Some c =
    let e : c.in-Some.n ≡ feed_at c.args.text.now = feed_found c.args.text.now c.in-Some.n (sym c.in-Some.ensures) in
    record {
      line = ap (λ k. take k c.args.text.now) e;
      rest = take_rest c.args.text.now (c.in-Some.n + 1) ∙ ap (λ k. drop (k + 1) c.args.text.now) e;
    }

pub returns-in-None : goal.returns-in-None
returns-in-None c = record {
  line = sym (take_all (feed_at c.args.text.now) c.args.text.now (feed_none c.args.text.now (sym c.in-None.ensures)));
  rest = sym (drop_all (feed_at c.args.text.now + 1) c.args.text.now (omega (arith, feed_none c.args.text.now (sym c.in-None.ensures))));
}
