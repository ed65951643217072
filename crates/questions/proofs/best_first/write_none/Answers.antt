use Rattle.std.proofs.Common.{rules, None}
use Rattle.std.proofs.lemmas.List.{length-set}
use Rattle.questions.proofs.Writing.{slice_get-set_same, slice_get-set_other, written_more}
use Rattle.questions.proofs.best_first.write_none.Goals as goal

pub loop-k-preserved : goal.loop-k-preserved
loop-k-preserved g c =
    written_more g.T.From.from_gives (λ k. None) c.loop-k.k c.args.out.now c.loop-k.out _ c.loop-k.invariant (λ j apart. search (rules, slice_get-set_other))
    (search (rules, slice_get-set_same, length-set))
