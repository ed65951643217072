use Rattle.std.proofs.Common.{[], ok_or, ap, arith, sym, ◌∙◌}
use Rattle.std.proofs.lemmas.List.{length-replicate, length-set}
use Rattle.codes.specs.declared.refusal.Refusal.TheVariants.{NoFrame}
use Rattle.frames.proofs.Decoding.{nothing_read, no_digit_none, one_more_read, all_read}
use Rattle.frames.proofs.read.decode.Goals as goal

pub loop-i-init : goal.loop-i-init
loop-i-init g c = (length-replicate g.row.N 0, nothing_read c.args.line.now [])

pub returns-in_default : goal.returns-in_default
returns-in_default g c =
    ap (λ x. ok_or x NoFrame)
    (sym (no_digit_none c.args.line.now c.loop-i.bytes c.loop-i.i c.loop-i.invariant.1 (omega arith) (sym c.in_default.is ∙ c.byte.ensures)))

pub loop-i-preserved : goal.loop-i-preserved
loop-i-preserved g c = (
  length-set c.loop-i.bytes c.loop-i.i _ ∙ c.loop-i.invariant.0,
  one_more_read c.args.line.now c.loop-i.bytes c.loop-i.i _ c.loop-i.invariant.1 (omega arith) (omega (arith, c.loop-i.invariant.0)) (sym c.in-Some.is ∙ c.byte.ensures),
)

pub returns : goal.returns
returns g c =
    ap (λ x. ok_or x NoFrame) (sym (all_read c.args.line.now c.loop-i.bytes c.loop-i.i c.loop-i.invariant.1 (omega arith) (omega (arith, c.loop-i.invariant.0))))
