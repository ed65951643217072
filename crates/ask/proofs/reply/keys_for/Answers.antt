use Rattle.std.proofs.Common.{sym, ◌∙◌, arith}
use Rattle.ask.proofs.Steps.{size_more, size_found, size_none}
use Rattle.ask.proofs.reply.keys_for.Goals as goal

pub returns-then-keys-size-clause-value : goal.returns-then-keys-size-clause-value
returns-then-keys-size-clause-value c = sym (c.loop-keys.invariant ∙ size_found c.loop-keys.keys c.args.size (omega arith) c.if-keys-size.true)

pub loop-keys-preserved : goal.loop-keys-preserved
loop-keys-preserved c = c.loop-keys.invariant ∙ size_more c.loop-keys.keys c.args.size (omega arith) c.if-keys-size.false

pub returns-clause-value : goal.returns-clause-value
returns-clause-value c = sym (c.loop-keys.invariant ∙ size_none c.loop-keys.keys c.args.size (omega arith))
