use Rattle.std.proofs.Common.{◌≡◌, ◌-◌}
use Rattle.ask.specs.Replies.{keys_for, keys_from}
use Rattle.ask.proofs.reply.keys_for.Given as goal

abbrev pub invariant-loop-keys : goal.invariant-loop-keys
invariant-loop-keys l = keys_for l.size ≡ keys_from l.keys (65 - l.keys) l.size
