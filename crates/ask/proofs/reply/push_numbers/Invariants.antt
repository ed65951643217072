use Rattle.std.proofs.Common.{◌≡◌, ◌++◌}
use Rattle.ask.specs.Replies.{numbers}
use Rattle.ask.proofs.reply.push_numbers.Given as goal

abbrev pub invariant-loop-four : goal.invariant-loop-four
invariant-loop-four l = record {
  can : (goal.iterator-loop-four).can_next l.four-iterator;
  ends : (goal.iterator-loop-four).is_finite l.four-iterator;
  size : l.four-iterator.size ≡ 4;
  to_push : l.cells.items ++ numbers l.four-iterator.rest.now ≡ l.initial.cells.items ++ numbers l.bytes;
}
