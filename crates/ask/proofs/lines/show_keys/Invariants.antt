use Rattle.std.proofs.Common.{◌≡◌, true, drop}
use Rattle.ask.specs.Lines.{texts, are_keys, with_keys}
use Rattle.ask.proofs.lines.show_keys.Given as goal

abbrev pub invariant-loop-word : goal.invariant-loop-word
invariant-loop-word l = record {
  named : are_keys l.keys (texts l.yielded) ≡ true;
  shown : l.cells ≡ with_keys l.keys l.initial.cells (texts l.yielded);
  pairs : drop l.keys l.cells ≡ drop l.keys l.initial.cells;
}
