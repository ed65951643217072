use Rattle.std.proofs.Common.{◌≡◌, ◌++◌, take}
use Rattle.ask.proofs.reply.push_bytes.Given as goal

abbrev pub invariant-loop-byte : goal.invariant-loop-byte
invariant-loop-byte l = l.cells.items ≡ l.initial.cells.items ++ take l.byte-index l.bytes
