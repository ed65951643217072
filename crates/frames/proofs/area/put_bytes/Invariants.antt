use Rattle.std.proofs.Common.{◌≡◌, ◌+◌, ◌*◌, take}
use Rattle.frames.specs.Hex.{hex_of}
use Rattle.frames.specs.Areas.{Put}
use Rattle.frames.proofs.area.put_bytes.Given as goal

abbrev pub invariant-loop-byte : goal.invariant-loop-byte
invariant-loop-byte l =
    (l.end ≡ l.at + 2 * l.byte-index) × Put l.at (hex_of (take l.byte-index l.bytes)) l.initial.out l.out l.end
