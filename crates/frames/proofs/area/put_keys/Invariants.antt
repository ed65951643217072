use Rattle.std.proofs.Common.{◌≡◌, ◌+◌, ◌*◌, map, take}
use Rattle.frames.specs.Hex.{hex_of}
use Rattle.frames.specs.Replies.{key_byte}
use Rattle.frames.specs.Areas.{Put}
use Rattle.frames.proofs.area.put_keys.Given as goal

abbrev pub invariant-loop-row : goal.invariant-loop-row
invariant-loop-row l =
    (l.end ≡ l.at + 2 * l.row-index) × Put l.at (hex_of (map key_byte (take l.row-index l.keys))) l.initial.out l.out l.end
