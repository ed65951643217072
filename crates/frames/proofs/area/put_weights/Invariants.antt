use Rattle.std.proofs.Common.{◌≡◌, ◌+◌, ◌*◌, take}
use Rattle.frames.specs.Hex.{hex_of}
use Rattle.frames.specs.Replies.{weight_bytes}
use Rattle.frames.specs.Areas.{Put}
use Rattle.frames.proofs.area.put_weights.Given as goal

abbrev pub invariant-loop-weight : goal.invariant-loop-weight
invariant-loop-weight l =
    (l.end ≡ l.at + 8 * l.weight-index) × Put l.at (hex_of (weight_bytes (take l.weight-index l.weights))) l.initial.out l.out l.end
