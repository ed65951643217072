use Rattle.std.proofs.Common.{rules}
use Rattle.cells.proofs.FourBytes.{put-words_of}
use Rattle.cells.proofs.image.Image.put.Goals as goal

pub returns-clause-after : goal.returns-clause-after
returns-clause-after c = rw c.to_be_bytes.ensures (put-words_of c.args.self.now.bytes.now c.args.i c.args.v c.requires (search rules))
