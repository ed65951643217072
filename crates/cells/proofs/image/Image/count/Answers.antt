use Rattle.std.proofs.Common.{sym}
use Rattle.cells.proofs.FourBytes.{length-words_of}
use Rattle.cells.proofs.image.Image.count.Goals as goal

pub returns-clause-cells : goal.returns-clause-cells
returns-clause-cells c = sym (length-words_of c.args.self.now.bytes.now)
