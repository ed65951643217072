use Rattle.cells.proofs.FourBytes.{words_of_lt}
use Rattle.cells.proofs.image.ImageCellMemory.bounded.Goals as goal

pub returns : goal.returns
returns c = words_of_lt c.args.self.now.bytes.now c.each_fits.ensures
