use Rattle.std.proofs.Common.{rules}
use Rattle.cells.proofs.FourBytes.{get_or-words_of}
use Rattle.cells.proofs.image.Image.get.Goals as goal

pub returns : goal.returns
returns c = search (rules, get_or-words_of)
