use Rattle.std.proofs.Common.{◌∙◌}
use Rattle.ask.proofs.Numerals.{number_ok}
use Rattle.ask.proofs.number.cell_number.Goals as goal

pub returns : goal.returns
returns c = c.ok.ensures.value ∙ number_ok 32 c.args.word.now c.parse.result c.parse.ensures.value.0
