use Rattle.surveys.proofs.Theorems.{only_surveys_raise}
use Rattle.surveys.proofs.only_surveys_raise.Goals as goal

pub returns : goal.returns
returns c = only_surveys_raise
