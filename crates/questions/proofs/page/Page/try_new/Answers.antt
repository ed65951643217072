use Rattle.std.proofs.Common.{refl, rules}
use Rattle.questions.proofs.page.Page.try_new.Goals as goal

pub returns-else-contains-clause-fits : goal.returns-else-contains-clause-fits
returns-else-contains-clause-fits c = search rules

pub returns-else-contains-clause-refusal : goal.returns-else-contains-clause-refusal
returns-else-contains-clause-refusal c = refl
