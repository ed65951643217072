use Rattle.order.proofs.Joined.{pasts_join}
use Rattle.order.proofs.Stretches.{runs_over, stretches_join}
use Rattle.order.proofs.stretches_have_one_order.Goals as goal

pub returns-clause-pasts : goal.returns-clause-pasts
returns-clause-pasts c = pasts_join

pub returns-clause-over : goal.returns-clause-over
returns-clause-over c = runs_over

pub returns-clause-stretches : goal.returns-clause-stretches
returns-clause-stretches c = stretches_join
