use Rattle.std.proofs.Common.{rules}
use Rattle.machine.specs.declared.request.Request.TheVariants.{Give}
use Rattle.machine.proofs.Extending.{extends}
use Rattle.promise.proofs.Contracts.{request_kept}
use Rattle.stepper.proofs.run.Run.give.Goals as goal

pub returns-in_err-index-clause-history : goal.returns-in_err-index-clause-history
returns-in_err-index-clause-history g c = extends _ _ (Give c.args.ticket) _ (search rules) (search rules)

pub returns-in_err-index-clause-promise : goal.returns-in_err-index-clause-promise
returns-in_err-index-clause-promise g c =
    request_kept _ _ (Give c.args.ticket) _ (extends _ _ (Give c.args.ticket) _ (search rules) (search rules))

pub returns-clause-history : goal.returns-clause-history
returns-clause-history g c = extends _ _ (Give c.args.ticket) _ (search rules) (search rules)

pub returns-clause-promise : goal.returns-clause-promise
returns-clause-promise g c =
    request_kept _ _ (Give c.args.ticket) _ (extends _ _ (Give c.args.ticket) _ (search rules) (search rules))
