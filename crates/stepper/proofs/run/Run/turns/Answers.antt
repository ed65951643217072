use Rattle.std.proofs.Common.{rules, sym}
use Rattle.std.proofs.lemmas.Result.{err_from_is_err_and}
use Rattle.machine.specs.declared.request.Request.TheVariants.{Turn}
use Rattle.machine.proofs.Extending.{extends}
use Rattle.machine.proofs.SeveralTurns.{made_continues}
use Rattle.promise.proofs.Contracts.{request_kept, events_kept}
use Rattle.stepper.proofs.run.Run.turns.Goals as goal

pub returns-in_err-index-clause-history : goal.returns-in_err-index-clause-history
returns-in_err-index-clause-history g c =
    let p = err_from_is_err_and c.from_residual.result c.from_residual.ensures.1 in
    rw (p.1, p.2) (extends _ _ (Turn c.args.w) _ (search rules) (search rules))

pub returns-in_err-index-clause-promise : goal.returns-in_err-index-clause-promise
returns-in_err-index-clause-promise g c =
    let p = err_from_is_err_and c.from_residual.result c.from_residual.ensures.1 in
    rw (p.1, p.2) (request_kept _ _ (Turn c.args.w) _ (extends _ _ (Turn c.args.w) _ (search rules) (search rules)))

pub returns-clause-history : goal.returns-clause-history
returns-clause-history g c =
    rw (sym c.in_ok-index.ensures.index) (made_continues _ _ _ _ (search rules) c.make_turns.ensures.made.state c.make_turns.ensures.made.quiet)

pub returns-clause-promise : goal.returns-clause-promise
returns-clause-promise g c =
    rw (sym c.in_ok-index.ensures.index) (events_kept _ _ _ (made_continues _ _ _ _ (search rules) c.make_turns.ensures.made.state c.make_turns.ensures.made.quiet))
