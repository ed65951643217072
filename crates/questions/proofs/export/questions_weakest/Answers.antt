use Rattle.questions.proofs.export.questions_weakest.Goals as goal

pub returns-clause-after : goal.returns-clause-after
returns-clause-after c = c.best_of.ensures.after
