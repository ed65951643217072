use Rattle.std.proofs.Common.{Err, Some, ◌∷◌, rules}
use Rattle.ask.specs.declared.fault.Fault.TheVariants.{Word}
use Rattle.ask.specs.Sheets.{held}
use Rattle.ask.specs.Lines.{TakesWords}
use Rattle.ask.proofs.Words.{by_any}
use Rattle.ask.proofs.sheet.Sheet.take.Goals as goal

-- the line begins with another word
pub returns-in_default-first : goal.returns-in_default-first
returns-in_default-first c =
    by_any (λ said. TakesWords (held c.args.self.now) (c.args.first.now ∷ said) (held record { page = Some c.in-Some.page; starts = c.args.self.now.starts }) (Err Word)) c.args.more c.well_formed.1.1.1.0.1.1.0.1
    (λ said. search rules)
