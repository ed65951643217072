use Rattle.std.proofs.Common.{Ok, refl, inr}
use Rattle.ask.specs.Sheets.{held}
use Rattle.ask.specs.Lines.{TakesWords}
use Rattle.ask.proofs.Words.{by_none, by_next, takes_line}
use Rattle.ask.proofs.sheet.Sheet.read.Goals as goal

-- a word came, and the line is what it and the words after it say
pub returns-in-Some : goal.returns-in-Some
returns-in-Some c =
    let old = held c.args.self.now in let new = held c.take.new.self in let s = c.split_whitespace-words.result in
    takes_line old new c.take.result c.args.line.now s c.split_whitespace-words.ensures.rest
    (by_next (λ said. TakesWords old said new c.take.result) s c.in-Some.first c.next.new.self c.in-Some.ensures.steps c.take.ensures)

-- no word came
pub returns-in-None : goal.returns-in-None
returns-in-None c =
    let old = held c.args.self.now in let s = c.split_whitespace-words.result in
    takes_line old old (Ok tt) c.args.line.now s c.split_whitespace-words.ensures.rest
    (by_none (λ said. TakesWords old said old (Ok tt)) s c.next.new.self c.in-None.ensures.steps (inr (refl, refl)))
