use Rattle.std.proofs.Common.{◌≡◌, Err, refl, ◌∷◌, ◌∙◌}
use Rattle.ask.specs.declared.fault.Fault.TheVariants.{Start}
use Rattle.ask.specs.Lines.{start_line}
use Rattle.ask.proofs.Words.{by_none, by_any, by_next, text_after}
use Rattle.ask.proofs.sheet.start_in.Goals as goal

-- two words came
pub returns-in_default : goal.returns-in_default
returns-in_default c =
    let s = c.args.words in let t = c.next.new.self in let u = c.next-2.new.self in
    let k = c.in_default.field-0-0 in let next = c.in_default.field-0-1 in
    let text = text_after t next u c.in_default.ensures'.steps (text_after s k t c.in_default.ensures.steps c.well_formed.0.1.1.0.1) in
    by_next (λ said. Err Start ≡ start_line said) s k t c.in_default.ensures.steps
    (by_next (λ more. Err Start ≡ start_line (k.now ∷ more)) t next u c.in_default.ensures'.steps
    (by_any (λ more. Err Start ≡ start_line (k.now ∷ (next.now ∷ more))) u text (λ more. refl)))

-- one word came
pub returns : goal.returns
returns c =
    let k = c.in-Some-None.k in
    by_next (λ said. c.ok_or.result ≡ start_line said) c.args.words k c.next.new.self c.in-Some-None.ensures.steps
    (by_none (λ more. c.ok_or.result ≡ start_line (k.now ∷ more)) c.next.new.self c.next-2.new.self c.in-Some-None.ensures'.steps (c.ok_or.ensures.value ∙ rw c.number.ensures refl))
