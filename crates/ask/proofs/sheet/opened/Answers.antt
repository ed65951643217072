use Rattle.std.proofs.Common.{Ok, Err, refl, sym, inr, rules}
use Rattle.ask.specs.declared.fault.Fault.TheVariants.{Reply, Size}
use Rattle.ask.specs.Replies.{Makes}
use Rattle.ask.specs.Lines.{opened}
use Rattle.ask.proofs.Words.{by_nothing, by_something}
use Rattle.ask.proofs.sheet.opened.Goals as goal

-- another word came after a reply, and after a number
pub returns-then-not-alone : goal.returns-then-not-alone
returns-then-not-alone c =
    by_something (λ words. Makes (opened c.args.word.now words) (Err Reply)) c.args.more c.next.result c.next.new.self c.next.ensures.steps c.if-not-alone.ensures c.well_formed.1.1.0.1.1.0.1
    (λ w more. inr (rw (sym c.if-is_reply.ensures) refl))

pub returns-then-not-alone-2 : goal.returns-then-not-alone-2
returns-then-not-alone-2 c =
    by_something (λ words. Makes (opened c.args.word.now words) (Err Size)) c.args.more c.next.result c.next.new.self c.next.ensures.steps c.if-not-alone-2.ensures c.well_formed.1.1.0.1.1.0.1
    (λ w more. inr (rw (sym c.if-is_reply.ensures) refl))

-- a number came alone
pub returns : goal.returns
returns c =
    by_nothing (λ words. Makes (opened c.args.word.now words) (Ok c.in_ok-bare.field-0)) c.args.more c.next.result c.next.new.self c.next.ensures.steps c.if-not-alone-2.ensures (search rules)
