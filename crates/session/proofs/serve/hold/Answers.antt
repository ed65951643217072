use Rattle.std.proofs.Common.{◌≡◌, ◌∷◌, length, take, sym, rules}
use borrow.Author.Tests.{tests}
use Rattle.session.proofs.Serving.{take_full}
use Rattle.session.proofs.serve.hold.Goals as goal

pub returns-then-is_full-clause-held : goal.returns-then-is_full-clause-held
returns-then-is_full-clause-held c =
    let z : length c.args.held.now ≡ 23 = search (rules, tests) in
    sym (take_full c.args.held.now (c.args.byte ∷ take c.before_feed.result c.args.behind.now) 23 z)
