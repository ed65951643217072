use Rattle.std.proofs.Common.{rules, ◌∙◌}
use Rattle.books.proofs.Seeking.{open_taken, open_skipped, next_place}
use Rattle.books.proofs.book.Book.seek.Goals.{then-key-sizes, else-key-sizes}
use Rattle.books.proofs.book.Book.seek.Goals as goal

pub returns-then-is_open : goal.returns-then-is_open
returns-then-is_open c =
    let l = c.loop-x in
    open_taken c.args.self.now c.args.survey c.args.sizes.keys l.served c.queued-from.result l.key l.x c.queued-from.ensures l.invariant.key l.invariant.number c.loop-x-test.true c.if-is_open.ensures ∙ l.invariant.rest

pub loop-x-preserved : goal.loop-x-preserved
loop-x-preserved c =
    let l = c.loop-x in
    let rest = open_skipped c.args.self.now c.args.survey c.args.sizes.keys l.served c.queued-from.result l.key l.x c.queued-from.ensures l.invariant.key l.invariant.number c.loop-x-test.true c.if-is_open.ensures ∙ l.invariant.rest in
    elim c.if-key-sizes.branch [
      | then-key-sizes w ↦ (let next = next_place c.args.sizes.keys l.served l.key l.x l.invariant.number w.if-key-sizes.true in search (rules, rest, next))
      | else-key-sizes w ↦ search (rules, rest)
    ]
