use Rattle.ask.proofs.Steps.{whole_page}
use Rattle.ask.proofs.reply.page_of.Goals as goal

pub invariant_of-result : goal.invariant_of-result
invariant_of-result c =
    let known = rw c.in_ok-keys.ensures.ok_part at c.keys_for.ensures.known in
    record { whole = whole_page c.in_ok-keys.keys c.args.bytes.now c.in_ok-cells.cells.items c.in_ok-cells.ensures known.0 known.1 known.2 }
