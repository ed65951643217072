use Rattle.std.proofs.Common.{◌≡◌, ◌≤◌, length}
use Rattle.questions.proofs.Listing.{Served, Serving}
use Rattle.questions.proofs.breadth_first.spread.Given as goal

abbrev pub invariant-loop-j : goal.invariant-loop-j
invariant-loop-j g l = record {
  can : (goal.iterator-loop-j g).can_next l.j-iterator;
  ends : (goal.iterator-loop-j g).is_finite l.j-iterator;
  page : l.j-iterator.page.now ≡ l.page;
  key : l.j-iterator.key ≡ l.k;
  end : l.j-iterator.end ≡ l.n;
  within : l.j-iterator.next ≤ l.n;
  same : l.listing.out.ghost_name ≡ l.initial.listing.out.ghost_name;
  flags : length l.listed ≡ l.n;
  serving : Serving (g.G.GraphView.graph l.page) l.n l.start l.served l.j-iterator.next l.listed l.listing.out.now l.listing.count l.k l.fn.out;
}

abbrev pub invariant-loop-served : goal.invariant-loop-served
invariant-loop-served g l = record {
  same : l.listing.out.ghost_name ≡ l.initial.listing.out.ghost_name;
  flags : length l.listed ≡ l.n;
  served : Served (g.G.GraphView.graph l.page) l.n l.start l.served l.listed l.listing.out.now l.listing.count l.fn.out;
}
