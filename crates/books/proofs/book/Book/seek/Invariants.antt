use Rattle.std.proofs.Common.{◌≡◌, ◌+◌, ◌*◌, ◌<◌, ◌≤◌}
use Rattle.books.specs.Serving.{open_from}
use Rattle.books.proofs.book.Book.seek.Given as goal

abbrev pub invariant-loop-x : goal.invariant-loop-x
invariant-loop-x l = record {
  rest : open_from l.self l.survey l.sizes.keys l.x ≡ open_from l.self l.survey l.sizes.keys l.start;
  number : l.x ≡ l.served * l.sizes.keys + l.key;
  key : l.key < l.sizes.keys;
  place : l.served ≤ l.x;
}
