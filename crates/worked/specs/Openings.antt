-- The sizes of the worked cases.
use Rattle.std.proofs.Common.{lit≤}
use Rattle.layout.specs.declared.sizes.Sizes.{Sizes}

-- two keys, two workers, four rows of each kind, greatest clock 9
abbrev pub two : Sizes
two = record {
  keys = 2;
  workers = 2;
  vrows = 4;
  erows = 4;
  top = 9;
  keyed = (lit≤ tt, lit≤ tt);
  staffed = (lit≤ tt, lit≤ tt);
  vrowed = (lit≤ tt, lit≤ tt);
  erowed = (lit≤ tt, lit≤ tt);
  timed = (lit≤ tt, lit≤ tt);
}

-- one of everything
abbrev pub least : Sizes
least = record {
  keys = 1;
  workers = 1;
  vrows = 1;
  erows = 1;
  top = 1;
  keyed = (lit≤ tt, lit≤ tt);
  staffed = (lit≤ tt, lit≤ tt);
  vrowed = (lit≤ tt, lit≤ tt);
  erowed = (lit≤ tt, lit≤ tt);
  timed = (lit≤ tt, lit≤ tt);
}

-- two keys, one vertex row
abbrev pub one_row : Sizes
one_row = record {
  keys = 2;
  workers = 1;
  vrows = 1;
  erows = 1;
  top = 9;
  keyed = (lit≤ tt, lit≤ tt);
  staffed = (lit≤ tt, lit≤ tt);
  vrowed = (lit≤ tt, lit≤ tt);
  erowed = (lit≤ tt, lit≤ tt);
  timed = (lit≤ tt, lit≤ tt);
}

-- the most keys, and one of everything else
abbrev pub most : Sizes
most = record {
  keys = 64;
  workers = 1;
  vrows = 1;
  erows = 1;
  top = 1;
  keyed = (lit≤ tt, lit≤ tt);
  staffed = (lit≤ tt, lit≤ tt);
  vrowed = (lit≤ tt, lit≤ tt);
  erowed = (lit≤ tt, lit≤ tt);
  timed = (lit≤ tt, lit≤ tt);
}
