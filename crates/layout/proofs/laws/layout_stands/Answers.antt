use Rattle.layout.proofs.Regions.{index_lt}
use Rattle.layout.proofs.Inverse.{same_name, cell_at}
use Rattle.layout.proofs.Owners.{owner, one_owner, own_row}
use Rattle.layout.proofs.laws.layout_stands.Goals as goal

pub returns : goal.returns
returns c s = record {
  within = index_lt s;
  apart = same_name s;
  named = cell_at s;
  owned = owner s;
  one_owner = one_owner s;
  own = own_row s;
}
