use Rattle.laws.proofs.CountedRows.{counted_rows_sound}
use Rattle.laws.proofs.counted_rows_sound.Goals as goal

pub returns : goal.returns
returns c = counted_rows_sound
