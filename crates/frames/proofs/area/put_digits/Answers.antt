use Rattle.std.proofs.Common.{arith, rules}
use borrow.Rule.Slice.PartMut.{same_len_mid}
use Rattle.frames.proofs.Appending.{put_line}
use Rattle.frames.proofs.area.put_digits.Goals as goal

pub returns : goal.returns
returns c =
    put_line c.args.out.now c.args.digits.now c.copy_from_slice.new.self c.args.at _ _
    c.copy_from_slice.ensures.after (omega arith) (search rules) (omega arith) (same_len_mid _ _ _ _ c.copy_from_slice.ensures.len)
