use Rattle.std.proofs.Common.{[], ◌∷◌, ◌++◌, replicate, Ok, Err, refl, codes}
use Rattle.codes.specs.declared.refusal.Refusal.TheVariants.{SizeOutside}
use Rattle.machine.specs.Opening.{opened_state}
use Rattle.questions.proofs.Worked.{cases}
use Rattle.worked.specs.Openings.{two, least, one_row, most}
use Rattle.worked.specs.Table.{over, removal, removed, snapshot, snapshot_taken}
use Rattle.worked.proofs.Playing.{plays}
use Rattle.session.proofs.Keeping.{opening_keeps}
use Rattle.worked.proofs.table_stands.Goals as goal

pub returns : goal.returns
returns c = record {
  worked_session = (_, record { sizes = Ok two; made = refl; reply = refl; session = refl; promise = opening_keeps (over 4096) (Ok two) }, plays (opened_state (replicate 4096 0) two) (removal ++ snapshot) (removed ++ snapshot_taken) refl refl);
  equal_stamps =
      (_, record { sizes = Ok two; made = refl; reply = refl; session = refl; promise = opening_keeps (over 4096) (Ok two) }, plays (opened_state (replicate 4096 0) two) (removal ++ (codes "0300FF" ∷ [])) (removed ++ (codes "832007" ∷ [])) refl refl);
  most_sizes = refl;
  too_many_sizes = refl;
  most_keys = (_, record { sizes = Ok most; made = refl; reply = refl; session = refl; promise = opening_keeps (over 8330) (Ok most) }, tt);
  too_many_keys = (_, record { sizes = Err SizeOutside; made = refl; reply = refl; session = refl; promise = opening_keeps (over 8330) (Err SizeOutside) }, tt);
  fourteen = refl;
  thirteen_kept = refl;
  fourteen_opened = refl;
  thirteen_cells = (_, record { sizes = Ok least; made = refl; reply = refl; session = refl; promise = opening_keeps (over 13) (Ok least) }, tt);
  fourteen_cells = (_, record { sizes = Ok least; made = refl; reply = refl; session = refl; promise = opening_keeps (over 14) (Ok least) }, tt);
  weight_most = (_, record { sizes = Ok two; made = refl; reply = refl; session = refl; promise = opening_keeps (over 91) (Ok two) }, plays (opened_state (replicate 91 0) two) (codes "0200040001000F4240" ∷ []) (codes "8200" ∷ []) refl refl);
  weight_over = (_, record { sizes = Ok two; made = refl; reply = refl; session = refl; promise = opening_keeps (over 91) (Ok two) }, plays (opened_state (replicate 91 0) two) (codes "0200040001000F4241" ∷ []) (codes "82E7" ∷ []) refl refl);
  weight_zero = (_, record { sizes = Ok two; made = refl; reply = refl; session = refl; promise = opening_keeps (over 91) (Ok two) }, plays (opened_state (replicate 91 0) two) (codes "020004000100000000" ∷ []) (codes "82E7" ∷ []) refl refl);
  clock_spent = (_, record { sizes = Ok least; made = refl; reply = refl; session = refl; promise = opening_keeps (over 14) (Ok least) }, plays (opened_state (replicate 14 0) least) (codes "020007000000000000" ∷ (codes "0300FF" ∷ [])) (codes "8200" ∷ (codes "834101" ∷ [])) refl refl);
  rows_spent =
      (_, record { sizes = Ok one_row; made = refl; reply = refl; session = refl; promise = opening_keeps (over 22) (Ok one_row) }, plays (opened_state (replicate 22 0) one_row) (codes "020001000000000000" ∷ (codes "0300FF" ∷ (codes "020001010000000000" ∷ (codes "0300FF" ∷ [])))) (codes "8200" ∷ (codes "831006" ∷ (codes "8200" ∷ (codes "834002" ∷ [])))) refl refl);
  total = cases.total;
  weakest = cases.weakest;
}
