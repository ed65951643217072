-- One reply has one code.
use Rattle.std.proofs.Common.{◌≡◌, Ok, Err, Result, refl}
use Rattle.codes.specs.declared.refusal.Refusal.{Refusal}
use Rattle.machine.specs.Requests.{done_or}
use Rattle.session.specs.Answers.{code_of}

pub code_of_same : {X Y : Type 0} (r : Result X Refusal) (x : Result Y Refusal) → done_or r ≡ done_or x → code_of r ≡ code_of x
code_of_same (Ok a) (Ok b) e = refl
code_of_same (Ok a) (Err b) e = cc
code_of_same (Err a) (Ok b) e = cc
code_of_same (Err a) (Err b) e = cc
