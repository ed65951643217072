-- There is one entry that a key can have.
use Rattle.std.proofs.Common.{Some, None, refl, ap}
use Rattle.questions.specs.Measures.{Scale, Lawful}
use Rattle.questions.specs.Laws.{EntryFixed}

pub entry_fixed : {m : Scale} → Lawful m → EntryFixed m
entry_fixed law g s k (Some u) (Some v) a b =
    ap Some (law.same u v (let f = b.none_better a.walk in let z = a.value in cc) (let f = a.none_better b.walk in let z = b.value in cc))
entry_fixed law g s k (Some u) None a b = absurd (b a.walk)
entry_fixed law g s k None (Some v) a b = absurd (a b.walk)
entry_fixed law g s k None None a b = refl
