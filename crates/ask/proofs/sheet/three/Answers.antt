use Rattle.std.proofs.Common.{◌≡◌, Err, [], ◌∷◌, refl}
use Rattle.ask.specs.declared.fault.Fault.TheVariants.{Edge}
use Rattle.ask.specs.Sheets.{Drawing}
use Rattle.ask.specs.Lines.{Words, edge_line}
use Rattle.ask.proofs.Words.{by_none, by_any, by_next, text_after}
use Rattle.ask.proofs.sheet.three.Goals as goal
use Rattle.ask.proofs.sheet.three.Goals.{in_default-via-in-Some+in-Some+in-Some+in_default, in_default-via-in-Some+in-Some+in_default, in_default-via-in-Some+in_default, in_default-via-in_default}

abbrev NoEdge : Words → Type 0
NoEdge said = (d : Drawing) → edge_line d said ≡ Err Edge

-- four words came, or fewer than three
pub returns-in_default : goal.returns-in_default
returns-in_default c =
    let s = c.args.words in let t = c.next.new.self in let u = c.next-2.new.self in let v = c.next-3.new.self in let e = c.next-4.new.self in
    elim c.in_default.branch [
      | in_default-via-in-Some+in-Some+in-Some+in_default w ↦
          let h = w.in_default in let i = h.field-0-0 in let j = h.field-0-1 in let k = h.field-0-2 in let next = h.field-0-3 in
          let text = text_after v next e h.ensures'''.steps (text_after u k v h.ensures''.steps (text_after t j u h.ensures'.steps (text_after s i t h.ensures.steps c.well_formed.0.1.1.0.1))) in
          by_next NoEdge s i t h.ensures.steps
          (by_next (λ more. NoEdge (i.now ∷ more)) t j u h.ensures'.steps
          (by_next (λ more. NoEdge (i.now ∷ (j.now ∷ more))) u k v h.ensures''.steps
          (by_next (λ more. NoEdge (i.now ∷ (j.now ∷ (k.now ∷ more)))) v next e h.ensures'''.steps
          (by_any (λ more. NoEdge (i.now ∷ (j.now ∷ (k.now ∷ (next.now ∷ more))))) e text (λ more d. refl)))))
      | in_default-via-in-Some+in-Some+in_default w ↦
          let h = w.in_default in let i = h.field-0-0 in let j = h.field-0-1 in
          by_next NoEdge s i t h.ensures.steps
          (by_next (λ more. NoEdge (i.now ∷ more)) t j u h.ensures'.steps
          (by_none (λ more. NoEdge (i.now ∷ (j.now ∷ more))) u v h.ensures''.steps (λ d. refl)))
      | in_default-via-in-Some+in_default w ↦
          let h = w.in_default in let i = h.field-0-0 in
          by_next NoEdge s i t h.ensures.steps (by_none (λ more. NoEdge (i.now ∷ more)) t u h.ensures'.steps (λ d. refl))
      | in_default-via-in_default w ↦ by_none NoEdge s t w.in_default.ensures.steps (λ d. refl)
    ]

-- three words came
pub returns : goal.returns
returns c =
    let s = c.args.words in let t = c.next.new.self in let u = c.next-2.new.self in let v = c.next-3.new.self in
    let h = c.in-Some-Some-Some-None in let i = h.a in let j = h.b in let k = h.c in
    let all : Words = i.now ∷ (j.now ∷ (k.now ∷ [])) in
    by_next (λ said. said ≡ all) s i t h.ensures.steps
    (by_next (λ more. i.now ∷ more ≡ all) t j u h.ensures'.steps
    (by_next (λ more. i.now ∷ (j.now ∷ more) ≡ all) u k v h.ensures''.steps
    (by_none (λ more. i.now ∷ (j.now ∷ (k.now ∷ more)) ≡ all) v c.next-4.new.self h.ensures'''.steps refl)))
