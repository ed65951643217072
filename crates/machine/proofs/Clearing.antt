-- Clearing one cell after another makes the cells of an opening.
use Rattle.std.proofs.Common.{◌≡◌, ℕ, zero, suc, ◌+◌, ◌<◌, ◌≤◌, List, [], ◌∷◌, ◌++◌, length, get_or, drop, set, replicate, sym, ap, ◌∙◌, refl, add-one, zero-add, arith, rules}
use Rattle.std.proofs.lemmas.List.{drop_more, set_at, length-replicate, append_assoc, replicate_more}
use Rattle.machine.specs.Effects.{zeroed}
use Rattle.layout.specs.declared.sizes.Sizes.{Sizes}
use Rattle.layout.specs.Layout.{needed}
use Rattle.machine.specs.Opening.{cleared, opened_cells}

cleared_more : (cs : List ℕ) (i : ℕ) → i < length cs → set (cleared i cs) i 0 ≡ cleared (i + 1) cs
cleared_more cs i h =
    ap (λ (ys : List ℕ). set (replicate i 0 ++ ys) i 0) (drop_more cs i 0 h)
    ∙ set_at (replicate i 0) (get_or cs i 0) (drop (i + 1) cs) 0 i (length-replicate i 0)
    ∙ sym (append_assoc (replicate i 0) (0 ∷ []) (drop (i + 1) cs))
    ∙ ap (λ (xs : List ℕ). xs ++ drop (i + 1) cs) (replicate_more i 0)

zeroed_cleared : (cs : List ℕ) (n : ℕ) → n ≤ length cs → zeroed cs 0 n ≡ cleared n cs
zeroed_cleared cs zero h = refl
zeroed_cleared cs (suc n) h =
    ap (λ ys. set ys (0 + n) 0) (zeroed_cleared cs n (omega arith))
    ∙ ap (λ k. set (cleared n cs) k 0) (zero-add n)
    ∙ cleared_more cs n (omega arith)
    ∙ ap (λ k. cleared k cs) (add-one n)

pub zeroed_opened : (cs : List ℕ) (z : Sizes) → needed z ≤ length cs → set (zeroed cs 0 (needed z)) 0 1 ≡ opened_cells cs z
zeroed_opened cs z h = search (rules, zeroed_cleared)
