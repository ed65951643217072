-- Copying cells one after another.
use Rattle.std.proofs.Common.{◌≡◌, ℕ, ◌+◌, ◌<◌, List, [], ◌∷◌, ◌++◌, length, get_or, set, take, drop, sym, ap, ◌∙◌, arith}
use Rattle.std.proofs.lemmas.List.{take_more, take_more_set, take_all, get_or-drop, length-drop}

pub copied_more : (cs out : List ℕ) (start k x : ℕ) → k < length out → start + k < length cs → x ≡ get_or cs (start + k) 0 → take k out ≡ take k (drop start cs) → take (k + 1) (set out k x) ≡ take (k + 1) (drop start cs)
copied_more cs out start k x l m e t =
    take_more_set out k x l
    ∙ ap (λ (ys : List ℕ). ys ++ x ∷ []) t
    ∙ ap (λ (y : ℕ). take k (drop start cs) ++ y ∷ []) (e ∙ sym (get_or-drop start cs k 0))
    ∙ sym (take_more (drop start cs) k 0 (simp length-drop (omega arith)))

pub copied_all : (cs out : List ℕ) (start k n : ℕ) → k ≡ length out → n ≡ length out → take k out ≡ take k (drop start cs) → out ≡ take n (drop start cs)
copied_all cs out start k n e f t = sym (take_all k out (omega arith)) ∙ t ∙ ap (λ i. take i (drop start cs)) (e ∙ sym f)
