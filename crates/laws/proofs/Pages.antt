-- What is written into a page changes cells of that page only.
use Rattle.std.proofs.Common.{◌≡◌, ℕ, zero, suc, ◌+◌, ◌-◌, ◌/◌, ◌%◌, ◌<◌, ◌≤◌, List, sym, refl, ◌∙◌, subst, ⊎_elim, mul_comm, arith}
use Rattle.std.proofs.lemmas.Nat.{div-add-mod', div_below, mod_below}
use Rattle.std.proofs.lemmas.Bool.{cases_lt}
use Rattle.layout.specs.declared.sizes.Sizes.{Sizes}
use Rattle.layout.specs.declared.names.Cell.{Cell}
use Rattle.layout.specs.declared.names.Cell.TheVariants as cell
use Rattle.layout.specs.Layout.{index_of, Named, page_start, page_size}
use Rattle.layout.proofs.Inverse.{same_name}
use Rattle.books.specs.declared.walked.Entry.{Entry}
use Rattle.books.specs.declared.walked.Entry.TheVariants as entry
use Rattle.machine.specs.Effects.{put, zeroed, entered}
use Rattle.machine.specs.Turns.{cell_at}
use Rattle.laws.specs.Changes.{OnPage}
use Rattle.laws.proofs.Puts.{Enough, enough_set, set_at_index, put_at}

-- a cell of worker w's page, by its place in the page
pub record PageCell (z : Sizes) (w o : ℕ) : Type 0 where
  pub name : Cell
  pub named : Named z name
  pub on : OnPage w name
  pub lies : index_of z name ≡ page_start z w + o

pub page_cell_lem : (z : Sizes) (w o : ℕ) → w < z.workers → o < page_size z → PageCell z w o
page_cell_lem z w o h l =
    ⊎_elim
    (λ (k : o < z.keys). record { name = cell.PageKey w o; named = (h, k); on = refl; lies = refl })
    (λ (k : z.keys ≤ o).
    let x : ℕ = o - z.keys in
    let i = div_below x z.keys z.keys (omega arith) (omega arith) in
    let j = mod_below x z.keys (omega arith) in
    record {
      name = cell.PagePair w (x / z.keys) (x % z.keys);
      named = (h, i, j);
      on = refl;
      lies = omega (arith, div-add-mod' x z.keys, mul_comm z.keys (x / z.keys));
    })
    (cases_lt o z.keys)

-- a named cell in the range of a page is a cell of that page
on_page : (z : Sizes) (w o : ℕ) (c : Cell) → w < z.workers → o < page_size z → Named z c → index_of z c ≡ page_start z w + o → OnPage w c
on_page z w o c h l n e =
    let p = page_cell_lem z w o h l in
    subst (OnPage w) (sym (same_name z c p.name n p.named (e ∙ sym p.lies))) p.on

enough_zeroed : (z : Sizes) (cs : List ℕ) (i n : ℕ) → Enough z cs → Enough z (zeroed cs i n)
enough_zeroed z cs i zero l = l
enough_zeroed z cs i (suc n) l = enough_set z (zeroed cs i n) (i + n) 0 (enough_zeroed z cs i n l)

zeroed_at : (z : Sizes) (P : ℕ → Type 0) (cs : List ℕ) (w n : ℕ) (c : Cell) → Named z c → Enough z cs → w < z.workers → n ≤ page_size z → (OnPage w c → (y : ℕ) → P y) → P (cell_at z cs c) → P (cell_at z (zeroed cs (page_start z w) n) c)
zeroed_at z P cs w zero c m l h k page there = there
zeroed_at z P cs w (suc n) c m l h k page there =
    set_at_index z P (zeroed cs (page_start z w) n) (page_start z w + n) 0 c m (enough_zeroed z cs (page_start z w) n l)
    (λ e. page (on_page z w n c h (omega arith) m e) 0)
    (zeroed_at z P cs w n c m l h (omega arith) page there)

-- an entry whose keys are keys
abbrev pub FitEntry : Sizes → Entry → Type 0
FitEntry z entry.Nothing = Unit {0}
FitEntry z entry.Clear = Unit {0}
FitEntry z (entry.Key k r) = k < z.keys
FitEntry z (entry.Pair i j x) = (i < z.keys) × (j < z.keys)
FitEntry z (entry.Join i j x r) = (i < z.keys) × (j < z.keys)

pub entered_at : (z : Sizes) (P : ℕ → Type 0) (cs : List ℕ) (w : ℕ) (e : Entry) (c : Cell) → Named z c → Enough z cs → w < z.workers → FitEntry z e → (OnPage w c → (y : ℕ) → P y) → P (cell_at z cs c) → P (cell_at z (entered z w cs e) c)
entered_at z P cs w entry.Nothing c m l h f page there = there
entered_at z P cs w entry.Clear c m l h f page there = zeroed_at z P cs w (page_size z) c m l h (omega arith) page there
entered_at z P cs w (entry.Key k r) c m l h f page there =
    put_at z P cs (cell.PageKey w k) c r m (h, f) l (λ e. page (subst (OnPage w) (sym e) refl) r) there
entered_at z P cs w (entry.Pair i j x) c m l h f page there =
    put_at z P cs (cell.PagePair w i j) c x m (h, f.0, f.1) l (λ e. page (subst (OnPage w) (sym e) refl) x) there
entered_at z P cs w (entry.Join i j x r) c m l h f page there =
    put_at z P (put z cs (cell.PagePair w i j) x) (cell.PageKey w j) c r m (h, f.1) (enough_set z cs _ x l)
    (λ e. page (subst (OnPage w) (sym e) refl) r)
    (put_at z P cs (cell.PagePair w i j) c x m (h, f.0, f.1) l (λ e. page (subst (OnPage w) (sym e) refl) x) there)

pub enough_entered : (z : Sizes) (cs : List ℕ) (w : ℕ) (e : Entry) → Enough z cs → Enough z (entered z w cs e)
enough_entered z cs w entry.Nothing l = l
enough_entered z cs w entry.Clear l = enough_zeroed z cs (page_start z w) (page_size z) l
enough_entered z cs w (entry.Key k r) l = enough_set z cs _ r l
enough_entered z cs w (entry.Pair i j x) l = enough_set z cs _ x l
enough_entered z cs w (entry.Join i j x r) l = enough_set z _ _ r (enough_set z cs _ x l)
