-- The name of a cell, from its region and offset.
use Rattle.std.proofs.Common.{◌≡◌, ℕ, zero, suc, ◌+◌, ◌-◌, ◌*◌, ◌/◌, ◌%◌, ◌<◌, ◌≤◌, true, false, cond, ltb, sym, refl, ap, ◌∙◌, ⊎_elim, mul_comm, arith}
use Rattle.std.proofs.lemmas.Nat.{mul-add-lt, div-mul-add, mod-mul-add, div-add-mod', div_below, mod_below}
use Rattle.std.proofs.lemmas.Bool.{cases_lt, lt-ltb, le-ltb}
use Rattle.layout.specs.declared.sizes.Sizes.{Sizes}
use Rattle.layout.specs.declared.names.Kind.{Kind}
use Rattle.layout.specs.declared.names.Kind.TheVariants.{Vertex, Edge}
use Rattle.layout.specs.declared.names.Field.TheVariants.{Ins, Del}
use Rattle.layout.specs.declared.names.Head.TheVariants as head
use Rattle.layout.specs.declared.names.Cell.{Cell}
use Rattle.layout.specs.declared.names.Cell.TheVariants as cell
use Rattle.layout.specs.Layout.{index_of, needed, Named, IsRow, page_size, vertex_base, edge_base, page_base, row_start, page_start}
use Rattle.layout.specs.Rows.{rows_all}
use Rattle.layout.specs.Laws.{CellAt}
use Rattle.layout.proofs.Regions.{start, region, row_width, offset, index_split, offset_lt, same_region}

-- the cell at place p of a row
abbrev field_of : Kind → ℕ → ℕ → Cell
field_of k r zero = cell.Older k r
field_of k r (suc zero) = cell.Stamp k Ins r
field_of k r (suc (suc zero)) = cell.Stamp k Del r
field_of k r (suc (suc (suc zero))) = cell.Source r
field_of k r (suc (suc (suc (suc zero)))) = cell.Target r
field_of k r (suc (suc (suc (suc (suc p))))) = cell.Weight r

-- the cell at an offset in a page
abbrev page_cell : Sizes → ℕ → ℕ → Cell
page_cell s w o = cond (ltb o s.keys) (cell.PageKey w o) (cell.PagePair w ((o - s.keys) / s.keys) ((o - s.keys) % s.keys))

abbrev name_at : Sizes → ℕ → ℕ → Cell
name_at s zero o = cell.Clock
name_at s (suc zero) o = cell.Head (head.Vertex o)
name_at s (suc (suc zero)) o = cell.Head (head.Edge (o / s.keys) (o % s.keys))
name_at s (suc (suc (suc zero))) o = field_of Vertex (o / 3 + 1) (o % 3)
name_at s (suc (suc (suc (suc zero)))) o = field_of Edge (o / 6 + 1) (o % 6)
name_at s (suc (suc (suc (suc (suc r))))) o = page_cell s (o / page_size s) (o % page_size s)

-- a row's place, from its offset
row_is : (r w p : ℕ) → 1 ≤ r → p < w → ((r - 1) * w + p) / w + 1 ≡ r
row_is r w p h l = let d = div-mul-add (r - 1) w p l in omega arith

pub name_is : (s : Sizes) (c : Cell) → Named s c → name_at s (region c) (offset s c) ≡ c
name_is s cell.Clock h = refl
name_is s (cell.Head (head.Vertex i)) h = refl
name_is s (cell.Head (head.Edge i j)) h = let a = div-mul-add i s.keys j h.1 in let b = mod-mul-add i s.keys j h.1 in cc
name_is s (cell.Older Vertex r) h = rw (row_is r 3 0 h.0 (omega arith), mod-mul-add (r - 1) 3 0 (omega arith)) refl
name_is s (cell.Older Edge r) h = rw (row_is r 6 0 h.0 (omega arith), mod-mul-add (r - 1) 6 0 (omega arith)) refl
name_is s (cell.Stamp Vertex Ins r) h = rw (row_is r 3 1 h.0 (omega arith), mod-mul-add (r - 1) 3 1 (omega arith)) refl
name_is s (cell.Stamp Vertex Del r) h = rw (row_is r 3 2 h.0 (omega arith), mod-mul-add (r - 1) 3 2 (omega arith)) refl
name_is s (cell.Stamp Edge Ins r) h = rw (row_is r 6 1 h.0 (omega arith), mod-mul-add (r - 1) 6 1 (omega arith)) refl
name_is s (cell.Stamp Edge Del r) h = rw (row_is r 6 2 h.0 (omega arith), mod-mul-add (r - 1) 6 2 (omega arith)) refl
name_is s (cell.Source r) h = rw (row_is r 6 3 h.0 (omega arith), mod-mul-add (r - 1) 6 3 (omega arith)) refl
name_is s (cell.Target r) h = rw (row_is r 6 4 h.0 (omega arith), mod-mul-add (r - 1) 6 4 (omega arith)) refl
name_is s (cell.Weight r) h = rw (row_is r 6 5 h.0 (omega arith), mod-mul-add (r - 1) 6 5 (omega arith)) refl
name_is s (cell.PageKey w k) h =
    let a = div-mul-add w (page_size s) k (omega arith) in
    let b = mod-mul-add w (page_size s) k (omega arith) in
    let t : ltb k s.keys ≡ true = lt-ltb k s.keys h.1 in
    rw (a, b, t) refl
name_is s (cell.PagePair w i j) h =
    let q : i * s.keys + j < s.keys * s.keys = mul-add-lt i s.keys j s.keys h.1 h.2 in
    let a = div-mul-add w (page_size s) (s.keys + (i * s.keys + j)) (omega arith) in
    let b = mod-mul-add w (page_size s) (s.keys + (i * s.keys + j)) (omega arith) in
    let t : ltb (s.keys + (i * s.keys + j)) s.keys ≡ false = le-ltb _ _ (omega arith) in
    let m : s.keys + (i * s.keys + j) - s.keys ≡ i * s.keys + j = omega arith in
    let x = div-mul-add i s.keys j h.2 in
    let y = mod-mul-add i s.keys j h.2 in
    rw (a, b, t, m, x, y) refl

-- two names of one cell are the same name
pub same_name : (s : Sizes) (c d : Cell) → Named s c → Named s d → index_of s c ≡ index_of s d → c ≡ d
same_name s c d h k e =
    let f : start s (region c) + offset s c ≡ start s (region d) + offset s d = sym (index_split s c) ∙ e ∙ index_split s d in
    let r : region c ≡ region d = same_region s (region c) (offset s c) (region d) (offset s d) (offset_lt s c h) (offset_lt s d k) f in
    let o : offset s c ≡ offset s d = omega (arith, ap (start s) r) in
    sym (name_is s c h) ∙ ap (λ x. name_at s x (offset s c)) r ∙ ap (name_at s (region d)) o ∙ name_is s d k

-- a field of a row, by its place
row_field : (s : Sizes) (k : Kind) (r p i : ℕ) → IsRow s k r → p < row_width k → row_start s k r + p ≡ i → CellAt s i
row_field s k r zero i h l e = record { name = cell.Older k r; named = h; lies = omega arith }
row_field s k r (suc zero) i h l e = record { name = cell.Stamp k Ins r; named = h; lies = omega arith }
row_field s k r (suc (suc zero)) i h l e = record { name = cell.Stamp k Del r; named = h; lies = omega arith }
row_field s Vertex r (suc (suc (suc p))) i h l e = absurd (omega arith)
row_field s Edge r (suc (suc (suc zero))) i h l e = record { name = cell.Source r; named = h; lies = omega arith }
row_field s Edge r (suc (suc (suc (suc zero)))) i h l e = record { name = cell.Target r; named = h; lies = omega arith }
row_field s Edge r (suc (suc (suc (suc (suc zero))))) i h l e = record { name = cell.Weight r; named = h; lies = omega arith }
row_field s Edge r (suc (suc (suc (suc (suc (suc p)))))) i h l e = absurd (omega arith)

-- a square's place as row and column
pair_below : (n x : ℕ) → 0 < n → x < n * n → (x / n < n) × (x % n < n) × (n * (x / n) + x % n ≡ x)
pair_below n x p h = (div_below x n n p h, mod_below x n p, omega (arith, div-add-mod' x n, mul_comm n (x / n)))

page_cell_lem : (s : Sizes) (w o i : ℕ) → w < s.workers → o < page_size s → page_start s w + o ≡ i → CellAt s i
page_cell_lem s w o i h l e =
    ⊎_elim
    (λ (k : o < s.keys). record { name = cell.PageKey w o; named = (h, k); lies = e })
    (λ (k : s.keys ≤ o).
    let x : ℕ = o - s.keys in
    let p = pair_below s.keys x (omega arith) (omega arith) in
    record { name = cell.PagePair w (x / s.keys) (x % s.keys); named = (h, p.0, p.1); lies = omega (arith, p.2) })
    (cases_lt o s.keys)

-- every needed cell has a name
pub cell_at : (s : Sizes) (i : ℕ) → i < needed s → CellAt s i
cell_at s i h =
    ⊎_elim (λ (l : i < 1). record { name = cell.Clock; named = tt; lies = omega arith })
    (λ (l : 1 ≤ i).
    ⊎_elim (λ (m : i < 1 + s.keys). record { name = cell.Head (head.Vertex (i - 1)); named = omega arith; lies = omega arith })
    (λ (m : 1 + s.keys ≤ i).
    ⊎_elim (λ (n : i < vertex_base s). pairs (pair_below s.keys (i - (1 + s.keys)) (omega arith) (omega arith)) m)
    (λ (n : vertex_base s ≤ i).
    ⊎_elim (λ (o : i < edge_base s). vertices (i - vertex_base s) (omega arith) (omega arith))
    (λ (o : edge_base s ≤ i).
    ⊎_elim (λ (p : i < page_base s). edges (i - edge_base s) (omega arith) (omega arith))
    (λ (p : page_base s ≤ i). pages (i - page_base s) (omega arith) (omega arith))
    (cases_lt i (page_base s)))
    (cases_lt i (edge_base s)))
    (cases_lt i (vertex_base s)))
    (cases_lt i (1 + s.keys)))
    (cases_lt i 1)
  where
    pairs : (let x = i - (1 + s.keys) in (x / s.keys < s.keys) × (x % s.keys < s.keys) × (s.keys * (x / s.keys) + x % s.keys ≡ x)) → 1 + s.keys ≤ i → CellAt s i
    pairs p l =
        let x : ℕ = i - (1 + s.keys) in
        record { name = cell.Head (head.Edge (x / s.keys) (x % s.keys)); named = (p.0, p.1); lies = omega (arith, p.2) }

    vertices : (x : ℕ) → x < 3 * rows_all s Vertex → vertex_base s + x ≡ i → CellAt s i
    vertices x l e = row_field s Vertex (x / 3 + 1) (x % 3) i (omega arith, omega arith) (omega arith) (omega arith)

    edges : (x : ℕ) → x < 6 * rows_all s Edge → edge_base s + x ≡ i → CellAt s i
    edges x l e = row_field s Edge (x / 6 + 1) (x % 6) i (omega arith, omega arith) (omega arith) (omega arith)

    pages : (x : ℕ) → x < s.workers * page_size s → page_base s + x ≡ i → CellAt s i
    pages x l e =
        let b = div_below x (page_size s) s.workers (omega arith) l in
        page_cell_lem s (x / page_size s) (x % page_size s) i b (mod_below x (page_size s) (omega arith)) (omega (arith, div-add-mod' x (page_size s)))
