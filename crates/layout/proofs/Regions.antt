-- The cells lie in six regions, one after another; a name is a region and an offset in it.
use Rattle.std.proofs.Common.{◌≡◌, ℕ, zero, suc, ◌+◌, ◌-◌, ◌*◌, ◌<◌, ◌≤◌, cond, eqb, sym, refl, ap, ⊎_elim, arith}
use Rattle.std.proofs.lemmas.Nat.{mul-add-lt}
use Rattle.std.proofs.lemmas.Bool.{cases_order}
use Rattle.layout.specs.declared.sizes.Sizes.{Sizes}
use Rattle.layout.specs.declared.names.Kind.{Kind}
use Rattle.layout.specs.declared.names.Kind.TheVariants.{Vertex, Edge}
use Rattle.layout.specs.declared.names.Field.{Field}
use Rattle.layout.specs.declared.names.Field.TheVariants.{Ins, Del}
use Rattle.layout.specs.declared.names.Head.TheVariants as head
use Rattle.layout.specs.declared.names.Cell.{Cell}
use Rattle.layout.specs.declared.names.Cell.TheVariants as cell
use Rattle.layout.specs.Layout.{index_of, needed, Named, page_size, stamp_offset}
use Rattle.layout.specs.Rows.{rows_all}

abbrev pub size : Sizes → ℕ → ℕ
size s r =
    cond (eqb r 0) 1
    (cond (eqb r 1) s.keys
    (cond (eqb r 2) (s.keys * s.keys)
    (cond (eqb r 3) (3 * rows_all s Vertex)
    (cond (eqb r 4) (6 * rows_all s Edge) (s.workers * page_size s)))))

abbrev pub start : Sizes → ℕ → ℕ
start s zero = 0
start s (suc r) = start s r + size s r

abbrev pub row_region : Kind → ℕ
row_region Vertex = 3
row_region Edge = 4

abbrev pub region : Cell → ℕ
region cell.Clock = 0
region (cell.Head (head.Vertex i)) = 1
region (cell.Head (head.Edge i j)) = 2
region (cell.Older k r) = row_region k
region (cell.Stamp k f r) = row_region k
region (cell.Source r) = 4
region (cell.Target r) = 4
region (cell.Weight r) = 4
region (cell.PageKey w k) = 5
region (cell.PagePair w i j) = 5

abbrev pub row_width : Kind → ℕ
row_width Vertex = 3
row_width Edge = 6

abbrev pub offset : Sizes → Cell → ℕ
offset s cell.Clock = 0
offset s (cell.Head (head.Vertex i)) = i
offset s (cell.Head (head.Edge i j)) = i * s.keys + j
offset s (cell.Older k r) = (r - 1) * row_width k + 0
offset s (cell.Stamp k f r) = (r - 1) * row_width k + stamp_offset f
offset s (cell.Source r) = (r - 1) * 6 + 3
offset s (cell.Target r) = (r - 1) * 6 + 4
offset s (cell.Weight r) = (r - 1) * 6 + 5
offset s (cell.PageKey w k) = w * page_size s + k
offset s (cell.PagePair w i j) = w * page_size s + (s.keys + (i * s.keys + j))

pub stamp_offset_lt : (f : Field) → stamp_offset f < 3
stamp_offset_lt Ins = omega arith
stamp_offset_lt Del = omega arith

pub index_split : (s : Sizes) (c : Cell) → index_of s c ≡ start s (region c) + offset s c
index_split s cell.Clock = refl
index_split s (cell.Head (head.Vertex i)) = omega arith
index_split s (cell.Head (head.Edge i j)) = omega arith
index_split s (cell.Older Vertex r) = omega arith
index_split s (cell.Older Edge r) = omega arith
index_split s (cell.Stamp Vertex f r) = omega arith
index_split s (cell.Stamp Edge f r) = omega arith
index_split s (cell.Source r) = omega arith
index_split s (cell.Target r) = omega arith
index_split s (cell.Weight r) = omega arith
index_split s (cell.PageKey w k) = omega arith
index_split s (cell.PagePair w i j) = omega arith

pub offset_lt : (s : Sizes) (c : Cell) → Named s c → offset s c < size s (region c)
offset_lt s cell.Clock h = omega arith
offset_lt s (cell.Head (head.Vertex i)) h = h
offset_lt s (cell.Head (head.Edge i j)) h = mul-add-lt i s.keys j s.keys h.0 h.1
offset_lt s (cell.Older Vertex r) h = omega arith
offset_lt s (cell.Older Edge r) h = omega arith
offset_lt s (cell.Stamp Vertex f r) h = omega (arith, stamp_offset_lt f)
offset_lt s (cell.Stamp Edge f r) h = omega (arith, stamp_offset_lt f)
offset_lt s (cell.Source r) h = omega arith
offset_lt s (cell.Target r) h = omega arith
offset_lt s (cell.Weight r) h = omega arith
offset_lt s (cell.PageKey w k) h = omega (arith, mul-add-lt w (page_size s) k s.workers h.0 (omega arith))
offset_lt s (cell.PagePair w i j) h =
    let q : i * s.keys + j < s.keys * s.keys = mul-add-lt i s.keys j s.keys h.1 h.2 in
    omega (arith, mul-add-lt w (page_size s) (s.keys + (i * s.keys + j)) s.workers h.0 (omega arith))

suc_zero : (r : ℕ) → suc r + zero ≡ suc r
suc_zero r = omega arith

suc_suc : (r d : ℕ) → suc r + suc d ≡ suc (suc r + d)
suc_suc r d = omega arith

-- a region ends before each later one starts
start_later : (s : Sizes) (r d : ℕ) → start s r + size s r ≤ start s (suc r + d)
start_later s r zero = omega (arith, ap (start s) (suc_zero r))
start_later s r (suc d) = omega (arith, start_later s r d, ap (start s) (suc_suc r d))

pub same_region : (s : Sizes) (r o q p : ℕ) → o < size s r → p < size s q → start s r + o ≡ start s q + p → r ≡ q
same_region s r o q p h k e =
    ⊎_elim (λ (x : r ≡ q). x)
    (⊎_elim
    (λ (x : r < q). absurd (before r o q p h e x))
    (λ (x : q < r). absurd (before q p r o k (sym e) x)))
    (cases_order r q)
  where
    before : (r o q p : ℕ) → o < size s r → start s r + o ≡ start s q + p → r < q → ⊥
    before r o q p h e x =
        let g : start s r + size s r ≤ start s (suc r + (q - suc r)) = start_later s r (q - suc r) in
        let f : start s (suc r + (q - suc r)) ≡ start s q = ap (start s) (omega arith) in
        omega arith

region_lt : (c : Cell) → region c < 6
region_lt cell.Clock = omega arith
region_lt (cell.Head (head.Vertex i)) = omega arith
region_lt (cell.Head (head.Edge i j)) = omega arith
region_lt (cell.Older Vertex r) = omega arith
region_lt (cell.Older Edge r) = omega arith
region_lt (cell.Stamp Vertex f r) = omega arith
region_lt (cell.Stamp Edge f r) = omega arith
region_lt (cell.Source r) = omega arith
region_lt (cell.Target r) = omega arith
region_lt (cell.Weight r) = omega arith
region_lt (cell.PageKey w k) = omega arith
region_lt (cell.PagePair w i j) = omega arith

-- a name lies among the needed cells
pub index_lt : (s : Sizes) (c : Cell) → Named s c → index_of s c < needed s
index_lt s c h =
    let l : start s (region c) + size s (region c) ≤ start s (suc (region c) + (5 - region c)) = start_later s (region c) (5 - region c) in
    let six : suc (region c) + (5 - region c) ≡ 6 = omega (arith, region_lt c) in
    let e : start s (suc (region c) + (5 - region c)) ≡ start s 6 = ap (start s) six in
    let n : start s 6 ≡ needed s = omega arith in
    omega (arith, index_split s c, offset_lt s c h)
