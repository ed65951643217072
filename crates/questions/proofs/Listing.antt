-- A key's neighbours are listed one by one, in the area and in the flags.
use Rattle.std.proofs.Common.{◌≡◌, ℕ, ◌+◌, ◌<◌, ◌≤◌, Bool, true, false, List, length, set, is_some, Some, None, Option, sym, refl, ◌∙◌, arith}
use Rattle.std.proofs.lemmas.Option.{none-some}
use Rattle.std.proofs.lemmas.List.{get_or-set_same, get_or-set_other, length-set}
use Rattle.questions.specs.Graph.{Graph, Inside}
use Rattle.questions.specs.Search.{flag}
use Rattle.questions.specs.Order.{key, Edge, Ordered}
use Rattle.questions.proofs.Counting.{lists_set, all_unlisted}
use Rattle.questions.proofs.Spreading.{Spread, complete, first, next, skip, join}

-- the key k, at the place h, is served as far as j; the area held xs₀ at first
pub record Serving (g : Graph) (n s h j : ℕ) (bs : List Bool) (xs : List ℕ) (c k : ℕ) (xs₀ : List ℕ) : Type 0 where
  pub spread : Spread g n s h j (flag bs) (key xs) c
  pub turn : h < c
  pub serves : k ≡ key xs h
  pub others : (p : ℕ) → c ≤ p → key xs p ≡ key xs₀ p
  pub area : length xs ≡ length xs₀

-- h keys of the list were served, in an area that held xs₀ at first
abbrev pub Served : Graph → ℕ → ℕ → ℕ → List Bool → List ℕ → ℕ → List ℕ → Type 0
Served g n s h bs xs c xs₀ = (h ≤ c) × Spread g n s h 0 (flag bs) (key xs) c × ((p : ℕ) → c ≤ p → key xs p ≡ key xs₀ p) × (length xs ≡ length xs₀)

pub is_edge : (o : Option ℕ) (b : Bool) → b ≡ is_some o → b ≡ true → (w : ℕ) × (o ≡ Some w)
is_edge None b e h = absurd (let z : false ≡ true = cc in grind arith)
is_edge (Some w) b e h = (w, refl)

pub no_edge : (o : Option ℕ) (b : Bool) → b ≡ is_some o → b ≡ false → (w : ℕ) → o ≡ Some w → ⊥
no_edge None b e h w f = none-some w f
no_edge (Some v) b e h w f = let z : true ≡ false = cc in grind arith

module _ (g : Graph) {n : ℕ} (inside : Inside g n) {s : ℕ} where
  -- the start is listed, and no key is served
  pub begun : s < n → (bs : List Bool) → n ≡ length bs → ((k : ℕ) → flag bs k ≡ false) → (xs ys : List ℕ) (c : ℕ) → 0 < length xs →
      ys ≡ set xs 0 s → c ≡ 1 → Served g n s 0 (set bs s true) ys c xs
  begun l bs all none xs ys c room at_0 one =
      rw (at_0, one) (
        omega arith,
        first g inside l none (lists_set bs s (omega arith)) (all_unlisted (flag bs) none n) (get_or-set_same xs 0 s 0 room),
        (λ p a. get_or-set_other xs 0 p s 0 (λ z. omega arith)),
        length-set xs 0 s,
      )

  -- a key is served once its edges to all keys were looked at
  pub turned : {h c k : ℕ} {bs : List Bool} {xs xs₀ : List ℕ} → Serving g n s h n bs xs c k xs₀ → Served g n s (h + 1) bs xs c xs₀
  turned q = ((let t = q.turn in omega arith), next g inside q.turn q.spread, q.others, q.area)

  -- once all keys are served, the list is complete
  pub complete_list : {h c : ℕ} (bs : List Bool) {xs xs₀ : List ℕ} → Served g n s h bs xs c xs₀ → c ≤ h → Ordered g s c xs₀ xs
  complete_list bs (below, spread, others, area) l = record { list = complete g inside spread l; others = others }

-- the area is the one that was lent
pub ended : {g : Graph} {s c : ℕ} {xs zs xs₀ : List ℕ} → zs ≡ xs → Ordered g s c xs₀ xs → Ordered g s c xs₀ zs
ended e o = rw e o

module _ (g : Graph) {n : ℕ} (inside : Inside g n) {s h j : ℕ} {bs : List Bool} {xs : List ℕ} {c k : ℕ} {xs₀ : List ℕ} (q : Serving g n s h j bs xs c k xs₀) where
  -- a key to which no edge leads, or which is listed, is passed over
  pub passed : (Edge g k j → flag bs j ≡ true) → Serving g n s h (j + 1) bs xs c k xs₀
  passed seen = record {
    spread = skip g inside q.spread (λ e. seen (e.0, (let t = e.1 in let u = q.serves in cc)));
    turn = q.turn;
    serves = q.serves;
    others = q.others;
    area = q.area;
  }

  -- another key to which an edge leads is listed
  pub newly : Edge g k j → j < length bs → flag bs j ≡ false → c < length xs → (ys : List ℕ) → ys ≡ set xs c j → (d : ℕ) → d ≡ c + 1 →
      (b : Bool) → b ≡ true → Serving g n s h (j + 1) (set bs j b) ys d k xs₀
  newly e l new fits ys at_c d more b marks = rw (at_c, more, marks) (record {
    spread = join g inside q.turn q.spread (e.0, (let t = e.1 in let u = q.serves in cc)) new (flag (set bs j true)) (lists_set bs j l) (key (set xs c j))
        (λ p a. apart p (omega arith)) (get_or-set_same xs c j 0 fits);
    turn = (let t = q.turn in omega arith);
    serves = q.serves ∙ sym (apart h q.turn);
    others = λ p a. (get_or-set_other xs c p j 0 (λ z. omega arith) ∙ q.others p (omega arith));
    area = length-set xs c j ∙ q.area;
  })
    where
      apart : (p : ℕ) → p < c → key (set xs c j) p ≡ key xs p
      apart p a = get_or-set_other xs c p j 0 (λ z. omega arith)
