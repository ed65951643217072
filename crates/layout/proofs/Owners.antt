-- Each row has one owner.
use Rattle.std.proofs.Common.{◌≡◌, ℕ, ◌+◌, ◌-◌, ◌*◌, ◌/◌, ◌<◌, Bool, true, false, cond, ◌&&◌, ltb, Some, None, sym, refl, arith}
use Rattle.std.proofs.lemmas.Nat.{mul-add-lt, div-mul-add, div-add-mod', div_below, mod_below}
use Rattle.std.proofs.lemmas.Bool.{and_parts, ltb-true}
use Rattle.layout.specs.declared.sizes.Sizes.{Sizes}
use Rattle.layout.specs.declared.names.Kind.{Kind}
use Rattle.layout.specs.declared.names.Kind.TheVariants.{Vertex, Edge}
use Rattle.layout.specs.Layout.{IsRow}
use Rattle.layout.specs.Rows.{rows_each, row_at, Owns}
use Rattle.layout.specs.Laws.{Owner}

rows_each_pos : (s : Sizes) (k : Kind) → 0 < rows_each s k
rows_each_pos s Vertex = omega arith
rows_each_pos s Edge = omega arith

pub owner : (s : Sizes) (k : Kind) (r : ℕ) → IsRow s k r → Owner s k r
owner s k r h =
    let e : ℕ = rows_each s k in
    let p = rows_each_pos s k in
    let d = div-add-mod' (r - 1) (rows_each s k) in
    let m = mod_below (r - 1) (rows_each s k) p in
    record {
      worker = (r - 1) / rows_each s k;
      within = div_below (r - 1) (rows_each s k) s.workers p (omega arith);
      owns = record { from = omega arith; to = omega arith };
    }

-- the owner is the quotient
owner_is : (s : Sizes) (k : Kind) (w r : ℕ) → Owns s k w r → (r - 1) / rows_each s k ≡ w
owner_is s k w r o =
    let b : ℕ = r - 1 - w * rows_each s k in
    let e : w * rows_each s k + (r - 1 - w * rows_each s k) ≡ r - 1 = omega arith in
    rw e at (div-mul-add w (rows_each s k) (r - 1 - w * rows_each s k) (omega arith))

pub one_owner : (s : Sizes) (k : Kind) (w v r : ℕ) → Owns s k w r → Owns s k v r → w ≡ v
one_owner s k w v r a b = let x = owner_is s k w r a in let y = owner_is s k v r b in cc

own_if : (s : Sizes) (k : Kind) (w n r : ℕ) (b : Bool) → b ≡ (ltb w s.workers && ltb n (rows_each s k)) → cond b (Some (w * rows_each s k + n + 1)) None ≡ Some r → IsRow s k r × Owns s k w r
own_if s k w n r true t e =
    let p = and_parts (ltb w s.workers) (ltb n (rows_each s k)) (sym t) in
    let a : w < s.workers = ltb-true _ _ p.0 in
    let b : n < rows_each s k = ltb-true _ _ p.1 in
    let f : w * rows_each s k + n + 1 ≡ r = cc in
    ((omega arith, omega (arith, mul-add-lt w (rows_each s k) n s.workers a b)), record { from = omega arith; to = omega arith })
own_if s k w n r false t e = let z : ◌≡◌ {A = ℕ} 0 1 = cc in absurd (omega arith)

pub own_row : (s : Sizes) (k : Kind) (w n r : ℕ) → row_at s k w n ≡ Some r → IsRow s k r × Owns s k w r
own_row s k w n r e = own_if s k w n r _ refl e
