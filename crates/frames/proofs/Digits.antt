-- The tables of digits.
use Rattle.std.proofs.Common.{◌≡◌, ℕ, ◌<◌, get_or, map, refl, ap, ◌∙◌, arith}
use Rattle.std.specs.Option.{unwrap_or}
use Rattle.std.specs.List.{range_with_len}
use Rattle.std.proofs.lemmas.List.FromFn.{get_or-map-range_with_len}
use Rattle.frames.specs.Hex.{digit_of, capital}
use Rattle.frames.specs.declared.hex.TheConstants.{VALUES, CAPITALS}

-- each entry, computed
values_are : VALUES ≡ map (λ c. unwrap_or (digit_of c) 256) (range_with_len 0 256)
values_are = refl

pub value_at : (i c : ℕ) → i ≡ c → c < 256 → get_or VALUES i 0 ≡ unwrap_or (digit_of c) 256
value_at i c e h =
    ap (λ vs. get_or vs i 0) values_are ∙ get_or-map-range_with_len (λ c. unwrap_or (digit_of c) 256) 0 256 i c 0 (omega arith) (omega arith)

capitals_are : CAPITALS ≡ map capital (range_with_len 0 16)
capitals_are = refl

pub capital_at : (i d : ℕ) → i ≡ d → d < 16 → get_or CAPITALS i 0 ≡ capital d
capital_at i d e h = ap (λ cs. get_or cs i 0) capitals_are ∙ get_or-map-range_with_len capital 0 16 i d 0 (omega arith) (omega arith)
