-- Words read as numbers.
use Rattle.std.proofs.Common.{◌≡◌, ℕ, ◌<◌, ◌^◌, true, ◌&&◌, List, length, Some, Ok, Err, Result, refl, ap, inl, inr, arith, nat_lt}
use Rattle.std.specs.Result.{OkIff, result_ok}
use Rattle.std.specs.Str.{all_ascii_digits}
use Rattle.std.specs.Str.Parse.{IsNumeral, digits_value, without_leading_plus, ParsesUnsigned}
use Rattle.std.proofs.lemmas.Bool.{cases_Bool, and_parts}
use Rattle.std.proofs.lemmas.Bool.Decides.{nat_tests}
use Rattle.std.proofs.lemmas.Str.Parse.{IsNumeralModel, numerals_by_value, tells_all_ascii_digits}
use Rattle.ask.specs.Numbers.{is_numeral, numeral, number}

digits : IsNumeralModel (λ ds. all_ascii_digits ds ≡ true) (digits_value 10)
digits = numerals_by_value _ tells_all_ascii_digits

-- a numeral that fits passes both tests
passes : (bits : ℕ) (ds : List ℕ) → IsNumeral 10 ds → digits_value 10 ds < 2 ^ bits → (is_numeral ds && nat_lt (digits_value 10 ds) (2 ^ bits)) ≡ true
passes bits ds (some, all) small = let d = digits.from ds all in grind (arith, nat_tests)

shows : (bits : ℕ) (ds : List ℕ) → (is_numeral ds && nat_lt (digits_value 10 ds) (2 ^ bits)) ≡ true → IsNumeral 10 ds × (digits_value 10 ds < 2 ^ bits)
shows bits ds e =
    let (n, small) = and_parts (is_numeral ds) (nat_lt (digits_value 10 ds) (2 ^ bits)) e in
    let (some, all) = and_parts (nat_lt 0 (length ds)) (all_ascii_digits ds) n in
    ((grind (arith, nat_tests), digits.to ds all), grind (arith, nat_tests))

numeral_ok : {E : Type 0} (bits : ℕ) (ds : List ℕ) (r : Result ℕ E) → OkIff r (IsNumeral 10 ds × (digits_value 10 ds < 2 ^ bits)) (digits_value 10 ds) → result_ok r ≡ numeral bits ds
numeral_ok bits ds (Ok x) (p, e) = rw (passes bits ds p.0 p.1) (ap Some e)
numeral_ok bits ds (Err e) none = elim (cases_Bool (is_numeral ds && nat_lt (digits_value 10 ds) (2 ^ bits))) [
  | inl t ↦ absurd (none (shows bits ds t))
  | inr f ↦ rw f refl
]

pub number_ok : {E : Type 0} (bits : ℕ) (word : List ℕ) (r : Result ℕ E) → ParsesUnsigned bits 10 word r → result_ok r ≡ number bits word
number_ok bits word r parsed = numeral_ok bits (without_leading_plus word) r parsed
