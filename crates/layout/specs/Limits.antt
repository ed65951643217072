-- The limits of the five sizes, and what making a set of sizes answers.
use Rattle.std.specs.Prelude.{ℕ, Bool, if◌then◌else◌, ◌&&◌, Ok, Err, Result, nat_le}
use Rattle.codes.specs.declared.refusal.Refusal.{Refusal}
use Rattle.codes.specs.declared.refusal.Refusal.TheVariants.{SizeOutside}
use Rattle.layout.specs.declared.sizes.Sizes.{Sizes}
use Rattle.layout.specs.declared.opening.Opening.{Opening}

abbrev pub between : ℕ → ℕ → ℕ → Bool
between low x high = nat_le low x && nat_le x high

abbrev pub lawful : ℕ → ℕ → ℕ → ℕ → ℕ → Bool
lawful n w a b t = between 1 n 64 && (between 1 w 8 && (between 1 a 256 && (between 1 b 2048 && between 1 t 1000000000)))

-- the five numbers of an opening
pub record Numbers : Type 0 where
  pub keys : ℕ
  pub workers : ℕ
  pub vrows : ℕ
  pub erows : ℕ
  pub top : ℕ

abbrev pub numbers_of : Result Sizes Refusal → Result Numbers Refusal
numbers_of (Ok z) = Ok (record { keys = z.keys; workers = z.workers; vrows = z.vrows; erows = z.erows; top = z.top })
numbers_of (Err e) = Err e

-- sizes within their limits are made as they are; others are refused
abbrev pub sized : ℕ → ℕ → ℕ → ℕ → ℕ → Result Numbers Refusal
sized n w a b t =
    if lawful n w a b t then Ok (record { keys = n; workers = w; vrows = a; erows = b; top = t })
    else Err SizeOutside

-- what an opening asks for
abbrev pub sized_as : Opening → Result Numbers Refusal
sized_as o = sized o.keys o.workers o.vrows o.erows o.top
