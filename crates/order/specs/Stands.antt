-- Where a call that raised the clock stands among the changes, in every order that explains a past.
use Rattle.std.specs.Prelude.{◌≡◌, ℕ, ◌<◌, ◌≤◌, List, length, get_or, Contains}
use Rattle.questions.specs.Graph.{Graph}
use Rattle.order.specs.Past.{Past}
use Rattle.order.specs.Order.{changes, raises, stamping, OneOrder}

-- the call b stands before the call c
abbrev pub StandsBefore : List ℕ → ℕ → ℕ → Type 0
StandsBefore order b c = (i j : ℕ) × (i < j) × (j < length order) × (get_or order i b ≡ b) × (get_or order j c ≡ c)

-- a call that raised the clock from t stands after a change that counts with a stamp of t or less, and before one with a greater stamp
abbrev pub RaisesStand : Type 0
RaisesStand = (h : Past) (g : Graph) (order : List ℕ) → OneOrder h g order → (b c t n : ℕ) → Contains order b → Contains order c →
    stamping h b ≡ raises t → stamping h c ≡ changes n → (n ≤ t → StandsBefore order c b) × (t < n → StandsBefore order b c)
