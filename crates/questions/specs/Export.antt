-- What the questions over the cells of a page answer, and the byte that a C program gets.
use Rattle.std.specs.Prelude.{◌≡◌, ℕ, if◌then◌else◌, List, Some, None, Option, Ok, Err, Result, ◌≢◌}
use Rattle.codes.specs.declared.refusal.Refusal.TheVariants.{SizeOutside}
use Rattle.questions.specs.declared.entry.Entry.{Entry}
use Rattle.questions.specs.declared.unanswered.Unanswered.{Unanswered}
use Rattle.questions.specs.declared.unanswered.Unanswered.TheVariants.{Refused}
use Rattle.questions.specs.Pages.{fits, shown}
use Rattle.questions.specs.Measures.{Scale}
use Rattle.questions.specs.Unanswered.{unanswered_code, unanswered}
use Rattle.questions.specs.Best.{Answered, AnsweredOr}
use Rattle.questions.specs.Entries.{GivesEntry}
use Rattle.questions.specs.Order.{Ordered}

-- cells that make no page are refused first
abbrev pub unanswered_on : List ℕ → ℕ → ℕ → ℕ → Option Unanswered
unanswered_on cells n start area = if fits cells n then unanswered n (shown cells n) start area else Some (Refused SizeOutside)

-- the area holds the entries in the form of C; a question that is not answered leaves it as it was
abbrev pub EntriesOr : Result (Unit {0}) Unanswered → Scale → List ℕ → ℕ → ℕ → List Entry → List Entry → Type 0
EntriesOr r m cells n s old new = AnsweredOr r GivesEntry m (shown cells n) n s old new

-- 0 for an answer, or the byte of the reason
abbrev pub byte_of : Option Unanswered → ℕ
byte_of None = 0
byte_of (Some u) = unanswered_code u

abbrev pub answer_byte : List ℕ → ℕ → ℕ → ℕ → ℕ
answer_byte cells n start area = byte_of (unanswered_on cells n start area)

abbrev pub result_byte : Result (Unit {0}) Unanswered → ℕ
result_byte (Ok u) = 0
result_byte (Err e) = unanswered_code e

-- the area and the count, where the byte is 0 and where it is not
pub record OrderedAt (r : ℕ) (cells : List ℕ) (n s : ℕ) (old new : List ℕ) (before after : ℕ) : Type 0 where
  pub answered : r ≡ 0 → Ordered (shown cells n) s after old new
  pub refused : (r ≢ 0) → (new ≡ old) × (after ≡ before)

pub record AnsweredAt (r : ℕ) (m : Scale) (cells : List ℕ) (n s : ℕ) (old new : List Entry) : Type 0 where
  pub answered : r ≡ 0 → Answered GivesEntry m (shown cells n) n s old new
  pub refused : (r ≢ 0) → new ≡ old
