-- What the words of a line make of a sheet.
use Rattle.std.specs.Prelude.{◌≡◌, ℕ, ◌+◌, ◌*◌, Bool, true, if◌then◌else◌, ◌&&◌, ◌⊎◌, List, [], ◌∷◌, ◌++◌, map, bytes_eq, codes, is_some, slice_set, Some, None, Ok, Err, Option, Result, nat_lt, ⊤}
use Rattle.std.specs.Borrow.{Bor}
use Rattle.std.specs.Iterator.{DrainsIf}
use Rattle.std.specs.Option.{ok_or}
use Rattle.std.specs.Str.Iter.{split_whitespace_rest, split_whitespace_steps}
use Rattle.std.specs.declared.str.SplitWhitespace.{SplitWhitespace}
use Rattle.ask.specs.declared.fault.Fault.{Fault}
use Rattle.ask.specs.declared.fault.Fault.TheVariants.{Memory, Size, Reply, Key, Edge, Weight, Start, Word}
use Rattle.ask.specs.Numbers.{number, key_in, weight_in}
use Rattle.ask.specs.Replies.{is_reply, replied}
use Rattle.ask.specs.Sheets.{Drawing, Held, sized}

-- the words of a line
abbrev pub Words : Type 0
Words = List (List ℕ)

-- the texts that are lent
abbrev pub texts : List (Bor (List ℕ)) → Words
texts words = map (λ w. w.now) words

-- what `split_whitespace` gives for the line
abbrev pub IsWordsOf : List ℕ → Words → Type 0
IsWordsOf line words = (lent : List (Bor (List ℕ))) × (texts lent ≡ words) × (it : SplitWhitespace) × (split_whitespace_rest it ≡ line) × DrainsIf split_whitespace_steps ⊤ it lent

-- what is said of the words that are left to come
abbrev pub ByWords : SplitWhitespace → (Words → Type 0) → Type 0
ByWords it P = (lent : List (Bor (List ℕ))) × DrainsIf split_whitespace_steps ⊤ it lent × P (texts lent)

-- the first line is the number of keys, or a reply 84, and one word
abbrev pub opened : List ℕ → Words → Result Drawing Fault
opened word [] = if is_reply word then replied word else sized (number 64 word)
opened word (next ∷ more) = if is_reply word then Err Reply else Err Size

-- whether each word names a key
abbrev pub are_keys : ℕ → Words → Bool
are_keys n [] = true
are_keys n (word ∷ more) = is_some (key_in n word) && are_keys n more

-- the cells, once a key is shown
abbrev pub with_key : List ℕ → Option ℕ → List ℕ
with_key cells None = cells
with_key cells (Some k) = slice_set cells k 1

-- the cells, once each key is shown
abbrev pub with_keys : ℕ → List ℕ → Words → List ℕ
with_keys n cells [] = cells
with_keys n cells (word ∷ more) = with_keys n (with_key cells (key_in n word)) more

-- the cells, once each word's key is shown, if each names a key
abbrev pub shown_keys : ℕ → List ℕ → Words → Result (List ℕ) Fault
shown_keys n cells words = if are_keys n words then Ok (with_keys n cells words) else Err Key

-- `keys`: each key is shown
abbrev pub keys_line : Drawing → Words → Result Drawing Fault
keys_line d words = if are_keys d.keys words then Ok (record d { cells = with_keys d.keys d.cells words }) else Err Key

-- an edge from i to j; the last edge of a pair counts
abbrev pub with_edge : Drawing → Option ℕ → Option ℕ → Option ℕ → Result Drawing Fault
with_edge d (Some i) (Some j) (Some w) = if nat_lt i d.keys && nat_lt j d.keys then Ok (record d { cells = slice_set d.cells (d.keys + d.keys * i + j) w }) else Err Key
with_edge d (Some i) (Some j) None = Err Weight
with_edge d (Some i) None w = Err Key
with_edge d None j w = Err Key

-- `edge`: a key, a key and a weight
abbrev pub edge_line : Drawing → Words → Result Drawing Fault
edge_line d [] = Err Edge
edge_line d (i ∷ []) = Err Edge
edge_line d (i ∷ (j ∷ [])) = Err Edge
edge_line d (i ∷ (j ∷ (w ∷ []))) = with_edge d (number 64 i) (number 64 j) (weight_in w)
edge_line d (i ∷ (j ∷ (w ∷ (next ∷ more)))) = Err Edge

-- the words, if they are three
abbrev pub Three : Option (Bor (List ℕ) × Bor (List ℕ) × Bor (List ℕ)) → Words → Type 0
Three None words = (d : Drawing) → edge_line d words ≡ Err Edge
Three (Some (i, j, w)) words = words ≡ i.now ∷ (j.now ∷ (w.now ∷ []))

-- `start`: one key
abbrev pub start_line : Words → Result ℕ Fault
start_line [] = Err Start
start_line (k ∷ []) = ok_or (number 64 k) Key
start_line (k ∷ (next ∷ more)) = Err Start

-- the sheet with another page
abbrev pub with_page : Held → Result Drawing Fault → Result Held Fault
with_page h (Ok d) = Ok (record h { page = Some d })
with_page h (Err why) = Err why

-- the sheet with one more start
abbrev pub with_start : Held → Result ℕ Fault → Result Held Fault
with_start h (Ok k) = Ok (record h { starts = h.starts ++ k ∷ [] })
with_start h (Err why) = Err why

-- on a sheet with no page the line makes it
abbrev pub after_words : Held → Option Drawing → List ℕ → Words → Result Held Fault
after_words h None word more = with_page h (opened word more)
after_words h (Some d) word more =
    if bytes_eq word (codes "keys") then with_page h (keys_line d more)
    else if bytes_eq word (codes "edge") then with_page h (edge_line d more)
    else if bytes_eq word (codes "start") then with_start h (start_line more)
    else Err Word

-- a line with no word says nothing
abbrev pub after_line : Held → Words → Result Held Fault
after_line h [] = Ok h
after_line h (word ∷ more) = after_words h h.page word more

-- carried out, or refused with all as it was
abbrev pub Follows : {A : Type 0} → A → Result A Fault → A → Result (Unit {0}) Fault → Type 0
Follows old (Ok next) new r = (r ≡ Ok tt) × (new ≡ next)
Follows old (Err why) new r = (r ≡ Err why) × (new ≡ old)

-- no memory is left, and all is as it was
abbrev pub Wants : {A : Type 0} → A → A → Result (Unit {0}) Fault → Type 0
Wants old new r = (r ≡ Err Memory) × (new ≡ old)

-- words are carried out, unless no memory is left
abbrev pub TakesWords : Held → Words → Held → Result (Unit {0}) Fault → Type 0
TakesWords old words new r = Wants old new r ⊎ Follows old (after_line old words) new r

-- a line is carried out by its words, unless no memory is left
abbrev pub TakesLine : Held → List ℕ → Held → Result (Unit {0}) Fault → Type 0
TakesLine old line new r = Wants old new r ⊎ ((words : Words) × IsWordsOf line words × Follows old (after_line old words) new r)
