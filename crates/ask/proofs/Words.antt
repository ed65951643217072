-- The words of a text: whatever is left of it, there are words that come.
use Rattle.std.proofs.Common.{◌≡◌, ℕ, ◌<◌, not, Bool, true, false, List, [], ◌∷◌, ◌++◌, length, is_some, Option, Some, None, Result, refl, sym, subst, ap, inl, inr, ◌∙◌, arith, append_assoc, append-nil}
use Rattle.std.specs.Borrow.{Bor}
use Rattle.std.specs.Iterator.{Yields, DrainsIf}
use Rattle.std.specs.Char.{is_whitespace, is_not_whitespace}
use Rattle.std.specs.Str.{IsUtf8, NoCharPasses, EmptyOrStartsWithPassing}
use Rattle.std.specs.Str.Iter.{split_whitespace_rest, split_whitespace_steps}
use Rattle.std.specs.declared.str.SplitWhitespace.{SplitWhitespace}
use Rattle.std.proofs.Math.Utf8.{encode, encodes, scalars, scalar}
use Rattle.std.proofs.lemmas.Bool.{cases_Bool, and_parts}
use Rattle.std.proofs.lemmas.List.{map-append}
use Rattle.std.proofs.lemmas.Str.{NoCharPasses-nil, NoCharPasses-append, cons_from_encodes, encodes-append}
use Rattle.ask.specs.declared.fault.Fault.{Fault}
use Rattle.ask.specs.Sheets.{Held}
use Rattle.ask.specs.Lines.{Words, texts, ByWords, TakesWords, TakesLine}

-- the words that come, to the end
abbrev pub Comes : SplitWhitespace → Type 0
Comes s = (lent : List (Bor (List ℕ))) × DrainsIf split_whitespace_steps (Unit {0}) s lent

abbrev lent : List ℕ → Bor (List ℕ)
lent text = record { ref_ptr = (0, 0); now = text }

abbrev at : List ℕ → SplitWhitespace
at text = record { rest = lent text }

-- one character that fails a test
one : (p : ℕ → Bool) (c : ℕ) → p c ≡ false → NoCharPasses p (encode c)
one p c e = (c ∷ [], append-nil (encode c), (e, tt))

-- nothing but white space is left
blank : (s : SplitWhitespace) → NoCharPasses is_not_whitespace (split_whitespace_rest s) → Comes s
blank s none = ([], (s, refl, λ _. (s, (refl, none))))

-- a word comes, and then others
word : (s : SplitWhitespace) (gap w rest : List ℕ) → split_whitespace_rest s ≡ gap ++ (w ++ rest) → 0 < length w
    → NoCharPasses is_not_whitespace gap → NoCharPasses is_whitespace w → (more : List ℕ) → EmptyOrStartsWithPassing is_whitespace rest more → Comes (at rest) → Comes s
word s gap w rest e some blanks solid more next (words, drains) =
    (lent w ∷ words, (drains.0, (at rest, (gap, e, some, blanks, solid, (more, next)), drains.1), drains.2))

-- a gap and the front of a word are passed, and the characters cs are left
comes : (gap w cs : List ℕ) → scalars cs ≡ true → NoCharPasses is_not_whitespace gap → NoCharPasses is_whitespace w → (s : SplitWhitespace) → split_whitespace_rest s ≡ gap ++ (w ++ encodes cs) → Comes s
comes gap [] [] all blanks solid s e = blank s (subst (NoCharPasses is_not_whitespace) (sym (e ∙ append-nil gap)) blanks)
comes gap (a ∷ w) [] all blanks solid s e =
    word s gap (a ∷ w) [] e (omega arith) blanks solid [] (λ l. absurd (omega arith)) (blank (at []) (NoCharPasses-nil is_not_whitespace))
comes gap [] (c ∷ cs) all blanks solid s e =
    let (here, more) = and_parts (scalar c) (scalars cs) all in
    elim (cases_Bool (is_whitespace c)) [
      | inl t ↦ comes (gap ++ encode c) [] cs more (NoCharPasses-append is_not_whitespace gap (encode c) blanks (one is_not_whitespace c (ap not t))) solid s (e ∙ sym (append_assoc gap (encode c) (encodes cs)))
      | inr f ↦ comes gap (encode c) cs more blanks (one is_whitespace c f) s e
    ]
comes gap (a ∷ w) (c ∷ cs) all blanks solid s e =
    let (here, more) = and_parts (scalar c) (scalars cs) all in
    elim (cases_Bool (is_whitespace c)) [
      | inl t ↦ word s gap (a ∷ w) (encode c ++ encodes cs) e (omega arith) blanks solid (encodes cs) (λ l. (c, t, refl, here))
          (comes (encode c) [] cs more (one is_not_whitespace c (ap not t)) (NoCharPasses-nil is_whitespace) (at (encode c ++ encodes cs)) refl)
      | inr f ↦ comes gap (a ∷ (w ++ encode c)) cs more blanks (NoCharPasses-append is_whitespace (a ∷ w) (encode c) solid (one is_whitespace c f)) s
          (e ∙ ap (λ v. gap ++ (a ∷ v)) (sym (append_assoc w (encode c) (encodes cs))))
    ]

-- of a text there are words
pub all_come : (s : SplitWhitespace) → IsUtf8 (split_whitespace_rest s) → Comes s
all_come s (cs, (all, e)) = comes [] [] cs all (NoCharPasses-nil is_not_whitespace) (NoCharPasses-nil is_whitespace) s (sym e)

-- what a word leaves of a text is a text
after : (gs : List ℕ) (cs rest : List ℕ) → scalars cs ≡ true → encodes cs ≡ encodes gs ++ rest → IsUtf8 rest
after [] cs rest all e = (cs, (all, e))
after (g ∷ gs) cs rest all e =
    let first = cons_from_encodes cs (encodes gs ++ rest) g (e ∙ append_assoc (encode g) (encodes gs) rest) in
    after gs first.0 rest (and_parts (scalar g) (scalars first.0) (subst (λ v. scalars v ≡ true) first.1 all)).1 first.2

pub text_after : (s : SplitWhitespace) (x : Bor (List ℕ)) (t : SplitWhitespace) → split_whitespace_steps s (Some x) t → IsUtf8 (split_whitespace_rest s) → IsUtf8 (split_whitespace_rest t)
text_after s x t (gap, e, some, blanks, solid, next) (cs, (all, same)) =
    after (blanks.0 ++ solid.0) cs (split_whitespace_rest t) all
    (same ∙ e ∙ sym (ap (λ v. v ++ split_whitespace_rest t) (encodes-append blanks.0 solid.0 ∙ ap (λ v. v ++ encodes solid.0) blanks.1 ∙ ap (λ v. gap ++ v) solid.1) ∙ append_assoc gap x.now (split_whitespace_rest t)))

-- ---- what is said by words: none comes, one comes and then others, and any may come
module _ (P : Words → Type 0) where
  pub by_none : (s t : SplitWhitespace) → split_whitespace_steps s None t → P [] → ByWords s P
  by_none s t steps p = ([], (s, refl, λ _. (t, steps)), p)

  pub by_any : (s : SplitWhitespace) → IsUtf8 (split_whitespace_rest s) → ((more : Words) → P more) → ByWords s P
  by_any s text p = let (words, drains) = all_come s text in (words, drains, p (texts words))

  pub by_next : (s : SplitWhitespace) (x : Bor (List ℕ)) (t : SplitWhitespace) → split_whitespace_steps s (Some x) t → ByWords t (λ more. P (x.now ∷ more)) → ByWords s P
  by_next s x t steps (words, drains, p) = (x ∷ words, (drains.0, (t, steps, drains.1), drains.2), p)

-- after the words that came, others come
drains_after : (xs ys : List (Bor (List ℕ))) (s t : SplitWhitespace) → Yields split_whitespace_steps s xs t → DrainsIf split_whitespace_steps (Unit {0}) t ys → DrainsIf split_whitespace_steps (Unit {0}) s (xs ++ ys)
drains_after [] ys s t e drains = subst (λ j. DrainsIf split_whitespace_steps (Unit {0}) j ys) (sym e) drains
drains_after (x ∷ xs) ys s t (j, steps, more) drains = let d = drains_after xs ys j t more drains in (d.0, (j, steps, d.1), d.2)

texts_after : (xs ys : List (Bor (List ℕ))) → texts (xs ++ ys) ≡ texts xs ++ texts ys
texts_after xs ys = map-append (λ x. x.now) xs ys

pub by_came : (P : Words → Type 0) (xs : List (Bor (List ℕ))) (s t : SplitWhitespace) → Yields split_whitespace_steps s xs t → ByWords t (λ more. P (texts xs ++ more)) → ByWords s P
by_came P xs s t yields (words, drains, p) = (xs ++ words, drains_after xs words s t yields drains, subst P (sym (texts_after xs words)) p)

pub texts_push : (xs : List (Bor (List ℕ))) (x : Bor (List ℕ)) → texts (xs ++ (x ∷ [])) ≡ texts xs ++ (x.now ∷ [])
texts_push xs x = texts_after xs (x ∷ [])

pub text_came : (xs : List (Bor (List ℕ))) (s t : SplitWhitespace) → Yields split_whitespace_steps s xs t → IsUtf8 (split_whitespace_rest s) → IsUtf8 (split_whitespace_rest t)
text_came [] s t e text = subst (λ j. IsUtf8 (split_whitespace_rest j)) e text
text_came (x ∷ xs) s t (j, steps, more) text = text_came xs j t more (text_after s x j steps text)

-- whether a word comes is told by what the iterator gave
module _ (P : Words → Type 0) (s : SplitWhitespace) where
  pub by_nothing : (o : Option (Bor (List ℕ))) (t : SplitWhitespace) → split_whitespace_steps s o t → is_some o ≡ false → P [] → ByWords s P
  by_nothing None t steps e p = by_none P s t steps p
  by_nothing (Some x) t steps e p = absurd (let z : true ≡ false = e in cc)

  pub by_something : (o : Option (Bor (List ℕ))) (t : SplitWhitespace) → split_whitespace_steps s o t → is_some o ≡ true → IsUtf8 (split_whitespace_rest s) → ((w : List ℕ) (more : Words) → P (w ∷ more)) → ByWords s P
  by_something None t steps e text p = absurd (let z : false ≡ true = e in cc)
  by_something (Some x) t steps e text p = by_next P s x t steps (by_any (λ more. P (x.now ∷ more)) t (text_after s x t steps text) (p x.now))

-- a line is taken in by the words that come of it
pub takes_line : (old new : Held) (r : Result (Unit {0}) Fault) (line : List ℕ) (s : SplitWhitespace) → split_whitespace_rest s ≡ line → ByWords s (λ said. TakesWords old said new r) → TakesLine old line new r
takes_line old new r line s e (words, drains, inl wants) = inl wants
takes_line old new r line s e (words, drains, inr follows) = inr (texts words, (words, refl, s, e, drains), follows)
