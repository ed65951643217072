-- The book and the page of a worker as functions: what is shown, walked and queued.
use Rattle.std.proofs.Common.{◌≡◌, ℕ, zero, suc, ◌+◌, ◌<◌, ◌≢◌, Bool, true, false, cond, ◌&&◌, eqb, length, get_or, set, replicate, Some, is_some, unwrap_or, List, refl, sym, ap, ◌∙◌, subst, inl, inr, arith, length-set, get_or-set_same, get_or-set_other}
use Rattle.std.proofs.lemmas.Bool.{cases_eq, lt-ltb}
use Rattle.std.proofs.lemmas.Bool.Decides.{nat_tests}
use Rattle.layout.specs.Rows.{no_row}
use Rattle.books.specs.declared.book.Book.{Book}
use Rattle.books.specs.declared.book.KeyState.{KeyState}
use Rattle.books.specs.Books.{unknown, blank, shown_of, found_of, row_of, is_seen, with_row, joined}
use Rattle.walks.specs.Pages.{Page, clear}

-- a function changed at one number
abbrev pub put_at : {A : Type 0} → (ℕ → A) → ℕ → A → ℕ → A
put_at f x v y = cond (eqb y x) v (f y)

-- what holds of the new value there and of the old ones elsewhere holds of all
pub at_put : {A : Type 0} (P : ℕ → A → Type 0) (f : ℕ → A) (x : ℕ) (v : A) → P x v → ((y : ℕ) → y ≢ x → P y (f y)) → (y : ℕ) → P y (put_at f x v y)
at_put P f x v near far y = by_test (eqb y x) refl
  where
    by_test : (b : Bool) → eqb y x ≡ b → P y (cond b v (f y))
    by_test true e = (let q : x ≡ y = grind (arith, nat_tests) in subst (λ z. P z v) q near)
    by_test false e = far y (grind (arith, nat_tests))

-- two functions changed at one number
pub at_puts : {A B : Type 0} (P : ℕ → A → B → Type 0) (f : ℕ → A) (g : ℕ → B) (x : ℕ) (u : A) (v : B) → P x u v → ((y : ℕ) → y ≢ x → P y (f y) (g y)) → (y : ℕ) → P y (put_at f x u y) (put_at g x v y)
at_puts P f g x u v near far y = by_test (eqb y x) refl
  where
    by_test : (b : Bool) → eqb y x ≡ b → P y (cond b u (f y)) (cond b v (g y))
    by_test true e = (let q : x ≡ y = grind (arith, nat_tests) in subst (λ z. P z u v) q near)
    by_test false e = far y (grind (arith, nat_tests))

pub put_here : {A : Type 0} (f : ℕ → A) (x : ℕ) (v : A) → put_at f x v x ≡ v
put_here f x v = at_put (λ y z. y ≡ x → z ≡ v) f x v (λ e. refl) (λ y d e. absurd (d e)) x refl

pub put_there : {A : Type 0} (f : ℕ → A) (x : ℕ) (v : A) (y : ℕ) → y ≢ x → put_at f x v y ≡ f y
put_there f x v y = at_put (λ y z. y ≢ x → z ≡ f y) f x v (λ d. absurd (d refl)) (λ y d e. refl) y

pub record Draft : Type 0 where
  pub t : ℕ
  pub key : ℕ → ℕ
  pub pair : ℕ → ℕ → ℕ
  pub seen : ℕ → Bool
  pub row : ℕ → ℕ
  pub queue : ℕ → ℕ
  pub len : ℕ

abbrev pub draft_of : Book → Page → Draft
draft_of b p = record { t = b.t; key = shown_of b; pair = p.pair; seen = is_seen b; row = row_of b; queue = λ m. get_or b.queue m 0; len = b.len }

-- key k has had its walk
abbrev pub walk_in : Draft → ℕ → ℕ → Draft
walk_in d k r = record d { seen = put_at d.seen k true; row = put_at d.row k r }

-- key k joins
abbrev pub join_in : Draft → ℕ → Draft
join_in d k = record d { key = put_at d.key k (d.row k); queue = put_at d.queue d.len k; len = d.len + 1 }

-- the cell of a pair is filled
abbrev pub pair_in : Draft → ℕ → ℕ → ℕ → Draft
pair_in d i j x = record d { pair = λ k l. cond (eqb k i && eqb l j) x (d.pair k l) }

pub at_pair : (P : ℕ → ℕ → ℕ → Type 0) (d : Draft) (i j x : ℕ) → P i j x → ((k l : ℕ) → P k l (d.pair k l)) → (k l : ℕ) → P k l ((pair_in d i j x).pair k l)
at_pair P d i j x near far k l = by_test (eqb k i) (eqb l j) refl refl
  where
    by_test : (a b : Bool) → eqb k i ≡ a → eqb l j ≡ b → P k l (cond (a && b) x (d.pair k l))
    by_test true true e f =
        let q : i ≡ k = grind (arith, nat_tests) in
        let r : j ≡ l = grind (arith, nat_tests) in
        subst (λ z. P z l x) q (subst (λ z. P i z x) r near)
    by_test true false e f = far k l
    by_test false b e f = far k l

-- a list changed at one place
at_set : {A : Type 0} (P : ℕ → A → Type 0) (xs : List A) (i : ℕ) (v d : A) → i < length xs → P i v → ((j : ℕ) → j ≢ i → P j (get_or xs j d)) → (j : ℕ) → P j (get_or (set xs i v) j d)
at_set P xs i v d l near far j = elim (cases_eq j i) [
  | inl e ↦ subst (λ z. P z (get_or (set xs i v) z d)) (sym e) (rw (get_or-set_same xs i v d l) near)
  | inr e ↦ rw (get_or-set_other xs i j v d e) (far j e)
]

set_path : {A B : Type 0} (f : A → B) (xs : List A) (i : ℕ) (v d : A) → i < length xs → (j : ℕ) → f (get_or (set xs i v) j d) ≡ put_at (λ k. f (get_or xs k d)) i (f v) j
set_path f xs i v d l j = at_set (λ k x. f x ≡ put_at (λ m. f (get_or xs m d)) i (f v) k) xs i v d l (sym (put_here (λ m. f (get_or xs m d)) i (f v))) (λ k e. sym (put_there (λ m. f (get_or xs m d)) i (f v) k e)) j

-- a book with room for 64 keys, and a page that shows its keys
pub record Kept (b : Book) (p : Page) : Type 0 where
  pub keys : length b.keys ≡ 64
  pub queue : length b.queue ≡ 64
  pub page : (k : ℕ) → p.key k ≡ shown_of b k

-- the same shown row of the same key changes nothing
same_put : (f : ℕ → ℕ) (k j : ℕ) → put_at f k (f k) j ≡ f j
same_put f k j = at_put (λ y z. z ≡ f y) f k (f k) refl (λ y d. refl) j

-- of a blank book nothing is known
pub blank_key : (k m : ℕ) → get_or (replicate m unknown) k unknown ≡ unknown
blank_key k zero = refl
blank_key zero (suc m) = refl
blank_key (suc k) (suc m) = blank_key k m

pub kept_blank : (t : ℕ) → Kept (blank t) clear
kept_blank t = record { keys = refl; queue = refl; page = λ k. sym (ap (λ (s : KeyState). s.shown) (blank_key k 64)) }

module _ (b : Book) (p : Page) (k : ℕ) (h : Kept b p) (small : k < 64) where
  -- the state of a key that is set
  key_set : {B : Type 0} (f : KeyState → B) (s : KeyState) (j : ℕ) → f (get_or (set b.keys k s) j unknown) ≡ put_at (λ m. f (get_or b.keys m unknown)) k (f s) j
  key_set f s j = set_path f b.keys k s unknown (omega (arith, h.keys)) j

  pub draft_walked : (r : ℕ) → draft_of (with_row b k r) p ≡ walk_in (draft_of b p) k r
  draft_walked r = λ x. record {
    t = b.t;
    key = λ j. (key_set (λ s. s.shown) (record { shown = shown_of b k; found = Some r }) j ∙ same_put (shown_of b) k j) x;
    pair = p.pair;
    seen = λ j. (key_set (λ s. is_some s.found) (record { shown = shown_of b k; found = Some r }) j) x;
    row = λ j. (key_set (λ s. unwrap_or s.found no_row) (record { shown = shown_of b k; found = Some r }) j) x;
    queue = λ m. get_or b.queue m 0;
    len = b.len;
  }

  pub kept_walked : (r : ℕ) → Kept (with_row b k r) p
  kept_walked r = record {
    keys = length-set b.keys k (record { shown = shown_of b k; found = Some r }) ∙ h.keys;
    queue = h.queue;
    page = λ j. h.page j ∙ sym (key_set (λ s. s.shown) (record { shown = shown_of b k; found = Some r }) j ∙ same_put (shown_of b) k j);
  }

  module _ (room : b.len < 64) where
    abbrev joined_state : KeyState
    joined_state = record { shown = row_of b k; found = found_of b k }

    joined_is : joined b k ≡ record { t = b.t; keys = set b.keys k joined_state; queue = set b.queue b.len k; len = b.len + 1 }
    joined_is = rw (lt-ltb b.len 64 room)

    pub draft_joined : (q : Page) → q.pair ≡ p.pair → draft_of (joined b k) q ≡ join_in (draft_of b p) k
    draft_joined q e = rw (joined_is, e) (λ x. record {
      t = b.t;
      key = λ j. (key_set (λ s. s.shown) joined_state j) x;
      pair = p.pair;
      seen = λ j. (key_set (λ s. is_some s.found) joined_state j ∙ at_put (λ y z. z ≡ is_seen b y) (is_seen b) k (is_seen b k) refl (λ y d. refl) j) x;
      row = λ j. (key_set (λ s. unwrap_or s.found no_row) joined_state j ∙ same_put (row_of b) k j) x;
      queue = λ m. (set_path (λ z. z) b.queue b.len k 0 (omega (arith, h.queue)) m) x;
      len = b.len + 1;
    })

    pub kept_joined : (q : Page) → ((j : ℕ) → q.key j ≡ put_at p.key k (row_of b k) j) → Kept (joined b k) q
    kept_joined q e = rw joined_is (record {
      keys = length-set b.keys k joined_state ∙ h.keys;
      queue = length-set b.queue b.len k ∙ h.queue;
      page = λ j. e j ∙ at_puts (λ y z u. z ≡ u) p.key (shown_of b) k (row_of b k) (row_of b k) refl (λ y d. h.page y) j ∙ sym (key_set (λ s. s.shown) joined_state j);
    })
