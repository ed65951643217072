-- A key of a snapshot, or the start of a reach, has had its walk.
use Rattle.std.proofs.Common.{◌≡◌, ℕ, ◌+◌, ◌<◌, ◌≤◌, true, refl, sym, ap, ◌∙◌, inl, inr, arith}
use Rattle.std.proofs.lemmas.Bool.{cases_lt}
use Rattle.layout.specs.Rows.{no_row}
use Rattle.layout.specs.declared.names.Head.TheVariants as head
use Rattle.places.specs.declared.place.Survey.TheVariants.{Snapshot, Reach}
use Rattle.books.specs.declared.book.Book.{Book}
use Rattle.books.specs.Books.{row_of, with_row}
use Rattle.books.specs.Walked.{walked_joined}
use Rattle.walks.specs.Courses.{Course, Laws}
use Rattle.walks.specs.Visible.{Found}
use Rattle.walks.specs.Pages.{Page, with_key}
use Rattle.walks.proofs.Drafts.{put_at, at_put, at_puts, put_here, Draft, draft_of, walk_in, join_in, Kept, draft_walked, kept_walked, draft_joined, kept_joined}
use Rattle.walks.proofs.Known.{stay, Joined, Serving, Rising, Fresh}
use Rattle.walks.proofs.Counts.{shown_more, shown_none}

module _ (c : Course) (n : ℕ) (law : Laws c n) (some_key : 0 < n) (few : n ≤ 64) (k : ℕ) (b : Book) (p : Page) (kept : Kept b p) where
  abbrev d : Draft
  d = draft_of b p

  -- key i has had its walk, which found row r, and joins
  module _ (i r : ℕ) (small : i < n) (room : b.len < 64) where
    abbrev pub book : Book
    book = walked_joined b i r

    abbrev pub page : Page
    page = with_key p i r

    abbrev pub draft : Draft
    draft = join_in (walk_in d i r) i

    small_key : i < 64
    small_key = omega arith

    pub draft_is : draft_of book page ≡ draft
    draft_is =
        draft_joined (with_row b i r) p i (kept_walked b p i kept small_key r) small_key room page refl
        ∙ ap (λ a. join_in a i) (draft_walked b p i kept small_key r)

    row_is : row_of (with_row b i r) i ≡ r
    row_is = ap (λ (a : Draft). a.row i) (draft_walked b p i kept small_key r) ∙ put_here d.row i r

    pub kept_book : Kept book page
    kept_book =
        kept_joined (with_row b i r) p i (kept_walked b p i kept small_key r) small_key room page
        (λ j. rw row_is refl)

    pub raise_is : book.t ≡ b.t
    raise_is = ap (λ (a : Draft). a.t) draft_is

    pub length_is : book.len ≡ b.len + 1
    length_is = ap (λ (a : Draft). a.len) draft_is

    -- what the page shows of the key
    key_here : draft.key i ≡ r
    key_here = put_here d.key i (put_at d.row i r i) ∙ put_here d.row i r

    -- in a snapshot
    pub rising : Rising c n k d i → Found c b.t k (head.Vertex i) r → Rising c n k draft (i + 1)
    rising h f = record {
      rows = at_put (λ j w. j < i + 1 → Found c b.t k (head.Vertex j) w) d.key i (put_at d.row i r i) (λ a. rw (put_here d.row i r) f) (λ j e a. h.rows j (omega arith));
      rest = at_put (λ j w. i + 1 ≤ j → w ≡ no_row) d.key i (put_at d.row i r i) (λ a. absurd (omega arith)) (λ j e a. h.rest j (omega arith));
      bare = h.bare;
      seen = λ j a. (
        at_put (λ j w. j < i + 1 → w ≡ true) d.seen i true (λ a. refl) (λ j e a. (h.seen j (omega arith)).0) j a,
        at_puts (λ j y w. j < i + 1 → y ≡ w) d.key d.row i (put_at d.row i r i) r (λ a. put_here d.row i r) (λ j e a. (h.seen j (omega arith)).1) j a,
      );
      len = omega (arith, h.len);
      queued = at_put (λ m q. m < i + 1 → q ≡ m) d.queue d.len i (λ a. sym h.len) (λ m e a. h.queued m (omega (arith, h.len)));
    }

    -- after the last key of a snapshot the pairs are served
    pub all_keys : (e : Draft) → Rising c n k e n → Serving c n k Snapshot e 0
    all_keys e h = record {
      rows = λ j a s. rw (sym ((h.seen j a).1)) (h.rows j a);
      joined = λ j z. elim (cases_lt j n) [
        | inl a ↦ record { small = a; seen = (h.seen j a).0; row = (h.seen j a).1; nth = j; within = omega (arith, h.len); queued = h.queued j a; reached = tt }
        | inr a ↦ absurd (omega (arith, h.rest j a))
      ];
      queued = λ m a. (let l : m < n = omega (arith, h.len) in rw (h.queued m l) l);
      mode = (omega (arith, h.len), h.queued, h.seen);
      cells = λ a j. inl (h.bare a j);
      served = λ y a m. absurd (omega arith);
    }

    -- the start of a reach
    pub starts : Fresh c n d → 0 < r → Found c b.t k (head.Vertex i) r → Serving c n k (Reach i) draft 0
    starts h z f = record {
      rows = at_puts (λ j y w. j < n → y ≡ true → Found c b.t k (head.Vertex j) w) d.seen d.row i true r (λ a e. f) (λ j e a q. absurd (grind (arith, h.unseen j)));
      joined =
          at_put (λ j w. 0 < w → Joined c n k (Reach i) draft j) d.key i (put_at d.row i r i)
          (λ o. record { small = small; seen = put_here d.seen i true; row = put_here d.key i (put_at d.row i r i); nth = d.len; within = omega arith; queued = put_here d.queue d.len i; reached = stay })
          (λ j e o. absurd (omega (arith, h.keys j)));
      queued = at_put (λ m q. m < d.len + 1 → q < n) d.queue d.len i (λ a. small) (λ m e a. absurd (omega (arith, h.len)));
      mode = (
        at_put (λ m q. m < d.len + 1 → 0 < draft.key q) d.queue d.len i (λ a. rw key_here z) (λ m e a. absurd (omega (arith, h.len))),
        rw key_here z,
        rw (shown_more d.key i (put_at d.row i r i) n small (h.keys i) (rw (put_here d.row i r) z)) (omega (arith, h.len, shown_none d.key n h.keys)),
      );
      cells = λ a j. inl (h.bare a j);
      served = λ y a m. absurd (omega arith);
    }
