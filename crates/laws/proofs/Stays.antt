-- What a turn leaves as it was.
use Rattle.std.proofs.Common.{◌≡◌, ℕ, ◌+◌, ◌<◌, ◌≤◌, ◌⊎◌, inl, inr, ⊎_elim, Some, sym, refl, ◌∙◌, subst, arith}
use Rattle.std.proofs.lemmas.List.{get_or-set_other}
use Rattle.layout.specs.declared.names.Kind.{Kind}
use Rattle.layout.specs.declared.names.Kind.TheVariants.{Edge}
use Rattle.layout.specs.declared.names.Cell.{Cell}
use Rattle.layout.specs.declared.names.Cell.TheVariants as cell
use Rattle.layout.specs.Layout.{Named, IsRow}
use Rattle.layout.specs.Rows.{Owns}
use Rattle.layout.proofs.Owners.{one_owner}
use Rattle.places.specs.declared.place.Change.{Change}
use Rattle.places.specs.declared.place.Hand.{Hand}
use Rattle.places.specs.declared.place.Walk.{Walk}
use Rattle.places.specs.declared.place.Place.{Place}
use Rattle.places.specs.declared.place.Place.TheVariants as place
use Rattle.places.specs.declared.place.Purpose.{Purpose}
use Rattle.places.specs.declared.place.Purpose.TheVariants as purpose
use Rattle.places.specs.Moved.{Next, Next as next}
use Rattle.books.specs.declared.walked.Entry.TheVariants as entry
use Rattle.places.specs.declared.place.Stage.TheVariants.{Swap}
use Rattle.places.specs.Touches.{change_head, change_kind}
use Rattle.layout.specs.declared.names.Head.{Head}
use Rattle.layout.specs.declared.names.Field.{Field}
use Rattle.layout.specs.declared.names.Field.TheVariants.{Del}
use Rattle.machine.specs.States.{State}
use Rattle.machine.specs.Effects.{got_of, cells_after, entered}
use Rattle.machine.specs.Turns.{worker_at, cell_at, hand_at, touch_at, next_at, followed_at, turned}
use Rattle.machine.specs.Workers.{nobody, followed}
use Rattle.machine.specs.declared.worker.Worker.{Worker}
use Rattle.laws.specs.Fits.{FitPlaceBy, FitBy}
use Rattle.laws.specs.Changes.{OnPage, OfRow, Surveys, next_own, number_in, Changes, Changes.keeps, Changes.ticks, Changes.links, Changes.stamps, Changes.ends, Changes.fills, Changes.writes}
use Rattle.laws.specs.Laws.{Stays, TurnLawsBy, TurnsKeepLaws, TurnsKeepCounted}
use Rattle.laws.proofs.Pages.{entered_at}
use Rattle.laws.proofs.Follows.{AtWalk, Follows, follows}
use Rattle.laws.proofs.Entries.{entry_fits_by}
use Rattle.laws.proofs.Owned.{counted_row, next_own_lem, next_unused}
use Rattle.laws.proofs.Touched.{SettledBy, settled_by, touched_at, enough_after}

at_survey : (p : Place) (k : Walk) → AtWalk p k → Surveys p
at_survey (place.Settle st (purpose.Walk f j r)) k a = tt
at_survey (place.WalkHead j) k a = tt
at_survey (place.WalkOlder j r) k a = tt
at_survey p k a = absurd a

-- only a snapshot or reach enters something into its page
enters : (p : Place) (n : ℕ) (v : Worker) (h : Hand) (x : Next) → Follows p h x → ((followed n v h x).entry ≡ entry.Nothing) ⊎ Surveys p
enters p n v h (next.Moved o) a = inl refl
enters p n v h (next.Linked c r) a = inl refl
enters p n v h (next.Raised s t) a = inr (subst Surveys (sym a) tt)
enters p n v h (next.Walked k r) a = inr (at_survey p k a)

module _ {L : State → Kind → ℕ → Type 0} (s : State) (w : ℕ) (f : FitBy L s w) where
  linked_is_row : (k : Kind) (r : ℕ) → L s k r → IsRow s.sizes k r
  linked_is_row k r l = counted_row s k r (f.counted k r l)

  pub turn_changes : (c : Cell) → Named s.sizes c → Changes s w c (number_in s c) (number_in (turned s w) c)
  turn_changes c m =
      let touched = touched_at L s linked_is_row w c (worker_at s w).place refl m f.cells f.place in
      ⊎_elim (λ (e : (followed_at s w).entry ≡ entry.Nothing). subst (λ e. Changes s w c (number_in s c) (cell_at s.sizes (entered s.sizes w (cells_after s.sizes s.cells (touch_at s w)) e) c)) (sym e) touched)
      (λ (q : Surveys (worker_at s w).place).
      entered_at s.sizes (λ y. Changes s w c (number_in s c) y) (cells_after s.sizes s.cells (touch_at s w)) w (followed_at s w).entry c m
      (enough_after s.sizes s.cells (touch_at s w) f.cells) f.worker
      (entry_fits_by L s s.sizes.keys (worker_at s w) (hand_at s w) (got_of s.sizes s.cells (touch_at s w)) f.place)
      (λ o y. writes o q) touched)
      (enters (worker_at s w).place s.sizes.keys (worker_at s w) (hand_at s w) (next_at s w) (follows (worker_at s w).place (hand_at s w) (got_of s.sizes s.cells (touch_at s w))))

-- a cell is of a row or on a page, and not both
pub row_no_page : (k : Kind) (r v : ℕ) (c : Cell) → OfRow k r c → OnPage v c → ⊥
row_no_page k r v (cell.PageKey u i) a b = a
row_no_page k r v (cell.PagePair u i j) a b = a
row_no_page k r v c a b = b

same_row : (k l : Kind) (r q : ℕ) (c : Cell) → OfRow k r c → OfRow l q c → (k ≡ l) × (r ≡ q)
same_row k l r q (cell.Older x y) a b = (cc, cc)
same_row k l r q (cell.Stamp x f y) a b = (cc, cc)
same_row k l r q (cell.Source y) a b = (cc, cc)
same_row k l r q (cell.Target y) a b = (cc, cc)
same_row k l r q (cell.Weight y) a b = (cc, cc)
same_row k l r q c a b = absurd a

same_page : (v w : ℕ) (c : Cell) → OnPage v c → OnPage w c → v ≡ w
same_page v w (cell.PageKey u i) a b = cc
same_page v w (cell.PagePair u i j) a b = cc
same_page v w c a b = absurd a

-- a cell that holds no stamp
abbrev NoStamp : Cell → Type 0
NoStamp (cell.Stamp k f r) = ⊥
NoStamp c = Unit {0}

module _ {L : State → Kind → ℕ → Type 0} (s : State) (w : ℕ) (f : FitBy L s w) where
  -- what a worker settles or ends is a field of a linked row
  pub settled_of : (p : Purpose) (y : ℕ) → (worker_at s w).place ≡ place.Settle (Swap y) p → SettledBy L s p
  settled_of p y e = settled_by L s (linked_is_row s w f) p (subst (FitPlaceBy L s) e f.place)

  ended_of : (d : Change) (r : ℕ) → (worker_at s w).place ≡ place.End d r → L s (change_kind d) r
  ended_of d r e = let g : FitPlaceBy L s (place.End d r) = subst (FitPlaceBy L s) e f.place in g.1.linked

  -- a cell that a turn has no way to change
  pub record Safe (c : Cell) : Type 0 where
    pub no_clock : c ≡ cell.Clock → ⊥
    pub no_head : (h : Head) → c ≡ cell.Head h → ⊥
    pub no_field : (k : Kind) (g : Field) (r : ℕ) → c ≡ cell.Stamp k g r → L s k r → ⊥
    pub no_fill : (k : Kind) (r : ℕ) → next_own s w k ≡ Some r → OfRow k r c → ⊥
    pub no_page : OnPage w c → ⊥

  safe_stays : (c : Cell) (x y : ℕ) → Safe c → Changes s w c x y → y ≡ x
  safe_stays c x y n (keeps e) = e
  safe_stays c x y n (ticks v e i b q) = absurd (n.no_clock i)
  safe_stays c x y n (links d e i p) = absurd (n.no_head (change_head d) i)
  safe_stays c x y n (stamps p e i q) = let t = settled_of p y e in absurd (n.no_field t.kind t.field t.row (i ∙ t.is) t.linked)
  safe_stays c x y n (ends d r e i a b) = absurd (n.no_field (change_kind d) Del r i (ended_of d r e))
  safe_stays c x y n (fills k r p o b) = absurd (n.no_fill k r p o)
  safe_stays c x y n (writes o q) = absurd (n.no_page o)

  pub stays : (c : Cell) → Named s.sizes c → Safe c → Stays s w c
  stays c m n = safe_stays c (number_in s c) (number_in (turned s w) c) n (turn_changes s w f c m)

  -- the clock only ticks, and a head only moves to a row that is linked
  pub clock_changes : (x y : ℕ) → Changes s w cell.Clock x y → (y ≡ x) ⊎ ((x < s.sizes.top) × (y ≡ x + 1))
  clock_changes x y (keeps e) = inl e
  clock_changes x y (ticks v e i l q) = inr (l, q)
  clock_changes x y (links d e i q) = absurd cc
  clock_changes x y (stamps p e i q) = let t = settled_of p y e in absurd (cc (i ∙ t.is))
  clock_changes x y (ends d r e i a b) = absurd cc
  clock_changes x y (fills k r p o b) = absurd o
  clock_changes x y (writes o q) = absurd o

  clock_rises : (x y : ℕ) → Changes s w cell.Clock x y → x ≤ y
  clock_rises x y c = ⊎_elim (λ (e : y ≡ x). omega arith) (λ (e : (x < s.sizes.top) × (y ≡ x + 1)). omega arith) (clock_changes x y c)

  pub record HeadMoves (h : Head) (x y : ℕ) : Type 0 where
    pub change : Change
    pub at_link : (worker_at s w).place ≡ place.Link change x
    pub is : h ≡ change_head change
    pub own : next_own s w (change_kind change) ≡ Some y

  pub head_changes : (h : Head) (x y : ℕ) → Changes s w (cell.Head h) x y → (y ≡ x) ⊎ HeadMoves h x y
  head_changes h x y (keeps e) = inl e
  head_changes h x y (ticks v e i l q) = absurd cc
  head_changes h x y (links d e i q) = inr (record { change = d; at_link = e; is = cc; own = q })
  head_changes h x y (stamps p e i q) = let t = settled_of p y e in absurd (cc (i ∙ t.is))
  head_changes h x y (ends d r e i a b) = absurd cc
  head_changes h x y (fills k r p o b) = absurd o
  head_changes h x y (writes o q) = absurd o

  -- another worker's page
  page_safe : (v : ℕ) (c : Cell) → OnPage v c → ¬ (v ≡ w) → Safe c
  page_safe v c o n = record {
    no_clock = λ e. subst (OnPage v) e o;
    no_head = λ h e. subst (OnPage v) e o;
    no_field = λ k g r e l. subst (OnPage v) e o;
    no_fill = λ k r p a. row_no_page k r v c a o;
    no_page = λ a. n (same_page v w c o a);
  }

  -- a row of another worker that is not linked
  own_fill : (v : ℕ) (k l : Kind) (r q : ℕ) (c : Cell) → OfRow k r c → Owns s.sizes k v r → ¬ (v ≡ w) → next_own s w l ≡ Some q → OfRow l q c → ⊥
  own_fill v k l r q c o a n p b =
      let e = same_row k l r q c o b in
      let mine : Owns s.sizes k w r = subst (λ (x : Kind). Owns s.sizes x w r) (sym e.0) (subst (Owns s.sizes l w) (sym e.1) (next_own_lem s w l q p).1) in
      n (one_owner s.sizes k v w r a mine)

  linked_from : (k l : Kind) (r q : ℕ) → (k ≡ l) × (r ≡ q) → L s l q → L s k r
  linked_from k l r q e i = subst (λ (x : Kind). L s x r) (sym e.0) (subst (L s l) (sym e.1) i)

  row_safe : (v : ℕ) (k : Kind) (r : ℕ) (c : Cell) → OfRow k r c → Owns s.sizes k v r → ¬ (v ≡ w) → ¬ (L s k r) → Safe c
  row_safe v k r c o a n u = record {
    no_clock = λ e. subst (OfRow k r) e o;
    no_head = λ h e. subst (OfRow k r) e o;
    no_field = λ l g q e i. u (linked_from k l r q (same_row k l r q c o (subst (OfRow l q) (sym e) (refl, refl))) i);
    no_fill = λ l q p b. own_fill v k l r q c o a n p b;
    no_page = λ b. row_no_page k r w c o b;
  }

  -- a cell of a linked row that holds no stamp
  fixed_safe : (k : Kind) (r : ℕ) (c : Cell) → OfRow k r c → NoStamp c → L s k r → Safe c
  fixed_safe k r c o n i = record {
    no_clock = λ e. subst (OfRow k r) e o;
    no_head = λ h e. subst (OfRow k r) e o;
    no_field = λ l g q e j. subst NoStamp e n;
    no_fill = λ l q p b. let e = same_row k l r q c o b in next_unused s w l q p (f.counted l q (linked_from l k q r (sym e.0, sym e.1) i));
    no_page = λ b. row_no_page k r w c o b;
  }

turn_laws_by : {L : State → Kind → ℕ → Type 0} (s : State) (w : ℕ) → FitBy L s w → TurnLawsBy L s w
turn_laws_by s w f = record {
  changes = turn_changes s w f;
  clock = clock_rises s w f _ _ (turn_changes s w f cell.Clock tt);
  records = λ v n. get_or-set_other s.workers w v (followed_at s w).worker nobody n;
  pages = λ v c m o n. stays s w f c m (page_safe s w f v c o n);
  unlinked = λ v k r c m o a n u. stays s w f c m (row_safe s w f v k r c o a n u);
  older = λ k r m i. stays s w f (cell.Older k r) m (fixed_safe s w f k r (cell.Older k r) (refl, refl) tt i);
  source = λ r m i. stays s w f (cell.Source r) m (fixed_safe s w f Edge r (cell.Source r) (refl, refl) tt i);
  target = λ r m i. stays s w f (cell.Target r) m (fixed_safe s w f Edge r (cell.Target r) (refl, refl) tt i);
  weight = λ r m i. stays s w f (cell.Weight r) m (fixed_safe s w f Edge r (cell.Weight r) (refl, refl) tt i);
}

pub turn_laws : TurnsKeepLaws
turn_laws s w f = turn_laws_by s w f

pub turns_keep_counted : TurnsKeepCounted
turns_keep_counted s w b e p = turn_laws_by s w (record { worker = b; cells = e; counted = λ k r x. x; place = p })
