-- How the counts of the bounds move with each request of a run.
use Rattle.std.proofs.Common.{◌≡◌, ℕ, zero, suc, ◌+◌, ◌*◌, mul_assoc, ◌<◌, Bool, true, false, cond, not, ◌&&◌, List, ◌∷◌, Some, None, Option, ◌==◌, nat_lt, refl, sym, ◌∙◌, ap, ap₂, subst, inl, inr, arith}
use Rattle.std.proofs.lemmas.Bool.{cases_eq, cases_Bool, and_parts, and_right, eq-eqb, eqb-true, false≢true}
use Rattle.layout.specs.declared.sizes.Sizes.{Sizes}
use Rattle.layout.specs.declared.names.Head.{Head}
use Rattle.layout.specs.declared.names.Head.TheVariants as head
use Rattle.layout.specs.declared.names.Cell.TheVariants as cell
use Rattle.layout.specs.Layout.{Named}
use Rattle.places.specs.declared.place.Pair.{Pair}
use Rattle.places.specs.declared.place.Change.{Change}
use Rattle.places.specs.declared.place.Place.TheVariants as place
use Rattle.places.specs.Touches.{change_head, change_kind}
use Rattle.machine.specs.declared.request.Request.TheVariants as request
use Rattle.machine.specs.Turns.{cell_at}
use Rattle.machine.specs.Requests.{turn_refused}
use Rattle.laws.specs.Fits.{Linked, FitPlace}
use Rattle.runs.specs.Runs.{RunInTime, history_at}
use Rattle.runs.specs.Views.{head_at}
use Rattle.runs.specs.Seen.{open_at}
use Rattle.runs.specs.Steps.{LinkStep, HeadSteps, HeadSteps.stays, HeadSteps.moves}
use Rattle.runs.proofs.Steps.{sound_at, sizes_at}
use Rattle.bounds.specs.Bounds.{count_before, rows_held_at_start, latest_turn}
use Rattle.walks.specs.Budgets.{sum_below}
use Rattle.promise.specs.Sights.{Deed, Deed.links, Deed.ends, Deed.raises, End, Sight, Sight.begins, Sight.turns, Sight.rests}
use Rattle.promise.specs.Calls.{open_by, is_call, is_sight_of_call}
use Rattle.promise.specs.Bounds.{one_if, turns_had, until_turn, is_link, one_row, rows_held, rows_linked, is_head_of, is_other_link, other_links}
use Rattle.promise.specs.Bridges.{shown_at}
use Rattle.promise.specs.Counts.{TurnsStep, TurnsStep.own, TurnsStep.other, RowsStep, RowsStep.none_linked, RowsStep.one_linked, LinksStep, RunsCount, RowsCounted, SurveysFollow}
use Rattle.promise.proofs.Bridges.{sight_at, shown_next, shown_length}
use Rattle.promise.proofs.Deeds.{Taken, taken_where, deed_at, only_moved, moved_deed, deed_moved, head_still, still_head}
use Rattle.promise.proofs.DeedRuns.{opens_at, turn_seen, SightCase, SightCase.a_turn, SightCase.at_begin, SightCase.at_rest, sight_case}
use Rattle.runs.proofs.Steps.{runs_step as step}
use Rattle.laws.proofs.Owned.{linked_row}
use Rattle.laws.proofs.Heads.{change_named}
use Rattle.bounds.proofs.Counts.{count_is}

is_head : (p : Pair) (g : Head) → is_head_of p g ≡ true → g ≡ head.Edge p.from p.to
is_head p (head.Vertex i) e = absurd (false≢true e)
is_head p (head.Edge i j) e = let (x, y) = and_parts (i == p.from) (j == p.to) e in ap₂ head.Edge (eqb-true i p.from x) (eqb-true j p.to y)

its_head : (p : Pair) → is_head_of p (head.Edge p.from p.to) ≡ true
its_head p = rw (eq-eqb p.from p.from refl, eq-eqb p.to p.to refl) refl

and_true : (x y : Bool) → y ≡ true → (x && y) ≡ x
and_true true y e = e
and_true false y e = refl

module _ (R : RunInTime) (k : ℕ) where
  abbrev ss : List Sight
  ss = (shown_at R k).sights

  abbrev Turned : ℕ → Type 0
  Turned w = Taken R k w

  abbrev deed : Option Deed
  deed = deed_at R k

  turns_next : (b : ℕ) (s : Sight) → sight_at R k ≡ s → turns_had (shown_at R (suc k)).sights b ≡ one_if (is_sight_of_call s ss b) (turns_had ss b)
  turns_next b s e = ap (λ l. turns_had l b) (shown_next R k) ∙ ap (λ s. one_if (is_sight_of_call s ss b) (turns_had ss b)) e

  until_next : (b : ℕ) (s : Sight) (t : Bool) → sight_at R k ≡ s → is_sight_of_call s ss b ≡ t → until_turn (shown_at R (suc k)).sights b ≡ cond t (shown_at R (suc k)).sights (until_turn ss b)
  until_next b s t e f =
      ap (λ l. until_turn l b) (shown_next R k) ∙ ap (λ t. cond t (sight_at R k ∷ ss) (until_turn ss b)) (ap (λ s. is_sight_of_call s ss b) e ∙ f)
      ∙ ap (λ l. cond t l (until_turn ss b)) (sym (shown_next R k))

  -- an accepted turn is seen as one
  no_rest : (s : Sight) → sight_at R k ≡ s → ((w : ℕ) (d : Option Deed) (e : Option End) → ¬ (s ≡ turns w d e)) → (w : ℕ) → R.request k ≡ request.Turn w → w < R.sizes.workers → ¬ (turn_refused (R.state k) w ≡ None)
  no_rest s e n w q l a =
      let (x, y) = turn_seen R k w (taken_where R k w q l a) in
      n w deed x (sym e ∙ y)

  turns_step : (b : ℕ) → TurnsStep R k b
  turns_step b = go (sight_case R k)
    where
      decided : (w : ℕ) (e : Option End) → Turned w → sight_at R k ≡ turns w deed e → (x : Bool) → is_call (open_by ss w) b ≡ x → TurnsStep R k b
      decided w e t s true f = own w t.asked t.within t.accepted (opens_is w f) (turns_next b (turns w deed e) s ∙ ap (λ t. one_if t (turns_had ss b)) f ∙ add_one (turns_had ss b)) (until_next b (turns w deed e) true s f)
        where
          opens_is : (w : ℕ) → is_call (open_by ss w) b ≡ true → open_at R k w ≡ Some b
          opens_is w f = sym (opens_at R k w) ∙ same (open_by ss w) f
            where
              same : (o : Option ℕ) → is_call o b ≡ true → o ≡ Some b
              same None f = absurd (false≢true f)
              same (Some a) f = ap (λ x. Some x) (eqb-true a b f)

          add_one : (n : ℕ) → n + 1 ≡ suc n
          add_one n = omega arith
      decided w e t s false f = other (λ v q l a o. (
          let z : request.Turn v ≡ request.Turn w = sym q ∙ t.asked in
          let same : v ≡ w = cc in
          let x : is_call (open_by ss w) b ≡ true = ap (λ o. is_call o b) (opens_at R k w ∙ subst (λ v. open_at R k v ≡ Some b) same o) ∙ eq-eqb b b refl in
          false≢true (sym f ∙ x))) (turns_next b (turns w deed e) s ∙ ap (λ t. one_if t (turns_had ss b)) f) (until_next b (turns w deed e) false s f)

      go : SightCase R k → TurnsStep R k b
      go (a_turn w e t s) = decided w e t s (is_call (open_by ss w) b) refl
      go (at_begin v c q s) = other (λ w i l a o. no_rest (begins v c) s (λ w d e z. absurd cc) w i l a) (turns_next b (begins v c) s) (until_next b (begins v c) false s refl)
      go (at_rest q s) = other (λ w i l a o. no_rest rests s (λ w d e z. absurd cc) w i l a) (turns_next b rests s) (until_next b rests false s refl)

  rows_next : (s : Sight) → sight_at R k ≡ s → rows_linked (shown_at R (suc k)).sights ≡ one_if (is_link s) (rows_linked ss)
  rows_next s e = ap rows_linked (shown_next R k) ∙ ap (λ s. one_if (is_link s) (rows_linked ss)) e

  -- where the cells stay heads do
  cells_still : (R.state (suc k)).cells ≡ (R.state k).cells → (h : Head) → head_at R (suc k) h ≡ head_at R k h
  cells_still q h = head_still R k h (ap (λ l. cell_at R.sizes l (cell.Head h)) (sym q))

  -- where no link is seen heads stay
  unseen_still : (w : ℕ) → Turned w → (h : Head) → Named R.sizes (cell.Head h) → ((g : Head) (r : ℕ) → ¬ (deed ≡ Some (links g r))) → head_at R (suc k) h ≡ head_at R k h
  unseen_still w t h n u = elim (cases_eq (cell_at R.sizes (R.state k).cells (cell.Head h)) (cell_at R.sizes (R.state (suc k)).cells (cell.Head h))) [
    | inl q ↦ head_still R k h q
    | inr q ↦ absurd (u h _ (moved_deed R k w t h n q))
  ]

  rows_step : RowsStep R k
  rows_step = go (sight_case R k)
    where
      at : (w : ℕ) (e : Option End) → Turned w → (o : Option Deed) → deed ≡ o → sight_at R k ≡ turns w o e → RowsStep R k
      at w e t None f s = none_linked (λ h n. unseen_still w t h n (λ g r q. absurd (let z : None ≡ Some (links g r) = sym f ∙ q in cc))) (rows_next (turns w None e) s)
      at w e t (Some (ends c r)) f s = none_linked (λ h n. unseen_still w t h n (λ g q z. absurd (let y : Some (ends c r) ≡ Some (links g q) = sym f ∙ z in cc))) (rows_next (turns w (Some (ends c r)) e) s)
      at w e t (Some (raises u)) f s = none_linked (λ h n. unseen_still w t h n (λ g q z. absurd (let y : Some (raises u) ≡ Some (links g q) = sym f ∙ z in cc))) (rows_next (turns w (Some (raises u)) e) s)
      at w e t (Some (links g r)) f s = (
          let m = deed_moved R k g r f in
          one_linked g m.named (λ q. m.moved (still_head R k g q)) (λ h n a. head_still R k h (only_moved R k w t g m.named m.moved h n a))
          (rows_next (turns w (Some (links g r)) e) s ∙ (let z : rows_linked ss + 1 ≡ suc (rows_linked ss) = omega arith in z)))

      go : SightCase R k → RowsStep R k
      go (a_turn w e t s) = at w e t deed refl s
      go (at_begin v c q s) = none_linked (λ h n. cells_still q h) (rows_next (begins v c) s)
      go (at_rest q s) = none_linked (λ h n. cells_still q h) (rows_next rests s)

  module _ (w : ℕ) (p : Pair) (b : ℕ) (n : (p.from < R.sizes.keys) × (p.to < R.sizes.keys)) where
    abbrev pair : Head
    pair = head.Edge p.from p.to

    abbrev links_had : ℕ
    links_had = other_links w p b ss

    links_next : (s : Sight) → sight_at R k ≡ s → other_links w p b (shown_at R (suc k)).sights ≡ one_if (nat_lt b k && is_other_link w p s) links_had
    links_next s e = ap (other_links w p b) (shown_next R k) ∙ ap₂ (λ (j : ℕ) (s : Sight). one_if (nat_lt b j && is_other_link w p s) links_had) (shown_length R k) e

    uncounted : (s : Sight) → sight_at R k ≡ s → is_other_link w p s ≡ false → other_links w p b (shown_at R (suc k)).sights ≡ links_had
    uncounted s e f = links_next s e ∙ ap (λ t. one_if t links_had) (and_right (nat_lt b k) (is_other_link w p s) f)

    -- a link that is seen elsewhere does not runs_count
    not_here : (v : ℕ) (e : Option End) (o : Option Deed) → deed ≡ o → head_at R (suc k) pair ≡ head_at R k pair → is_other_link w p (turns v o e) ≡ false
    not_here v e None f q = refl
    not_here v e (Some (ends c r)) f q = refl
    not_here v e (Some (raises t)) f q = refl
    not_here v e (Some (links g r)) f q = elim (cases_Bool (is_head_of p g)) [
      | inl y ↦ absurd (let m = deed_moved R k g r f in
          let same : g ≡ pair = is_head p g y in m.moved (still_head R k g (subst (λ h. head_at R (suc k) h ≡ head_at R k h) (sym same) q)))
      | inr y ↦ and_right (not (v == w)) (is_head_of p g) y
    ]

    links_step : LinksStep R k w p b
    links_step = go (sight_case R k)
      where
        go : SightCase R k → LinksStep R k w p b
        go (a_turn v e t s) = record {
          still = λ q. uncounted (turns v deed e) s (not_here v e deed refl q);
          moved = λ q. (
              let m = moved_deed R k v t pair n (λ z. q (head_still R k pair z)) in (
                v,
                t.asked,
                links_next (turns v deed e) s ∙ ap (λ o. one_if (nat_lt b k && is_other_link w p (turns v o e)) links_had) m
                    ∙ ap (λ t. one_if (nat_lt b k && t) links_had) (and_true (not (v == w)) (is_head_of p pair) (its_head p)),
              ));
        }
        go (at_begin v c q s) = record { still = λ z. uncounted (begins v c) s refl; moved = λ z. absurd (z (cells_still q pair)) }
        go (at_rest q s) = record { still = λ z. uncounted rests s refl; moved = λ z. absurd (z (cells_still q pair)) }

pub runs_count : RunsCount
runs_count R k = record {
  turns = turns_step R k;
  rows = rows_step R k;
  links = links_step R k;
}

pub none_yet : (R : RunInTime) → rows_linked (shown_at R 0).sights ≡ 0
unfolding history_at
none_yet R = refl

counted_none : (test : ℕ → Bool) → count_before 0 test ≡ 0
unfolding count_before
counted_none test = refl

pub rows_counted : RowsCounted
rows_counted R test told all zero = counted_none test ∙ sym (none_yet R)
rows_counted R test told all (suc k) = go ((runs_count R k).rows) (test k) refl (rows_counted R test told all k)
  where
    -- a link moves its head
    moved : (d : Change) (r : ℕ) → LinkStep R k d r → Named R.sizes (cell.Head (change_head d)) × (head_at R (suc k) (change_head d) ≡ head_at R k (change_head d) → ⊥)
    moved d r s =
        let z = sound_at R k in
        let there : s.worker < (R.state k).sizes.workers = subst (λ (z : Sizes). s.worker < z.workers) (sym (sizes_at R k)) s.turn.within in
        let fits : FitPlace (R.state k) (place.Link d (head_at R k (change_head d))) = subst (FitPlace (R.state k)) s.turn.place (z.places s.worker there) in
        let named = change_named (R.state k) d fits.0 in
        let low : 0 < r = (linked_row (R.state (suc k)) (change_kind d) r s.linked).0 in (
          subst (λ z. Named z (cell.Head (change_head d))) (sizes_at R k) named,
          λ q. (let is : head_at R k (change_head d) ≡ r = sym q ∙ s.head in
              absurd (elim (z.heads (change_head d) named) [ inl n ↦ omega (arith, n, is, low) | inr l ↦ s.fresh (subst (Linked (R.state k) (change_kind d)) is l) ])),
        )

    go : RowsStep R k → (x : Bool) → test k ≡ x → count_before k test ≡ rows_linked (shown_at R k).sights → count_before (suc k) test ≡ rows_linked (shown_at R (suc k)).sights
    go (none_linked h q) true e i = absurd (let (d, r, s) = told k e in let m = moved d r s in m.1 (h (change_head d) m.0))
    go (none_linked h q) false e i = count_is k test false e ∙ omega (arith, i, q)
    go (one_linked g n m o q) true e i = count_is k test true e ∙ omega (arith, i, q)
    go (one_linked g n m o q) false e i = absurd (elim_head ((step R k).heads g n))
      where
        elim_head : HeadSteps R k g (head_at R (suc k) g) → ⊥
        elim_head (stays y) = m y
        elim_head (moves d a s) = false≢true (sym e ∙ all k d _ s)

-- the rows that heads hold at the start
first_held : (R : RunInTime) → rows_held_at_start R ≡ rows_held R.sizes (R.state 0).cells
unfolding rows_held_at_start rows_held
first_held R =
    ap (λ z. sum_below R.sizes.keys (λ i. one_row z (R.state 0).cells (head.Vertex i)) + sum_below R.sizes.keys (λ i. sum_below R.sizes.keys (λ j. one_row z (R.state 0).cells (head.Edge i j)))) R.start

pub surveys_follow : RowsCounted → SurveysFollow
surveys_follow rows test told all bound R now w b v g =
    let n = R.sizes.keys in
    let same : 8 * n * n ≡ 8 * (n * n) = mul_assoc 8 n n in
    omega (arith, bound R now w b v g, rows R (test R) (told R) (all R) (suc (latest_turn R w b now)), first_held R, same)
