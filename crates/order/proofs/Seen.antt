-- What follows for open and finished calls where workers begin one call at a time.
use Rattle.std.proofs.Common.{◌≡◌, ℕ, zero, suc, ◌<◌, ◌≤◌, true, false, Some, None, Option, IsSome, ◌≢◌, ◌⊎◌, refl, sym, ◌∙◌, subst, inl, inr, arith}
use Rattle.std.proofs.lemmas.Bool.{cases_Bool, cases_eq, cases_lt}
use Rattle.std.proofs.lemmas.Bool.Decides.{nat_tests}
use Rattle.codes.specs.declared.answer.Answer.{Answer}
use Rattle.places.specs.declared.place.Call.{Call}
use Rattle.questions.specs.Graph.{Graph}
use Rattle.order.specs.Past.{Finish}
use Rattle.order.specs.Seen.{CallSight, begins, finishes, neither, open_after, open_call, is_open, finish_after, finish_by, OneAtATime, FinishSeen, PastsSeen}

pub is_open_true : (o : Option ℕ) (b : ℕ) → is_open o b ≡ true → o ≡ Some b
is_open_true None b e = absurd (grind arith)
is_open_true (Some a) b e = let q : a ≡ b = grind (arith, nat_tests) in cc

is_open_false : (o : Option ℕ) (b : ℕ) → o ≢ Some b → is_open o b ≡ false
is_open_false None b n = refl
is_open_false (Some a) b n = elim (cases_eq a b) [ inl q ↦ absurd (n (cc)) | inr q ↦ grind (arith, nat_tests) ]

some_equal : (f g : Finish) → ◌≡◌ {A = Option Finish} (Some f) (Some g) → f ≡ g
some_equal f g e = cc

module _ (seen : ℕ → CallSight) where
  -- worker w began the call b
  abbrev pub Began : ℕ → ℕ → Type 0
  Began b w = (c : Call) × (seen b ≡ begins w c)

  -- the call of worker w is not finished at time k
  abbrev pub GoesOn : ℕ → ℕ → Type 0
  GoesOn k w = (a : Answer) (p : Graph) → seen k ≢ finishes w a p

  -- an open call was begun just now, or was open and is not finished now
  pub open_step : (k w b : ℕ) → open_call seen (suc k) w ≡ Some b → ((b ≡ k) × Began k w) ⊎ ((open_call seen k w ≡ Some b) × GoesOn k w)
  unfolding open_call
  open_step k w b e = go (seen k) refl e
    where
      go : (s : CallSight) → seen k ≡ s → open_after s k w (open_call seen k w) ≡ Some b → ((b ≡ k) × Began k w) ⊎ ((open_call seen k w ≡ Some b) × GoesOn k w)
      go (begins v c) q f = elim (cases_eq v w) [
        | inl x ↦ inl (grind (arith, nat_tests), (c, cc))
        | inr x ↦ inr (grind (arith, nat_tests), λ a p z. grind arith)
      ]
      go (finishes v a p) q f = elim (cases_eq v w) [ inl x ↦ absurd (grind (arith, nat_tests)) | inr x ↦ inr (grind (arith, nat_tests), λ d o z. x (cc)) ]
      go neither q f = inr (f, λ a p z. grind arith)

  open_begun : (k w : ℕ) (c : Call) → seen k ≡ begins w c → open_call seen (suc k) w ≡ Some k
  unfolding open_call
  open_begun k w c q = rw q (grind (arith, nat_tests))

  -- an open call began before, by that worker
  pub open_began : (k w b : ℕ) → open_call seen k w ≡ Some b → (b < k) × Began b w
  unfolding open_call
  open_began zero w b e = absurd (grind arith)
  open_began (suc k) w b e = elim (open_step k w b e) [
    | inl (q, (c, f)) ↦ (omega arith, (c, cc))
    | inr (f, _) ↦ (let (l, began) = open_began k w b f in (omega arith, began))
  ]

  -- a call is of one worker
  pub one_worker : (j k v w b : ℕ) → open_call seen j v ≡ Some b → open_call seen k w ≡ Some b → v ≡ w
  one_worker j k v w b e f = let (_, (c, g)) = open_began j v b e in let (_, (d, h)) = open_began k w b f in cc

  -- a finished call was open when it was finished
  finish_was_open : (k b : ℕ) (f : Finish) → finish_by seen k b ≡ Some f →
      (f.time < k) × (w : ℕ) × (seen f.time ≡ finishes w f.answer f.page) × (open_call seen f.time w ≡ Some b)
  unfolding finish_by
  finish_was_open zero b f e = absurd (grind arith)
  finish_was_open (suc k) b f e = go (seen k) refl e (finish_was_open k b f)
    where
      go : (s : CallSight) → seen k ≡ s → finish_after (open_call seen k) s k b (finish_by seen k b) ≡ Some f →
          (finish_by seen k b ≡ Some f → (f.time < k) × (w : ℕ) × (seen f.time ≡ finishes w f.answer f.page) × (open_call seen f.time w ≡ Some b)) →
          (f.time < suc k) × (w : ℕ) × (seen f.time ≡ finishes w f.answer f.page) × (open_call seen f.time w ≡ Some b)
      go (begins w c) q h before = let (l, v, i, j) = before h in (omega arith, v, i, j)
      go neither q h before = let (l, v, i, j) = before h in (omega arith, v, i, j)
      go (finishes w a p) q h before = elim (cases_Bool (is_open (open_call seen k w) b)) [
        | inl y ↦
            (let now : record { time = k; answer = a; page = p } ≡ f = some_equal (record { time = k; answer = a; page = p }) f (cc) in
            subst (λ f. (f.time < suc k) × (w : ℕ) × (seen f.time ≡ finishes w f.answer f.page) × (open_call seen f.time w ≡ Some b)) now
            (omega arith, w, q, is_open_true (open_call seen k w) b y))
        | inr y ↦ (let (l, v, i, j) = before (cc) in (omega arith, v, i, j))
      ]

  finish_seen : (k b : ℕ) (f : Finish) → finish_by seen k b ≡ Some f → FinishSeen seen k b f
  finish_seen k b f e =
      let (l, w, finished, was_open) = finish_was_open k b f e in
      let (after, (c, begun)) = open_began f.time w b was_open in
      record { worker = w; call = c; begun = begun; after = after; finished = finished; before = l }

  -- a call is not finished before it began, nor while it is open
  finish_not_early : (k b : ℕ) → k ≤ b → finish_by seen k b ≡ None
  finish_not_early k b l = go (finish_by seen k b) refl
    where
      go : (o : Option Finish) → finish_by seen k b ≡ o → finish_by seen k b ≡ None
      go None q = q
      go (Some f) q = let s = finish_seen k b f q in absurd (omega (arith, s.after, s.before))

  -- a time at which the call is not finished changes nothing
  finish_stays : (k b : ℕ) → ((w : ℕ) → open_call seen k w ≡ Some b → GoesOn k w) → finish_by seen (suc k) b ≡ finish_by seen k b
  unfolding finish_by
  finish_stays k b n = go (seen k) refl
    where
      go : (s : CallSight) → seen k ≡ s → finish_after (open_call seen k) (seen k) k b (finish_by seen k b) ≡ finish_by seen k b
      go (begins w c) q = rw q refl
      go (finishes w a p) q = let f = is_open_false (open_call seen k w) b (λ e. n w e a p q) in rw q (cc)
      go neither q = rw q refl

  pub open_not_finished : (k w b : ℕ) → open_call seen k w ≡ Some b → finish_by seen k b ≡ None
  unfolding open_call
  open_not_finished zero w b e = absurd (grind arith)
  open_not_finished (suc k) w b e = elim (open_step k w b e) [
    | inl (q, _) ↦ finish_stays k b (λ v o. absurd (omega (arith, (open_began k v b o).0))) ∙ finish_not_early k b (omega arith)
    | inr (f, n) ↦ finish_stays k b (λ v o. subst (GoesOn k) (one_worker k k w v b f o) n) ∙ open_not_finished k w b f
  ]

  finish_kept : (k b : ℕ) → IsSome (finish_by seen k b) → IsSome (finish_by seen (suc k) b)
  finish_kept k b h =
      let same = finish_stays k b (λ w o. absurd (let n = open_not_finished k w b o in grind arith)) in
      subst IsSome (sym same) h

  module _ (alone : OneAtATime seen) where
    -- a call that is open stays open, or is finished now
    open_next : (k b w : ℕ) → open_call seen k w ≡ Some b → (open_call seen (suc k) w ≡ Some b) ⊎ IsSome (finish_by seen (suc k) b)
    unfolding open_call finish_by
    open_next k b w e = go (seen k) refl
      where
        go : (s : CallSight) → seen k ≡ s →
            (open_after (seen k) k w (open_call seen k w) ≡ Some b) ⊎ IsSome (finish_after (open_call seen k) (seen k) k b (finish_by seen k b))
        go (begins v c) q = elim (cases_eq v w) [ inl x ↦ absurd (let f = alone k v c q in grind arith) | inr x ↦ inl (rw q (grind (arith, nat_tests))) ]
        go (finishes v a p) q = elim (cases_eq v w) [ inl x ↦ inr (rw (q, x) (grind (arith, nat_tests))) | inr x ↦ inl (rw q (grind (arith, nat_tests))) ]
        go neither q = inl (rw q e)

    open_or_finished : (k b w : ℕ) (c : Call) → b < k → seen b ≡ begins w c → (open_call seen k w ≡ Some b) ⊎ IsSome (finish_by seen k b)
    open_or_finished zero b w c l e = absurd (omega arith)
    open_or_finished (suc k) b w c l e = elim (cases_lt b k) [
      | inl m ↦ elim (open_or_finished k b w c m e) [ inl f ↦ open_next k b w f | inr f ↦ inr (finish_kept k b f) ]
      | inr m ↦
          (let q : k ≡ b = omega arith in
          inl (subst (λ x. open_call seen (suc k) w ≡ Some x) q (open_begun k w c (subst (λ x. seen x ≡ begins w c) (sym q) e))))
    ]

pub pasts_seen : PastsSeen
pasts_seen seen alone now = record { finished = finish_seen seen now; open_or_finished = λ b w c. open_or_finished seen alone now b w c; not_both = λ b w. open_not_finished seen now w b }
