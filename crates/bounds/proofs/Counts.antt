-- How the counts of a call grow in one step.
use Rattle.std.proofs.Common.{◌≡◌, ℕ, zero, suc, ◌+◌, ◌<◌, ◌≤◌, Bool, true, false, cond, not, ◌&&◌, eqb, Some, refl, ap, ◌∙◌, arith}
use Rattle.std.proofs.lemmas.Bool.{eq-eqb, ne_eqb, cond_both}
use Rattle.layout.specs.declared.names.Head.{Head}
use Rattle.machine.specs.declared.request.Request.TheVariants as request
use Rattle.order.specs.Seen.{is_open}
use Rattle.runs.specs.Runs.{RunInTime}
use Rattle.runs.specs.Views.{head_at}
use Rattle.runs.specs.Seen.{open_at}
use Rattle.bounds.specs.Bounds.{count_before, is_turn_of_worker, is_turn_of_other, turn_of_call, turns_taken, latest_turn, other_links, links_of_others}
use Rattle.order.proofs.Seen.{is_open_true}

count_next : (k : ℕ) (test : ℕ → Bool) → count_before (suc k) test ≡ count_before k test + cond (test k) 1 0
unfolding count_before
count_next k test = refl

pub count_is : (k : ℕ) (test : ℕ → Bool) (t : Bool) → test k ≡ t → count_before (suc k) test ≡ count_before k test + cond t 1 0
count_is k test t e = count_next k test ∙ ap (λ x. count_before k test + cond x 1 0) e

count_none : (k : ℕ) (test : ℕ → Bool) → ((t : ℕ) → t < k → test t ≡ false) → count_before k test ≡ 0
unfolding count_before
count_none zero test h = refl
count_none (suc k) test h = let e = count_none k test (λ t l. h t (omega arith)) in let q = h k (omega arith) in rw (e, q) refl

pub count_more : (k : ℕ) (test : ℕ → Bool) → count_before k test ≤ count_before (suc k) test
count_more k test = omega (arith, count_next k test)

pub both_true : (a b : Bool) → a && b ≡ true → (a ≡ true) × (b ≡ true)
both_true true b e = (refl, e)
both_true false b e = absurd cc

module _ (R : RunInTime) (w b k : ℕ) where
  pub open_then : turn_of_call R w b k ≡ true → open_at R k w ≡ Some b
  open_then e = is_open_true (open_at R k w) b (both_true (is_turn_of_worker w (R.request k)) _ e).1

  pub open_test : open_at R k w ≡ Some b → is_open (open_at R k w) b ≡ true
  open_test o = ap (λ x. is_open x b) o ∙ eq-eqb b b refl

  -- a turn of the worker counts, another request does not
  pub turn_counts : turns_taken R w b (suc k) ≤ turns_taken R w b k + 1
  turn_counts = omega (arith, count_next k (turn_of_call R w b), cond_both (turn_of_call R w b k) 1 0 (λ x. x ≤ 1) (λ _. omega arith) (λ _. omega arith))

  pub no_turn_counts : is_turn_of_worker w (R.request k) ≡ false → turns_taken R w b (suc k) ≡ turns_taken R w b k
  no_turn_counts e = count_is k (turn_of_call R w b) false (ap (λ x. x && is_open (open_at R k w) b) e) ∙ omega arith

  -- nor does any before its call was open
  pub none_taken : ((t : ℕ) → t < k → ¬ (open_at R t w ≡ Some b)) → turns_taken R w b k ≡ 0
  none_taken h = count_none k (turn_of_call R w b) (λ t l. never t (h t l) (turn_of_call R w b t) refl)
    where
      never : (t : ℕ) → ¬ (open_at R t w ≡ Some b) → (x : Bool) → turn_of_call R w b t ≡ x → turn_of_call R w b t ≡ false
      never t n true e = absurd (n (is_open_true (open_at R t w) b (both_true (is_turn_of_worker w (R.request t)) _ e).1))
      never t n false e = e

  -- the latest turn
  pub latest_next : (x : Bool) → turn_of_call R w b k ≡ x → latest_turn R w b (suc k) ≡ cond x k (latest_turn R w b k)
  unfolding latest_turn
  latest_next x e = ap (λ y. cond y k (latest_turn R w b k)) e

  pub taken_same : turn_of_call R w b k ≡ false → turns_taken R w b (suc k) ≡ turns_taken R w b k
  taken_same e = count_is k (turn_of_call R w b) false e ∙ omega arith

  pub taken_more : turn_of_call R w b k ≡ true → turns_taken R w b (suc k) ≡ suc (turns_taken R w b k)
  taken_more e = count_is k (turn_of_call R w b) true e ∙ omega arith

  -- a head that another worker's turn moves counts
  pub links_next : (h : Head) (t : Bool) → other_links R w b h k ≡ t → links_of_others R w b h (suc k) ≡ links_of_others R w b h k + cond t 1 0
  links_next h t e = count_is k (other_links R w b h) t e

  pub links_more : (h : Head) → links_of_others R w b h k ≤ links_of_others R w b h (suc k)
  links_more h = count_more k (other_links R w b h)

  pub link_counts : (h : Head) → open_at R k w ≡ Some b → is_turn_of_other w (R.request k) ≡ true → eqb (head_at R (suc k) h) (head_at R k h) ≡ false →
      links_of_others R w b h (suc k) ≡ links_of_others R w b h k + 1
  link_counts h o t e =
      let f = open_test o in
      count_is k (other_links R w b h) true (rw (f, t, e) refl)

module _ (R : RunInTime) (w b : ℕ) where
  pub taken_first : turns_taken R w b 0 ≡ 0
  unfolding count_before
  taken_first = refl

  pub links_first : (h : Head) → links_of_others R w b h 0 ≡ 0
  unfolding count_before
  links_first h = refl

-- which requests are whose
pub own_turn : (w : ℕ) → is_turn_of_worker w (request.Turn w) ≡ true
own_turn w = eq-eqb w w refl

pub not_own : (v w : ℕ) → ¬ (v ≡ w) → is_turn_of_worker w (request.Turn v) ≡ false
not_own v w n = ne_eqb v w n

pub others_turn : (v w : ℕ) → ¬ (v ≡ w) → is_turn_of_other w (request.Turn v) ≡ true
others_turn v w n = ap not (ne_eqb v w n)
