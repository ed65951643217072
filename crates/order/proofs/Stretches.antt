-- Runs that start where others ended, joined.
use Rattle.std.proofs.Common.{◌≡◌, ℕ, ◌+◌, ◌-◌, ◌<◌, ◌≤◌, Bool, true, false, Some, None, Option, refl, sym, ◌∙◌, subst, inl, inr, arith}
use Rattle.std.proofs.lemmas.Bool.{cases_lt}
use Rattle.order.specs.Past.{Past, Belongs}
use Rattle.order.specs.Order.{Stamping, changes, raises, neither, counts_as, stamping_as, stamping, AtLeast, StampOrder, Ordered}
use Rattle.order.specs.Keys.{number}
use Rattle.order.specs.Marked.{Marking, Marked, end_graph}
use Rattle.order.specs.Joined.{continued, Over, From, RunsOver, StretchesJoin}
use Rattle.order.proofs.Numbered.{key, keyed}
use Rattle.order.proofs.Marked.{counted, marked_order}
use Rattle.order.proofs.Ends.{starts_from}
use Rattle.order.proofs.Copies.{stamping_copy, belongs_back}
use Rattle.order.proofs.Joined.{through, first_copy, next_copy, pasts_join}

-- a case for each way in which a call stands to the clock
stamping_case : (P : Stamping → Type 0) (counts : Bool) (stamp raise : Option ℕ) → ((n : ℕ) → counts ≡ true → stamp ≡ Some n → P (changes n)) →
    ((t : ℕ) → raise ≡ Some t → P (raises t)) → P neither → P (stamping_as counts stamp raise)
stamping_case P true (Some n) raise f g z = f n refl refl
stamping_case P true None raise f g z = z
stamping_case P false stamp (Some t) f g z = g t refl
stamping_case P false stamp None f g z = z

module _ {h : Past} {run : Marking} (p : Marked h run) where
  numbered : (b : ℕ) → Belongs h b → (n : ℕ) × (key p b ≡ Some n)
  numbered b x = let (k, e) = p.keyed b x in (number run.bound k, cc)

  -- the stamp of a change that counts is that of the call's key
  stamp_is : (b : ℕ) (x : Belongs h b) (n : ℕ) → counts_as (h.finish b) (h.lower_end b) ≡ true → h.stamp b ≡ Some n → (run.clock 0 ≤ n) × (n ≤ run.top)
  stamp_is b x n counts s =
      let (m, e) = numbered b x in
      let call = (keyed p b m e).call in
      let q : Some n ≡ Some (keyed p b m e).at.stamp = sym s ∙ (counted p b m e counts).0 in
      let r : n ≡ (keyed p b m e).at.stamp = cc in
      (omega (arith, call.low), omega (arith, call.high))

  raise_is : (b : ℕ) (x : Belongs h b) (t : ℕ) → h.raise b ≡ Some t → (run.clock 0 ≤ t) × (t < run.top)
  raise_is b x t e =
      let (k, q) = p.keyed b x in let call = p.calls b k q in let raised = call.raise t e in
      (omega (arith, call.low, raised.stamp), raised.high)

  pub over : Over run.now run.top h
  over = record {
    began = λ b x. (let (k, e) = p.keyed b x in (p.calls b k e).early);
    stamps = λ b x. stamping_case (λ s. StampOrder s (changes run.top)) (counts_as (h.finish b) (h.lower_end b)) (h.stamp b) (h.raise b)
        (λ n counts s. (stamp_is b x n counts s).1) (λ t e. (let z = raise_is b x t e in omega (arith, z))) tt;
  }

  pub from_start : (c : ℕ) → c ≤ run.clock 0 → From c h
  from_start c l b x = stamping_case (AtLeast c) (counts_as (h.finish b) (h.lower_end b)) (h.stamp b) (h.raise b)
      (λ n counts s. (let z = stamp_is b x n counts s in omega (arith, l, z))) (λ t e. (let z = raise_is b x t e in omega (arith, l, z))) tt

pub runs_over : RunsOver
runs_over h run p = over p

module _ (n c : ℕ) (h k : Past) (run : Marking) (before : Over n c h) (p : Marked k run) (clock : c ≤ run.clock 0) where
  abbrev both : Past
  both = continued n h k

  -- a call that belongs to the joined past is one of the first or one of the second
  pub over_both : Over (n + run.now) run.top both
  over_both = record { began = λ b x. (each b x).0; stamps = λ b x. (each b x).1 }
    where
      top : c ≤ run.top
      top = omega (arith, clock, p.start_stamp)

      each : (b : ℕ) → Belongs both b → (b < n + run.now) × StampOrder (stamping both b) (changes run.top)
      each b x = elim (cases_lt b n) [
        | inl l ↦
            (let copy = first_copy n c h k before (from_start p c clock) b l in
            let y = belongs_back h both (λ b. b) b copy x in (
              omega (arith, l),
              subst (λ s. StampOrder s (changes run.top)) (sym (stamping_copy h both (λ b. b) b copy))
                  (through c (stamping h b) (changes run.top) (before.stamps b y) top),
            ))
        | inr l ↦
            (let q : n + (b - n) ≡ b = omega (arith, l) in
            let copy = next_copy n c h k before (from_start p c clock) (b - n) in
            let y = belongs_back k both (λ b. n + b) (b - n) copy (subst (Belongs both) (sym q) x) in
            let z = over p in (
              omega (arith, l, z.began (b - n) y),
              subst (λ b. StampOrder (stamping both b) (changes run.top)) q
                  (subst (λ s. StampOrder s (changes run.top)) (sym (stamping_copy k both (λ b. n + b) (b - n) copy)) (z.stamps (b - n) y)),
            ))
      ]

pub stretches_join : StretchesJoin
stretches_join n c h k g m run before o p none old clock = (
  pasts_join n c h k g m (end_graph run) before (from_start p c clock) o (subst (λ g. Ordered k g (end_graph run)) (starts_from p none m old) (marked_order p)),
  over_both n c h k run before p clock,
)
