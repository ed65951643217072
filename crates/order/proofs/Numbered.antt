-- The keys of the calls of a run as numbers: each call has its own, above the start, and precedence goes by them.
use Rattle.std.proofs.Common.{◌≡◌, ℕ, ◌+◌, ◌-◌, ◌<◌, Some, None, Option, refl, arith}
use Rattle.order.specs.Past.{Past, Precedes}
use Rattle.order.specs.Keys.{Key, Bounded, number, Fits}
use Rattle.order.specs.Rows.{Rows, rows_of}
use Rattle.order.specs.Marked.{Marking, end_of, CallMarked, Marked, start_key, end_key}
use Rattle.order.proofs.Keys.{number_by_stamp, compared, precedence}

abbrev pub number_of : ℕ → Option Key → Option ℕ
number_of bound None = None
number_of bound (Some k) = Some (number bound k)

number_of_some : (bound : ℕ) (o : Option Key) (n : ℕ) → number_of bound o ≡ Some n → (k : Key) × (o ≡ Some k) × (number bound k ≡ n)
number_of_some bound None n e = absurd (grind arith)
number_of_some bound (Some k) n e = (k, refl, cc)

module _ {h : Past} {run : Marking} (p : Marked h run) where
  -- the lives of the rows
  abbrev pub rows : Rows
  rows = rows_of run.bound run.top run.marks

  -- the key of a call as a number
  abbrev pub key : ℕ → Option ℕ
  key b = number_of run.bound (run.key b)

  pub bounded_start : Bounded run.bound (start_key run)
  bounded_start = omega (arith, p.some_time)

  pub bounded_end : Bounded run.bound (end_key run)
  bounded_end = omega (arith, p.some_time)

  -- the number of the start, and how far above it that of the greatest key is
  abbrev pub bottom : ℕ
  bottom = number run.bound (start_key run)

  pub span : ℕ
  span = number run.bound (end_key run) - number run.bound (start_key run)

  pub bottom_and_span : bottom + span ≡ number run.bound (end_key run)
  unfolding span
  bottom_and_span = omega (arith, number_by_stamp run.bound (start_key run) (end_key run) bounded_start (omega (arith, p.start_stamp)))

  -- the call b has a key with the number n
  pub record Keyed (b n : ℕ) : Type 0 where
    pub at : Key
    pub is : run.key b ≡ Some at
    pub number : number run.bound at ≡ n
    pub call : CallMarked h run b at

  pub keyed : (b n : ℕ) → key b ≡ Some n → Keyed b n
  keyed b n e = let (k, d, q) = number_of_some run.bound (run.key b) n e in record { at = k; is = d; number = q; call = p.calls b k d }

  pub apart : (b c n : ℕ) → key b ≡ Some n → key c ≡ Some n → b ≡ c
  apart b c n e f =
      let k = keyed b n e in let l = keyed c n f in
      let same = compared run.bound k.at l.at k.call.bounded l.call.bounded in
      p.apart b c k.at l.at k.is l.is (omega (arith, same, k.number, l.number)) (omega (arith, same, k.number, l.number))

  pub ranges : (b n : ℕ) → key b ≡ Some n → (b < run.now) × (bottom < n) × (n < bottom + span)
  ranges b n e =
      let k = keyed b n e in
      let above = compared run.bound k.at (start_key run) k.call.bounded bounded_start in
      let below = compared run.bound k.at (end_key run) k.call.bounded bounded_end in
      (k.call.early, omega (arith, above, k.number, k.call.time, k.call.low), omega (arith, bottom_and_span, below, k.number, k.call.high))

  pub in_precedence : (b c n o : ℕ) → key b ≡ Some n → key c ≡ Some o → Precedes h b c → n < o
  in_precedence b c n o e f (x, q, before) =
      let k = keyed b n e in let l = keyed c o f in
      let fits : Fits run.clock k.at b x.time = rw q at k.call.fits in
      let less = precedence run.bound run.clock p.rises k.at l.at k.call.bounded l.call.bounded b x.time c (end_of run.now (h.finish c)) fits l.call.fits before in
      omega (arith, k.number, l.number)

  -- a call stands after the start
  pub after_start : (b : ℕ) (k : Key) → run.key b ≡ Some k → number run.bound (start_key run) < number run.bound k
  after_start b k e =
      let call = p.calls b k e in
      omega (arith, call.time, call.low, compared run.bound k (start_key run) call.bounded bounded_start)
