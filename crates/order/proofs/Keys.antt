-- The numbers of keys compare as the keys do, and precedence goes by them.
use Rattle.std.proofs.Common.{◌≡◌, ℕ, ◌+◌, ◌*◌, ◌<◌, ◌≤◌, ◌⊎◌, sym, inl, inr, mul-le-mul_right, arith}
use Rattle.std.proofs.lemmas.Bool.{cases_order}
use Rattle.order.specs.Keys.{Key, Bounded, number, Fits}

-- the greater part counts more than the other, where the other is below the width
part_less : {width a b c : ℕ} (d : ℕ) → b < width → a < c → a * width + b < c * width + d
part_less {width} d s h = omega (arith, mul-le-mul_right width h)

module _ (bound : ℕ) (k l : Key) where
  pub number_by_stamp : Bounded bound k → k.stamp < l.stamp → number bound k < number bound l
  unfolding number
  number_by_stamp s h = part_less l.part s.part (part_less l.time s.time h)

  pub number_by_time : Bounded bound k → k.stamp ≡ l.stamp → k.time < l.time → number bound k < number bound l
  unfolding number
  number_by_time s e h = rw e (part_less l.part s.part (omega arith))

  pub number_by_part : k.stamp ≡ l.stamp → k.time ≡ l.time → k.part < l.part → number bound k < number bound l
  unfolding number
  number_by_part e f h = rw (e, f) (omega arith)

  pub number_same : k.stamp ≡ l.stamp → k.time ≡ l.time → k.part ≡ l.part → number bound k ≡ number bound l
  unfolding number
  number_same e f g = rw (e, f, g)

-- k comes before l, by number and from the left
abbrev pub KeyBefore : ℕ → Key → Key → Type 0
KeyBefore bound k l =
    ((number bound k < number bound l) × (k.stamp < l.stamp)) ⊎
    (((number bound k < number bound l) × (k.stamp ≡ l.stamp) × (k.time < l.time)) ⊎
    ((number bound k < number bound l) × (k.stamp ≡ l.stamp) × (k.time ≡ l.time) × (k.part < l.part)))

abbrev pub KeySame : ℕ → Key → Key → Type 0
KeySame bound k l = (number bound k ≡ number bound l) × (k.stamp ≡ l.stamp) × (k.time ≡ l.time) × (k.part ≡ l.part)

-- the order of two keys, by number and from the left: what `omega` needs to compare them
pub compared : (bound : ℕ) (k l : Key) → Bounded bound k → Bounded bound l → KeySame bound k l ⊎ (KeyBefore bound k l ⊎ KeyBefore bound l k)
compared bound k l sk sl = go (cases_order k.stamp l.stamp) (cases_order k.time l.time) (cases_order k.part l.part)
  where
    go : (k.stamp ≡ l.stamp) ⊎ ((k.stamp < l.stamp) ⊎ (l.stamp < k.stamp)) →
        (k.time ≡ l.time) ⊎ ((k.time < l.time) ⊎ (l.time < k.time)) →
        (k.part ≡ l.part) ⊎ ((k.part < l.part) ⊎ (l.part < k.part)) → KeySame bound k l ⊎ (KeyBefore bound k l ⊎ KeyBefore bound l k)
    go (inr (inl h)) y z = inr (inl (inl (number_by_stamp bound k l sk h, h)))
    go (inr (inr h)) y z = inr (inr (inl (number_by_stamp bound l k sl h, h)))
    go (inl e) (inr (inl h)) z = inr (inl (inr (inl (number_by_time bound k l sk e h, e, h))))
    go (inl e) (inr (inr h)) z = inr (inr (inr (inl (number_by_time bound l k sl (sym e) h, sym e, h))))
    go (inl e) (inl f) (inr (inl h)) = inr (inl (inr (inr (number_by_part bound k l e f h, e, f, h))))
    go (inl e) (inl f) (inr (inr h)) = inr (inr (inr (inr (number_by_part bound l k (sym e) (sym f) h, sym e, sym f, h))))
    go (inl e) (inl f) (inl g) = inl (number_same bound k l e f g, e, f, g)

-- of two calls of which one was finished before the other began, the first has the smaller key
pub precedence : (bound : ℕ) (clock : ℕ → ℕ) → ((s t : ℕ) → s ≤ t → clock s ≤ clock t) → (k l : Key) → Bounded bound k → Bounded bound l →
    (b a c d : ℕ) → Fits clock k b a → Fits clock l c d → a < c → number bound k < number bound l
precedence bound clock rises k l sk sl b a c d f g h = go g.since
  where
    go : (c ≤ l.time) ⊎ (clock c < l.stamp) → number bound k < number bound l
    go (inl s) = omega (arith, compared bound k l sk sl, rises a c (omega arith), rises c l.time s, f.time, f.stamp, g.fair)
    go (inr s) = omega (arith, compared bound k l sk sl, rises a c (omega arith), f.stamp)
