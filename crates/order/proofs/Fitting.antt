-- The keys that calls take, and that they fit: at a turn that reads, at a raise, at a change of their own, and right after a change.
use Rattle.std.proofs.Common.{ℕ, suc, ◌+◌, ◌<◌, ◌≤◌, ◌⊎◌, refl, inl, inr, arith}
use Rattle.order.specs.Keys.{Key, Bounded, Fits}
use Rattle.order.specs.Marks.{Mark, Earlier, change_key, moved_time, moved_key}
use Rattle.order.specs.Finds.{BeforeKey}
use Rattle.order.specs.Raises.{raise_key}
use Rattle.order.proofs.Moves.{moved_for_le, moved_for_after}

-- at a turn that reads, at time t
abbrev pub read_key : (ℕ → ℕ) → ℕ → Key
read_key clock t = record { stamp = clock t; time = t; part = 0 }

-- of the call that began at b, right after the change x
abbrev pub after_key : ℕ → Mark → ℕ → Key
after_key bound x b = record { stamp = x.stamp; time = x.time; part = suc (bound + b) }

pub after_key_bounded : (bound : ℕ) (x : Mark) (b : ℕ) → x.time < bound → suc b < bound → Bounded bound (after_key bound x b)
after_key_bounded bound x b t h = omega arith

pub after_key_before : (bound : ℕ) (x : Mark) (b : ℕ) → BeforeKey bound (after_key bound x b) x
after_key_before bound x b = inr (refl, refl, omega arith)

-- a call began at b, and was finished at a or is unfinished at a
module _ (clock : ℕ → ℕ) (rises : (s t : ℕ) → s ≤ t → clock s ≤ clock t) (b a : ℕ) where
  pub read_key_fits : (t : ℕ) → b ≤ t → t ≤ a → Fits clock (read_key clock t) b a
  read_key_fits t low high = record { time = high; stamp = rises t a high; since = inl low; fair = omega arith }

  pub raise_key_fits : (bound r : ℕ) → b ≤ r → r ≤ a → Fits clock (raise_key bound r (clock r)) b a
  raise_key_fits bound r low high = record { time = high; stamp = rises r a high; since = inl low; fair = omega arith }

  -- a change got its stamp from the clock, while it was pending
  module _ (x : Mark) (pending : clock x.time ≤ x.stamp) (time : x.time ≤ a) (stamp : x.stamp ≤ clock a) where
    pub change_key_fits : (bound : ℕ) → b ≤ x.time → Fits clock (change_key bound x) b a
    change_key_fits bound low = record { time = time; stamp = stamp; since = inl low; fair = pending }

    pub after_key_fits : (bound c : ℕ) → (b ≤ x.time) ⊎ (clock b < x.stamp) → Fits clock (after_key bound x c) b a
    after_key_fits bound c since = record { time = time; stamp = stamp; since = since; fair = pending }

    -- an edge change whose vertices end after the call began stands after the begin
    pub moved_time_after : (d f : Mark) → b < x.time → Earlier (record { stamp = x.stamp; time = b }) d → Earlier (record { stamp = x.stamp; time = b }) f →
        b < moved_time d f x
    moved_time_after d f low p q =
        let start : Mark = record { stamp = x.stamp; time = b } in
        omega (arith, moved_for_after start d x p (inr (refl, low)) refl, moved_for_after start f x q (inr (refl, low)) refl)

    pub moved_key_fits : (bound : ℕ) (d f : Mark) → b < x.time → Earlier (record { stamp = x.stamp; time = b }) d →
        Earlier (record { stamp = x.stamp; time = b }) f → Fits clock (moved_key bound d f x) b a
    moved_key_fits bound d f low p q =
        let back : moved_time d f x ≤ x.time = omega (arith, moved_for_le d x) in
        record {
          time = omega arith;
          stamp = stamp;
          since = inl (omega (arith, moved_time_after d f low p q));
          fair = omega (arith, rises (moved_time d f x) x.time back);
        }
