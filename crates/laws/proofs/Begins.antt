-- A begin keeps what every run keeps.
use Rattle.std.proofs.Common.{rules, ◌≡◌, ℕ, ◌<◌, true, Ok, sym, refl, subst, arith}
use Rattle.std.proofs.lemmas.List.{length-set}
use Rattle.std.proofs.lemmas.Bool.{ltb-true, and_parts}
use Rattle.codes.specs.declared.refusal.Refusal.TheVariants.{NoSuchCall, KeyOutside, WeightOutside}
use Rattle.layout.specs.declared.names.Kind.{Kind}
use Rattle.layout.specs.Limits.{between}
use Rattle.places.specs.declared.call.Begin.{Begin}
use Rattle.places.specs.declared.place.Call.{Call}
use Rattle.places.specs.Calls.{keys_fit, weight_fits, call_named, call_of, place_first}
use Rattle.machine.specs.declared.worker.Worker.{Worker}
use Rattle.machine.specs.States.{State}
use Rattle.machine.specs.Turns.{worker_at}
use Rattle.machine.specs.Workers.{nobody, linked_of}
use Rattle.machine.specs.Requests.{call_to_begin, begun, state_begun}
use Rattle.laws.specs.Fits.{Counted, FitPlace}
use Rattle.laws.specs.Sound.{Sound}
use Rattle.laws.proofs.Puts.{set_each}
use Rattle.laws.proofs.Grows.{Later, row_later, place_later}
use Rattle.laws.proofs.Served.{QueueFits}
use Rattle.laws.proofs.Taken.{ok_if, begin_taken}

-- a call that is accepted names keys of the opening
module _ (s : State) (b : Begin) where
  abbrev n : ℕ
  n = s.sizes.keys

  named_fits : keys_fit n b ≡ true → FitPlace s (place_first (call_named b))
  named_fits k = search (rules, ltb-true, and_parts)

  called : (c : Call) → call_of n b ≡ Ok c → FitPlace s (place_first c)
  called c e =
      let known = ok_if (between 1 b.call 8) _ NoSuchCall c e in
      let keys = ok_if (keys_fit n b) _ KeyOutside c known.1 in
      let weight = ok_if (weight_fits b) _ WeightOutside c keys.1 in
      let g : call_named b ≡ c = cc in
      subst (λ q. FitPlace s (place_first q)) g (named_fits keys.0)

  accepted : (c : Call) → call_to_begin s b ≡ Ok c → (b.worker < s.sizes.workers) × FitPlace s (place_first c)
  accepted c e = let t = begin_taken s b c e in (t.within, called c t.call)

  module _ (z : Sound s) (c : Call) (e : call_to_begin s b ≡ Ok c) where
    abbrev w : ℕ
    w = b.worker

    abbrev t : State
    t = state_begun s b.worker (Ok c)

    fits : (w < s.sizes.workers) × FitPlace s (place_first c)
    fits = accepted c e

    -- each record after the begin
    pub begun_each : (P : ℕ → Worker → Type 0) → P b.worker (begun (worker_at s b.worker) c) → ((v : ℕ) → P v (worker_at s v)) → (v : ℕ) → P v (worker_at (state_begun s b.worker (Ok c)) v)
    begun_each P here there = set_each P s.workers w (begun (worker_at s w) c) nobody (omega (arith, z.table, fits.0)) here (λ v m. there v)

    pub count_same : (v : ℕ) (k : Kind) → linked_of (worker_at t v) k ≡ linked_of (worker_at s v) k
    count_same v k = begun_each (λ u r. linked_of r k ≡ linked_of (worker_at s u) k) refl (λ u. refl) v

    later_begun : Later s t
    later_begun = record { sizes = refl; linked = λ k r l. l; some = λ h m p. p }

    still_counted : (k : Kind) (r : ℕ) → Counted s k r → Counted t k r
    still_counted k r l = record { owner = l.owner; nth = l.nth; before = subst (λ m. l.nth < m) (sym (count_same l.owner k)) l.before; is = l.is }

    pub begin_sound : Sound t
    begin_sound = record {
      cells = z.cells;
      table = simp length-set z.table;
      heads = λ h m. row_later s t later_begun _ _ (z.heads h m);
      counted = λ k r l. still_counted k r (z.counted k r l);
      olders = λ k r l. row_later s t later_begun k _ (z.olders k r l);
      places = begun_each (λ v u. v < s.sizes.workers → FitPlace t u.place) (λ _. place_later s t later_begun (place_first c) fits.1) (λ v l. place_later s t later_begun (worker_at s v).place (z.places v l));
      queues = λ v i l. begun_each (λ v u. v < s.sizes.workers → QueueFits s.sizes.keys u.book) (λ l i. z.queues w i l) (λ v l i. z.queues v i l) v l i;
    }
