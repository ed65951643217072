-- Requests that are accepted: a turn and a begin are of a worker that there is, and a begin is of an idle one.
use Rattle.std.proofs.Common.{rules, ◌≡◌, ℕ, ◌<◌, Bool, true, false, cond, ltb, None, Ok, Err, Result, refl, arith}
use Rattle.std.proofs.lemmas.Bool.{ltb-true}
use Rattle.std.proofs.lemmas.List.{get_or-set_same, get_or-set_other}
use Rattle.codes.specs.declared.refusal.Refusal.{Refusal}
use Rattle.codes.specs.declared.refusal.Refusal.TheVariants.{NoSuchWorker, WorkerBusy}
use Rattle.places.specs.declared.call.Begin.{Begin}
use Rattle.places.specs.declared.place.Call.{Call}
use Rattle.places.specs.declared.place.Call.TheVariants as call
use Rattle.places.specs.Calls.{call_of}
use Rattle.machine.specs.declared.worker.PageState.{PageState}
use Rattle.machine.specs.declared.worker.PageState.TheVariants as page
use Rattle.machine.specs.States.{State}
use Rattle.machine.specs.Turns.{worker_at}
use Rattle.machine.specs.Workers.{nobody}
use Rattle.machine.specs.Requests.{is_idle, page_free, call_to_begin, begun, state_begun, turn_refused}
use Rattle.laws.specs.Sound.{Sound}

pub turn_taken : (s : State) (w : ℕ) → turn_refused s w ≡ None → w < s.sizes.workers
turn_taken s w e = search (rules, ltb-true)

-- a test that is passed, and what comes after it
pub ok_if : {X E : Type 0} (t : Bool) (r : Result X E) (e : E) (x : X) → cond t r (Err e) ≡ Ok x → (t ≡ true) × (r ≡ Ok x)
ok_if true r e x h = (refl, h)
ok_if false r e x h = absurd cc

pub free_same : (p : PageState) (r : Result Call Refusal) (c : Call) → page_free p r ≡ Ok c → r ≡ Ok c
free_same page.Out (Ok (call.Survey v)) c e = absurd cc
free_same p r c e = e

pub record BeginTaken (s : State) (b : Begin) (c : Call) : Type 0 where
  pub within : b.worker < s.sizes.workers
  pub idle : is_idle (worker_at s b.worker).place ≡ true
  pub call : call_of s.sizes.keys b ≡ Ok c

pub begin_taken : (s : State) (b : Begin) (c : Call) → call_to_begin s b ≡ Ok c → BeginTaken s b c
begin_taken s b c e =
    let there = ok_if (ltb b.worker s.sizes.workers) _ NoSuchWorker c e in
    let free = ok_if (is_idle (worker_at s b.worker).place) _ WorkerBusy c there.1 in
    record { within = ltb-true b.worker s.sizes.workers there.0; idle = free.0; call = free_same (worker_at s b.worker).page _ c free.1 }

-- the records after a begin
module _ (s : State) (z : Sound s) (w : ℕ) (b : w < s.sizes.workers) (c : Call) where
  pub begun_worker : worker_at (state_begun s w (Ok c)) w ≡ begun (worker_at s w) c
  begun_worker = get_or-set_same s.workers w (begun (worker_at s w) c) nobody (omega (arith, z.table))

  pub begun_others : (v : ℕ) → ¬ (v ≡ w) → worker_at (state_begun s w (Ok c)) v ≡ worker_at s v
  begun_others v n = get_or-set_other s.workers w v (begun (worker_at s w) c) nobody n
