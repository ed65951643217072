-- The clock moves only in a runs_raise, and changes are settled.
use Rattle.std.proofs.Common.{◌≡◌, ℕ, suc, ◌<◌, ap, ◌∙◌, subst, arith}
use Rattle.layout.specs.declared.sizes.Sizes.{Sizes}
use Rattle.layout.specs.declared.names.Cell.TheVariants as cell
use Rattle.places.specs.declared.place.Purpose.{Purpose}
use Rattle.places.specs.declared.place.Purpose.TheVariants as purpose
use Rattle.places.specs.Touches.{settled_field}
use Rattle.machine.specs.declared.request.Request.TheVariants as request
use Rattle.machine.specs.Turns.{turned}
use Rattle.laws.specs.Changes.{number_in, Changes, Changes.keeps as cell_keeps, Changes.ticks, Changes.links, Changes.stamps as cell_stamps, Changes.ends, Changes.fills, Changes.writes}
use Rattle.laws.proofs.Rests.{numbers_same}
use Rattle.runs.specs.Views.{clock_at}
use Rattle.runs.proofs.Steps.{StepCase, StepCase.rests, StepCase.begins, StepCase.turns, sizes_at, case_at, here, laws_at}
use Rattle.surveys.specs.Raises.{RaiseStep, RunsRaise, RunsSettle}
use Rattle.runs.proofs.Settling.{runs_settle as settle}

pub no_settled_clock : (p : Purpose) → ¬ (cell.Clock ≡ settled_field p)
no_settled_clock (purpose.Look f l r) e = absurd cc
no_settled_clock (purpose.Own f c r) e = absurd cc
no_settled_clock (purpose.LostDel c r) e = absurd cc
no_settled_clock (purpose.WinnerIns i r) e = absurd cc
no_settled_clock (purpose.SourceAgain o b) e = absurd cc
no_settled_clock (purpose.CheckAgain s o b f) e = absurd cc
no_settled_clock (purpose.Compare s b f e′ x) e = absurd cc
no_settled_clock (purpose.Walk f k r) e = absurd cc

pub runs_raise : RunsRaise
runs_raise R k moved = by_case (case_at R k)
  where
    by_turn : (w : ℕ) → R.request k ≡ request.Turn w → w < R.sizes.workers → R.state (suc k) ≡ turned (R.state k) w →
        Changes (R.state k) w cell.Clock (clock_at R k) (number_in (turned (R.state k) w) cell.Clock) → RaiseStep R k
    by_turn w q l e (cell_keeps x) = absurd (moved (ap (λ s. number_in s cell.Clock) e ∙ x))
    by_turn w q l e (ticks v p c low x) = record {
      worker = w;
      survey = v;
      turn = record { asked = q; within = l; place = p };
      low = subst (λ (z : Sizes). clock_at R k < z.top) (sizes_at R k) low;
      next = ap (λ s. number_in s cell.Clock) e ∙ x ∙ omega arith;
    }
    by_turn w q l e (links d p c n) = absurd cc
    by_turn w q l e (cell_stamps p a c x) = absurd (no_settled_clock p c)
    by_turn w q l e (ends d r p c x y) = absurd cc
    by_turn w q l e (fills g r n o y) = absurd o
    by_turn w q l e (writes o y) = absurd o

    by_case : StepCase (R.state k) (R.request k) (R.state (suc k)) → RaiseStep R k
    by_case (rests f e) = absurd (moved (numbers_same (R.state k) (R.state (suc k)) e.rows cell.Clock))
    by_case (begins a d q t f e) = absurd (moved (ap (λ s. number_in s cell.Clock) e))
    by_case (turns w q n f e) =
        let l = here R k w q n e in
        by_turn w q (subst (λ (z : Sizes). w < z.workers) (sizes_at R k) l) e ((laws_at R k w q n e).changes cell.Clock tt)

-- a runs_raise of the clock is a turn of a snapshot or reach
pub runs_settle : RunsSettle
runs_settle R now m tell r moved = (let s = runs_raise R r moved in settle R now m tell r s.worker s.survey s.turn)
