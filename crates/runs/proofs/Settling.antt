-- Changes of a run that bear stamps are from before the start, or bear stamps from the clock at their time on, and none is made by a raise.
use Rattle.std.proofs.Common.{◌≡◌, ℕ, ◌+◌, ◌<◌, ◌≤◌, ◌≢◌, ◌⊎◌, sym, ap, ◌∙◌, subst, inl, inr, ⊎_elim, arith}
use Rattle.std.proofs.lemmas.Bool.{cases_lt}
use Rattle.layout.specs.declared.sizes.Sizes.{Sizes}
use Rattle.layout.specs.declared.names.Kind.{Kind}
use Rattle.layout.specs.declared.names.Kind.TheVariants.{Vertex, Edge}
use Rattle.layout.specs.declared.names.Field.TheVariants.{Ins, Del}
use Rattle.places.specs.declared.place.Survey.{Survey}
use Rattle.places.specs.declared.place.Place.TheVariants as place
use Rattle.places.specs.declared.place.Change.{Change}
use Rattle.order.specs.Marks.{Mark, Marks}
use Rattle.order.specs.Raises.{Settled, AllSettled}
use Rattle.runs.specs.Runs.{RunInTime}
use Rattle.runs.specs.Views.{clock_at, LinkedAt}
use Rattle.runs.specs.Steps.{TurnAt}
use Rattle.runs.specs.Known.{StampedAt, LinkEvent, EndEvent}
use Rattle.runs.specs.Marking.{ins_of, del_of, MarksTellRun}
use Rattle.runs.specs.Settling.{RunsSettle}
use Rattle.runs.proofs.Events.{same_turn}
use Rattle.runs.proofs.Births.{Birth, Way, Way.from_start, Way.by_link, End, born_or, ended_or, link_now, end_now}
use Rattle.runs.proofs.VertexFinds.{birth_tells}
use Rattle.runs.proofs.Starts.{old_marks}

module _ (R : RunInTime) (N : ℕ) (m : Marks) (tell : MarksTellRun R N m)
    (r w : ℕ) (v : Survey) (raise : TurnAt R r w (place.Raise v)) where
  abbrev Settles : Mark → Type 0
  Settles x = Settled (clock_at R) r (clock_at R N) x

  -- calls raise the clock after the start
  late : 0 < r
  late = ⊎_elim (λ (z : 0 < r). z) at_start (cases_lt 0 r)
    where
      at_start : r ≤ 0 → 0 < r
      at_start z =
          let e : r ≡ 0 = omega arith in
          let t : TurnAt R 0 w (place.Raise v) = subst (λ k. TurnAt R k w (place.Raise v)) e raise in
          let idle = R.clean.idle w (subst (λ (z : Sizes). w < z.workers) (sym R.start) t.within) in
          let q : place.Idle ≡ place.Raise v = sym idle ∙ t.place in
          absurd cc

  not_link : (p b e : ℕ) (d : Change) → LinkEvent R p b d e → p ≢ r
  not_link p b e d ev x =
      let t = same_turn R (subst (λ k. TurnAt R k w (place.Raise v)) (sym x) raise) ev.step.turn in
      let q = t.1 in
      absurd cc

  not_end : (p b e : ℕ) (d : Change) → EndEvent R p b d e → p ≢ r
  not_end p b e d ev x =
      let t = same_turn R (subst (λ k. TurnAt R k w (place.Raise v)) (sym x) raise) ev.turn in
      let q = t.1 in
      absurd cc

  ins_settled : (c : Kind) (e : ℕ) → Settles (ins_of m c e)
  ins_settled c e = go (born_or R N c e)
    where
      by_way : (p n : ℕ) → Way R N c e p n → ins_of m c e ≡ record { stamp = n; time = p } → Settles (ins_of m c e)
      by_way p n (from_start o a b) i l = let x = old_marks R N m tell c e o in (inl x, λ y. omega (arith, late, x.0, y))
      by_way p n (by_link h) i l =
          let s : (ins_of m c e).stamp ≡ n = ap (λ (x : Mark). x.stamp) i in
          let t : (ins_of m c e).time ≡ p = ap (λ (x : Mark). x.time) i in (
            inr (subst (λ (x : Mark). clock_at R x.time ≤ x.stamp) (sym i) (link_now R N c e p n h).0),
            λ y. not_link p h.linking.began e h.linking.change h.linking.event (sym t ∙ y),
          )

      go : Birth R N c e ⊎ ¬ (LinkedAt R N c e × StampedAt R N c Ins e) → Settles (ins_of m c e)
      go (inl h) l = by_way h.time h.stamp h.way (birth_tells R N m tell c e h) l
      go (inr n) l = let s : (ins_of m c e).stamp ≡ clock_at R N + 2 = ap (λ (x : Mark). x.stamp) (tell.unborn c e n) in absurd (omega arith)

  del_settled : (c : Kind) (e : ℕ) → Settles (del_of m c e)
  del_settled c e = go (ended_or R N c e)
    where
      go : End R N c e ⊎ ¬ (LinkedAt R N c e × StampedAt R N c Del e) → Settles (del_of m c e)
      go (inl h) l =
          let i = tell.ended c e h.time h.stamp h.linked h.ending h.is in
          let t : (del_of m c e).time ≡ h.time = ap (λ (x : Mark). x.time) i in (
            inr (subst (λ (x : Mark). clock_at R x.time ≤ x.stamp) (sym i) (end_now R N c e h).0),
            λ y. not_end h.time h.ending.began e h.ending.change h.ending.event (sym t ∙ y),
          )
      go (inr n) l = let s : (del_of m c e).stamp ≡ clock_at R N + 1 = ap (λ (x : Mark). x.stamp) (tell.unended c e n) in absurd (omega arith)

  pub all_settled : AllSettled (clock_at R) r (clock_at R N) m
  all_settled = record { vertex_ins = ins_settled Vertex; vertex_del = del_settled Vertex; edge_ins = ins_settled Edge; edge_del = del_settled Edge }

pub runs_settle : RunsSettle
runs_settle R now m tell r w v raise = all_settled R now m tell r w v raise
