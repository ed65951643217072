-- Whether the change of an unfinished call has an effect: exactly if no vertex of it ended with a lower stamp.
use Rattle.std.proofs.Common.{◌≡◌, ℕ, suc, ◌+◌, ◌<◌, ◌≤◌, true, false, not, sym, refl, ap, ◌∙◌, subst, inl, inr, ⊎_elim, arith}
use Rattle.std.proofs.lemmas.Bool.{cases_Bool}
use Rattle.layout.specs.declared.names.Kind.TheVariants.{Vertex, Edge}
use Rattle.layout.specs.declared.names.Field.{Field}
use Rattle.layout.specs.declared.names.Field.TheVariants.{Ins, Del}
use Rattle.layout.specs.declared.names.Cell.TheVariants as cell
use Rattle.places.specs.declared.mark.Mark.TheVariants.{Stamp}
use Rattle.places.specs.declared.place.Bound.{Bound}
use Rattle.places.specs.declared.place.Change.{Change}
use Rattle.places.specs.declared.place.Change.TheVariants as change
use Rattle.places.specs.Touches.{change_kind}
use Rattle.order.specs.Past.{Past}
use Rattle.order.specs.Keys.{Key}
use Rattle.order.specs.Marks.{Mark, Marks, source_end, target_end, edge_effect}
use Rattle.order.specs.Finds.{RowChange, edge_born, edge_ends, makes_change}
use Rattle.runs.specs.Runs.{RunInTime}
use Rattle.runs.specs.Views.{number_at, clock_at, mark_at, LinkedAt}
use Rattle.runs.specs.Known.{OwnChange, ChangeEvent}
use Rattle.keys.specs.Standing.{Makes, EdgeMakes}
use Rattle.keys.specs.Told.{EndsBelow, LowerEnd, ChangesTold}
use Rattle.keys.proofs.Laws.{RunLaws}
use Rattle.runs.proofs.Events.{linked_later}
use Rattle.keys.proofs.Base.{turn_of, event_linked, EndOf, end_of, end_or, mark_of_field, mark_is, change_below}
use Rattle.keys.proofs.EdgeChanges.{Binds, event_bound, saw_both, has_row, no_effect, effect_parts_false}

module _ (R : RunInTime) (N : ℕ) (m : Marks) (g : RunLaws R N m) where
  module _ (f : Field) (p b : ℕ) (d : Bound) (e x : ℕ) (l : p < N) (ev : ChangeEvent R f p b (change.Edge d) e) (is : mark_at R N Edge f e ≡ Stamp x) where
    own : OwnChange R N b f (change.Edge d) e
    own = record { time = p; before = l; held = (turn_of R N m g f p b (change.Edge d) e ev, ev) }

    source_linked : LinkedAt R N Vertex d.source
    source_linked = has_row R N m g N b d.pair.from d.source (saw_both R N m g N b f d e own).0

    target_linked : LinkedAt R N Vertex d.target
    target_linked = has_row R N m g N b d.pair.to d.target (saw_both R N m g N b f d e own).1

    top : x ≤ clock_at R N
    top = change_below R N m g f p b (change.Edge d) e x N ev (linked_later R (suc p) N Edge e l (event_linked R N m g f p b (change.Edge d) e ev)) is

    ends_low : (r : ℕ) → LinkedAt R N Vertex r → EndsBelow R N r x → (m.vertex_del r).stamp < x
    ends_low r w y =
        let z = end_of R N m g Vertex r N y.number (omega arith) w y.ended in
        let low = y.below in
        omega (arith, ap (λ (v : Mark). v.stamp) z.is)

    low_ends : (r : ℕ) → LinkedAt R N Vertex r → (m.vertex_del r).stamp < x → EndsBelow R N r x
    low_ends r w y =
        let h = top in
        ⊎_elim (λ (z : (n : ℕ) × EndOf R N m g Vertex r N n). record { number = z.0; ended = z.1.now; below = omega (arith, ap (λ (v : Mark). v.stamp) z.1.is) })
        (λ (z : m.vertex_del r ≡ record { stamp = clock_at R N + 1; time = 0 }). absurd (omega (arith, ap (λ (v : Mark). v.stamp) z)))
        (end_or R N m g Vertex r w)

    -- the rows to which the row is bound, by its cells
    bound : Binds R N m g d e
    bound = event_bound R N m g f p b d e l ev

    source_is : number_at R N (cell.Source e) ≡ d.source
    source_is = sym (g.tell.source e) ∙ bound.source

    target_is : number_at R N (cell.Target e) ≡ d.target
    target_is = sym (g.tell.target e) ∙ bound.target

    pub low_end_none : LowerEnd R N e x → edge_effect (clock_at R N) m e (mark_of_field R N m g f Edge e) ≡ false
    low_end_none (inl y) = no_effect R N m g f p b d e x d.source l ev is (inl refl) (ends_low d.source source_linked (subst (λ r. EndsBelow R N r x) source_is y))
    low_end_none (inr y) = no_effect R N m g f p b d e x d.target l ev is (inr refl) (ends_low d.target target_linked (subst (λ r. EndsBelow R N r x) target_is y))

    pub none_low_end : edge_effect (clock_at R N) m e (mark_of_field R N m g f Edge e) ≡ false → LowerEnd R N e x
    none_low_end q =
        let s : (mark_of_field R N m g f Edge e).stamp ≡ x = ap (λ (v : Mark). v.stamp) (mark_is R N m g f p b (change.Edge d) e x l ev is) in
        let h = top in
        ⊎_elim
        (λ (y : (source_end m e).stamp < (mark_of_field R N m g f Edge e).stamp).
        inl (subst (λ r. EndsBelow R N r x) (sym source_is) (low_ends d.source source_linked (omega (arith, s, ap (λ i. (m.vertex_del i).stamp) bound.source)))))
        (λ (y : (target_end m e).stamp < (mark_of_field R N m g f Edge e).stamp).
        inr (subst (λ r. EndsBelow R N r x) (sym target_is) (low_ends d.target target_linked (omega (arith, s, ap (λ i. (m.vertex_del i).stamp) bound.target)))))
        (effect_parts_false (clock_at R N) (source_end m e) (target_end m e) (mark_of_field R N m g f Edge e) (omega (arith, s)) q)

  module _ (h : Past) (told : ChangesTold R N h.stamp h.lower_end) where
    edge_counts : (f : Field) (p b : ℕ) (d : Bound) (e x : ℕ) (w : RowChange) (q : Key) (v : RowChange) → p < N → ChangeEvent R f p b (change.Edge d) e → mark_at R N Edge f e ≡ Stamp x → makes_change w ≡ true →
        EdgeMakes R N m (mark_of_field R N m g f Edge e) e w q v → makes_change v ≡ not (h.lower_end b)
    edge_counts f p b d e x w q v l ev is one (inl (effect, _, s)) =
        ⊎_elim
        (λ (y : h.lower_end b ≡ true). let z : true ≡ false = sym effect ∙ low_end_none f p b d e x l ev is (told.ends_lower f p b d e x l ev is y) in absurd cc)
        (λ (y : h.lower_end b ≡ false). ap makes_change s ∙ one ∙ ap not (sym y))
        (cases_Bool (h.lower_end b))
    edge_counts f p b d e x w q v l ev is one (inr (none, s)) =
        ⊎_elim (λ (y : h.lower_end b ≡ true). ap makes_change s ∙ ap not (sym y))
        (λ (y : h.lower_end b ≡ false). absurd (told.ends_none f p b d e x l ev is y (none_low_end f p b d e x l ev is none)))
        (cases_Bool (h.lower_end b))

    -- the change of a call counts by the key at which it stands exactly if it has no lower end
    pub counts : (f : Field) (p b : ℕ) (d : Change) (r x : ℕ) (q : Key) (v : RowChange) → p < N → ChangeEvent R f p b d r → mark_at R N (change_kind d) f r ≡ Stamp x → Makes R N m f d r q v → makes_change v ≡ not (h.lower_end b)
    counts Ins p b (change.Vertex i) r x q v l ev is s = ap makes_change s.1 ∙ ap not (sym (told.vertex_end Ins p b i r l ev))
    counts Del p b (change.Vertex i) r x q v l ev is s = ap makes_change s.1 ∙ ap not (sym (told.vertex_end Del p b i r l ev))
    counts Ins p b (change.Edge d) r x q v l ev is s = edge_counts Ins p b d r x (edge_born r) q v l ev is refl s
    counts Del p b (change.Edge d) r x q v l ev is s = edge_counts Del p b d r x (edge_ends r) q v l ev is refl s
