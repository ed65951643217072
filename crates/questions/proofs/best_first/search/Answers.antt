use Rattle.std.proofs.Common.{◌≡◌, ℕ, ◌<◌, true, false, None, Some, length, set, sym, refl, ap, ◌∙◌, rules, arith}
use Rattle.std.proofs.lemmas.List.{length-set}
use Rattle.questions.specs.declared.best_first.Label.{Label}
use Rattle.questions.specs.Search.{value_at, listed_at}
use Rattle.questions.proofs.Counting.{Lists, unlisted_less}
use Rattle.questions.proofs.Labels.{value_same, value_other, flags_stay, values_stay, lists}
use Rattle.questions.proofs.Searching.{listed_value, unlisted_none, relaxed_from, begun, step, picked_value, others_stay, finished, all_listed}
use Rattle.questions.proofs.Writing.{slice_get-set_same, slice_get-set_other, written_at, written_self, written_over}
use Rattle.questions.proofs.best_first.search.Goals as goal

pub loop-k-init : goal.loop-k-init
loop-k-init g c =
    let xs = c.args.labels.now in let s = c.args.start in
    let l : s < length xs = omega arith in
    let y : Label = record { value = Some c.first.result; listed = listed_at xs s } in
    let ys = set xs s y in
    let none-listed : (k : ℕ) → listed_at ys k ≡ false = λ k. flags_stay xs s y l refl k ∙ (c.requires.blank k).1 in (
      begun g.met.M.Measure.lawful (g.G.GraphView.graph c.args.page.now) c.len-n.ensures.inside (omega arith) none-listed
          (λ k h. value_other xs s y k h ∙ (c.requires.blank k).0)
          (value_same xs s y l ∙ ap Some c.first.ensures),
      written_self g.T.From.from_gives (λ k. None) (listed_value (listed_at ys) (value_at ys)) c.len-n.result c.args.out.now c.write_none.new.out c.write_none.ensures
          (λ k. unlisted_none (listed_at ys) (value_at ys) k (none-listed k)),
    )

pub loop-k-smaller : goal.loop-k-smaller
loop-k-smaller g c =
    let p = c.in-Some.ensures in let k = c.in-Some.k in let xs = c.loop-k.labels in
    let n : length xs ≡ c.len-n.result = c.loop-k.auto.labels ∙ length-set _ _ _ ∙ omega arith in
    let l : k < length xs = p.0 in
    omega (arith, unlisted_less (listed_at xs) k (listed_at c.relax.new.labels) (λ j. (c.relax.ensures.listed j ∙ lists xs k _ l refl j)) p.1.1 c.len-n.result (omega arith))

pub loop-k-preserved : goal.loop-k-preserved
loop-k-preserved g c =
    let p = c.in-Some.ensures in let k = c.in-Some.k in let xs = c.loop-k.labels in let ys = c.relax.new.labels in
    let n : length xs ≡ c.len-n.result = c.loop-k.auto.labels ∙ length-set _ _ _ ∙ omega arith in
    let l : k < length xs = p.0 in
    let lists-k : Lists (listed_at xs) k (listed_at ys) = λ j. (c.relax.ensures.listed j ∙ lists xs k _ l refl j) in
    let relaxed = relaxed_from g.M.Measure.scale (g.G.GraphView.graph c.args.page.now) c.in-Some.value k (sym c.len-n.ensures.same)
    (values_stay xs k (record { value = value_at xs k; listed = true }) l refl) c.relax.ensures.values in
    let room : k < length c.loop-k.out = omega (arith, n, c.loop-k.auto.out, c.write_none.auto.out, c.requires.area, c.len-n.ensures.same) in
    let law = g.met.M.Measure.lawful in let q = c.loop-k.invariant.0 in let inside = c.len-n.ensures.inside in
    let d = listed_value (listed_at xs) (value_at xs) in let e = listed_value (listed_at ys) (value_at ys) in
    let at-k = picked_value law (g.G.GraphView.graph c.args.page.now) inside q k c.in-Some.value (rw n at p) (listed_at ys) lists-k (value_at ys) relaxed in
    let at-j = others_stay law (g.G.GraphView.graph c.args.page.now) inside q k c.in-Some.value (rw n at p) (listed_at ys) lists-k (value_at ys) relaxed in (
      step law (g.G.GraphView.graph c.args.page.now) inside q k c.in-Some.value (rw n at p) (listed_at ys) lists-k (value_at ys) relaxed,
      written_at g.T.From.from_gives d e k c.len-n.result c.write_none.new.out c.loop-k.out _ c.loop-k.invariant.1 (omega (arith, n)) at-j
          (λ j apart. search (rules, slice_get-set_other)) at-k (search (rules, slice_get-set_same, room)),
    )

pub returns-clause-values : goal.returns-clause-values
returns-clause-values g c =
    let n : length c.loop-k.labels ≡ c.len-n.result = c.loop-k.auto.labels ∙ length-set _ _ _ ∙ omega arith in
    let done = c.in_default.ensures in
    λ k h. finished g.met.M.Measure.lawful (g.G.GraphView.graph c.args.page.now) c.len-n.ensures.inside c.loop-k.invariant.0 (rw n at done) k (omega (arith, c.len-n.ensures.same))

pub returns-clause-written : goal.returns-clause-written
returns-clause-written g c =
    let n : length c.loop-k.labels ≡ c.len-n.result = c.loop-k.auto.labels ∙ length-set _ _ _ ∙ omega arith in
    let done = c.in_default.ensures in
    let e = written_over g.T.From.from_gives (λ k. None) _ (value_at c.loop-k.labels) c.len-n.result c.args.out.now c.write_none.new.out c.loop-k.out
    c.write_none.ensures c.loop-k.invariant.1 (all_listed (rw n at done)) in
    rw (sym c.len-n.ensures.same) e
