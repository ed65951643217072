use Rattle.std.proofs.Common.{◌≡◌, ◌≤◌, ◌<◌, true, is_some, sym, refl, ap, ◌∙◌, arith, rules}
use Rattle.std.proofs.lemmas.List.{length-set}
use Rattle.questions.proofs.Spreading.{room}
use Rattle.questions.proofs.Listing.{is_edge, no_edge, begun, turned, passed, newly, complete_list, ended}
use Rattle.questions.proofs.breadth_first.spread.Goals as goal
use Rattle.questions.proofs.breadth_first.spread.Goals.{else-is_some-via-then-is_some+else-not-listed-j, else-is_some-via-else-is_some, else-loop-served-test, then-loop-served-test+in_default}

pub loop-served-init : goal.loop-served-init
loop-served-init g c =
    let p = c.push.ensures in let n = c.new-listing.ensures in record {
      same = refl;
      flags = omega (arith, length-set c.args.listed.now c.args.start true);
      served = begun (g.G.GraphView.graph c.args.page.now) c.len-n.ensures.inside (omega arith) c.args.listed.now (omega arith) c.requires.by_index
          c.args.out.now _ _ (omega arith) (let a = n.area in let b = n.none in let z = p.area in cc) (let b = n.none in let z = p.count in omega arith);
    }

pub push-requires-then-not-listed-j : goal.push-requires-then-not-listed-j
push-requires-then-not-listed-j g c =
    let inv = c.loop-j.invariant in let q = inv.serving in
    let s = c.in-Some-2.ensures.steps.0 in
    (omega arith, omega (arith, q.area, room q.spread c.loop-j.j-iterator.next (omega arith) (rw s.2 at c.if-not-listed-j.true)))

pub loop-j-preserved-then-not-listed-j : goal.loop-j-preserved-then-not-listed-j
loop-j-preserved-then-not-listed-j g c =
    let inv = c.loop-j.invariant in let q = inv.serving in
    let steps = c.in-Some-2.ensures.steps in let s = steps.0 in let p = c.push-then-not-listed-j.ensures in
    let graph = g.G.GraphView.graph c.args.page.now in let j = c.loop-j.j-iterator.next in
    let edge : c.in-Some-2.weight ≡ graph.edge c.in-Some.k j = rw (inv.page, inv.key) at s.3 in
    let new = rw s.2 at c.if-not-listed-j.true in
    let small : j < c.len-n.result = omega arith in
    record {
      can = tt;
      ends = tt;
      page = cc;
      key = cc;
      end = cc;
      within = omega arith;
      same = p.same_reference ∙ inv.same;
      flags = length-set _ _ _ ∙ inv.flags;
      serving = rw (s.1, s.2)
          (newly graph c.len-n.ensures.inside q (is_edge _ _ (c.is_some.ensures ∙ ap is_some edge) c.if-is_some.true) (omega arith) new (omega (arith, q.area, room q.spread j small new)) _ (rw s.2 at p.area) _ p.count _ (search rules));
    }

pub loop-j-preserved : goal.loop-j-preserved
loop-j-preserved g c =
    let inv = c.loop-j.invariant in let q = inv.serving in
    let steps = c.in-Some-2.ensures.steps in let s = steps.0 in
    let graph = g.G.GraphView.graph c.args.page.now in let j = c.loop-j.j-iterator.next in
    let edge : c.in-Some-2.weight ≡ graph.edge c.in-Some.k j = rw (inv.page, inv.key) at s.3 in
    record {
      can = tt;
      ends = tt;
      page = cc;
      key = cc;
      end = cc;
      within = omega arith;
      same = inv.same;
      flags = inv.flags;
      serving = rw s.1 (passed graph c.len-n.ensures.inside q (λ e. elim c.else-is_some.branch [
        | else-is_some-via-then-is_some+else-not-listed-j w ↦ rw s.2 at w.if-not-listed-j.false
        | else-is_some-via-else-is_some w ↦ absurd (no_edge _ _ (c.is_some.ensures ∙ ap is_some edge) w.if-is_some.false e.0 e.1)
      ]));
    }

pub loop-served-preserved : goal.loop-served-preserved
loop-served-preserved g c =
    let inv = c.loop-j.invariant in
    let s = c.in-None.ensures.steps.0 in
    let z : c.loop-j.j-iterator.next ≡ c.len-n.result = omega arith in
    record {
      same = inv.same ∙ c.loop-served.invariant.same;
      flags = inv.flags;
      served = turned (g.G.GraphView.graph c.args.page.now) c.len-n.ensures.inside (rw z at inv.serving);
    }

pub returns : goal.returns
returns g c =
    let inv = c.loop-served.invariant in
    let served : c.loop-served.listing.count ≤ c.loop-served.served = elim c.loop-served-test.branch [
      | else-loop-served-test w ↦ omega (arith, inv.served.1.counted, w.loop-served-test.false)
      | then-loop-served-test+in_default w ↦ w.in_default.ensures
    ] in
    let names = sym (inv.same ∙ c.push.ensures.same_reference ∙ c.new-listing.ensures.same_reference) in
    ended (grind arith) (complete_list (g.G.GraphView.graph c.args.page.now) c.len-n.ensures.inside c.loop-served.listed inv.served served)
