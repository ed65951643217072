-- Calls whose run gives what it owes are placed.
use Rattle.std.proofs.Common.{◌≡◌, ℕ, suc, pred, ◌<◌, ◌≤◌, true, Some, None, Option, IfSome, refl, sym, ◌∙◌, ap, subst, inl, inr, arith}
use Rattle.std.proofs.lemmas.Bool.{cases_Bool, cases_lt}
use Rattle.codes.specs.declared.answer.Answer.{Answer}
use Rattle.order.specs.Graph.{empty, is_change}
use Rattle.order.specs.Past.{Finish, Past, fed}
use Rattle.order.specs.Order.{ExplainedBy, Explained, counts_as, stamping, StampOrder, Ordered}
use Rattle.order.specs.Placed.{next_key, Placed}
use Rattle.order.specs.Keys.{Key, number}
use Rattle.order.specs.Marks.{source_end, target_end, change_key, moved_key, has_effect}
use Rattle.order.specs.Rows.{graph_at, far_key, unborn, graph_before}
use Rattle.order.specs.Finds.{makes_change}
use Rattle.order.specs.Marked.{Marking, Told, before_start, by_call, Marked, start_key, start_graph, end_graph, MarkedStands, Fresh, FreshStands}
use Rattle.order.proofs.Keys.{number_by_stamp}
use Rattle.order.proofs.Changes.{graph_empty, graph_still}
use Rattle.order.proofs.Lives.{edge_number_effect, edge_number_far, lawful}
use Rattle.order.proofs.Steps.{Does, finds_does}
use Rattle.order.proofs.Numbered.{rows, key, bounded_start, bottom, span, bottom_and_span, keyed, apart, ranges, in_precedence, after_start}
use Rattle.order.proofs.Owners.{only_own, only_nothing}
use Rattle.order.proofs.Replay.{one_order}
use Rattle.order.proofs.Stampings.{StampingAt, stampings_in_order, change_part, change_answered, stamping_at}

module _ {h : Past} {run : Marking} (p : Marked h run) where
  -- what the plain graph does at the key of a call, and what the run showed of it
  record Played (b n : ℕ) (k : Key) : Type 0 where
    answer : Answer
    does : Does (rows p) n (fed h b) answer
    changes : is_change answer ≡ makes_change (run.change b)
    told : IfSome (h.finish b) (Told (graph_at (rows p) n) (fed h b) answer)

  played : (b n : ℕ) (e : key p b ≡ Some (suc n)) → Played b n (keyed p b (suc n) e).at
  played b n e =
      let k = keyed p b (suc n) e in let call = k.call in
      let u = ranges p b (suc n) e in
      let alone = only_own p n (omega arith) (omega arith) b e in
      let before : pred (number run.bound k.at) ≡ n = omega (arith, k.number) in
      record {
        answer = call.answer;
        does = finds_does run.bound run.top run.marks p.sound k.at call.bounded call.high n k.number (fed h b) (run.change b) call.answer call.finds alone;
        changes = change_answered run.bound run.top run.marks p.sound k.at (fed h b) (run.change b) call.answer call.finds;
        told = subst (λ i. IfSome (h.finish b) (Told (graph_at (rows p) i) (fed h b) call.answer)) before call.told;
      }

  -- a call whose change counts stands at the key of the change, which bears the stamp
  pub counted : (b n : ℕ) (e : key p b ≡ Some n) → counts_as (h.finish b) (h.lower_end b) ≡ true →
      (h.stamp b ≡ Some (keyed p b n e).at.stamp) × ((keyed p b n e).at.part ≤ run.bound)
  counted b n e c =
      let k = keyed p b n e in let call = k.call in
      let made = makes (h.finish b) refl call.told c in
      (call.stamp made, change_part run.bound run.top run.marks p.sound k.at (fed h b) (run.change b) call.answer call.finds made)
    where
      makes : (o : Option Finish) → h.finish b ≡ o → IfSome o (Told (graph_before run.bound run.top run.marks (keyed p b n e).at) (fed h b) (keyed p b n e).call.answer) →
          counts_as o (h.lower_end b) ≡ true → makes_change (run.change b) ≡ true
      makes None q told c = (keyed p b n e).call.counts q ∙ c
      makes (Some f) q told c =
          let call = (keyed p b n e).call in
          sym (change_answered run.bound run.top run.marks p.sound (keyed p b n e).at (fed h b) (run.change b) call.answer call.finds)
          ∙ sym (ap is_change told.answer) ∙ c

  pub stamping_stands : (b n : ℕ) (e : key p b ≡ Some n) → StampingAt run.clock run.bound (keyed p b n e).at (stamping h b)
  stamping_stands b n e =
      stamping_at run.clock run.bound (keyed p b n e).at (counts_as (h.finish b) (h.lower_end b)) (h.stamp b) (h.raise b) (counted b n e)
      (λ t f. (let at = (keyed p b n e).call.raise t f in (at.stamp, at.part, at.raised)))

  in_stamp_order : (b c n o : ℕ) → key p b ≡ Some n → key p c ≡ Some o → n < o → StampOrder (stamping h b) (stamping h c)
  in_stamp_order b c n o e f less =
      let k = keyed p b n e in let l = keyed p c o f in
      stampings_in_order run.clock p.rises run.bound k.at l.at k.call.bounded l.call.bounded (omega (arith, k.number, l.number)) _ _
      l.call.fits.fair (stamping_stands b n e) (stamping_stands c o f)

  explained : (b n : ℕ) → key p b ≡ Some (suc n) → Explained h (next_key (graph_at (rows p)) b n)
  explained b n e = go (h.finish b) refl (played b n e).told
    where
      go : (o : Option Finish) → h.finish b ≡ o → IfSome o (Told (graph_at (rows p) n) (fed h b) (played b n e).answer) →
          ExplainedBy (graph_at (rows p) n) (fed h b) (h.lower_end b) o
      go None q t = let a = played b n e in ap is_change a.does.0 ∙ a.changes ∙ (keyed p b (suc n) e).call.counts q
      go (Some f) q t = record { answer = t.answer ∙ sym (played b n e).does.0; page = t.page }

  pub placed : Placed h
  placed = record {
    now = run.now;
    bottom = bottom p;
    span = span p;
    key = key p;
    graph = graph_at (rows p);
    belongs = λ b n e. ((keyed p b n e).call.belongs);
    keyed = λ b c. (let (k, e) = p.keyed b c in (number run.bound k, cc));
    ranges = λ b n e. (let (early, low, high) = ranges p b n e in (early, low, omega arith));
    apart = apart p;
    precedence = in_precedence p;
    stamps = in_stamp_order;
    explained = explained;
    change = λ b n e. (played b n e).does.1;
    still = λ n low high free. graph_still (rows p) (lawful run.bound run.top run.marks p.sound) n (only_nothing p n low high free);
  }

  -- where no row is from before the start, the graph is empty there
  pub starts_empty : Fresh run → start_graph run ≡ empty
  starts_empty fresh = graph_empty (rows p) (lawful run.bound run.top run.marks p.sound) (number run.bound (start_key run))
      (λ r. (let x = run.marks.vertex_ins r in elim (cases_lt run.top x.stamp) [
        | inl z ↦ number_by_stamp run.bound (start_key run) (change_key run.bound x) (bounded_start p) (omega (arith, p.start_stamp))
        | inr z ↦ elim (p.vertex_births r z) [
          | before_start old ↦ absurd (fresh.vertices r old)
          | by_call b e _ ↦ after_start p b (change_key run.bound x) e
        ]
      ]))
      (λ e. (let d = source_end run.marks e in let f = target_end run.marks e in let x = run.marks.edge_ins e in
      elim (cases_Bool (has_effect run.top d f x)) [
        | inr z ↦ rw (edge_number_far run.bound run.top (unborn run.top) d f x z)
            (number_by_stamp run.bound (start_key run) (far_key run.bound (unborn run.top)) (bounded_start p) (omega (arith, p.start_stamp)))
        | inl z ↦ elim (p.edge_births e z) [
          | before_start old ↦ absurd (fresh.edges e old)
          | by_call b g _ ↦ rw (edge_number_effect run.bound run.top (unborn run.top) d f x z) (after_start p b (moved_key run.bound d f x) g)
        ]
      ]))

  pub marked_order : Ordered h (start_graph run) (end_graph run)
  unfolding placed
  marked_order = let (order, o, e) = one_order placed in (order, o, e ∙ ap (graph_at (rows p)) (bottom_and_span p))

pub marked_stands : MarkedStands
marked_stands h run p = marked_order p

pub fresh_stands : FreshStands
fresh_stands h run p fresh = subst (λ g. Ordered h g (end_graph run)) (starts_empty p fresh) (marked_order p)
