-- The promise at an opening, and after what lets calls and cells rest.
use Rattle.std.proofs.Common.{◌≡◌, ℕ, List, [], ◌∷◌, length, Some, None, Option, refl, sym, ◌∙◌, ap, subst, inl, inr, arith}
use Rattle.std.proofs.lemmas.Bool.{cases_eq, eq-eqb, ne_eqb}
use Rattle.layout.specs.declared.sizes.Sizes.{Sizes}
use Rattle.machine.specs.Opening.{opened_state}
use Rattle.order.specs.Graph.{empty}
use Rattle.order.specs.Order.{Ordered}
use Rattle.promise.specs.Sights.{Sight, Sight.rests}
use Rattle.promise.specs.Calls.{Begun, call_as, call_begun, finish_by, deed_by, stamp_as, raise_as, lower_as, past_of}
use Rattle.promise.specs.Left.{graph_in}
use Rattle.promise.specs.Promise.{OpeningsKept, RestsKeep}
use Rattle.promise.proofs.Checks.{one_order}
use Rattle.promise.proofs.Seen.{begun_below, call_below}
use Rattle.promise.proofs.Left.{opened_shows}

pub openings_kept : OpeningsKept
openings_kept cs z room = record {
  order = (
    [],
    one_order (past_of z [] (opened_state cs z).cells) empty [] 0 (call_below []) (record { members = refl; once = refl; precedence = refl; stamps = refl; explains = tt }),
    opened_shows z cs room,
  );
  bounds = λ b x e. absurd (let f : None ≡ Some x = e in cc);
  pages = λ w page e. absurd (let f : None ≡ Some page = e in cc);
}

none_begun : (ss : List Sight) (o : Option Begun) → call_begun ss (length ss) ≡ o → o ≡ None
none_begun ss None e = refl
none_begun ss (Some x) e = absurd (let l = begun_below ss (length ss) x e in omega arith)

rest_begun : (ss : List Sight) (b : ℕ) → call_begun (rests ∷ ss) b ≡ call_begun ss b
rest_begun ss b = elim (cases_eq b (length ss)) [
  | inl q ↦ rw (eq-eqb b (length ss) q) (sym (ap (call_begun ss) q ∙ none_begun ss (call_begun ss (length ss)) refl))
  | inr q ↦ rw (ne_eqb b (length ss) q) refl
]

rest_past : (z : Sizes) (ss : List Sight) (cells : List ℕ) → past_of z ss cells ≡ past_of z (rests ∷ ss) cells
rest_past z ss cells = λ i. record {
  begun = λ b. call_as (sym (rest_begun ss b) i);
  finish = finish_by z.keys ss;
  stamp = λ b. stamp_as z cells (deed_by ss b);
  raise = λ b. raise_as (deed_by ss b);
  lower_end = λ b. lower_as z cells (deed_by ss b);
}

pub rests_keep : RestsKeep
rests_keep z held g ss cells k = record {
  order = subst (λ h. Ordered h g (graph_in z cells)) (rest_past z ss cells) k.order;
  bounds = λ b x e. k.bounds b x (sym (rest_begun ss b) ∙ e);
  pages = k.pages;
}
