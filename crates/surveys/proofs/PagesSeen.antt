-- After the answer of a snapshot or reach the page of the state is the page that its walks made.
use Rattle.std.proofs.Common.{◌≡◌, ℕ, suc, Bool, true, false, cond, not, ◌&&◌, eqb, ltb, None, sym, refl, ap, ◌∙◌}
use Rattle.layout.specs.declared.names.Cell.TheVariants as cell
use Rattle.layout.specs.declared.sizes.Sizes.{Sizes}
use Rattle.machine.specs.States.{State}
use Rattle.machine.specs.Turns.{cell_at}
use Rattle.questions.specs.Pages.{weight_of}
use Rattle.runs.specs.Seen.{page_graph}
use Rattle.runs.proofs.Steps.{sizes_at}
use Rattle.walks.specs.Pages.{page_of, graph_of}
use Rattle.walks.specs.Turns.{goes}
use Rattle.bounds.specs.Bounds.{is_turn_of_worker}
use Rattle.bounds.proofs.Counts.{own_turn}
use Rattle.bounds.proofs.SurveySteps.{Step, own, rests, step, page_next}
use Rattle.surveys.specs.Pages.{PagesSeen}

-- the graph of a state's page is that of its cells
pub same_graph : (s : State) (w : ℕ) → page_graph s w ≡ graph_of s.sizes.keys (page_of s w)
same_graph s w = λ x. record { has = λ i. has_path i x; edge = λ i j. edge_path i j x }
  where
    key_test : (t : Bool) (n : ℕ) → (t && not (eqb n 0)) ≡ (t && not (eqb (cond t n 0) 0))
    key_test true n = refl
    key_test false n = refl

    pair_test : (t : Bool) (n : ℕ) → cond t (weight_of n) None ≡ cond t (weight_of (cond t n 0)) None
    pair_test true n = refl
    pair_test false n = refl

    has_path : (i : ℕ) → (page_graph s w).has i ≡ (graph_of s.sizes.keys (page_of s w)).has i
    has_path i = key_test (ltb i s.sizes.keys) (cell_at s.sizes s.cells (cell.PageKey w i))

    edge_path : (i j : ℕ) → (page_graph s w).edge i j ≡ (graph_of s.sizes.keys (page_of s w)).edge i j
    edge_path i j = pair_test (ltb i s.sizes.keys && ltb j s.sizes.keys) (cell_at s.sizes s.cells (cell.PagePair w i j))

pub pages_seen : PagesSeen
pages_seen R w began till v a inside by opened asked answered = by_step (step R w began v inside till by till opened)
  where
    by_step : Step R w began v inside till by till opened → page_graph (R.state (suc till)) w ≡ graph_of R.sizes.keys (goes (R.state till) w).page
    by_step (rests n e) = absurd (let x = sym (own_turn w) ∙ ap (is_turn_of_worker w) (sym asked) ∙ n in cc)
    by_step (own q n e) =
        same_graph (R.state (suc till)) w
        ∙ ap (λ (z : Sizes). graph_of z.keys (page_of (R.state (suc till)) w)) (sizes_at R (suc till))
        ∙ ap (graph_of R.sizes.keys) (page_next R w began v inside till by till opened q n e)
