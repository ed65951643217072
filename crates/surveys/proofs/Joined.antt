-- An edge of a finished page joins two keys that the page shows.
use Rattle.std.proofs.Common.{◌≡◌, ℕ, Bool, true, false, cond, Some, None, Option, sym, refl, ap, ◌∙◌, inl, inr}
use Rattle.codes.specs.declared.answer.Answer.{Answer}
use Rattle.codes.specs.declared.answer.Answer.TheVariants.{VertexAbsent, SnapshotTaken, ReachTaken, ClockSpent}
use Rattle.layout.specs.declared.names.Field.TheVariants.{Ins, Del}
use Rattle.places.specs.declared.place.Survey.{Survey}
use Rattle.places.specs.declared.place.Survey.TheVariants.{Snapshot, Reach}
use Rattle.places.specs.declared.place.Call.{Call}
use Rattle.places.specs.declared.place.Call.TheVariants as call
use Rattle.machine.specs.Workers as workers
use Rattle.questions.specs.Graph.{Graph, on}
use Rattle.order.specs.Graph.{Reached}
use Rattle.order.specs.Marks.{Marks}
use Rattle.order.specs.Raises.{ShowsVisible}
use Rattle.runs.specs.Runs.{RunInTime}
use Rattle.runs.specs.Purposes.{MadeChange}
use Rattle.runs.specs.Reasons.{Why, Why.vertex_made, Why.vertex_here, Why.vertex_won, Why.vertex_gone, Why.vertex_ended, Why.ended_below, Why.edge_made, Why.edge_here, Why.edge_missed, Why.rows_spent, HasReason}
use Rattle.walks.specs.Surveys.{Says}

-- a graph of visible rows
graph_joins : (m : Marks) (t : ℕ) (g : Graph) → ShowsVisible m t g → (i j x : ℕ) → g.edge i j ≡ Some x → (g.has i ≡ true) × (g.has j ≡ true)
graph_joins m t g h i j x e =
    let (r, v, o) = (h.edges i j x).0 e in
    ((h.vertices i).1 (m.source r, v.source, o.from), (h.vertices j).1 (m.target r, v.target, o.to))

-- the part of it that a key reaches
reached_joins : (g : Graph) (s : ℕ) (p : Graph) → Reached g s p → (i j x : ℕ) → p.edge i j ≡ Some x → (p.has i ≡ true) × (p.has j ≡ true)
reached_joins g s p r i j x e = by_test (p.has i) refl (sym (r.leaving i j) ∙ e)
  where
    by_test : (t : Bool) → p.has i ≡ t → cond t (g.edge i j) None ≡ Some x → (p.has i ≡ true) × (p.has j ≡ true)
    by_test true q z = (q, (r.keys j).1 (on x ((r.keys i).0 q) z))
    by_test false q z = absurd cc

pub says_joins : (m : Marks) (t : ℕ) (g p : Graph) → ShowsVisible m t g → (a : Answer) (v : Survey) → Says a v g p → workers.finishes a ≡ true → (i j x : ℕ) → p.edge i j ≡ Some x →
    (p.has i ≡ true) × (p.has j ≡ true)
says_joins m t g p h SnapshotTaken Snapshot s f i j x e =
    let q = graph_joins m t g h i j x (ap (λ (y : Graph). y.edge i j) (sym s) ∙ e) in
    (ap (λ (y : Graph). y.has i) s ∙ q.0, ap (λ (y : Graph). y.has j) s ∙ q.1)
says_joins m t g p h ReachTaken (Reach k) s f i j x e = reached_joins g k p s.1 i j x e
says_joins m t g p h VertexAbsent v s f i j x e = absurd cc
says_joins m t g p h ClockSpent v s f i j x e = absurd cc
says_joins m t g p h a v s f i j x e = absurd s

not_page : (a b : Answer) → a ≡ b → workers.finishes b ≡ false → workers.finishes a ≡ true → ⊥
not_page a b e f q = (let x = sym (ap workers.finishes e ∙ f) ∙ q in cc)

-- no other call finishes a page
why_not : (R : RunInTime) (k b : ℕ) (c : Call) (m : Option MadeChange) (a : Answer) → Why R k b c m a → workers.finishes a ≡ true → ⊥
why_not R k b c m a (vertex_made Ins i r o d e x y z) f = not_page a _ e refl f
why_not R k b c m a (vertex_made Del i r o d e x y z) f = not_page a _ e refl f
why_not R k b c m a (vertex_here i r o (inl e) x) f = not_page a _ e.1 refl f
why_not R k b c m a (vertex_here i r o (inr e) x) f = not_page a _ e.1 refl f
why_not R k b c m a (vertex_won i r o d e x y z u) f = not_page a _ e refl f
why_not R k b c m a (vertex_gone i r o d e x y) f = not_page a _ e refl f
why_not R k b c m a (vertex_ended i r o d e x y) f = not_page a _ e refl f
why_not R k b c m a (ended_below g d s x i r n o q e y z u v h j) f = not_page a _ e refl f
why_not R k b c m a (edge_made Ins d s x o q e y z u) f = not_page a _ e refl f
why_not R k b c m a (edge_made Del d s x o q e y z u) f = not_page a _ e refl f
why_not R k b c m a (edge_here p d s o q (inl e) y) f = not_page a _ e.1 refl f
why_not R k b c m a (edge_here p d s o q (inr e) y) f = not_page a _ e.1 refl f
why_not R k b c m a (edge_missed p d s o q e y z) f = not_page a _ e refl f
why_not R k b c m a (rows_spent d o q e y) f = not_page a _ e refl f

pub page_survey : (R : RunInTime) (k b : ℕ) (c : Call) (m : Option MadeChange) (a : Answer) → HasReason R k b c m a → workers.finishes a ≡ true → (v : Survey) × (c ≡ call.Survey v)
page_survey R k b (call.Survey v) m a r f = (v, refl)
page_survey R k b (call.Vertex o i) m a r f = absurd (why_not R k b (call.Vertex o i) m a r f)
page_survey R k b (call.Edge o p) m a r f = absurd (why_not R k b (call.Edge o p) m a r f)
