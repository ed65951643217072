-- What a call finds at its key is what the plain graph answers there, and what the plain graph makes of the call is what happens to the rows.
use Rattle.std.proofs.Common.{◌≡◌, ℕ, suc, ◌<◌, ◌≤◌, Bool, true, false, is_some, ◌⊎◌, refl, sym, ◌∙◌, ap, subst₂, inl, inr, arith}
use Rattle.std.proofs.lemmas.Bool.Decides.{nat_tests}
use Rattle.codes.specs.declared.answer.Answer.{Answer}
use Rattle.codes.specs.declared.answer.Answer.TheVariants.{VertexAdded, VertexRemoved, VertexAbsent, EdgeAdded, EdgeRemoved, SnapshotTaken, ReachTaken}
use Rattle.places.specs.declared.place.Op.{Op}
use Rattle.places.specs.declared.place.Op.TheVariants.{Add, Remove}
use Rattle.places.specs.declared.place.Pair.{Pair}
use Rattle.places.specs.declared.place.Survey.TheVariants.{Snapshot, Reach}
use Rattle.places.specs.declared.place.Call.TheVariants as call
use Rattle.questions.specs.Graph.{Graph}
use Rattle.order.specs.Graph.{Feed, asks, spent, both, joined, vertex_answer, edge_answer, answer_to, is_change, changed, after}
use Rattle.order.specs.Keys.{Key, Bounded, number}
use Rattle.order.specs.Marks.{Marks, source_end, target_end, change_key, edge_key, MarksSound}
use Rattle.order.specs.Rows.{Rows, has_at, edge_at, graph_at, unborn, rows_of}
use Rattle.order.specs.Finds.{RowChange, no_change, vertex_born, vertex_ends, edge_born, edge_ends, VertexFound, PairThere, EdgeFound, VertexBirth, VertexEnd, EdgeBirth, EdgeEnd, pair_of, Finds}
use Rattle.order.specs.Finds.{adds_vertex, removes_vertex, adds_edge, removes_edge, finds_vertex, finds_no_vertex, finds_edge, takes_snapshot, reaches, reaches_none, ends_spent}
use Rattle.order.proofs.Changes.{Only, graph_still, vertex_added, vertex_removed, vertices_present, edge_added, edge_removed}
use Rattle.order.proofs.Rows.{Lawful}
use Rattle.order.proofs.Lives.{edge_number_effect, effect_parts, lawful, vertex_life, edge_life, edge_end}
use Rattle.order.proofs.Finds.{vertex_found, edge_found}

pub after_changed : (g : Graph) (f : Feed) (a : Answer) → answer_to g f ≡ a → is_change a ≡ true → after g f ≡ changed g f
after_changed g f a e h = cc

pub after_still : (g : Graph) (f : Feed) (a : Answer) → answer_to g f ≡ a → is_change a ≡ false → after g f ≡ g
after_still g f a e h = cc

-- fed with f where it stands after the key k, the plain graph answers a and goes on to the graph at the next key
abbrev pub Does : Rows → ℕ → Feed → Answer → Type 0
Does rows k f a = (answer_to (graph_at rows k) f ≡ a) × (graph_at rows (suc k) ≡ after (graph_at rows k) f)

does_change : (rows : Rows) (k : ℕ) (f : Feed) (a : Answer) → is_change a ≡ true → answer_to (graph_at rows k) f ≡ a →
    graph_at rows (suc k) ≡ changed (graph_at rows k) f → Does rows k f a
does_change rows k f a h e g = (e, g ∙ sym (after_changed (graph_at rows k) f a e h))

does_nothing : (rows : Rows) (k : ℕ) (f : Feed) (a : Answer) → is_change a ≡ false → answer_to (graph_at rows k) f ≡ a →
    graph_at rows (suc k) ≡ graph_at rows k → Does rows k f a
does_nothing rows k f a h e g = (e, g ∙ sym (after_still (graph_at rows k) f a e h))

module _ (bound top : ℕ) (m : Marks) (s : MarksSound bound top m)
    (c : Key) (bounded : Bounded bound c) (high : c.stamp ≤ top) (k : ℕ) (at : number bound c ≡ suc k) where
  abbrev rows : Rows
  rows = rows_of bound top m

  abbrev laws : Lawful rows
  laws = lawful bound top m s

  -- the number of a key that is c
  number_at : (d : Key) → c ≡ d → number bound d ≡ suc k
  number_at d q = ap (number bound) (sym q) ∙ at

  does_add_vertex : (r : ℕ) → VertexBirth bound top m c r → Only rows k (vertex_born r) → Does rows k (asks (call.Vertex Add (m.key_of r))) VertexAdded
  does_add_vertex r v o =
      let born = number_at (change_key bound (m.vertex_ins r)) v.key in
      let (absent, graph) = vertex_added rows laws k r o v.row born (omega (arith, vertex_life bound top m s r v.stamped)) in
      does_change rows k (asks (call.Vertex Add (m.key_of r))) VertexAdded refl (rw absent refl) graph

  does_remove_vertex : (r : ℕ) → VertexEnd bound top m c r → Only rows k (vertex_ends r) → Does rows k (asks (call.Vertex Remove (m.key_of r))) VertexRemoved
  does_remove_vertex r v o =
      let ends = number_at (change_key bound (m.vertex_del r)) v.key in
      let (present, graph) = vertex_removed rows laws k r o v.row ends (omega (arith, vertex_life bound top m s r v.stamped)) in
      does_change rows k (asks (call.Vertex Remove (m.key_of r))) VertexRemoved refl (rw present refl) graph

  -- the vertices of an edge row that is born by the next key, where they end later
  ends_present : (e : ℕ) → (m.edge_ins e).stamp ≤ top → rows.edge_born e ≤ suc k → k < rows.vertex_ends (m.source e) → k < rows.vertex_ends (m.target e) →
      (has_at rows k (m.key_of (m.source e)) ≡ true) × (has_at rows k (m.key_of (m.target e)) ≡ true)
  ends_present e stamped = vertices_present rows laws k e (s.source_row e stamped) (s.target_row e stamped)

  does_add_edge : (e : ℕ) → EdgeBirth bound top m c e → Only rows k (edge_born e) → Does rows k (asks (call.Edge Add (pair_of m e (m.weight e)))) EdgeAdded
  does_add_edge e v o =
      let effect = edge_number_effect bound top (unborn top) (source_end m e) (target_end m e) (m.edge_ins e) v.effect in
      let born : rows.edge_born e ≡ suc k = effect ∙ number_at (edge_key bound m e (m.edge_ins e)) v.key in
      let lives = edge_life bound top m s e (suc k) v.effect born in
      let stamped = (effect_parts bound top (source_end m e) (target_end m e) (m.edge_ins e) v.effect).0 in
      let (absent, graph) = edge_added rows laws k e o v.row born lives in
      let (from, to) = ends_present e stamped (grind (arith, nat_tests)) (grind (arith, nat_tests)) (grind (arith, nat_tests)) in
      does_change rows k (asks (call.Edge Add (pair_of m e (m.weight e)))) EdgeAdded refl (rw (from, to, absent) refl) graph

  does_remove_edge : (e weight : ℕ) → EdgeEnd bound top m c e → Only rows k (edge_ends e) →
      Does rows k (asks (call.Edge Remove (pair_of m e weight))) EdgeRemoved
  does_remove_edge e weight v o =
      let effect = edge_number_effect bound top (suc top) (source_end m e) (target_end m e) (m.edge_del e) v.effect in
      let ends : rows.edge_ends e ≡ suc k = effect ∙ number_at (edge_key bound m e (m.edge_del e)) v.key in
      let lives = edge_end bound top m s e k v.stamped v.effect ends in
      let (present, graph) = edge_removed rows laws k e o v.row ends lives in
      let (from, to) = ends_present e v.stamped (grind (arith, nat_tests)) (grind (arith, nat_tests)) (grind (arith, nat_tests)) in
      does_change rows k (asks (call.Edge Remove (pair_of m e weight))) EdgeRemoved refl (rw (from, to, present) refl) graph

  found : (i : ℕ) (there : Bool) → VertexFound bound m c i there → has_at rows k i ≡ there
  found = vertex_found bound top m s c bounded k at

  -- where a vertex of the pair is not there, not both are
  not_both : (p : Pair) → VertexFound bound m c p.from false ⊎ VertexFound bound m c p.to false → both (graph_at rows k) p ≡ false
  not_both p (inl h) = let e = found p.from false h in grind arith
  not_both p (inr h) = let e = found p.to false h in grind arith

  -- both vertices are there, and the edge is or is not
  pair_found : (o : Op) (p : Pair) (r t : ℕ) (there : Bool) → PairThere bound m c p r t → EdgeFound bound m c r t there →
      answer_to (graph_at rows k) (asks (call.Edge o p)) ≡ edge_answer o there
  pair_found o p r t there v h =
      let from = found p.from true (r, v.source, v.from) in
      let to = found p.to true (t, v.target, v.to) in
      let edge : joined (graph_at rows k) p ≡ there =
      subst₂ (λ i j. is_some (edge_at rows k i j) ≡ there) v.from v.to (edge_found bound top m s c bounded k at r t there v.source v.target high h) in
      rw (from, to, edge) refl

  -- where nothing changes
  still : (f : Feed) (a : Answer) → is_change a ≡ false → answer_to (graph_at rows k) f ≡ a → Only rows k no_change → Does rows k f a
  still f a n e o = does_nothing rows k f a n e (graph_still rows laws k o)

  pub finds_does : (f : Feed) (v : RowChange) (a : Answer) → Finds bound top m c f v a → Only rows k v → Does rows k f a
  finds_does f v a (adds_vertex r h) o = does_add_vertex r h o
  finds_does f v a (removes_vertex r h) o = does_remove_vertex r h o
  finds_does f v a (adds_edge e h) o = does_add_edge e h o
  finds_does f v a (removes_edge e weight h) o = does_remove_edge e weight h o
  finds_does f v a (finds_vertex p i there h n) o = still (asks (call.Vertex p i)) (vertex_answer p there) n (ap (vertex_answer p) (found i there h)) o
  finds_does f v a (finds_no_vertex p q h) o = still (asks (call.Edge p q)) VertexAbsent refl (rw (not_both q h) refl) o
  finds_does f v a (finds_edge p q r t there h i n) o = still (asks (call.Edge p q)) (edge_answer p there) n (pair_found p q r t there h i) o
  finds_does f v a takes_snapshot o = still (asks (call.Survey Snapshot)) SnapshotTaken refl refl o
  finds_does f v a (reaches i h) o = still (asks (call.Survey (Reach i))) ReachTaken refl (rw (found i true h) refl) o
  finds_does f v a (reaches_none i h) o = still (asks (call.Survey (Reach i))) VertexAbsent refl (rw (found i false h) refl) o
  finds_does f v a (ends_spent b n) o = still (spent b) b n refl o
