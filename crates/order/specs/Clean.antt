-- Clean starts: a run can start with any rows that are bound to one another as the rows of a graph are.
use Rattle.std.specs.Prelude.{◌≡◌, ℕ, ◌+◌, ◌<◌, Bool, true, false, if◌then◌else◌, ◌↔◌, Some, None}
use Rattle.questions.specs.Graph.{Graph}
use Rattle.order.specs.Past.{Past}
use Rattle.order.specs.Marks.{old_vertex, old_edge}
use Rattle.order.specs.Raises.{AllSettled}
use Rattle.order.specs.Finds.{no_change}
use Rattle.order.specs.Marked.{Marking, Marked}
use Rattle.order.specs.Ends.{ShowsOld, NoneEnded}

-- which rows are there at the start, of which key each vertex row is, and to which vertex rows each edge row is bound
pub record Start : Type 0 where
  pub vertices : ℕ
  pub vertex_there : ℕ → Bool
  pub key_of : ℕ → ℕ
  pub edges : ℕ
  pub edge_there : ℕ → Bool
  pub source : ℕ → ℕ
  pub target : ℕ → ℕ
  pub weight : ℕ → ℕ

pub record CleanStart (s : Start) : Type 0 where
  -- of a key one row is there at most, and between two vertex rows one edge row
  pub one_vertex : (r t : ℕ) → s.vertex_there r ≡ true → s.vertex_there t ≡ true → s.key_of r ≡ s.key_of t → r ≡ t
  pub one_edge : (e f : ℕ) → s.edge_there e ≡ true → s.edge_there f ≡ true → s.source e ≡ s.source f → s.target e ≡ s.target f → e ≡ f
  -- an edge row that is there is bound to vertex rows that are there
  pub source : (e : ℕ) → s.edge_there e ≡ true → (s.source e < s.vertices) × (s.vertex_there (s.source e) ≡ true)
  pub target : (e : ℕ) → s.edge_there e ≡ true → (s.target e < s.vertices) × (s.vertex_there (s.target e) ≡ true)

-- the graph g is that of the rows that are there
pub record ShowsStart (s : Start) (g : Graph) : Type 0 where
  pub vertices : (i : ℕ) → (g.has i ≡ true) ↔ ((v : ℕ) × (v < s.vertices) × (s.vertex_there v ≡ true) × (s.key_of v ≡ i))
  pub edges : (i j x : ℕ) → (g.edge i j ≡ Some x) ↔
      ((e : ℕ) × (e < s.edges) × (s.edge_there e ≡ true) × (s.key_of (s.source e) ≡ i) × (s.key_of (s.target e) ≡ j) × (s.weight e ≡ x))

-- no call began
abbrev pub no_calls : Past
no_calls = record { begun = λ b. None; finish = λ b. None; stamp = λ b. None; raise = λ b. None; lower_end = λ b. false }

-- a run that starts with these rows while the clock is first, at its first moment
abbrev pub started_run : ℕ → Start → Marking
started_run first s = record {
  now = 0;
  clock = λ k. first;
  bound = 1;
  top = first;
  marks = record {
    vertices = s.vertices;
    key_of = s.key_of;
    vertex_ins = λ v. if s.vertex_there v then old_vertex else (record { stamp = first + 2; time = 0 });
    vertex_del = λ v. record { stamp = first + 1; time = 0 };
    edges = s.edges;
    source = s.source;
    target = s.target;
    weight = s.weight;
    edge_ins = λ e. if s.edge_there e then old_edge first else (record { stamp = first + 2; time = 0 });
    edge_del = λ e. record { stamp = first + 1; time = 0 };
  };
  key = λ b. None;
  change = λ b. no_change;
}

-- such a run gives what it owes: its rows from before the start show the graph, none has ended, and a raise can meet them
pub record GoodStart (first : ℕ) (s : Start) (g : Graph) : Type 0 where
  pub marked : Marked no_calls (started_run first s)
  pub shows : ShowsOld (started_run first s) g
  pub none_ended : NoneEnded (started_run first s)
  pub settled : (r : ℕ) → 0 < r → AllSettled (started_run first s).clock r first (started_run first s).marks

-- every clean start is good
abbrev pub CleanStarts : Type 0
CleanStarts = (first : ℕ) → 0 < first → (s : Start) → CleanStart s → (g : Graph) → ShowsStart s g → GoodStart first s g
