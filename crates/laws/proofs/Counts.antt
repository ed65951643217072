-- How a turn counts the rows that its worker has linked.
use Rattle.std.proofs.Common.{◌≡◌, ℕ, ◌+◌, Bool, true, false, cond, refl}
use Rattle.std.proofs.lemmas.Bool.{cond_both}
use Rattle.std.specs.declared.ops.ControlFlow.TheVariants.{Continue, Break}
use Rattle.layout.specs.declared.names.Kind.{Kind}
use Rattle.layout.specs.declared.names.Kind.TheVariants.{Vertex, Edge}
use Rattle.places.specs.declared.place.Hand.{Hand}
use Rattle.places.specs.declared.place.Place.TheVariants as place
use Rattle.places.specs.Moved.{Next, Next as next}
use Rattle.places.specs.Flows.{Flow}
use Rattle.places.specs.Touches.{change_kind}
use Rattle.books.specs.Walked.{WalkOutcome, walked_of}
use Rattle.machine.specs.declared.worker.Worker.{Worker}
use Rattle.machine.specs.Workers.{at, finishes, finished, linked_of, with_book, counted, arrived, followed}

abbrev pub same_kind : Kind → Kind → Bool
same_kind Vertex Vertex = true
same_kind Edge Edge = true
same_kind c k = false

-- the count of linked rows after a turn
abbrev pub count_after : Next → Kind → ℕ → ℕ
count_after (next.Linked c r) k n = cond (same_kind (change_kind c) k) (n + 1) n
count_after x k n = n

arrived_count : (v : Worker) (o : Flow) (k : Kind) → linked_of (arrived v o) k ≡ linked_of v k
arrived_count v (Continue p) k = refl
arrived_count v (Break a) k = cond_both (finishes a) (finished v) (at v place.Idle) (λ u. linked_of u k ≡ linked_of v k) (λ _. refl) (λ _. refl)

counted_count : (v : Worker) (c k : Kind) → linked_of (counted v c) k ≡ cond (same_kind c k) (linked_of v k + 1) (linked_of v k)
counted_count v Vertex Vertex = refl
counted_count v Vertex Edge = refl
counted_count v Edge Vertex = refl
counted_count v Edge Edge = refl

pub followed_count : (n : ℕ) (v : Worker) (h : Hand) (x : Next) (k : Kind) → linked_of (followed n v h x).worker k ≡ count_after x k (linked_of v k)
followed_count n v h (next.Moved o) k = arrived_count v o k
followed_count n v h (next.Linked c r) k = counted_count v (change_kind c) k
followed_count n v h (next.Raised s t) k = refl
followed_count n v h (next.Walked w r) k = let o : WalkOutcome = walked_of v.book w n r h in arrived_count (with_book v o.book) o.out k
