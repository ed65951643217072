-- What follows when a walk has come to its end.
use Rattle.std.specs.Prelude.{ℕ, ◌+◌, Bool, false, if◌then◌else◌, not, ◌||◌, ◌==◌, nat_lt}
use Rattle.codes.specs.declared.answer.Answer.TheVariants.{VertexAbsent}
use Rattle.std.specs.declared.ops.ControlFlow.TheVariants.{Continue, Break}
use Rattle.layout.specs.Rows.{no_row}
use Rattle.places.specs.Flows.{Flow}
use Rattle.places.specs.declared.place.Survey.{Survey}
use Rattle.places.specs.declared.place.Survey.TheVariants.{Snapshot, Reach}
use Rattle.places.specs.declared.place.ServedPair.{ServedPair}
use Rattle.places.specs.declared.place.Job.{Job}
use Rattle.places.specs.declared.place.Job.TheVariants as job
use Rattle.places.specs.declared.place.Walk.{Walk}
use Rattle.places.specs.declared.place.Hand.{Hand}
use Rattle.books.specs.Books.{shown_of, row_of, is_seen, with_row, joined}
use Rattle.books.specs.Serving.{pair_number, walk_or, serve_from}
use Rattle.books.specs.declared.book.Book.{Book}
use Rattle.books.specs.declared.walked.Entry.{Entry}
use Rattle.books.specs.declared.walked.Entry.TheVariants as entry
use Rattle.books.specs.declared.walked.Served.{Served}

-- the book after a walk, what follows, and what is written into the page
pub record WalkOutcome : Type 0 where
  pub book : Book
  pub out : Flow
  pub entry : Entry

abbrev pub outcome : Survey → Book → Served → WalkOutcome
outcome v b s = record { book = b; out = walk_or v s.flow; entry = s.entry }

abbrev pub walk_of : Survey → Job → Flow
walk_of v j = walk_or v (Continue j)

-- a key that has had its walk joins
abbrev pub walked_joined : Book → ℕ → ℕ → Book
walked_joined b k r = joined (with_row b k r) k

-- A key of a snapshot: its row enters the page, and the next key is walked; after the last one the pairs are.
abbrev pub key_walked : Book → Survey → ℕ → ℕ → ℕ → WalkOutcome
key_walked b v n k r = record {
  book = walked_joined b k r;
  out = if nat_lt (k + 1) n then walk_of v (job.Key (k + 1)) else serve_from (walked_joined b k r) v n 0;
  entry = entry.Key k r;
}

-- The start of a reach: 13 where it is absent; else it is the first to join.
abbrev pub start_walked : Book → Survey → ℕ → ℕ → ℕ → WalkOutcome
start_walked b v n k r =
    if r == no_row then (record { book = b; out = Break VertexAbsent; entry = entry.Nothing })
    else (record { book = walked_joined b k r; out = serve_from (walked_joined b k r) v n 0; entry = entry.Key k r })

-- only a reach lets keys join here, and each only once
abbrev pub joins : Survey → ℕ → Bool
joins Snapshot shown = false
joins (Reach i) shown = shown == no_row

-- The target of a visible edge row has had its walk: the edge is there if its target row is the visible row of its key.
abbrev pub resolved : Book → Survey → ℕ → ServedPair → Hand → WalkOutcome
resolved b v n l h =
    if h.target == row_of b l.to then
    (if joins v (shown_of b l.to) then (record { book = joined b l.to; out = serve_from (joined b l.to) v n (pair_number n l + 1); entry = entry.Join l.from l.to h.weight (row_of b l.to) })
    else (record { book = b; out = serve_from b v n (pair_number n l + 1); entry = entry.Pair l.from l.to h.weight }))
    else (record { book = b; out = serve_from b v n (pair_number n l + 1); entry = entry.Nothing })

-- A pair: a visible row whose source is the served key's row leads to a walk of its target, once in the call.
abbrev pub pair_walked : Book → Survey → ℕ → ServedPair → ℕ → Hand → WalkOutcome
pair_walked b v n l r h =
    if r == no_row || not (h.source == shown_of b l.from) then (record { book = b; out = serve_from b v n (pair_number n l + 1); entry = entry.Nothing })
    else if is_seen b l.to then resolved b v n l h
    else (record { book = b; out = walk_of v (job.Target l r); entry = entry.Nothing })

abbrev pub walked_at : Book → Survey → Job → ℕ → ℕ → Hand → WalkOutcome
walked_at b v (job.Key k) n r h = key_walked b v n k r
walked_at b v (job.Start k) n r h = start_walked b v n k r
walked_at b v (job.Pair l) n r h = pair_walked b v n l r h
walked_at b v (job.Target l e) n r h = resolved (with_row b l.to r) v n l h

abbrev pub walked_of : Book → Walk → ℕ → ℕ → Hand → WalkOutcome
walked_of b k n r h = walked_at b k.survey k.job n r h
