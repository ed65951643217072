-- A cell of a pair is filled, and a key joins.
use Rattle.std.proofs.Common.{◌≡◌, ℕ, ◌+◌, ◌*◌, ◌/◌, ◌<◌, ◌≤◌, true, ◌∙◌, ◌⊎◌, inl, inr, arith, div-lt_iff_lt-mul}
use Rattle.layout.specs.Rows.{no_row}
use Rattle.places.specs.declared.place.Survey.{Survey}
use Rattle.places.specs.declared.place.Survey.TheVariants.{Snapshot, Reach}
use Rattle.walks.specs.Courses.{Course}
use Rattle.walks.proofs.Drafts.{at_put, put_here, put_there, Draft, join_in, pair_in, at_pair}
use Rattle.walks.proofs.Known.{Shown, Queued, Reached, Joined, Serving}
use Rattle.walks.proofs.Counts.{shown_more}

module _ (c : Course) (n : ℕ) (some_key : 0 < n) (k : ℕ) where
  pub in_queue : (x m : ℕ) → x < n * m → x / n < m
  in_queue x m l = (div-lt_iff_lt-mul some_key).1 (omega arith)

  -- a cell of a pair is filled
  pub serving_pair : (v : Survey) (d : Draft) (x i j w : ℕ) → Serving c n k v d x → 0 < d.key i → Shown c d.t k i j w → Serving c n k v (pair_in d i j w) x
  serving_pair v d x i j w s z h = record {
    rows = s.rows;
    joined = λ y a. let g = s.joined y a in record { small = g.small; seen = g.seen; row = g.row; nth = g.nth; within = g.within; queued = g.queued; reached = g.reached };
    queued = s.queued;
    mode = same_mode v s.mode;
    cells = at_pair (λ i j w. (w ≡ 0) ⊎ ((0 < d.key i) × Shown c d.t k i j w)) d i j w (inr (z, h)) s.cells;
    served = λ y a m. let g = s.served y a m in record {
      shown = at_pair (λ i j u. Shown c d.t k i j (d.pair i j) → Shown c d.t k i j u) d i j w (λ o. h) (λ i j o. o) _ _ g.shown;
      leads = g.leads;
    };
  }
    where
      same_mode : (v : Survey) → Queued c n v d → Queued c n v (pair_in d i j w)
      same_mode Snapshot m = m
      same_mode (Reach o) m = m

  -- key j joins; it has had its walk and is not shown
  module _ (d : Draft) (j : ℕ) (l : j < n) (e : d.seen j ≡ true) (z : 0 < d.row j) (new : d.key j ≡ no_row) where
    grows : (y : ℕ) → 0 < d.key y → 0 < (join_in d j).key y
    grows y = at_put (λ y v. 0 < d.key y → 0 < v) d.key j (d.row j) (λ o. z) (λ y q o. o) y

    pub old_place : (m : ℕ) → m < d.len → (join_in d j).queue m ≡ d.queue m
    old_place m a = put_there d.queue d.len j m (λ q. omega arith)

    reach_mode : (i : ℕ) → Queued c n (Reach i) d → Queued c n (Reach i) (join_in d j)
    reach_mode i m = (
      at_put (λ a q. a < d.len + 1 → 0 < (join_in d j).key q) d.queue d.len j (λ o. rw (put_here d.key j (d.row j)) z) (λ a q o. grows _ (m.0 a (omega arith))),
      grows i m.1,
      rw (shown_more d.key j (d.row j) n l new z) (omega (arith, m.2)),
    )

    pub serving_joined : (i x : ℕ) → x ≤ n * d.len → Reached c n (Reach i) d.t k j → Serving c n k (Reach i) d x → Serving c n k (Reach i) (join_in d j) x
    serving_joined i x r w s = record {
      rows = s.rows;
      joined =
          at_put (λ y v. 0 < v → Joined c n k (Reach i) (join_in d j) y) d.key j (d.row j)
          (λ o. record { small = l; seen = e; row = put_here d.key j (d.row j); nth = d.len; within = omega arith; queued = put_here d.queue d.len j; reached = w })
          (λ y q o. let g = s.joined y o in record {
            small = g.small;
            seen = g.seen;
            row = put_there d.key j (d.row j) y q ∙ g.row;
            nth = g.nth;
            within = omega (arith, g.within);
            queued = old_place g.nth g.within ∙ g.queued;
            reached = g.reached;
          });
      queued = at_put (λ m q. m < d.len + 1 → q < n) d.queue d.len j (λ o. l) (λ m q o. s.queued m (omega arith));
      mode = reach_mode i s.mode;
      cells = λ a y. cell a y (s.cells a y);
      served = λ y a m. (
          let within : y < n * d.len = omega arith in
          let g = s.served y a within in
          rw (old_place (y / n) (in_queue y d.len within)) (record { shown = g.shown; leads = λ f o u v. grows _ (g.leads f o u v) }));
    }
      where
        cell : (a y : ℕ) → (d.pair a y ≡ 0) ⊎ ((0 < d.key a) × Shown c d.t k a y (d.pair a y)) → (d.pair a y ≡ 0) ⊎ ((0 < (join_in d j).key a) × Shown c d.t k a y (d.pair a y))
        cell a y (inl q) = inl q
        cell a y (inr (q, h)) = inr (grows a q, h)
