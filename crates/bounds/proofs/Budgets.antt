-- How many turns a call has had at most at each place, in the round in which it is there: an add of an edge begins a new round at each lost link.
use Rattle.std.proofs.Common.{◌≡◌, ℕ, ◌+◌, ◌≤◌, Bool, true, false, cond, ◌&&◌, eqb, None, Option, Ok, Err, Continue, Break, sym, refl, ◌∙◌, subst, arith}
use Rattle.std.proofs.lemmas.Bool.{both_ways, cond_both, eqb-true, eq-eqb, ne_eqb}
use Rattle.std.specs.Option.{is_some}
use Rattle.layout.specs.declared.names.Field.TheVariants.{Ins, Del}
use Rattle.places.specs.Marks.{pending, mark_of, is_ended, is_below}
use Rattle.places.specs.declared.mark.Mark.{Mark}
use Rattle.places.specs.declared.place.Op.{Op}
use Rattle.places.specs.declared.place.Op.TheVariants.{Add, Remove, Contains}
use Rattle.places.specs.declared.place.Bound.{Bound}
use Rattle.places.specs.declared.place.Side.TheVariants.{Source, Target}
use Rattle.places.specs.declared.place.Look.{Look}
use Rattle.places.specs.declared.place.Look.TheVariants as look
use Rattle.places.specs.declared.place.Change.{Change}
use Rattle.places.specs.declared.place.Change.TheVariants as change
use Rattle.places.specs.declared.place.Call.{Call}
use Rattle.places.specs.declared.place.Call.TheVariants as call
use Rattle.places.specs.declared.place.Hand.{Hand}
use Rattle.places.specs.declared.place.Stage.{Stage}
use Rattle.places.specs.declared.place.Stage.TheVariants as stage
use Rattle.places.specs.declared.place.Purpose.{Purpose}
use Rattle.places.specs.declared.place.Purpose.TheVariants as purpose
use Rattle.places.specs.declared.place.Place.{Place}
use Rattle.places.specs.declared.place.Place.TheVariants as place
use Rattle.places.specs.Moved.{Next, Next as next}
use Rattle.places.specs.Flows.{Flow}
use Rattle.places.specs.Rules.{first, absent, alive, look_found, lost_link, end_done}
use Rattle.places.specs.Nexts.{settle_on, settled, settling, number_of, next_of}
use Rattle.machine.specs.declared.worker.Worker.{Worker}
use Rattle.machine.specs.Workers.{followed}
use Rattle.bounds.specs.Most.{most_turns}
use Rattle.runs.specs.Purposes.{look_call, purpose_call, InCall}

-- before a look
abbrev pub look_turns : Look → ℕ
look_turns (look.Vertex o i) = 0
look_turns (look.Source o p) = 0
look_turns (look.Target o p s) = 6
look_turns (look.Edge o b) = 13

-- To settle a field takes one turn or four; where it takes four, the row has ended if the field is del. So one turn counts where a call goes on
-- because a row has not ended. (A remove that found its edge does not check again; the numbers of that place fit any call.)
abbrev pub settle_turns : Purpose → ℕ
settle_turns (purpose.Look Ins l r) = look_turns l + 1
settle_turns (purpose.Look Del l r) = look_turns l + 5
settle_turns (purpose.Own Ins (change.Vertex i) r) = 10
settle_turns (purpose.Own Del (change.Vertex i) r) = 7
settle_turns (purpose.Own Ins (change.Edge b) r) = 25
settle_turns (purpose.Own Del (change.Edge b) r) = 20
settle_turns (purpose.LostDel (change.Vertex i) r) = 7
settle_turns (purpose.LostDel (change.Edge b) r) = 20
settle_turns (purpose.WinnerIns i r) = 11
settle_turns (purpose.SourceAgain o b) = 12
settle_turns (purpose.CheckAgain Source Remove b (Err h)) = 24
settle_turns (purpose.CheckAgain Target Remove b (Err h)) = 25
settle_turns (purpose.CheckAgain Source Remove b (Ok e)) = 17
settle_turns (purpose.CheckAgain Target Remove b (Ok e)) = 18
settle_turns (purpose.CheckAgain Source o b f) = 22
settle_turns (purpose.CheckAgain Target o b f) = 23
settle_turns (purpose.Compare Source b Ins e x) = 29
settle_turns (purpose.Compare Target b Ins e x) = 33
settle_turns (purpose.Compare Source b Del e x) = 24
settle_turns (purpose.Compare Target b Del e x) = 28
settle_turns (purpose.Walk f k r) = 0

abbrev pub stage_turns : Stage → ℕ
stage_turns stage.First = 0
stage_turns stage.Clock = 1
stage_turns (stage.Swap n) = 2
stage_turns stage.Reread = 3

abbrev pub place_turns : Place → ℕ
place_turns (place.Head l) = look_turns l
place_turns (place.Settle st p) = stage_turns st + settle_turns p
place_turns (place.Link (change.Vertex i) h) = 9
place_turns (place.Link (change.Edge b) h) = 24
place_turns (place.End (change.Vertex i) r) = 6
place_turns (place.End (change.Edge b) r) = 19
place_turns (place.LostHead i) = 10
place_turns p = 0

-- the head of its pair that an add of an edge has in hand; at other places x
abbrev pub look_hand : ℕ → Look → ℕ → ℕ
look_hand x (look.Edge Add b) r = r
look_hand x l r = x

abbrev pub purpose_hand : ℕ → Purpose → ℕ
purpose_hand x (purpose.Look f l r) = look_hand x l r
purpose_hand x (purpose.CheckAgain s Add b (Err h)) = h
purpose_hand x p = x

abbrev pub hand : ℕ → Place → ℕ
hand x (place.Settle st p) = purpose_hand x p
hand x (place.Link (change.Edge b) h) = h
hand x p = x

-- where the head is x and another one is in hand, the link will be lost, and the twenty-five turns of the round with it
abbrev pub lost : ℕ → ℕ → ℕ
lost x h = cond (eqb h x) 0 25

abbrev pub stale : ℕ → Place → ℕ
stale x p = lost x (hand x p)

pub lost_same : (x : ℕ) → lost x x ≡ 0
lost_same x = rw (eq-eqb x x refl) refl

pub lost_other : (x h : ℕ) → ¬ (x ≡ h) → lost x h ≡ 25
lost_other x h n = rw (ne_eqb h x (λ e. n (sym e))) refl

pub lost_upto : (x h : ℕ) → lost x h ≤ 25
lost_upto x h = cond_both (eqb h x) 0 25 (λ n. n ≤ 25) (λ _. omega arith) (λ _. omega arith)

-- the most turns of a call that loses no link, with the one that answers
abbrev pub most : Call → ℕ
most c = most_turns c 0

-- a call on vertices or edges
abbrev pub Plain : Call → Type 0
Plain (call.Survey v) = ⊥
Plain c = Unit {0}

-- at each place one turn more is within the bound
look_within : (l : Look) → look_turns l + 9 ≤ most (look_call l)
look_within (look.Vertex Add i) = omega arith
look_within (look.Vertex Remove i) = omega arith
look_within (look.Vertex Contains i) = omega arith
look_within (look.Source Add p) = omega arith
look_within (look.Source Remove p) = omega arith
look_within (look.Source Contains p) = omega arith
look_within (look.Target Add p s) = omega arith
look_within (look.Target Remove p s) = omega arith
look_within (look.Target Contains p s) = omega arith
look_within (look.Edge Add b) = omega arith
look_within (look.Edge Remove b) = omega arith
look_within (look.Edge Contains b) = omega arith

purpose_within : (p : Purpose) → Plain (purpose_call p) → settle_turns p + 4 ≤ most (purpose_call p)
purpose_within (purpose.Look Ins l r) n = omega (arith, look_within l)
purpose_within (purpose.Look Del l r) n = omega (arith, look_within l)
purpose_within (purpose.Own Ins (change.Vertex i) r) n = omega arith
purpose_within (purpose.Own Del (change.Vertex i) r) n = omega arith
purpose_within (purpose.Own Ins (change.Edge b) r) n = omega arith
purpose_within (purpose.Own Del (change.Edge b) r) n = omega arith
purpose_within (purpose.LostDel (change.Vertex i) r) n = omega arith
purpose_within (purpose.LostDel (change.Edge b) r) n = omega arith
purpose_within (purpose.WinnerIns i r) n = omega arith
purpose_within (purpose.SourceAgain Add b) n = omega arith
purpose_within (purpose.SourceAgain Remove b) n = omega arith
purpose_within (purpose.SourceAgain Contains b) n = omega arith
purpose_within (purpose.CheckAgain Source Add b f) n = omega arith
purpose_within (purpose.CheckAgain Source Remove b (Ok e)) n = omega arith
purpose_within (purpose.CheckAgain Source Remove b (Err h)) n = omega arith
purpose_within (purpose.CheckAgain Source Contains b f) n = omega arith
purpose_within (purpose.CheckAgain Target Add b f) n = omega arith
purpose_within (purpose.CheckAgain Target Remove b (Ok e)) n = omega arith
purpose_within (purpose.CheckAgain Target Remove b (Err h)) n = omega arith
purpose_within (purpose.CheckAgain Target Contains b f) n = omega arith
purpose_within (purpose.Compare Source b Ins e x) n = omega arith
purpose_within (purpose.Compare Source b Del e x) n = omega arith
purpose_within (purpose.Compare Target b Ins e x) n = omega arith
purpose_within (purpose.Compare Target b Del e x) n = omega arith
purpose_within (purpose.Walk f k r) n = absurd n

stage_upto : (st : Stage) → stage_turns st ≤ 3
stage_upto stage.First = omega arith
stage_upto stage.Clock = omega arith
stage_upto (stage.Swap n) = omega arith
stage_upto stage.Reread = omega arith

pub place_within : (p : Place) (c : Call) → InCall p c → Plain c → place_turns p + 1 ≤ most c
place_within place.Idle c e n = absurd e
place_within (place.Head l) c e n = subst (λ y. look_turns l + 1 ≤ most y) e (omega (arith, look_within l))
place_within (place.Settle st p) c e n = subst (λ y. place_turns (place.Settle st p) + 1 ≤ most y) e (omega (arith, stage_upto st, purpose_within p (subst Plain (sym e) n)))
place_within (place.Link (change.Vertex i) h) c e n = subst (λ y. 10 ≤ most y) e (omega arith)
place_within (place.Link (change.Edge b) h) c e n = subst (λ y. 25 ≤ most y) e (omega arith)
place_within (place.End (change.Vertex i) r) c e n = subst (λ y. 7 ≤ most y) e (omega arith)
place_within (place.End (change.Edge b) r) c e n = subst (λ y. 20 ≤ most y) e (omega arith)
place_within (place.LostHead i) c e n = subst (λ y. 11 ≤ most y) e (omega arith)
place_within (place.Raise v) c e n = absurd (subst Plain (sym e) n)
place_within (place.WalkHead k) c e n = absurd (subst Plain (sym e) n)
place_within (place.WalkOlder k r) c e n = absurd (subst Plain (sym e) n)

-- What follows a turn, where u turns are spent with it, the head of the pair is x, and d turns were to be lost before it: the turns of the
-- place that it leads to, and those to be lost there, allow for it.
abbrev pub Reaches : ℕ → ℕ → ℕ → Next → Type 0
Reaches u d x (next.Moved (Continue p)) = u + stale x p ≤ place_turns p + d
Reaches u d x (next.Moved (Break a)) = Unit {0}
Reaches u d x (next.Linked c r) = u ≤ place_turns (place.Settle stage.First (purpose.Own Ins c r)) + d
Reaches u d x (next.Raised v t) = ⊥
Reaches u d x (next.Walked k r) = ⊥

sooner : (u v d x : ℕ) (y : Next) → v ≤ u → Reaches u d x y → Reaches v d x y
sooner u v d x (next.Moved (Continue p)) l h = omega (arith, l, h)
sooner u v d x (next.Moved (Break a)) l h = tt
sooner u v d x (next.Linked c r) l h = omega (arith, l, h)
sooner u v d x (next.Raised w t) l h = h
sooner u v d x (next.Walked k r) l h = h

either : (u d x : ℕ) (b : Bool) (o p : Flow) → (b ≡ true → Reaches u d x (next.Moved o)) → (b ≡ false → Reaches u d x (next.Moved p)) → Reaches u d x (next.Moved (cond b o p))
either u d x b o p f g = cond_both b o p (λ y. Reaches u d x (next.Moved y)) f g

-- after a look at an edge: it found a head that is not the edge, or the edge
missed_reaches : (o : Op) (b : Bound) (x r : ℕ) → Reaches 22 (lost x (look_hand x (look.Edge o b) r)) x (next.Moved (look_found o b (Err r)))
missed_reaches Add b x r = omega arith
missed_reaches Remove b x r = omega arith
missed_reaches Contains b x r = omega arith

found_reaches : (o : Op) (b : Bound) (x r : ℕ) → Reaches 19 (lost x (look_hand x (look.Edge o b) r)) x (next.Moved (look_found o b (Ok r)))
found_reaches Add b x r = omega (arith, lost_same x)
found_reaches Remove b x r = omega arith
found_reaches Contains b x r = omega arith

absent_reaches : (l : Look) (x r : ℕ) → Reaches (look_turns l + 9) (lost x (look_hand x l r)) x (next.Moved (absent l r))
absent_reaches (look.Vertex Add i) x r = omega arith
absent_reaches (look.Vertex Remove i) x r = tt
absent_reaches (look.Vertex Contains i) x r = tt
absent_reaches (look.Source o p) x r = tt
absent_reaches (look.Target o p s) x r = tt
absent_reaches (look.Edge o b) x r = missed_reaches o b x r

alive_reaches : (l : Look) (x r : ℕ) (h : Hand) → Reaches (look_turns l + 6) (lost x (look_hand x l r)) x (next.Moved (alive l r h))
alive_reaches (look.Vertex Add i) x r h = tt
alive_reaches (look.Vertex Remove i) x r h = omega arith
alive_reaches (look.Vertex Contains i) x r h = tt
alive_reaches (look.Source o p) x r h = omega arith
alive_reaches (look.Target o p s) x r h = omega arith
alive_reaches (look.Edge o b) x r h =
    let d = lost x (look_hand x (look.Edge o b) r) in
    cond_both (eqb h.source b.source && eqb h.target b.target) (Ok r) (Err r) (λ f. Reaches 19 d x (next.Moved (look_found o b f)))
    (λ _. found_reaches o b x r) (λ _. sooner 22 19 d x (next.Moved (look_found o b (Err r))) (omega arith) (missed_reaches o b x r))

-- after a field is settled in k turns, at a mark of a row that has ended unless k is 1
module _ (h : Hand) (m : Mark) (x k : ℕ) (most_k : k ≤ 4) (ended : is_ended m ≡ false → k ≤ 1) where
  settled_reaches : (p : Purpose) → Plain (purpose_call p) → Reaches (settle_turns p + k) (lost x (purpose_hand x p)) x (settled p h m)
  settled_reaches (purpose.Look Ins l r) n = omega (arith, most_k)
  settled_reaches (purpose.Look Del l r) n =
      let d = lost x (look_hand x l r) in
      either (look_turns l + 5 + k) d x (is_ended m) (absent l r) (alive l r h)
      (λ _. sooner (look_turns l + 9) (look_turns l + 5 + k) d x (next.Moved (absent l r)) (omega (arith, most_k)) (absent_reaches l x r))
      (λ e. sooner (look_turns l + 6) (look_turns l + 5 + k) d x (next.Moved (alive l r h)) (omega (arith, ended e)) (alive_reaches l x r h))
  settled_reaches (purpose.Own Ins (change.Vertex i) r) n = tt
  settled_reaches (purpose.Own Del (change.Vertex i) r) n = tt
  settled_reaches (purpose.Own Ins (change.Edge b) r) n = omega (arith, most_k)
  settled_reaches (purpose.Own Del (change.Edge b) r) n = omega (arith, most_k)
  settled_reaches (purpose.LostDel (change.Vertex i) r) n = tt
  settled_reaches (purpose.LostDel (change.Edge b) r) n = omega (arith, most_k)
  settled_reaches (purpose.WinnerIns i r) n = tt
  settled_reaches (purpose.SourceAgain o b) n = either (12 + k) (lost x x) x (is_ended m) _ _ (λ _. tt) (λ e. omega (arith, ended e))
  settled_reaches (purpose.CheckAgain Source Add b (Ok e)) n = either (22 + k) (lost x x) x (is_ended m) _ _ (λ _. tt) (λ e. omega (arith, ended e))
  settled_reaches (purpose.CheckAgain Source Add b (Err r)) n = either (22 + k) (lost x r) x (is_ended m) _ _ (λ _. tt) (λ e. omega (arith, ended e))
  settled_reaches (purpose.CheckAgain Source Remove b (Ok e)) n = either (17 + k) (lost x x) x (is_ended m) _ _ (λ _. tt) (λ e. omega (arith, ended e))
  settled_reaches (purpose.CheckAgain Source Remove b (Err r)) n = either (24 + k) (lost x x) x (is_ended m) _ _ (λ _. tt) (λ e. omega (arith, ended e))
  settled_reaches (purpose.CheckAgain Source Contains b f) n = either (22 + k) (lost x x) x (is_ended m) _ _ (λ _. tt) (λ e. omega (arith, ended e))
  settled_reaches (purpose.CheckAgain Target Add b (Ok e)) n = either (23 + k) (lost x x) x (is_ended m) _ _ (λ _. tt) (λ _. tt)
  settled_reaches (purpose.CheckAgain Target Add b (Err r)) n = either (23 + k) (lost x r) x (is_ended m) _ _ (λ _. tt) (λ e. omega (arith, ended e))
  settled_reaches (purpose.CheckAgain Target Remove b (Ok e)) n = either (18 + k) (lost x x) x (is_ended m) _ _ (λ _. tt) (λ e. omega (arith, ended e))
  settled_reaches (purpose.CheckAgain Target Remove b (Err r)) n = either (25 + k) (lost x x) x (is_ended m) _ _ (λ _. tt) (λ _. tt)
  settled_reaches (purpose.CheckAgain Target Contains b (Ok e)) n = either (23 + k) (lost x x) x (is_ended m) _ _ (λ _. tt) (λ _. tt)
  settled_reaches (purpose.CheckAgain Target Contains b (Err r)) n = either (23 + k) (lost x x) x (is_ended m) _ _ (λ _. tt) (λ _. tt)
  settled_reaches (purpose.Compare Source b Ins e y) n = either (29 + k) (lost x x) x (is_below y m) _ _ (λ _. tt) (λ _. omega (arith, most_k))
  settled_reaches (purpose.Compare Source b Del e y) n = either (24 + k) (lost x x) x (is_below y m) _ _ (λ _. tt) (λ _. omega (arith, most_k))
  settled_reaches (purpose.Compare Target b Ins e y) n = either (33 + k) (lost x x) x (is_below y m) _ _ (λ _. tt) (λ _. tt)
  settled_reaches (purpose.Compare Target b Del e y) n = either (28 + k) (lost x x) x (is_below y m) _ _ (λ _. tt) (λ _. tt)
  settled_reaches (purpose.Walk f w r) n = absurd n

-- where the field is read again, the row has ended if the field is del
abbrev pub Ended : Stage → ℕ → Type 0
Ended stage.Reread g = is_ended (mark_of g) ≡ true
Ended st g = Unit {0}

settling_reaches : (st : Stage) (p : Purpose) (h : Hand) (g x : ℕ) → Plain (purpose_call p) → Ended st g →
    Reaches (stage_turns st + settle_turns p + 1) (lost x (purpose_hand x p)) x (settling st p h g)
settling_reaches stage.First p h g x n e =
    let d = lost x (purpose_hand x p) in
    cond_both (eqb g pending) (settle_on stage.Clock p) (settled p h (mark_of g)) (Reaches (0 + settle_turns p + 1) d x)
    (λ _. omega arith)
    (λ _. sooner (settle_turns p + 1) (0 + settle_turns p + 1) d x (settled p h (mark_of g)) (omega arith) (settled_reaches h (mark_of g) x 1 (omega arith) (λ _. omega arith) p n))
settling_reaches stage.Clock p h g x n e = omega arith
settling_reaches (stage.Swap m) p h g x n e = omega arith
settling_reaches stage.Reread p h g x n e =
    let four = λ (f : is_ended (mark_of g) ≡ false). absurd (both_ways (is_ended (mark_of g)) f e) in
    sooner (settle_turns p + 4) (3 + settle_turns p + 1) (lost x (purpose_hand x p)) x (settled p h (mark_of g)) (omega arith) (settled_reaches h (mark_of g) x 4 (omega arith) four p n)

-- the head that is read is x, where it is the head of the pair of an add of an edge
abbrev pub Reads : ℕ → Look → Option ℕ → Type 0
Reads x (look.Edge Add b) g = number_of g ≡ x
Reads x l g = Unit {0}

head_reaches : (l : Look) (g : Option ℕ) (x : ℕ) → Reads x l g →
    Reaches (look_turns l + 1) (lost x x) x (cond (eqb (number_of g) 0) (next.Moved (absent l 0)) (next.Moved (first (purpose.Look Ins l (number_of g)))))
head_reaches l g x e =
    cond_both (eqb (number_of g) 0) (next.Moved (absent l 0)) (next.Moved (first (purpose.Look Ins l (number_of g)))) (Reaches (look_turns l + 1) (lost x x) x)
    (λ v. none l e v) (λ v. some l e)
  where
    none : (l : Look) → Reads x l g → eqb (number_of g) 0 ≡ true → Reaches (look_turns l + 1) (lost x x) x (next.Moved (absent l 0))
    none (look.Vertex Add i) e v = omega arith
    none (look.Vertex Remove i) e v = tt
    none (look.Vertex Contains i) e v = tt
    none (look.Source o p) e v = tt
    none (look.Target o p s) e v = tt
    none (look.Edge Add b) e v = let z : x ≡ 0 = sym e ∙ eqb-true (number_of g) 0 v in rw z (omega arith)
    none (look.Edge Remove b) e v = omega arith
    none (look.Edge Contains b) e v = omega arith

    some : (l : Look) → Reads x l g → Reaches (look_turns l + 1) (lost x x) x (next.Moved (first (purpose.Look Ins l (number_of g))))
    some (look.Vertex o i) e = omega arith
    some (look.Source o p) e = omega arith
    some (look.Target o p s) e = omega arith
    some (look.Edge Add b) e = rw e (omega arith)
    some (look.Edge Remove b) e = omega arith
    some (look.Edge Contains b) e = omega arith

-- what has to be known of a turn at a place; of a link it is known otherwise
abbrev pub TurnSays : ℕ → Place → Option ℕ → Type 0
TurnSays x (place.Head l) g = Reads x l g
TurnSays x (place.Settle st p) g = Ended st (number_of g)
TurnSays x (place.Link d h) g = ⊥
TurnSays x p g = Unit {0}

end_reaches : (done : Bool) (d : Change) (r x : ℕ) → Reaches (place_turns (place.End d r) + 1) (lost x x) x (next.Moved (end_done done d r))
end_reaches true (change.Vertex i) r x = omega arith
end_reaches true (change.Edge b) r x = omega arith
end_reaches false (change.Vertex i) r x = omega arith
end_reaches false (change.Edge b) r x = omega arith

pub next_reaches : (p : Place) (h : Hand) (g : Option ℕ) (x : ℕ) (c : Call) → InCall p c → Plain c → TurnSays x p g → Reaches (place_turns p + 1) (stale x p) x (next_of p h g)
next_reaches place.Idle h g x c e n q = absurd e
next_reaches (place.Head l) h g x c e n q = head_reaches l g x q
next_reaches (place.Settle st p) h g x c e n q = settling_reaches st p h (number_of g) x (subst Plain (sym e) n) q
next_reaches (place.Link d r) h g x c e n q = absurd q
next_reaches (place.End d r) h g x c e n q = end_reaches (is_some g) d r x
next_reaches (place.LostHead i) h g x c e n q = omega arith
next_reaches (place.Raise v) h g x c e n q = absurd (subst Plain (sym e) n)
next_reaches (place.WalkHead k) h g x c e n q = absurd (subst Plain (sym e) n)
next_reaches (place.WalkOlder k r) h g x c e n q = absurd (subst Plain (sym e) n)

-- a link that is lost, at a head x that is not the one in hand, and one that is won
pub lost_vertex : (i h x : ℕ) → Reaches 10 (lost x x) x (next.Moved (lost_link (change.Vertex i)))
lost_vertex i h x = omega arith

pub lost_edge : (b : Bound) (h x : ℕ) → ¬ (x ≡ h) → Reaches 25 (lost x h) x (next.Moved (lost_link (change.Edge b)))
lost_edge b h x n = omega (arith, lost_same x, lost_other x h n)

pub won_reaches : (d : Change) (h x r : ℕ) → Reaches (place_turns (place.Link d h) + 1) (stale x (place.Link d h)) x (next.Linked d r)
won_reaches (change.Vertex i) h x r = omega arith
won_reaches (change.Edge b) h x r = omega arith

-- The head x is y after a turn that goes on, but for a link that is won.
abbrev pub Watched : ℕ → ℕ → Next → Type 0
Watched x y (next.Moved (Continue p)) = y ≡ x
Watched x y n = Unit {0}

pub watched_same : (x y : ℕ) (n : Next) → y ≡ x → Watched x y n
watched_same x y (next.Moved (Continue p)) e = e
watched_same x y n e = tt

-- the place of the worker after a turn that does not answer
pub place_reached : (n : ℕ) (v : Worker) (h : Hand) (u d x y : ℕ) (a : Next) → Reaches u d x a → Watched x y a → (followed n v h a).answer ≡ None →
    u + stale y (followed n v h a).worker.place ≤ place_turns (followed n v h a).worker.place + d
place_reached n v h u d x y (next.Moved (Continue p)) r e q = rw e r
place_reached n v h u d x y (next.Moved (Break a)) r e q = absurd cc
place_reached n v h u d x y (next.Linked c s) r e q = omega (arith, lost_same y, r)
place_reached n v h u d x y (next.Raised s t) r e q = absurd r
place_reached n v h u d x y (next.Walked k s) r e q = absurd r
