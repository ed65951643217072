-- A service from its start to its end.
use Rattle.std.proofs.Common.{◌≡◌, ℕ, ◌≤◌, List, [], ◌++◌, length, take, drop, Some, None, Ok, Err, Option, Result, sym, refl, ap, ◌∙◌, subst, subst₂}
use Rattle.std.proofs.Math.Seq.{take-append_seam}
use Rattle.std.proofs.lemmas.List.{append-nil, append_assoc, take-append-drop, nil_from_length}
use Rattle.std.specs.Io.KnownBytes.{Keeps, Appends, Consumes, IsAtEnd}
use Rattle.std.specs.declared.io.Error.{Error}
use Rattle.codes.specs.declared.refusal.Refusal.{Refusal}
use Rattle.frames.specs.Frames.{frame_in}
use Rattle.frames.specs.Hex.{bytes_of}
use Rattle.frames.specs.Replies.{fed}
use Rattle.frames.specs.declared.frame.Frame.{Frame}
use Rattle.session.specs.Answers.{Replies}
use Rattle.session.specs.Feeding.{Feeding}
use Rattle.session.specs.Served.{Served, Written}
use Rattle.session.specs.Service.{GrowsByFront, Passes, Breaks, Finishes, ServedUpTo, WrittenUpTo, Serves, ServedSoFar, Serving}
use Rattle.session.specs.Sessions.{SessionState}
use Rattle.session.specs.declared.serve.ServeError.TheVariants.{Read, Write}
use Rattle.session.proofs.Passing.{appends_none}
use Rattle.session.proofs.Serving.{begun, last_line, no_line}

-- no line is left
pub finished_empty : {E : Type 0} (d : SessionState) (held : List ℕ) (old : Option (List ℕ)) → length held ≡ 0 → Finishes {E = E} d held old old (Ok tt)
finished_empty d held old h = record {
  out = [];
  session = d;
  served = λ start read pre f. subst (λ z. Served start read [] z d) (sym (append-nil pre)) (no_line start d read held pre f h);
  written = appends_none old;
}

-- the last line is replied to
pub finished_line : {E : Type 0} (d next : SessionState) (held : List ℕ) (old new : Option (List ℕ)) (area mid : List ℕ) (n : ℕ) (fr : Result Frame Refusal) (r : Result Unit E) → 1 ≤ length held → fr ≡ frame_in (bytes_of held) → Written d fr 0 area mid n next → GrowsByFront old new (take n mid) r → Finishes d held old new r
finished_line d next held old new area mid n fr r h e w g = record {
  out = fed w.line;
  session = next;
  served = λ start read pre f. last_line start d next read held pre w.line f h (subst (λ z. Replies d z w.line next) e w.replies);
  written = subst (λ z. GrowsByFront old new z r) w.put.front g;
}

pub serving_begun : (d : SessionState) (left holds : Option (List ℕ)) → Serving d left left holds holds [] d
serving_begun d (Some text) (Some before) = record {
  read = [];
  unread = text;
  out = [];
  whole = refl;
  feeding = begun d;
  rest = refl;
  written = ap Some (sym (append-nil before));
}
serving_begun d (Some text) None = tt
serving_begun d None (Some before) = tt
serving_begun d None None = tt

-- what is left of the text after some bytes, and what the writer then holds
consumed : (old new : Option (List ℕ)) (xs bs : List ℕ) → old ≡ Some xs → Consumes old new bs → (ys : List ℕ) × (new ≡ Some ys) × (xs ≡ bs ++ ys)
consumed None new xs bs e c = absurd (none e)
  where
    none : {xs : List ℕ} → None ≡ Some xs → ⊥
    none e = cc
consumed (Some zs) None xs bs e c = absurd c
consumed (Some zs) (Some ys) xs bs e c = (ys, refl, some e ∙ c)
  where
    some : {a b : List ℕ} → Some a ≡ Some b → b ≡ a
    some e = cc

appended : (old new : Option (List ℕ)) (xs bs : List ℕ) → old ≡ Some xs → Appends old new bs → new ≡ Some (xs ++ bs)
appended None new xs bs e c = absurd (none e)
  where
    none : {xs : List ℕ} → None ≡ Some xs → ⊥
    none e = cc
appended (Some zs) None xs bs e c = absurd c
appended (Some zs) (Some ys) xs bs e c = ap Some (c ∙ ap (λ w. w ++ bs) (some e))
  where
    some : {a b : List ℕ} → Some a ≡ Some b → a ≡ b
    some e = cc

kept : (old new : Option (List ℕ)) (xs : List ℕ) → old ≡ Some xs → Keeps old new → new ≡ Some xs
kept None new xs e c = absurd (none e)
  where
    none : {xs : List ℕ} → None ≡ Some xs → ⊥
    none e = cc
kept (Some zs) None xs e c = absurd c
kept (Some zs) (Some ys) xs e c = ap Some c ∙ e

at_end : (new : Option (List ℕ)) (ys : List ℕ) → new ≡ Some ys → IsAtEnd new → ys ≡ []
at_end None ys e c = absurd (none e)
  where
    none : {xs : List ℕ} → None ≡ Some xs → ⊥
    none e = cc
at_end (Some zs) ys e c = some e ∙ c
  where
    some : {a b : List ℕ} → Some a ≡ Some b → b ≡ a
    some e = cc

pub keeps_same : (a : Option (List ℕ)) → Keeps a a
keeps_same None = tt
keeps_same (Some x) = refl

so_far_more : (d now next : SessionState) (text before : List ℕ) (left left' after after' : Option (List ℕ)) (held held' bytes : List ℕ) → ServedSoFar d text before left after held now → Consumes left left' bytes → Passes now held bytes held' after after' next → ServedSoFar d text before left' after' held' next
so_far_more d now next text before left left' after after' held held' bytes s c p =
    let y : (ys : List ℕ) × (left' ≡ Some ys) × (s.unread ≡ bytes ++ ys) = consumed left left' s.unread bytes s.rest c in
    record {
      read = s.read ++ bytes;
      unread = y.0;
      out = s.out ++ p.out;
      whole = s.whole ∙ ap (λ z. s.read ++ z) y.2 ∙ sym (append_assoc s.read bytes y.0);
      feeding = p.carries d s.read s.out s.feeding;
      rest = y.1;
      written = appended after after' (before ++ s.out) p.out s.written p.written ∙ ap Some (append_assoc before s.out p.out);
    }

pub serving_more : (d now next : SessionState) (from left left' first after after' : Option (List ℕ)) (held held' bytes : List ℕ) → Serving d from left first after held now → Consumes left left' bytes → Passes now held bytes held' after after' next → Serving d from left' first after' held' next
serving_more d now next (Some text) left left' (Some before) after after' held held' bytes s c p = so_far_more d now next text before left left' after after' held held' bytes s c p
serving_more d now next (Some text) left left' None after after' held held' bytes s c p = tt
serving_more d now next None left left' (Some before) after after' held held' bytes s c p = tt
serving_more d now next None left left' None after after' held held' bytes s c p = tt

so_far_read : (d now : SessionState) (text before : List ℕ) (left left' after : Option (List ℕ)) (held : List ℕ) → ServedSoFar d text before left after held now → Keeps left left' → ServedUpTo d text before left' after
so_far_read d now text before left left' after held s k = record {
  line = s.feeding.line;
  unread = s.unread;
  out = s.out;
  session = now;
  free = s.feeding.free;
  served = subst (λ z. Served d z (s.feeding.line ++ s.unread) s.out now) (sym s.whole) (s.feeding.served s.unread);
  read = kept left left' s.unread s.rest k;
  written = s.written;
}

pub serving_unread : (d now : SessionState) (from left left' first after : Option (List ℕ)) (held : List ℕ) (x : Error) → Serving d from left first after held now → Keeps left left' → Serves d from left' first after (Err (Read x))
serving_unread d now (Some text) left left' (Some before) after held x s k = (so_far_read d now text before left left' after held s k)
serving_unread d now (Some text) left left' None after held x s k = tt
serving_unread d now None left left' (Some before) after held x s k = tt
serving_unread d now None left left' None after held x s k = tt

front_more : (xs ys : List ℕ) (n : ℕ) → take (length (xs ++ take n ys)) (xs ++ ys) ≡ xs ++ take n ys
front_more xs ys n =
    ap (take (length (xs ++ take n ys))) (ap (λ z. xs ++ z) (sym (take-append-drop n ys)) ∙ sym (append_assoc xs (take n ys) (drop n ys)))
    ∙ take-append_seam (xs ++ take n ys) (drop n ys)

so_far_broken : (d now : SessionState) (text before : List ℕ) (left left' after after' : Option (List ℕ)) (held bytes : List ℕ) → ServedSoFar d text before left after held now → Consumes left left' bytes → Breaks now held bytes after after' → WrittenUpTo d text before left' after'
so_far_broken d now text before left left' after after' held bytes s c b =
    let y : (ys : List ℕ) × (left' ≡ Some ys) × (s.unread ≡ bytes ++ ys) = consumed left left' s.unread bytes s.rest c in
    let f : Feeding d (s.read ++ take b.k bytes) b.later (s.out ++ b.out) b.session = b.carries d s.read s.out s.feeding in
    let whole : text ≡ (s.read ++ take b.k bytes) ++ (drop b.k bytes ++ y.0) =
    s.whole ∙ ap (λ z. s.read ++ z) (y.2 ∙ ap (λ z. z ++ y.0) (sym (take-append-drop b.k bytes)) ∙ append_assoc (take b.k bytes) (drop b.k bytes) y.0)
    ∙ sym (append_assoc s.read (take b.k bytes) (drop b.k bytes ++ y.0)) in
    record {
      behind = f.line ++ drop b.k bytes;
      unread = y.0;
      out = s.out ++ b.out;
      n = length (s.out ++ take b.n b.out);
      session = b.session;
      served =
          subst₂ (λ x z. Served d x z (s.out ++ b.out) b.session) (sym whole) (sym (append_assoc f.line (drop b.k bytes) y.0)) (f.served (drop b.k bytes ++ y.0));
      read = y.1;
      written =
          appended after after' (before ++ s.out) (take b.n b.out) s.written b.written
          ∙ ap Some (append_assoc before s.out (take b.n b.out) ∙ ap (λ z. before ++ z) (sym (front_more s.out b.out b.n)));
    }

pub serving_broken : (d now : SessionState) (from left left' first after after' : Option (List ℕ)) (held bytes : List ℕ) (x : Error) → Serving d from left first after held now → Consumes left left' bytes → Breaks now held bytes after after' → Serves d from left' first after' (Err (Write x))
serving_broken d now (Some text) left left' (Some before) after after' held bytes x s c b = (so_far_broken d now text before left left' after after' held bytes s c b)
serving_broken d now (Some text) left left' None after after' held bytes x s c b = tt
serving_broken d now None left left' (Some before) after after' held bytes x s c b = tt
serving_broken d now None left left' None after after' held bytes x s c b = tt

-- all of the text is read
all_read : (d now : SessionState) (text before : List ℕ) (left left' after : Option (List ℕ)) (held bytes : List ℕ) → (s : ServedSoFar d text before left after held now) → Consumes left left' bytes → length bytes ≡ 0 → IsAtEnd left' → (left' ≡ Some []) × (s.read ≡ text)
all_read d now text before left left' after held bytes s c z e =
    let y : (ys : List ℕ) × (left' ≡ Some ys) × (s.unread ≡ bytes ++ ys) = consumed left left' s.unread bytes s.rest c in
    let n : y.0 ≡ [] = at_end left' y.0 y.1 e in
    (y.1 ∙ ap Some n, sym (s.whole ∙ ap (λ x. s.read ++ x) (y.2 ∙ ap (λ x. x ++ y.0) (nil_from_length bytes z) ∙ n) ∙ append-nil s.read))

pub serving_done : {E : Type 0} (d now : SessionState) (from left left' first after after' : Option (List ℕ)) (held bytes : List ℕ) → Serving d from left first after held now → Consumes left left' bytes → length bytes ≡ 0 → IsAtEnd left' → Finishes {E = E} now held after after' (Ok tt) → Serves d from left' first after' (Ok tt)
serving_done d now (Some text) left left' (Some before) after after' held bytes s c z e f =
    let p : (left' ≡ Some []) × (s.read ≡ text) = all_read d now text before left left' after held bytes s c z e in
    record {
      out = s.out ++ f.out;
      session = f.session;
      served = subst (λ x. Served d x [] (s.out ++ f.out) f.session) p.1 (f.served d s.read s.out s.feeding);
      read = p.0;
      written = appended after after' (before ++ s.out) f.out s.written f.written ∙ ap Some (append_assoc before s.out f.out);
    }
serving_done d now (Some text) left left' None after after' held bytes s c z e f = tt
serving_done d now None left left' (Some before) after after' held bytes s c z e f = tt
serving_done d now None left left' None after after' held bytes s c z e f = tt

unfinished : {E : Type 0} (d now : SessionState) (text before : List ℕ) (left left' after after' : Option (List ℕ)) (held bytes : List ℕ) (x : E) → ServedSoFar d text before left after held now → Consumes left left' bytes → length bytes ≡ 0 → IsAtEnd left' → Finishes now held after after' (Err x) → WrittenUpTo d text before left' after'
unfinished d now text before left left' after after' held bytes x s c z e f =
    let p : (left' ≡ Some []) × (s.read ≡ text) = all_read d now text before left left' after held bytes s c z e in
    record {
      behind = [];
      unread = [];
      out = s.out ++ f.out;
      n = length (s.out ++ take f.written.0 f.out);
      session = f.session;
      served = subst (λ x. Served d x [] (s.out ++ f.out) f.session) p.1 (f.served d s.read s.out s.feeding);
      read = p.0;
      written =
          appended after after' (before ++ s.out) (take f.written.0 f.out) s.written f.written.1
          ∙ ap Some (append_assoc before s.out (take f.written.0 f.out) ∙ ap (λ z. before ++ z) (sym (front_more s.out f.out f.written.0)));
    }

pub serving_undone : {E : Type 0} (d now : SessionState) (from left left' first after after' : Option (List ℕ)) (held bytes : List ℕ) (x : E) (y : Error) → Serving d from left first after held now → Consumes left left' bytes → length bytes ≡ 0 → IsAtEnd left' → Finishes now held after after' (Err x) → Serves d from left' first after' (Err (Write y))
serving_undone d now (Some text) left left' (Some before) after after' held bytes x y s c z e f = unfinished d now text before left left' after after' held bytes x s c z e f
serving_undone d now (Some text) left left' None after after' held bytes x y s c z e f = tt
serving_undone d now None left left' (Some before) after after' held bytes x y s c z e f = tt
serving_undone d now None left left' None after after' held bytes x y s c z e f = tt
