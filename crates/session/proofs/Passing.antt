-- Bytes that are passed on to a writer, and replies to them.
use Rattle.std.proofs.Common.{◌≡◌, ℕ, ◌-◌, List, [], ◌++◌, length, take, drop, Some, None, Ok, Err, Option, Result, IfErr, sym, refl, ap, ◌∙◌, subst, subst₂}
use Rattle.std.proofs.Math.Seq.{take-append_seam}
use Rattle.std.proofs.lemmas.List.{append-nil, append_assoc, take-append-drop, take_rest, nil_from_length}
use Rattle.std.specs.Io.KnownBytes.{Keeps, Appends, WriteAppends}
use Rattle.session.specs.Feeding.{Feeding, Carries}
use Rattle.session.specs.Service.{GrowsByFront, Passes, Breaks}
use Rattle.session.specs.Sessions.{SessionState}
use Rattle.session.proofs.Serving.{carries_none}

-- what a writer holds grows by one text and then by another
pub appends_then : (a b c : Option (List ℕ)) (xs ys : List ℕ) → Appends a b xs → Appends b c ys → Appends a c (xs ++ ys)
appends_then None b c xs ys p q = tt
appends_then (Some x) None c xs ys p q = absurd p
appends_then (Some x) (Some y) None xs ys p q = absurd q
appends_then (Some x) (Some y) (Some z) xs ys p q = q ∙ ap (λ w. w ++ ys) p ∙ append_assoc x xs ys

pub appends_none : (a : Option (List ℕ)) → Appends a a []
appends_none None = tt
appends_none (Some x) = sym (append-nil x)

pub appends_kept : (a b c : Option (List ℕ)) (xs : List ℕ) → Appends a b xs → Keeps b c → Appends a c xs
appends_kept None b c xs p q = tt
appends_kept (Some x) None c xs p q = absurd p
appends_kept (Some x) (Some y) None xs p q = absurd q
appends_kept (Some x) (Some y) (Some z) xs p q = q ∙ p

-- no byte is written
pub kept_by_none : (a b : Option (List ℕ)) (xs : List ℕ) → Appends a b (take 0 xs) → Keeps a b
kept_by_none None b xs p = tt
kept_by_none (Some x) None xs p = absurd p
kept_by_none (Some x) (Some y) xs p = p ∙ append-nil x

pub zero_kept : {E : Type 0} (r : Result ℕ E) (a b : Option (List ℕ)) (xs : List ℕ) (n : ℕ) → r ≡ Ok n → n ≡ 0 → WriteAppends a b r xs → Keeps a b
zero_kept r a b xs n e z w = kept_by_none a b xs (rw z at (rw e at w))

pub none_by_kept : (a b : Option (List ℕ)) (xs : List ℕ) → Keeps a b → Appends a b (take 0 xs)
none_by_kept None b xs p = tt
none_by_kept (Some x) None xs p = absurd p
none_by_kept (Some x) (Some y) xs p = p ∙ sym (append-nil x)

pub if_err : {T E : Type 0} (r : Result T E) (P : Type 0) → P → IfErr r (λ e. P)
if_err (Ok x) P p = tt
if_err (Err e) P p = p

-- of some bytes, those in front of the rest are written
pub record Partly (old new : Option (List ℕ)) (bytes rest : List ℕ) : Type 0 where
  pub done : List ℕ
  pub parts : bytes ≡ done ++ rest
  pub written : Appends old new done

pub partly_none : (old : Option (List ℕ)) (bytes : List ℕ) → Partly old old bytes bytes
partly_none old bytes = record { done = []; parts = refl; written = appends_none old }

pub partly_more : (old mid new : Option (List ℕ)) (bytes rest : List ℕ) (n : ℕ) → Partly old mid bytes rest → Appends mid new (take n rest) → Partly old new bytes (take (length rest - n) (drop n rest))
partly_more old mid new bytes rest n p q = rw (take_rest rest n) (record {
  done = p.done ++ take n rest;
  parts = p.parts ∙ ap (λ z. p.done ++ z) (sym (take-append-drop n rest)) ∙ sym (append_assoc p.done (take n rest) (drop n rest));
  written = appends_then old mid new p.done (take n rest) p.written q;
})

pub partly_kept : (old mid new : Option (List ℕ)) (bytes rest : List ℕ) → Partly old mid bytes rest → Keeps mid new → Partly old new bytes rest
partly_kept old mid new bytes rest p q = record { done = p.done; parts = p.parts; written = appends_kept old mid new p.done p.written q }

pub partly_all : (old new : Option (List ℕ)) (bytes rest : List ℕ) → Partly old new bytes rest → length rest ≡ 0 → Appends old new bytes
partly_all old new bytes rest p e = subst (Appends old new) (sym (p.parts ∙ ap (λ z. p.done ++ z) (nil_from_length rest e) ∙ append-nil p.done)) p.written

pub partly_front : (old new : Option (List ℕ)) (bytes rest : List ℕ) → Partly old new bytes rest → (n : ℕ) × Appends old new (take n bytes)
partly_front old new bytes rest p =
    (length p.done, subst (Appends old new) (sym (ap (take (length p.done)) p.parts ∙ take-append_seam p.done rest)) p.written)

pub partly_flushed : {E : Type 0} (r : Result Unit E) (old mid new : Option (List ℕ)) (bytes rest : List ℕ) → Partly old mid bytes rest → length rest ≡ 0 → Keeps mid new → GrowsByFront old new bytes r
partly_flushed (Ok x) old mid new bytes rest p e k = appends_kept old mid new bytes (partly_all old mid bytes rest p e) k
partly_flushed (Err x) old mid new bytes rest p e k = partly_front old new bytes rest (partly_kept old mid new bytes rest p k)

-- of some bytes, those in front of the rest are taken in, and the replies are written
pub record PassesOn (d : SessionState) (held bytes rest held' : List ℕ) (old new : Option (List ℕ)) (e : SessionState) : Type 0 where
  pub done : List ℕ
  pub out : List ℕ
  pub parts : bytes ≡ done ++ rest
  pub carries : Carries d held done held' out e
  pub written : Appends old new out

carries_then : (d e f : SessionState) (held mid last xs ys out more : List ℕ) → Carries d held xs mid out e → Carries e mid ys last more f → Carries d held (xs ++ ys) last (out ++ more) f
carries_then d e f held mid last xs ys out more p q start read pre g =
    subst₂ (λ a b. Feeding start a last b f) (append_assoc read xs ys) (append_assoc pre out more) (q start (read ++ xs) (pre ++ out) (p start read pre g))

pub passes_none : (d : SessionState) (held bytes : List ℕ) (old : Option (List ℕ)) → PassesOn d held bytes bytes held old old d
passes_none d held bytes old = record { done = []; out = []; parts = refl; carries = carries_none d held; written = appends_none old }

pub passes_more : (d e f : SessionState) (held mid last bytes rest : List ℕ) (old now new : Option (List ℕ)) (n : ℕ) (more : List ℕ) → PassesOn d held bytes rest mid old now e → Carries e mid (take n rest) last more f → Appends now new more → PassesOn d held bytes (take (length rest - n) (drop n rest)) last old new f
passes_more d e f held mid last bytes rest old now new n more p c w = rw (take_rest rest n) (record {
  done = p.done ++ take n rest;
  out = p.out ++ more;
  parts = p.parts ∙ ap (λ z. p.done ++ z) (sym (take-append-drop n rest)) ∙ sym (append_assoc p.done (take n rest) (drop n rest));
  carries = carries_then d e f held mid last p.done (take n rest) p.out more p.carries c;
  written = appends_then old now new p.out more p.written w;
})

pub passes_all : (d e : SessionState) (held last bytes rest : List ℕ) (old new : Option (List ℕ)) → PassesOn d held bytes rest last old new e → length rest ≡ 0 → Passes d held bytes last old new e
passes_all d e held last bytes rest old new p q = record {
  out = p.out;
  carries = subst (λ z. Carries d held z last p.out e) (sym (p.parts ∙ ap (λ z. p.done ++ z) (nil_from_length rest q) ∙ append-nil p.done)) p.carries;
  written = p.written;
}

-- a write failed
pub passes_broken : (d e f : SessionState) (held mid last bytes rest : List ℕ) (old now new : Option (List ℕ)) (k n : ℕ) (more : List ℕ) → PassesOn d held bytes rest mid old now e → Carries e mid (take k rest) last more f → Appends now new (take n more) → Breaks d held bytes old new
passes_broken d e f held mid last bytes rest old now new k n more p c w = record {
  k = length (p.done ++ take k rest);
  n = length (p.out ++ take n more);
  later = last;
  out = p.out ++ more;
  session = f;
  carries =
      subst (λ z. Carries d held z last (p.out ++ more) f) (sym fronts)
      (carries_then d e f held mid last p.done (take k rest) p.out more p.carries c);
  written = subst (Appends old new) (sym (front_of p.out more n)) (appends_then old now new p.out (take n more) p.written w);
}
  where
    fronts : take (length (p.done ++ take k rest)) bytes ≡ p.done ++ take k rest
    fronts =
        ap (take (length (p.done ++ take k rest))) (p.parts ∙ ap (λ z. p.done ++ z) (sym (take-append-drop k rest)) ∙ sym (append_assoc p.done (take k rest) (drop k rest)))
        ∙ take-append_seam (p.done ++ take k rest) (drop k rest)

    front_of : (xs ys : List ℕ) (n : ℕ) → take (length (xs ++ take n ys)) (xs ++ ys) ≡ xs ++ take n ys
    front_of xs ys n =
        ap (take (length (xs ++ take n ys))) (ap (λ z. xs ++ z) (sym (take-append-drop n ys)) ∙ sym (append_assoc xs (take n ys) (drop n ys)))
        ∙ take-append_seam (xs ++ take n ys) (drop n ys)
