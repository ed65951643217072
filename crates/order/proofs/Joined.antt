-- Two pasts, each with an order, are one past with the one order after the other.
use Rattle.std.proofs.Common.{◌≡◌, ℕ, ◌+◌, ◌-◌, ◌<◌, List, ◌++◌, map, get_or, Some, None, Option, All, Contains, ◌≢◌, refl, sym, ◌∙◌, ap, subst, subst₂, inl, inr, arith}
use Rattle.std.proofs.lemmas.Bool.{cases_lt}
use Rattle.std.proofs.lemmas.Bool.Decides.{nat_tests}
use Rattle.std.proofs.lemmas.List.Elements.{All-append, All-map, All-weaker, All-contains, Contains-append_left, Contains-append_right}
use Rattle.questions.specs.Graph.{Graph}
use Rattle.order.specs.Past.{Finish, Past, Precedes, Belongs}
use Rattle.order.specs.Order.{standings, left_by, Explained, Stamping, changes, raises, neither, stamping, AtLeast, StampOrder, OneOrder}
use Rattle.order.specs.Joined.{finish_later, continued, Over, From, PastsJoin}
use Rattle.order.proofs.Lists.{pairs_append, pairs_map, contains_map, all_contained}
use Rattle.order.proofs.Copies.{SameFinish, Copy, finished_same, stamping_copy, belongs_copy, belongs_back, left_copy, explains_copy, left_append, explains_append}

-- numbers up to c stand before numbers from c on
pub through : (c : ℕ) (s t : Stamping) → StampOrder s (changes c) → AtLeast c t → StampOrder s t
through c (changes n) (changes m) a b = omega (arith, a, b)
through c (changes n) (raises t) a b = omega (arith, a, b)
through c (changes n) neither a b = tt
through c (raises u) (changes m) a b = omega (arith, a, b)
through c (raises u) (raises t) a b = omega (arith, a, b)
through c (raises u) neither a b = tt
through c neither t a b = tt

module _ (n c : ℕ) (h k : Past) (over : Over n c h) (from : From c k) where
  abbrev pub all : Past
  all = continued n h k

  -- the calls of the two pasts in the joined one
  abbrev pub same : ℕ → ℕ
  same b = b

  abbrev pub later : ℕ → ℕ
  later b = n + b

  pub finish_itself : (o : Option Finish) → SameFinish same o o
  finish_itself None = tt
  finish_itself (Some f) = (refl, refl, refl)

  pub finish_is_later : (o : Option Finish) → SameFinish later o (finish_later n o)
  finish_is_later None = tt
  finish_is_later (Some f) = (refl, refl, refl)

  pub first_copy : (b : ℕ) → b < n → Copy h all same b
  first_copy b l = record {
    begun = grind (arith, nat_tests);
    finish = (let e : all.finish b ≡ h.finish b = grind (arith, nat_tests) in subst (SameFinish same (h.finish b)) (sym e) (finish_itself (h.finish b)));
    stamp = grind (arith, nat_tests);
    raise = grind (arith, nat_tests);
    lower_end = grind (arith, nat_tests);
  }

  pub next_copy : (b : ℕ) → Copy k all later b
  next_copy b =
      let q : n + b - n ≡ b = omega arith in
      record {
        begun = grind (arith, nat_tests);
        finish = (let e : all.finish (n + b) ≡ finish_later n (k.finish b) = grind (arith, nat_tests) in
            subst (SameFinish later (k.finish b)) (sym e) (finish_is_later (k.finish b)));
        stamp = grind (arith, nat_tests);
        raise = grind (arith, nat_tests);
        lower_end = grind (arith, nat_tests);
      }

  module _ (g e : Graph) (first next : List ℕ) (o : OneOrder h g first) (p : OneOrder k e next) where
    first_early : All (λ b. b < n) first
    first_early = all_contained (λ b. b < n) first (λ b z. over.began b ((o.members b).0 z))

    copies : All (Copy h all same) first
    copies = All-weaker (λ b. b < n) (Copy h all same) first_copy first first_early

    next_copies : All (Copy k all later) next
    next_copies i d l = next_copy (get_or next i d)

    abbrev order : List ℕ
    order = map same first ++ map later next

    -- what holds of a call of each holds of all pairs of them
    across : (R : ℕ → ℕ → Type 0) → ((b d : ℕ) → Belongs h b → b < n → Belongs k d → R b (n + d)) → All (λ x. All (R x) (map later next)) (map same first)
    across R f = All-map (λ x. All (R x) (map later next)) same first
        (all_contained (λ b. All (R b) (map later next)) first
        (λ b z. All-map (R b) later next
        (all_contained (λ d. R b (n + d)) next
        (λ d y. f b d ((o.members b).0 z) (over.began b ((o.members b).0 z)) ((p.members d).0 y)))))

    not_precedes : (past : Past) (m : ℕ → ℕ) → ((x y : ℕ) → m x < m y → x < y) → (b d : ℕ) → Copy past all m b → Copy past all m d →
        ¬ (Precedes past d b) → ¬ (Precedes all (m d) (m b))
    not_precedes past m less b d x y none (f, q, l) =
        let (e, r, t) = finished_same m (past.finish d) (all.finish (m d)) y.finish f q in
        none (e, r, less e.time b (subst (λ i. i < m b) t l))

    second_not_before : (b d : ℕ) → b < n → ¬ (Precedes all (n + d) b)
    second_not_before b d l (f, q, u) =
        let (e, r, t) = finished_same later (k.finish d) (all.finish (n + d)) (next_copy d).finish f q in
        omega (arith, t, u, l)

    members_to : (b : ℕ) → Contains order b → Belongs all b
    members_to b z = All-contains (Belongs all) order b
        (All-append (Belongs all) (map same first) (map later next)
        (All-map (Belongs all) same first (all_contained (Belongs all) first
        (λ b z. belongs_copy h all same b (first_copy b (over.began b ((o.members b).0 z))) ((o.members b).0 z))))
        (All-map (Belongs all) later next (all_contained (λ d. Belongs all (n + d)) next
        (λ d y. belongs_copy k all later d (next_copy d) ((p.members d).0 y)))))
        z

    members_from : (b : ℕ) → Belongs all b → Contains order b
    members_from b x = elim (cases_lt b n) [
      | inl l ↦ Contains-append_left (map same first) (map later next) b
          (contains_map same first b ((o.members b).1 (belongs_back h all same b (first_copy b l) x)))
      | inr l ↦
          (let q : n + (b - n) ≡ b = omega arith in
          subst (Contains order) q (Contains-append_right (map same first) (map later next) (n + (b - n))
          (contains_map later next (b - n) ((p.members (b - n)).1 (belongs_back k all later (b - n) (next_copy (b - n)) (subst (Belongs all) (sym q) x))))))
    ]

    both_stamped : (past : Past) (m : ℕ → ℕ) (b d : ℕ) → Copy past all m b → Copy past all m d →
        StampOrder (stamping past b) (stamping past d) → StampOrder (stamping all (m b)) (stamping all (m d))
    both_stamped past m b d x y s = subst₂ StampOrder (sym (stamping_copy past all m b x)) (sym (stamping_copy past all m d y)) s

    stamped_across : (b d : ℕ) → Belongs h b → b < n → Belongs k d → StampOrder (stamping all b) (stamping all (n + d))
    stamped_across b d x l y =
        subst₂ StampOrder (sym (stamping_copy h all same b (first_copy b l))) (sym (stamping_copy k all later d (next_copy d)))
        (through c (stamping h b) (stamping k d) (over.stamps b x) (from d y))

    pub join : left_by h g first ≡ e → OneOrder all g order
    join q = record {
      members = λ b. (members_to b, members_from b);
      once = pairs_append (λ b d. b ≢ d) (map same first) (map later next)
          (pairs_map same (Copy h all same) (λ b d. b ≢ d) (λ b d. b ≢ d) (λ b d x y z. z) first copies o.once)
          (pairs_map later (Copy k all later) (λ b d. b ≢ d) (λ b d. b ≢ d) (λ b d x y z e. z (omega (arith, e))) next next_copies p.once)
          (across (λ b d. b ≢ d) (λ b d x l y e. omega (arith, l, e)));
      precedence = pairs_append (λ b d. ¬ (Precedes all d b)) (map same first) (map later next)
          (pairs_map same (Copy h all same) (λ b d. ¬ (Precedes h d b)) (λ b d. ¬ (Precedes all d b))
          (λ b d x y z. not_precedes h same (λ x y l. l) b d x y z) first copies o.precedence)
          (pairs_map later (Copy k all later) (λ b d. ¬ (Precedes k d b)) (λ b d. ¬ (Precedes all d b))
          (λ b d x y z. not_precedes k later (λ x y l. omega (arith, l)) b d x y z) next next_copies p.precedence)
          (across (λ b d. ¬ (Precedes all d b)) (λ b d x l y. second_not_before b d l));
      stamps = pairs_append (λ b d. StampOrder (stamping all b) (stamping all d)) (map same first) (map later next)
          (pairs_map same (Copy h all same) (λ b d. StampOrder (stamping h b) (stamping h d)) (λ b d. StampOrder (stamping all b) (stamping all d))
          (both_stamped h same) first copies o.stamps)
          (pairs_map later (Copy k all later) (λ b d. StampOrder (stamping k b) (stamping k d)) (λ b d. StampOrder (stamping all b) (stamping all d))
          (both_stamped k later) next next_copies p.stamps)
          (across (λ b d. StampOrder (stamping all b) (stamping all d)) stamped_across);
      explains = explains_append all (map same first) (map later next) g (explains_copy h all same first g copies o.explains)
          (subst (λ i. All (Explained all) (standings all i (map later next))) (sym (left_copy h all same first g copies ∙ q))
          (explains_copy k all later next e next_copies p.explains));
    }

    pub join_leaves : left_by h g first ≡ e → left_by all g order ≡ left_by k e next
    join_leaves q =
        left_append all (map same first) (map later next) g
        ∙ ap (λ i. left_by all i (map later next)) (left_copy h all same first g copies ∙ q) ∙ left_copy k all later next e next_copies

pub pasts_join : PastsJoin
pasts_join n c h k g m e over from (first, o, q) (next, p, r) =
    (order n c h k over from g m first next o p, join n c h k over from g m first next o p q, join_leaves n c h k over from g m first next o p q ∙ r)
