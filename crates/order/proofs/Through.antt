-- What holds from call to call along every order of a past.
use Rattle.std.proofs.Common.{◌≡◌, ℕ, List, [], ◌∷◌, All, AllPairs, Contains, sym, subst}
use Rattle.std.proofs.lemmas.List.Elements.{All-head, All-tail, All-contains}
use Rattle.questions.specs.Graph.{Graph}
use Rattle.order.specs.Graph.{after}
use Rattle.order.specs.Past.{Past, Precedes, Belongs, fed}
use Rattle.order.specs.Order.{standings, Explained, stamping, StampOrder, OneOrder}
use Rattle.order.proofs.Lists.{all_from_first, pairs_rest, all_contained}

module _ (h : Past) where
  -- what is known of the call b that stands next, where the graph is g, before the calls bs
  pub record Next (g : Graph) (b : ℕ) (bs : List ℕ) : Type 0 where
    pub belongs : Belongs h b
    pub explained : Explained h (record { call = b; before = g })
    pub not_after : (c : ℕ) → Contains bs c → ¬ (Precedes h c b)
    pub stamps : (c : ℕ) → Contains bs c → StampOrder (stamping h b) (stamping h c)

  -- Q goes on through the call b
  abbrev pub Through : (Graph → List ℕ → Type 0) → ℕ → Type 0
  Through Q b = (g : Graph) (bs : List ℕ) → Next g b bs → Q g (b ∷ bs) → Q (after g (fed h b)) bs

  pub through_same : (Q : Graph → List ℕ → Type 0) (b c : ℕ) → b ≡ c → Through Q c → Through Q b
  through_same Q b c q = subst (Through Q) (sym q)

  walk_through : (Q : Graph → List ℕ → Type 0) → ((b : ℕ) → Belongs h b → Through Q b) → ((g : Graph) → ¬ (Q g [])) → (order : List ℕ) (g : Graph) →
      All (Belongs h) order → AllPairs (λ b c. ¬ (Precedes h c b)) order → AllPairs (λ b c. StampOrder (stamping h b) (stamping h c)) order →
      All (Explained h) (standings h g order) → ¬ (Q g order)
  walk_through Q step end [] g a p s x q = end g q
  walk_through Q step end (b ∷ bs) g a p s x q =
      let next : Next g b bs = record {
        belongs = All-head (Belongs h) b bs a;
        explained = All-head (Explained h) _ _ x;
        not_after = λ c z. All-contains (λ c. ¬ (Precedes h c b)) bs c (all_from_first (λ b c. ¬ (Precedes h c b)) b bs p) z;
        stamps = λ c z. All-contains (λ c. StampOrder (stamping h b) (stamping h c)) bs c
            (all_from_first (λ b c. StampOrder (stamping h b) (stamping h c)) b bs s) z;
      } in
      walk_through Q step end bs (after g (fed h b)) (All-tail (Belongs h) b bs a) (pairs_rest (λ b c. ¬ (Precedes h c b)) b bs p)
      (pairs_rest (λ b c. StampOrder (stamping h b) (stamping h c)) b bs s) (All-tail (Explained h) _ _ x) (step b next.belongs g bs next q)

  -- what goes on through every call and cannot hold at the end does not hold at the start
  pub no_order : (Q : Graph → List ℕ → Type 0) → ((b : ℕ) → Belongs h b → Through Q b) → ((g : Graph) → ¬ (Q g [])) → (g : Graph) →
      ((order : List ℕ) → OneOrder h g order → Q g order) → (order : List ℕ) → ¬ (OneOrder h g order)
  no_order Q step end g start order o =
      walk_through Q step end order g (all_contained (Belongs h) order (λ b z. (o.members b).0 z)) o.precedence o.stamps o.explains (start order o)
