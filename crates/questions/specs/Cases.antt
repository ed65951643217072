-- A worked case: three keys, with edges 0 → 1 of 5, 1 → 2 of 2 and 0 → 2 of 9.
use Rattle.std.specs.Prelude.{◌≡◌, ℕ, List, [], ◌∷◌, Some, None, Option}
use Rattle.questions.specs.Graph.{Graph}
use Rattle.codes.specs.Page.{no_edge}
use Rattle.questions.specs.Pages.{keys_of, shown}
use Rattle.questions.specs.Measures.{Scale, total_scale, weakest_scale}
use Rattle.questions.specs.Best.{Entered}
use Rattle.questions.specs.Order.{key, BreadthFirst}

-- the cells of the keys, then a row for the edges from each key
abbrev pub cells : List ℕ
cells = 1 ∷ 1 ∷ 1 ∷ no_edge ∷ 5 ∷ 9 ∷ no_edge ∷ no_edge ∷ 2 ∷ no_edge ∷ no_edge ∷ no_edge ∷ []

abbrev pub three : Graph
three = shown cells 3

-- the entry of k, asked from s, is x and no other
abbrev pub Only : Scale → ℕ → ℕ → Option ℕ → Type 0
Only m s k x = Entered m three s k x × ((y : Option ℕ) → Entered m three s k y → y ≡ x)

pub record Cases : Type 0 where
  pub keys : keys_of cells 3 ≡ 3
  pub first_edge : three.edge 0 1 ≡ Some 5
  pub second_edge : three.edge 1 2 ≡ Some 2
  pub long_edge : three.edge 0 2 ≡ Some 9
  pub no_edge_back : three.edge 2 0 ≡ None
  pub order : BreadthFirst three 0 (key (0 ∷ 1 ∷ 2 ∷ [])) 3
  pub total : Only total_scale 0 2 (Some 7)
  pub weakest : Only weakest_scale 0 2 (Some 9)
  pub no_walk_back : Only total_scale 2 0 None
