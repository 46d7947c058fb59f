-- What is counted in trees over places: names, pairs of adjacent names, the kind of a place, and its children.
-- Source: cotrees, as in Corneil, Lerchs and Stewart Burlingham, Complement reducible graphs; the counts are this project's.
use Rattle.std.specs.Prelude.{ℕ, ◌+◌, ◌*◌, cond, ◌==◌, Option, Some, None}
use Rattle.md_lists.specs.declared.kinds.PlaceKind.{PlaceKind}
use Rattle.md_lists.specs.declared.kinds.PlaceKind.TheVariants.{Leaf, Parallel, Series}
use Rattle.md_graph.specs.Linked.{times}
use Rattle.md_cotree.specs.PlaceTrees.{PlaceTree, tip, inner, PlaceTrees, no_more, then, roots, place_kind}

abbrev mutual
  -- how often a name stands in a tree
  pub name_in : ℕ → PlaceTree → ℕ
  name_in x (tip p v) = cond (v == x) 1 0
  name_in x (inner p k ts) = name_row x ts

  pub name_row : ℕ → PlaceTrees → ℕ
  name_row x no_more = 0
  name_row x (then t ts) = name_in x t + name_row x ts

-- how often one of two names stands in the one tree, and the other in the other tree
abbrev pub crossing : PlaceTree → PlaceTree → ℕ → ℕ → ℕ
crossing t s x y = name_in x t * name_in y s + name_in y t * name_in x s

-- how often two names stand in two different trees of a row
abbrev pub pair_row : ℕ → ℕ → PlaceTrees → ℕ
pair_row x y no_more = 0
pair_row x y (then t ts) = (name_in x t * name_row y ts + name_in y t * name_row x ts) + pair_row x y ts

abbrev mutual
  -- how often two names stand in two different trees below a series node
  pub edge_in : ℕ → ℕ → PlaceTree → ℕ
  edge_in x y (tip p v) = 0
  edge_in x y (inner p k ts) = cond k (pair_row x y ts) 0 + edge_row x y ts

  pub edge_row : ℕ → ℕ → PlaceTrees → ℕ
  edge_row x y no_more = 0
  edge_row x y (then t ts) = edge_in x y t + edge_row x y ts

-- kinds as numbers, 0 for none
abbrev pub kind_code : Option PlaceKind → ℕ
kind_code None = 0
kind_code (Some Parallel) = 1
kind_code (Some Series) = 2
kind_code (Some (Leaf v)) = 3 + v

abbrev mutual
  -- the kind of a place in a tree where it stands once, 0 where it doesn't
  pub kind_in : ℕ → PlaceTree → ℕ
  kind_in p (tip q v) = cond (q == p) (kind_code (Some (Leaf v))) 0
  kind_in p (inner q k ts) = cond (q == p) (kind_code (Some (place_kind k))) 0 + kind_row p ts

  pub kind_row : ℕ → PlaceTrees → ℕ
  kind_row p no_more = 0
  kind_row p (then t ts) = kind_in p t + kind_row p ts

abbrev mutual
  -- how often c stands as a child of p
  pub child_in : ℕ → ℕ → PlaceTree → ℕ
  child_in p c (tip q v) = 0
  child_in p c (inner q k ts) = cond (q == p) (times c (roots ts)) 0 + child_row p c ts

  pub child_row : ℕ → ℕ → PlaceTrees → ℕ
  child_row p c no_more = 0
  child_row p c (then t ts) = child_in p c t + child_row p c ts
