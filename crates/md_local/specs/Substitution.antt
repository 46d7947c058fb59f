-- Trees in place of the leaves of a tree.
-- Source: substitution, as in Habib and Paul, A survey of the algorithmic aspects of modular
-- decomposition: a graph is put together from the quotient of a modular partition and its parts.
use Rattle.std.specs.Prelude.{◌≡◌, ◌-◌, ℕ, Bool, true, false, nat_eq, cond, List, [], ◌∷◌, ◌++◌, length, take, drop, get_or, Option, Some, None, ⊤}
use Rattle.md_graph.specs.Sets.{NameSet, Has}
use Rattle.md_graph.specs.Adjacency.{IsAdjacency}
use Rattle.md_modules.specs.Quotients.{IsModularPartition, class}
use Rattle.md_tree.specs.Held.{IsLeast}
use Rattle.md_tree.specs.declared.Kind.{Kind}
use Rattle.md_tree.specs.declared.Pair.{Pair}
use Rattle.md_tree.specs.declared.TreeOf.{TreeOf}
use Rattle.md_tree.specs.Heads.{head}
use Rattle.md_tree.specs.Parts.{PlainPart, name, inner}
use Rattle.md_tree.specs.Plain.{plain}
use Rattle.md_tree.specs.Trees.{PlainTree, leaf, node, PlainTrees, no_tree, one_more}
use Rattle.md_tree.specs.StrongTrees.{IsTreeOf}
use Rattle.md_local.specs.Growing.{IsJoined}

abbrev mutual
  -- u is t with a tree in place of each leaf, one that `Fits` its name; a tree that can't be a
  -- child of its node gives its own children in its place
  pub IsSubstituted : (ℕ → PlainTree → Type 0) → PlainTree → PlainTree → Type 0
  IsSubstituted Fits (leaf x) u = Fits x u
  IsSubstituted Fits (node k cs ps) u =
      (us : List PlainTree) × AreSubstituted Fits cs us × IsJoined k ps us u

  -- the same of trees in a row, each at its place
  pub AreSubstituted : (ℕ → PlainTree → Type 0) → PlainTrees → List PlainTree → Type 0
  AreSubstituted Fits no_tree [] = ⊤
  AreSubstituted Fits no_tree (u ∷ us) = ⊥
  AreSubstituted Fits (one_more t ts) [] = ⊥
  AreSubstituted Fits (one_more t ts) (u ∷ us) =
      IsSubstituted Fits t u × AreSubstituted Fits ts us

-- s is partitioned into modules, and r has the least name of each: the tree of r, with the tree of
-- its class in place of each name, is the tree of s
abbrev pub TreesAreSubstituted : Type 0
TreesAreSubstituted =
    (e : ℕ → ℕ → Bool) → IsAdjacency e → (s r : NameSet) (rep : ℕ → ℕ) →
    IsModularPartition e s r rep → ((x : ℕ) → Has r x → IsLeast (class s rep x) x) →
    (t u : PlainTree) → IsTreeOf e r t →
    IsSubstituted (λ x part. IsTreeOf e (class s rep x) part) t u → IsTreeOf e s u

-- the tree is no leaf
abbrev pub is_inner : PlainTree → Bool
is_inner (leaf x) = false
is_inner (node k cs ps) = true

-- the first of the trees that has the name as its head, and the name's leaf where none has
abbrev pub tree_at : List PlainTree → ℕ → PlainTree
tree_at [] x = leaf x
tree_at (t ∷ ts) x = cond (nat_eq (head t) x) t (tree_at ts x)

-- the tree of e on the names, with trees in place of the leaves that have their heads' names
abbrev pub IsOverQuotient : (ℕ → ℕ → Bool) → NameSet → List PlainTree → PlainTree → Type 0
IsOverQuotient e r ts u =
    (t : PlainTree) × IsTreeOf e r t × IsSubstituted (λ x part. part ≡ tree_at ts x) t u

-- ---- the steps in which trees are put in place of leaves

-- the tree that stands at a name's place, and the name's leaf where none does
abbrev pub tree_or_leaf : ℕ → Option (TreeOf Kind Pair) → PlainTree
tree_or_leaf x None = leaf x
tree_or_leaf x (Some t) = plain t

abbrev pub standing_at : List (Option (TreeOf Kind Pair)) → ℕ → PlainTree
standing_at places x = tree_or_leaf x (get_or places x None)

-- of a stack the last trees, as many as the part has children, give way to the one that is put for
-- the part: the tree at the leaf's place, or one that joins the trees as the node does its children
abbrev pub IsPartTurn : (ℕ → PlainTree) → PlainPart → List PlainTree → List PlainTree → Type 0
IsPartTurn place (name x) old new = new ≡ old ++ place x ∷ []
IsPartTurn place (inner k n ps) old new =
    (u : PlainTree) × IsJoined k ps (drop (length old - n) old) u ×
    (new ≡ take (length old - n) old ++ u ∷ [])
