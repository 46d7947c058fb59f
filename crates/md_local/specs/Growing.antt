-- How the tree of a graph grows out of that before an edit of one edge, from the leaves up.
-- Source: our own; the nodes are those of the tree of strong modules as in Habib and Paul, A survey
-- of the algorithmic aspects of modular decomposition.
use Rattle.std.specs.Prelude.{◌≡◌, ◌≢◌, ◌↔◌, ℕ, Bool, true, false, not, ◌&&◌, ◌||◌, cond, List, [], ◌∷◌, ◌++◌, map, Contains, ⊤}
use Rattle.std.specs.FinSet.{contains, insert, len}
use Rattle.std.specs.List.{sum_by, list_any}
use Rattle.std.specs.List.Sorted.{IsPermutation, IsNonDecreasingBy}
use Rattle.md_graph.specs.PlainGraph.{PlainGraph, adjacent}
use Rattle.md_graph.specs.Sets.{NameSet, Has, Within}
use Rattle.md_graph.specs.Adjacency.{IsAdjacency}
use Rattle.md_modules.specs.Modules.{IsModule}
use Rattle.md_tree.specs.declared.Kind.{Kind}
use Rattle.md_tree.specs.declared.Kind.TheVariants.{Parallel, Series}
use Rattle.md_tree.specs.declared.Pair.{Pair}
use Rattle.md_tree.specs.Trees.{PlainTree, leaf, node, PlainTrees, no_tree, one_more, names, names_below, row}
use Rattle.md_tree.specs.Heads.{head, heads}
use Rattle.md_local.specs.NodeLists.{nodes_backward}
use Rattle.md_tree.specs.Parts.{below_node}
use Rattle.md_tree.specs.Plain.{plain}
use Rattle.md_tree.specs.StrongTrees.{IsTreeOf}
use Rattle.md_tree.specs.WellFormed.{AreDisjoint}
use Rattle.md_local.specs.declared.growing.Below.{Below}
use Rattle.md_local.specs.declared.growing.Grown.{Grown}
use Rattle.md_local.specs.declared.growing.Growth.{Growth}
use Rattle.md_local.specs.declared.growing.Growth.TheVariants.{Whole, Hanging}
use Rattle.md_local.specs.Changes.{AgreeBut}

-- s holds u and v
abbrev pub holds_both : NameSet → ℕ → ℕ → Bool
holds_both s u v = contains s u && contains s v

-- one of the trees holds u and v
abbrev pub some_holds_both : PlainTrees → ℕ → ℕ → Bool
some_holds_both no_tree u v = false
some_holds_both (one_more t ts) u v = holds_both (names t) u v || some_holds_both ts u v

-- the trees hold u and v, and none holds both
abbrev pub have_apart : PlainTrees → ℕ → ℕ → Bool
have_apart cs u v = holds_both (names_below cs) u v && not (some_holds_both cs u v)

-- the number of names of a node whose children hold u and v apart, 0 for others
abbrev pub own_steps : ℕ → ℕ → PlainTree → ℕ
own_steps u v (leaf x) = 0
own_steps u v (node k cs ps) = cond (have_apart cs u v) (len (names_below cs)) 0

-- the number of names of the nodes of t whose children hold u and v apart
abbrev pub names_between : ℕ → ℕ → PlainTree → ℕ
names_between u v t = sum_by (own_steps u v) (nodes_backward t)

-- t is the tree, on some vertices of g, of a graph that differs from g at most between u and v
pub record IsOld (g : PlainGraph) (u v : ℕ) (e : ℕ → ℕ → Bool) (t : PlainTree) : Type 0 where
  pub adjacency : IsAdjacency e
  pub after : IsAdjacency (adjacent g)
  pub edited : AgreeBut e (adjacent g) u v
  pub inside : Within (names t) g.vertices
  pub tree : IsTreeOf e (names t) t

-- the trees hang off a path in a node with the names s to one of u and v: they have exactly the
-- other names, each once, and each is the tree of f on its names, which are a module with e
pub record AreHanging (e f : ℕ → ℕ → Bool) (s : NameSet) (u v : ℕ) (ts : List PlainTree)
    : Type 0 where
  pub apart : AreDisjoint (row ts)
  pub others : (x : ℕ) → Has (names_below (row ts)) x ↔ (Has s x × (x ≢ u) × (x ≢ v))
  pub trees : (t : PlainTree) → Contains ts t → IsModule e s (names t) × IsTreeOf f (names t) t

abbrev pub HasGrown : (ℕ → ℕ → Bool) → (ℕ → ℕ → Bool) → NameSet → ℕ → ℕ → Growth → Type 0
HasGrown e f s u v (Whole t) = IsTreeOf f s (plain t)
HasGrown e f s u v (Hanging ts) = AreHanging e f s u v (map plain ts.items)

abbrev pub is_hanging : Growth → Bool
is_hanging (Whole t) = false
is_hanging (Hanging ts) = true

-- one of both
abbrev pub one_alone : Bool → Bool → Bool
one_alone true b = not b
one_alone false b = b

-- what grows of t is told whether t holds u and v, trees hang where it holds one of them, and where
-- t was a tree of the graph before, it is that of g, or those that hang
pub record IsGrownFrom (g : PlainGraph) (u v : ℕ) (t : PlainTree) (grown : Grown) : Type 0 where
  pub left : grown.left ≡ contains (names t) u
  pub right : grown.right ≡ contains (names t) v
  pub hanging : is_hanging grown.growth ≡ one_alone grown.left grown.right
  pub growth : (e : ℕ → ℕ → Bool) → IsOld g u v e t →
      HasGrown e (adjacent g) (names t) u v grown.growth

-- of each tree the one at its place grows
abbrev pub AreGrownFrom : PlainGraph → ℕ → ℕ → List PlainTree → List Grown → Type 0
AreGrownFrom g u v [] [] = ⊤
AreGrownFrom g u v [] (x ∷ xs) = ⊥
AreGrownFrom g u v (t ∷ ts) [] = ⊥
AreGrownFrom g u v (t ∷ ts) (x ∷ xs) = IsGrownFrom g u v t x × AreGrownFrom g u v ts xs

-- some hold u, some hold v, and none holds both
abbrev pub are_apart : List Grown → Bool
are_apart xs =
    (list_any (λ x. x.left) xs && list_any (λ x. x.right) xs) && not (list_any (λ x. x.left && x.right) xs)

-- both are parallel, or both series
abbrev pub are_one_split : Kind → Kind → Bool
are_one_split Parallel Parallel = true
are_one_split Series Series = true
are_one_split k l = false

-- the tree can't be a child of a node of kind k: it is of that kind, and not prime
abbrev pub is_merged : Kind → PlainTree → Bool
is_merged k (leaf v) = false
is_merged k (node l cs ps) = are_one_split k l

-- what stands below a node of kind k for a tree: its children where it is merged, else the tree
abbrev pub in_place_of : Kind → PlainTree → List PlainTree
in_place_of k t = cond (is_merged k t) (below_node t) (t ∷ [])

abbrev pub all_in_place : Kind → List PlainTree → List PlainTree
all_in_place k [] = []
all_in_place k (t ∷ ts) = in_place_of k t ++ all_in_place k ts

-- the list has what stands below a node of kind k for the trees; where one is merged, in the order
-- of the first leaves
pub record AreOrdered (k : Kind) (ts us : List PlainTree) : Type 0 where
  pub moved : IsPermutation (all_in_place k ts) us
  pub kept : list_any (is_merged k) ts ≡ false → us ≡ all_in_place k ts
  pub rising : list_any (is_merged k) ts ≡ true → IsNonDecreasingBy head us

-- t is a node of kind k over what stands below it for the trees
abbrev pub IsJoined : Kind → List Pair → List PlainTree → PlainTree → Type 0
IsJoined k ps ts t = (us : List PlainTree) × AreOrdered k ts us × (t ≡ node k (row us) ps)

-- the trees with what has grown of one more node, or of more nodes
abbrev pub added_to : List PlainTree → Growth → List PlainTree
added_to us (Whole t) = us ++ plain t ∷ []
added_to us (Hanging ts) = map plain ts.items ++ us

abbrev pub gathered : List PlainTree → List Grown → List PlainTree
gathered us [] = us
gathered us (x ∷ xs) = gathered (added_to us x.growth) xs

-- all that has grown of the trees in one list, and whether some hold u, some hold v, and one holds both
pub record IsGrownBelow (g : PlainGraph) (u v : ℕ) (ts : List PlainTree) (below : Below) : Type 0 where
  pub grown : List Grown
  pub each : AreGrownFrom g u v ts grown
  pub list : map plain below.list.items ≡ gathered [] grown
  pub left : below.left ≡ list_any (λ x. x.left) grown
  pub right : below.right ≡ list_any (λ x. x.right) grown
  pub both : below.both ≡ list_any (λ x. x.left && x.right) grown

-- the heads of the trees, and u and v
abbrev pub quotient_names : List PlainTree → ℕ → ℕ → NameSet
quotient_names ts u v = insert (insert (heads (row ts)) u) v
