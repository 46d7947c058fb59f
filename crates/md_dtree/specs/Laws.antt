-- The laws of trees of directed graphs.
-- Source: Ehrenfeucht and Rozenberg, Theory of 2-structures, for the directed graph as one of its
-- instances.
use Rattle.std.specs.Prelude.{◌≡◌, ◌<◌, ◌+◌, ◌*◌, ◌↔◌, ℕ, Bool, List, length, Option, Result}
use Rattle.std.specs.List.{sum_by}
use Rattle.std.specs.FinSet.{len, difference}
use Rattle.md_graph.specs.NameSet.{AllBelow}
use Rattle.md_graph.specs.Sets.{NameSet, Has, Lacks, Within, HasSome}
use Rattle.md_modules.specs.Kinds.{IsSplit}
use Rattle.md_digraph.specs.ArcColours.{between}
use Rattle.md_digraph.specs.declared.TheConstants.{DIRECTED_NAMES}
use Rattle.md_tree.specs.Trees.{names}
use Rattle.md_dtree.specs.Balance.{arcs_from, arcs_to, ListsMembers}
use Rattle.md_tree.specs.declared.TreeOf.{TreeOf}
use Rattle.md_tree.specs.declared.reader.TreeFault.{TreeFault}
use Rattle.md_tree.specs.Laws.{OneTreeOneTextBy, IsReadAs}
use Rattle.md_dtree.specs.declared.DKind.{DKind}
use Rattle.md_dtree.specs.declared.DPair.{DPair}
use Rattle.md_dtree.specs.DirectedTexts.{directed_text_of, IsDirectedReading}
use Rattle.md_dtree.specs.DirectedSpelling.{directed_spelling}
use Rattle.md_dtree.specs.DirectedFits.{FitsDirected}
use Rattle.md_dtree.specs.DirectedTrees.{PlainDTree, arc_forth, IsDirectedTreeOf, IsDirectedTree, IsCanonicalDTree, IsWellFormedDirected}

-- each directed graph has exactly one tree, none where it has no vertex
abbrev pub OneDirectedTree : Type 0
OneDirectedTree =
    (arc : ℕ → ℕ → Bool) (s : NameSet) →
    (o : Option PlainDTree) × IsDirectedTree arc s o
    × ((p : Option PlainDTree) → IsDirectedTree arc s p → p ≡ o)

-- the leaf set of a directed graph's tree is the set of its vertices, and the tree is as
-- well-formed trees are
abbrev pub DirectedTreeIsCanonical : Type 0
DirectedTreeIsCanonical =
    (arc : ℕ → ℕ → Bool) (s : NameSet) (t : PlainDTree) → IsDirectedTreeOf arc s t →
    (names t ≡ s) × IsCanonicalDTree t

-- the tree of a directed graph on names below the limit of these is well-formed
abbrev pub DirectedTreeIsWellFormed : Type 0
DirectedTreeIsWellFormed =
    (arc : ℕ → ℕ → Bool) (s : NameSet) (o : Option PlainDTree) → IsDirectedTree arc s o →
    AllBelow s DIRECTED_NAMES → IsWellFormedDirected o

-- different trees have different texts
abbrev pub OneDirectedTreeOneText : Type 0
OneDirectedTreeOneText = OneTreeOneTextBy directed_spelling

-- the text of each well-formed tree is read as that tree
abbrev pub WrittenDirectedTreesAreRead : Type 0
WrittenDirectedTreesAreRead =
    (o : Option PlainDTree) → IsWellFormedDirected o →
    (answer : Result (Option (TreeOf DKind DPair)) TreeFault) →
    IsDirectedReading (directed_text_of o) answer → IsReadAs o answer

-- a tree as well-formed trees are is the tree of a directed graph exactly where it fits the graph
abbrev pub FitsIfDirectedTree : Type 0
FitsIfDirectedTree =
    (arc : ℕ → ℕ → Bool) (s : NameSet) (t : PlainDTree) → IsCanonicalDTree t →
    FitsDirected arc s t ↔ IsDirectedTreeOf arc s t

-- where s splits with arcs from part to the rest alone, each name of part has the greater balance:
-- more arcs from it less those to it than each name of the rest
abbrev pub SplitsBalance : Type 0
SplitsBalance =
    (arc : ℕ → ℕ → Bool) (s part : NameSet) → IsSplit (between arc) s part arc_forth →
    (x y : ℕ) → Has part x → Has s y → Lacks part y →
    arcs_from arc s y + arcs_to arc s x < arcs_from arc s x + arcs_to arc s y

-- s splits so with a part exactly where the balances of the names of part sum to the number of
-- pairs across: the arcs from them are as many as those to them and one for each such pair
abbrev pub BalanceSplits : Type 0
BalanceSplits =
    (arc : ℕ → ℕ → Bool) (s part : NameSet) (xs : List ℕ) → ListsMembers part xs →
    HasSome part → Within part s →
    ((x : ℕ) × Has s x × Lacks part x) →
    IsSplit (between arc) s part arc_forth
    ↔ (sum_by (arcs_from arc s) xs
    ≡ sum_by (arcs_to arc s) xs + length xs * len (difference s part))
