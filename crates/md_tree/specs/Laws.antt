-- The laws of trees.
use Rattle.std.specs.Prelude.{◌≡◌, ◌<◌, ◌≤◌, ◌↔◌, ◌⊎◌, ℕ, Bool, Option, Result, Ok, Err}
use Rattle.md_graph.specs.declared.TheConstants.{NAMES}
use Rattle.md_graph.specs.NameSet.{AllBelow}
use Rattle.md_graph.specs.PlainGraph.{PlainGraph, IsGraph, adjacent}
use Rattle.md_graph.specs.Sets.{NameSet, Has}
use Rattle.md_graph.specs.Adjacency.{IsAdjacency}
use Rattle.md_modules.specs.Colours.{IsColouring, AreTold}
use Rattle.md_modules.specs.Kinds.{IsSplit, IsUnsplit}
use Rattle.md_modules.specs.Modules.{HasTrivialModulesAlone}
use Rattle.md_modules.specs.InducedPaths.{HasInducedPath}
use Rattle.md_tree.specs.Trees.{PlainTreeOf, PlainTreesOf, PlainTree, names, names_below, names_at, count}
use Rattle.md_tree.specs.Heads.{heads, HeadsAlong, AreChildModules, AreStrongChildren}
use Rattle.md_tree.specs.StrongTrees.{IsTreeOf, IsTree}
use Rattle.md_tree.specs.WellFormed.{IsCanonicalTree, IsWellFormed, IsWellFormedBelow, HasNoPrimeNode}
use Rattle.md_tree.specs.TreeGraph.{adjacent_in, graph_of_tree}
use Rattle.md_tree.specs.Spellings.{Spelling, graph_spelling}
use Rattle.md_tree.specs.TreeTexts.{text_of_by}
use Rattle.md_tree.specs.declared.TreeOf.{TreeOf}
use Rattle.md_tree.specs.declared.reader.TreeFault.{TreeFault}
use Rattle.md_tree.specs.declared.reader.TreeFault.TheVariants.{Memory}
use Rattle.md_tree.specs.Plain.{plain_option}
use Rattle.md_tree.specs.Reading.{IsTreeReadingBelow}

-- each graph has exactly one tree, none where it has no vertex
abbrev pub OneTree : Type 0
OneTree =
    (e : ℕ → ℕ → Bool) → IsAdjacency e → (s : NameSet) →
    (o : Option PlainTree) × IsTree e s o × ((p : Option PlainTree) → IsTree e s p → p ≡ o)

-- the leaf set of a graph's tree is the set of its vertices, and the tree is as well-formed trees are
abbrev pub TreeIsCanonical : Type 0
TreeIsCanonical =
    (e : ℕ → ℕ → Bool) → IsAdjacency e → (s : NameSet) (t : PlainTree) → IsTreeOf e s t → (names t ≡ s) × IsCanonicalTree t

-- the tree of a graph on names below the limit is well-formed
abbrev pub TreeIsWellFormed : Type 0
TreeIsWellFormed =
    (e : ℕ → ℕ → Bool) → IsAdjacency e → (s : NameSet) (o : Option PlainTree) → IsTree e s o → AllBelow s NAMES → IsWellFormed o

-- two vertices are adjacent in a graph exactly where they are in its tree
abbrev pub TreeTellsGraph : Type 0
TreeTellsGraph =
    (e : ℕ → ℕ → Bool) → IsAdjacency e → (s : NameSet) (t : PlainTree) → IsTreeOf e s t →
    (a b : ℕ) → Has s a → Has s b → adjacent_in t a b ≡ e a b

-- a graph is the graph that its tree denotes, so that different graphs have different trees
abbrev pub GraphOfTheTree : Type 0
GraphOfTheTree = (g : PlainGraph) → IsGraph g → (o : Option PlainTree) → IsTree (adjacent g) g.vertices o → graph_of_tree o ≡ g

-- a graph has no induced path on four names exactly where its tree has no prime node
abbrev pub NoInducedPathIfNoPrimeNode : Type 0
NoInducedPathIfNoPrimeNode =
    (e : ℕ → ℕ → Bool) → IsAdjacency e → (s : NameSet) (t : PlainTree) → IsTreeOf e s t →
    (¬ (HasInducedPath e s)) ↔ HasNoPrimeNode t

-- what the heads of trees tell of all their names, where the leaf sets are modules of these: if one colour runs from each head to
-- those after it, and no tree splits with it, then the names split with it; if the heads have trivial modules alone, the names
-- don't split; either way the leaf sets are the children of all names in the tree of strong modules; and the other way round the
-- heads of the children of names that don't split have trivial modules alone
pub record AreToldByHeads {K P C : Type 0} (e : ℕ → ℕ → C) (cs : PlainTreesOf K P) : Type 0 where
  pub split : (v : C) → 2 ≤ count cs → HeadsAlong e cs v → ((i : ℕ) (part : NameSet) → i < count cs → ¬ (IsSplit e (names_at cs i) part v)) →
      ((part : NameSet) × IsSplit e (names_below cs) part v) × AreStrongChildren e cs
  pub unsplit : 3 ≤ count cs → HasTrivialModulesAlone e (heads cs) → IsUnsplit e (names_below cs) × AreStrongChildren e cs
  pub trivial : IsUnsplit e (names_below cs) → AreStrongChildren e cs → HasTrivialModulesAlone e (heads cs)

-- the heads of trees tell this, for any kinds, pairs and colours
abbrev pub HeadsTellNodes : Type 0 → Type 0 → Type 0 → Type 0
HeadsTellNodes K P C = AreTold C → (reverse : C → C) (e : ℕ → ℕ → C) → IsColouring reverse e → (cs : PlainTreesOf K P) → AreChildModules e cs → AreToldByHeads e cs

-- different trees have different texts
abbrev pub OneTreeOneTextBy : {K P : Type 0} → Spelling K P → Type 0
OneTreeOneTextBy {K} {P} sp = (o p : Option (PlainTreeOf K P)) → text_of_by sp o ≡ text_of_by sp p → o ≡ p

abbrev pub OneTreeOneText : Type 0
OneTreeOneText = OneTreeOneTextBy graph_spelling

-- the answer is the tree, or out of memory
abbrev pub IsReadAs : {K P : Type 0} → Option (PlainTreeOf K P) → Result (Option (TreeOf K P)) TreeFault → Type 0
IsReadAs {K} {P} o answer = ((r : Option (TreeOf K P)) × (answer ≡ Ok r) × (plain_option r ≡ o)) ⊎ (answer ≡ Err Memory)

-- the text of each tree that is well-formed below a limit is read as that tree
abbrev pub WrittenTreesAreReadBelow : {K P : Type 0} → Spelling K P → ℕ → Type 0
WrittenTreesAreReadBelow {K} {P} sp limit =
    (o : Option (PlainTreeOf K P)) → IsWellFormedBelow sp limit o → (answer : Result (Option (TreeOf K P)) TreeFault) → IsTreeReadingBelow sp limit (text_of_by sp o) answer → IsReadAs o answer

-- the text of each well-formed tree is read as that tree
abbrev pub WrittenTreesAreRead : Type 0
WrittenTreesAreRead = WrittenTreesAreReadBelow graph_spelling NAMES
