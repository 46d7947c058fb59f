-- A graph, of whatever kind, as a comparison with the text of a tree sees it.
-- Source: Ehrenfeucht and Rozenberg, Theory of 2-structures; the order of the pairs is our own.
use Rattle.std.specs.Prelude.{◌≡◌, ◌≢◌, ◌↔◌, ◌<◌, ◌≤◌, ℕ, Bool, true, false, cond, List, [], length, get_or, Option, Some, None}
use Rattle.md_graph.specs.declared.TheConstants.{NAMES}
use Rattle.md_graph.specs.Sets.{NameSet, Has}
use Rattle.md_modules.specs.Colours.{IsColouring, AreTold}
use Rattle.md_tree.specs.Heads.{IsFitNodeBy}
use Rattle.md_tree.specs.Held.{AscendsIf, MayListIf}
use Rattle.md_tree.specs.Spellings.{KindRules, PairRules, spelling}
use Rattle.md_tree.specs.TreeTexts.{tree_text_by}
use Rattle.md_tree.specs.Trees.{PlainTreeOf, PlainTreesOf, leaf, node, names, EachNode}
use Rattle.md_tree.specs.WellFormed.{IsCanonicalTreeBy}
use Rattle.md_checker.specs.FitTests.{AreJoinedBy, IsFitBy}
use Rattle.md_outline.specs.HeadPairs.{head_pairs}

-- the kind of the root of a tree, if it is a node
abbrev pub root_kind : {K P : Type 0} → PlainTreeOf K P → Option K
root_kind (leaf v) = None
root_kind (node k cs ps) = Some k

-- the vertices of a graph and the colours of its pairs; the colour that a node puts between two of its children; the kind of prime
-- nodes, and whether such a node lists the pair of two names, each of which stands for a child; and what is asked of the nodes of
-- its tree besides
pub record View (K P : Type 0) : Type 1 where
  pub vertices : NameSet
  pub Colour : Type 0
  pub colours : ℕ → ℕ → Colour
  pub puts : K → List P → ℕ → ℕ → Colour
  pub prime : K
  pub lists : ℕ → ℕ → Bool
  pub Admits : K → PlainTreesOf K P → Type 0

-- names that stand for the children of a node: names of s, no two the same, in ascending order if they have to
pub record StandForChildren (s : NameSet) (sorts : Bool) (list : List ℕ) : Type 0 where
  pub some : 0 < length list
  pub members : (i : ℕ) → i < length list → Has s (get_or list i 0)
  pub differ : (i j : ℕ) → i < j → j < length list → get_or list i 0 ≢ get_or list j 0
  pub order : AscendsIf sorts list

-- what holds of each graph: its vertices are names; its colours turn round with the pairs, and are told apart; a prime node has
-- three children, and it alone lists pairs of its children, which then ascend; by these pairs, and by no others that it may list,
-- it tells the colours; another node puts one colour between any two of its children
pub record IsView {K P : Type 0} (kinds : KindRules K) (pairs : PairRules P) (v : View K P) : Type 0 where
  pub names : (x : ℕ) → Has v.vertices x → x < NAMES
  pub told : AreTold v.Colour
  pub reverse : v.Colour → v.Colour
  pub turns : IsColouring reverse v.colours
  pub many : 3 ≤ kinds.least_count v.prime
  pub sorts : (k : K) → kinds.lists k ≡ true → kinds.sorts k ≡ true
  pub positions : (list : List ℕ) → StandForChildren v.vertices true list → (i j : ℕ) → i < length list → j < length list →
      v.lists (get_or list i 0) (get_or list j 0) ≡ true → pairs.IsOf (length list) (pairs.pair i j)
  pub listing : (k : K) → (kinds.lists k ≡ true) ↔ (k ≡ v.prime)
  pub joined : (k : K) → kinds.lists k ≡ true → (list : List ℕ) → StandForChildren v.vertices true list →
      AreJoinedBy (v.puts k (head_pairs pairs v.lists list)) v.colours list
  pub only : (k : K) → kinds.lists k ≡ true → (list : List ℕ) → StandForChildren v.vertices true list → (ps : List P) →
      MayListIf pairs true (length list) ps → AreJoinedBy (v.puts k ps) v.colours list → ps ≡ head_pairs pairs v.lists list
  pub even : (k : K) → kinds.lists k ≡ false → (i j m n : ℕ) → v.puts k [] i j ≡ v.puts k [] m n

-- a node outside of which are the others, with the pairs ps and these names of its children, fits the graph, where its children do
abbrev pub IsFitView : {K P : Type 0} → View K P → NameSet → K → List P → List ℕ → Type 0
IsFitView v = IsFitBy v.puts (λ k. k ≡ v.prime) v.colours

-- the pairs that a node of kind k lists, where these names stand for its children
abbrev pub listed_pairs : {K P : Type 0} → KindRules K → PairRules P → View K P → K → List ℕ → List P
listed_pairs kinds pairs v k list = cond (kinds.lists k) (head_pairs pairs v.lists list) []

-- a node of a tree fits the graph
abbrev pub FitsView : {K P : Type 0} → View K P → K → PlainTreesOf K P → List P → Type 0
FitsView v = IsFitNodeBy v.puts (λ k. k ≡ v.prime) v.colours v.vertices

-- a node of a tree is as is asked
abbrev pub AdmitsNode : {K P : Type 0} → View K P → K → PlainTreesOf K P → List P → Type 0
AdmitsNode v k cs ps = v.Admits k cs

-- the text is that of the tree t, which is as well-formed trees are, has the vertices as its names, fits the graph, and has nodes
-- as they are asked for
pub record IsTextOfTree {K P : Type 0} (kinds : KindRules K) (pairs : PairRules P) (v : View K P) (text : List ℕ) (t : PlainTreeOf K P) : Type 0 where
  pub canonical : IsCanonicalTreeBy (spelling kinds pairs) t
  pub names_are : names t ≡ v.vertices
  pub fits : EachNode (FitsView v) t
  pub admitted : EachNode (AdmitsNode v) t
  pub spelled : text ≡ tree_text_by (spelling kinds pairs) t
