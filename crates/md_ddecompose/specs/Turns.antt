-- One turn of the decomposition of a directed graph: a set is taken apart, which gives one part of the tree and the sets of its children.
-- Only private contracts cite it.
-- Source: top-down modular decomposition, as in Habib and Paul, A survey of the algorithmic aspects of modular decomposition.
use Rattle.std.specs.Prelude.{◌≡◌, ℕ, Bool, List, [], ◌∷◌, ◌++◌, map, length, Some}
use Rattle.md_graph.specs.Sets.{NameSet, only_name}
use Rattle.md_tree.specs.Parts.{PlainPartOf, name, inner}
use Rattle.md_dtree.specs.declared.DKind.{DKind}
use Rattle.md_dtree.specs.declared.DPair.{DPair}
use Rattle.md_dtree.specs.DirectedTrees.{HasDirectedKind}
use Rattle.md_ddecompose.specs.declared.decomposition.Open.{Open}
use Rattle.md_ddecompose.specs.Children.{AreDirectedChildren, ListsArcsFor}

-- the set s has the kind k, the children cs, n of them, and the pairs ps
pub record IsDNode (arc : ℕ → ℕ → Bool) (s : NameSet) (k : DKind) (n : ℕ) (ps : List DPair) (cs : List NameSet) : Type 0 where
  pub kind : HasDirectedKind arc s k
  pub children : AreDirectedChildren arc s k cs
  pub number : n ≡ length cs
  pub pairs : ListsArcsFor arc k cs ps

-- the set c below a node of kind k
abbrev pub open_below : {w : ℕ} → DKind → NameSet → Open w
open_below k c = record { names = c; parent = Some k }

-- p is the part of the set s, and os are the sets of its children, still to be taken apart
abbrev pub IsDPartOf : {w : ℕ} → (ℕ → ℕ → Bool) → NameSet → PlainPartOf DKind DPair → List (Open w) → Type 0
IsDPartOf {w} arc s (name v) os = (s ≡ only_name v) × (os ≡ [])
IsDPartOf {w} arc s (inner k n ps) os = (cs : List NameSet) × IsDNode arc s k n ps cs × (os ≡ map (open_below k) cs)

-- when s is taken apart, its part comes behind the parts so far, and the sets of its children behind the waiting ones
abbrev pub IsTakenApart : {w : ℕ} → (ℕ → ℕ → Bool) → NameSet → List (PlainPartOf DKind DPair) → List (Open w) → List (PlainPartOf DKind DPair) → List (Open w) → Type 0
IsTakenApart {w} arc s parts waiting parts' waiting' =
    (p : PlainPartOf DKind DPair) × (os : List (Open w)) × IsDPartOf arc s p os × (parts' ≡ parts ++ p ∷ []) × (waiting' ≡ waiting ++ os)
