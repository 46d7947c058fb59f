-- A tree of which a part is written, while the rest of its outline is still to come.
-- Source: the continuation of a traversal, as in any textbook of algorithms.
use Rattle.std.specs.Prelude.{◌≡◌, ◌⊎◌, ◌<◌, ◌-◌, ℕ, Bool, List, [], ◌∷◌, ◌++◌, ⊤}
use Rattle.md_graph.specs.Sets.{NameSet}
use Rattle.md_tree.specs.declared.Kind.{Kind}
use Rattle.md_tree.specs.declared.Pair.{Pair}
use Rattle.md_tree.specs.Heads.{head, head_at}
use Rattle.md_tree.specs.Trees.{PlainTree, PlainTrees, count, EachNode, EachNodeBelow}
use Rattle.md_tree.specs.TreeTexts.{tree_text, row_text, pairs_text}
use Rattle.md_outline.specs.declared.outline.OutlinePart.{OutlinePart}
use Rattle.md_outline.specs.declared.outline.OutlinePart.TheVariants.{Name, Node}
use Rattle.md_outline.specs.declared.writer.Begun.{Begun}
use Rattle.md_outline.specs.Outlines.{outline_of, row_outline}
use Rattle.md_outline.specs.NodeRows.{head_list, IsNodeByRows}

-- the part is a node, or a name below the limit
abbrev pub IsPartBelow : ℕ → OutlinePart Kind → Type 0
IsPartBelow limit (Name v) = v < limit
IsPartBelow limit (Node k n) = ⊤

-- a node whose letter is written: its kind, all its children and its pairs; the heads of the children that are finished, those that
-- are still to come, and the mark before the first of these
pub record BegunNode : Type 0 where
  pub kind : Kind
  pub children : PlainTrees
  pub pairs : List Pair
  pub finished : List ℕ
  pub coming : PlainTrees
  pub mark : ℕ

-- such a node as the writer keeps it
abbrev pub begun_node : BegunNode → Begun
begun_node b = record { kind = b.kind; count = count b.children; left = count b.coming; mark = b.mark }

-- nodes that are begun in one another, the innermost first, as the writer keeps them, the outermost first
abbrev pub begun_nodes : List BegunNode → List Begun
begun_nodes [] = []
begun_nodes (b ∷ bs) = begun_nodes bs ++ begun_node b ∷ []

-- the heads of their finished children, the outermost node's first
abbrev pub heads_held : List BegunNode → List ℕ
heads_held [] = []
heads_held (b ∷ bs) = heads_held bs ++ b.finished

-- what is still to come of their outlines
abbrev pub parts_left : List BegunNode → List (OutlinePart Kind)
parts_left [] = []
parts_left (b ∷ bs) = row_outline b.coming ++ parts_left bs

-- what is still to write of them
abbrev pub text_left : List BegunNode → List ℕ
text_left [] = []
text_left (b ∷ bs) = (row_text b.mark b.coming ++ (pairs_text 59 b.pairs ++ 41 ∷ [])) ++ text_left bs

-- the innermost node has a child that is still to come
abbrev pub HasChildLeft : List Begun → Type 0
HasChildLeft begun = (os : List Begun) (o : Begun) → begun ≡ os ++ o ∷ [] → 0 < o.left

-- where nodes are begun the heads are held
abbrev pub AreHeld : List BegunNode → List ℕ → Type 0
AreHeld [] held = ⊤
AreHeld (b ∷ bs) held = held ≡ heads_held (b ∷ bs)

-- the mark before the next child of the innermost node is written, if a node is begun
pub record IsMarkPut (text : List ℕ) (begun : List Begun) (marked_text : List ℕ) (marked : List Begun) : Type 0 where
  pub none : begun ≡ [] → (marked_text ≡ text) × (marked ≡ [])
  pub some : (os : List Begun) (o : Begun) → begun ≡ os ++ o ∷ [] → (marked_text ≡ text ++ o.mark ∷ []) × (marked ≡ os ++ record o { left = o.left - 1; mark = 44 } ∷ [])

module _ (e : ℕ → ℕ → Bool) (s : NameSet) where
  -- the rows tell the node and those still to come below it; the heads of its children are those of the finished ones, of the one
  -- that is begun, if there is one, and of those still to come
  pub record IsBegun (inner : List ℕ) (b : BegunNode) : Type 0 where
    pub node : IsNodeByRows e s b.kind b.children b.pairs
    pub below : EachNodeBelow (IsNodeByRows e s) b.coming
    pub heads : b.finished ++ (inner ++ head_list b.coming) ≡ head_list b.children

  -- nodes that are begun in one another
  abbrev pub AreBegun : List ℕ → List BegunNode → Type 0
  AreBegun inner [] = ⊤
  AreBegun inner (b ∷ bs) = IsBegun inner b × AreBegun (head_at b.children 0 ∷ []) bs

  -- a tree is to be written next, in nodes that are begun, and so the text becomes the whole one
  pub record IsDue (whole text : List ℕ) (parts : List (OutlinePart Kind)) (begun : List Begun) (held : List ℕ) : Type 0 where
    pub tree : PlainTree
    pub nodes : List BegunNode
    pub each : EachNode (IsNodeByRows e s) tree
    pub inside : AreBegun (head tree ∷ []) nodes
    pub begun_are : begun ≡ begun_nodes nodes
    pub held_are : held ≡ heads_held nodes
    pub parts_are : parts ≡ outline_of tree ++ parts_left nodes
    pub text_is : text ++ (tree_text tree ++ text_left nodes) ≡ whole

  -- a name, a letter or the end of a node is written, and with what is left of the nodes that are begun the text becomes the whole one
  pub record IsOnWay (whole text : List ℕ) (parts : List (OutlinePart Kind)) (begun : List Begun) (held : List ℕ) : Type 0 where
    pub nodes : List BegunNode
    pub inside : AreBegun [] nodes
    pub begun_are : begun ≡ begun_nodes nodes
    pub held_are : AreHeld nodes held
    pub parts_are : parts ≡ parts_left nodes
    pub text_is : text ++ text_left nodes ≡ whole

  -- nothing is written, or a part
  abbrev pub MayGoOn : List ℕ → List ℕ → List (OutlinePart Kind) → List Begun → List ℕ → Type 0
  MayGoOn whole text parts begun held = ((begun ≡ []) × IsDue whole text parts begun held) ⊎ IsOnWay whole text parts begun held
