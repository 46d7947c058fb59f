-- Walks over a tree: the nodes that a walk is in, and what is known of their children that were looked at.
-- Source: depth-first search, as in any textbook of algorithms.
use Rattle.std.specs.Prelude.{◌≡◌, ◌+◌, ℕ, List, [], ◌∷◌, ◌++◌, map, Vec}
use Rattle.std.specs.Global.{Global}
use Rattle.std.specs.List.{sum_by}
use Rattle.md_tree.specs.declared.Kind.{Kind}
use Rattle.md_tree.specs.declared.Pair.{Pair}
use Rattle.md_tree.specs.declared.TreeOf.{TreeOf}
use Rattle.md_tree.specs.Trees.{PlainTree, row}
use Rattle.md_local.specs.NodeLists.{row_nodes_backward}
use Rattle.md_tree.specs.Parts.{below_node}
use Rattle.md_tree.specs.Plain.{plain}
use Rattle.md_local.specs.declared.walking.Open.{Open}
use Rattle.md_local.specs.declared.walking.Turn.{Turn}
use Rattle.md_local.specs.declared.walking.Turn.TheVariants.{Onward, End}

-- where `Tells ts b` says that b is what came of the trees
module _ {B : Type 0} (Tells : List PlainTree → B → Type 0) where
  -- the walk is in the node p, whose first children were looked at
  abbrev pub IsIn : PlainTree → Open B → Type 0
  IsIn p f = (ts : List PlainTree) × (plain f.tree.now ≡ p) × (below_node p ≡ ts ++ map plain f.rest.now) × Tells ts f.below

  -- it has gone from the node p down to its child c
  abbrev pub IsAbove : PlainTree → PlainTree → Open B → Type 0
  IsAbove p c f = (ts : List PlainTree) × (plain f.tree.now ≡ p) × (below_node p ≡ ts ++ c ∷ map plain f.rest.now) × Tells ts f.below

  -- through these nodes it has come from t to p
  abbrev pub Leads : PlainTree → List (Open B) → PlainTree → Type 0
  Leads t [] p = t ≡ p
  Leads t (f ∷ fs) p = (c : PlainTree) × IsAbove t c f × Leads c fs p

  -- through these nodes it has come from t to the node that it is in
  abbrev pub IsWay : PlainTree → List (Open B) → Open B → Type 0
  IsWay t fs f = (p : PlainTree) × Leads t fs p × IsIn p f

  -- more children of the node were looked at
  abbrev pub HasPassed : Open B → Open B → Type 0
  HasPassed old new =
      (ts : List PlainTree) × (new.tree ≡ old.tree) × (map plain old.rest.now ≡ ts ++ map plain new.rest.now) ×
      ((us : List PlainTree) → Tells us old.below → Tells (us ++ ts) new.below)

  -- what came of one more tree was added
  abbrev pub HasMore : PlainTree → Open B → Open B → Type 0
  HasMore t old new =
      (new.tree ≡ old.tree) × (new.rest ≡ old.rest) × ((us : List PlainTree) → Tells us old.below → Tells (us ++ t ∷ []) new.below)

  -- the walk goes on in a node, or this came of the whole tree
  abbrev pub HasTurned : {R : Type 0} → (PlainTree → R → Type 0) → PlainTree → List (Open B) → Turn B R → Type 0
  HasTurned Ends t fs (Onward f) = IsWay t fs f
  HasTurned Ends t fs (End r) = Ends t r

-- the weight `own` of a node, and the weights `each` of the nodes below it that are still to be looked at
abbrev pub ahead_in : {B : Type 0} → (PlainTree → ℕ) → (PlainTree → ℕ) → Open B → ℕ
ahead_in own each f = own (plain f.tree.now) + sum_by each (row_nodes_backward (row (map plain f.rest.now)))

-- the same of all nodes that a walk is in
abbrev pub steps_ahead : {B : Type 0} → (PlainTree → ℕ) → (PlainTree → ℕ) → List (Open B) → Open B → ℕ
steps_ahead own each fs f = sum_by (ahead_in own each) fs + ahead_in own each f

-- the same after a turn
abbrev pub still_ahead : {B R : Type 0} → (PlainTree → ℕ) → (PlainTree → ℕ) → List (Open B) → Turn B R → ℕ
still_ahead own each fs (Onward f) = steps_ahead own each fs f
still_ahead own each fs (End r) = 0

-- the turns that are still to come are fewer than this: each node is gone to and come back from
abbrev pub turns_ahead : {B : Type 0} → List (Open B) → Open B → ℕ
turns_ahead fs f = steps_ahead (λ t. 1) (λ t. 2) fs f

abbrev pub turns_still_ahead : {B R : Type 0} → List (Open B) → Turn B R → ℕ
turns_still_ahead fs turn = still_ahead (λ t. 1) (λ t. 2) fs turn

-- ---- the walk that copies

-- the trees that were copied so far
abbrev pub AreCopies : List PlainTree → Vec (TreeOf Kind Pair) Global → Type 0
AreCopies ts copies = map plain copies.items ≡ ts

abbrev pub IsCopy : PlainTree → TreeOf Kind Pair → Type 0
IsCopy t copy = plain copy ≡ t
