-- What private contracts say of the pass over an outline that counts the inner children of each node: what of the tree is still to come.
-- Source: the continuation of a traversal, as in any textbook of algorithms.
use Rattle.std.specs.Prelude.{◌≡◌, ◌↔◌, ℕ, zero, suc, Bool, true, false, List, [], ◌∷◌, ◌++◌, Option, Some, None, ⊤}
use Rattle.md_tree.specs.declared.Kind.{Kind}
use Rattle.md_tree.specs.Trees.{PlainTree, PlainTrees, one_more, count}
use Rattle.md_outline.specs.declared.outline.OutlinePart.{OutlinePart}
use Rattle.md_outline.specs.Outlines.{outline_of, row_outline}
use Rattle.md_bar_tree.specs.declared.Class.{Class}
use Rattle.md_bar_tree.specs.Inner.{AreLeaves, HasOneInner, HasFewInner, HaveFewInner}
use Rattle.md_bar_tree.specs.declared.few_inner.InnerRoom.{InnerRoom}
use Rattle.md_bar_tree.specs.declared.few_inner.InnerRoom.TheVariants.{Any, One, NoMore}
use Rattle.md_bar_tree.specs.declared.few_inner.Row.{Row}

-- no more of the trees are inner than may be
abbrev pub MayBe : InnerRoom → PlainTrees → Type 0
MayBe Any ts = ⊤
MayBe One ts = HasOneInner ts
MayBe NoMore ts = AreLeaves ts

-- the same, and there is room at all
abbrev pub MayBeIn : Option InnerRoom → PlainTrees → Type 0
MayBeIn None ts = ⊥
MayBeIn (Some room) ts = MayBe room ts

-- children of a node that are still to come: how many of them may be inner, the next one, and those behind it
pub record ComingRow : Type 0 where
  pub room : InnerRoom
  pub next : PlainTree
  pub others : PlainTrees

-- such children as the pass keeps them
abbrev pub kept_row : ComingRow → Row
kept_row r = record { room = r.room; behind = count r.others }

-- those of nodes in one another, the innermost first, as the pass keeps them, the outermost first
abbrev pub kept_rows : List ComingRow → List Row
kept_rows [] = []
kept_rows (r ∷ rs) = kept_rows rs ++ kept_row r ∷ []

-- a row of n children is put behind the others, if there are any
abbrev pub with_row : List Row → InnerRoom → ℕ → List Row
with_row rows room zero = rows
with_row rows room (suc n) = rows ++ record { room = room; behind = n } ∷ []

-- what is still to come of the outline
abbrev pub rows_left : List ComingRow → List (OutlinePart Kind)
rows_left [] = []
rows_left (r ∷ rs) = outline_of r.next ++ (row_outline r.others ++ rows_left rs)

-- of each row no more are inner than may be, and the trees have few inner children themselves
abbrev pub HaveInnerRoom : Class → List ComingRow → Type 0
HaveInnerRoom class [] = ⊤
HaveInnerRoom class (r ∷ rs) = MayBe r.room (one_more r.next r.others) × HaveFewInner class (one_more r.next r.others) × HaveInnerRoom class rs

-- these parts of the outline of t are still to come, in the rows that are kept, and t has few inner children exactly where these have
pub record AreComing (class : Class) (t : PlainTree) (parts : List (OutlinePart Kind)) (kept : List Row) : Type 0 where
  pub rows : List ComingRow
  pub kept_are : kept ≡ kept_rows rows
  pub parts_are : parts ≡ rows_left rows
  pub same : HaveInnerRoom class rows ↔ HasFewInner class t

-- the same where the pass goes on; where it doesn't, t has a node with too many
abbrev pub HasGoneOn : Bool → Class → PlainTree → List (OutlinePart Kind) → List Row → Type 0
HasGoneOn true class t parts kept = AreComing class t parts kept
HasGoneOn false class t parts kept = ¬ (HasFewInner class t)
