-- Outlines that are read off a tree, and the parts of outlines that are no prime nodes.
-- Source: the prefix notation of trees.
use Rattle.std.specs.Prelude.{◌≢◌, List, map, reverse, ⊤}
use Rattle.std.specs.Borrow.{Bor}
use Rattle.md_tree.specs.declared.Kind.{Kind}
use Rattle.md_tree.specs.declared.Kind.TheVariants.{Prime}
use Rattle.md_tree.specs.declared.Pair.{Pair}
use Rattle.md_tree.specs.declared.TreeOf.{TreeOf}
use Rattle.md_tree.specs.Parts.{plain_at}
use Rattle.md_tree.specs.Trees.{row}
use Rattle.md_outline.specs.declared.outline.OutlinePart.{OutlinePart}
use Rattle.md_outline.specs.declared.outline.OutlinePart.TheVariants.{Name, Node}
use Rattle.md_outline.specs.Outlines.{row_outline}

-- the outlines of the trees that wait, from the last to the first
abbrev pub waiting_outline : List (Bor (TreeOf Kind Pair)) → List (OutlinePart Kind)
waiting_outline waiting = row_outline (row (reverse (map plain_at waiting)))

-- the part is no prime node
abbrev pub IsNoPrimePart : OutlinePart Kind → Type 0
IsNoPrimePart (Name v) = ⊤
IsNoPrimePart (Node k n) = k ≢ Prime
