use Rattle.std.proofs.Common.{◌≡◌, drop}
use Rattle.md_tree.specs.Trees.{PlainTree}
use Rattle.md_outline.specs.Outlines.{outline_of}
use Rattle.md_bar_tree.specs.InnerRows.{AreComing}
use Rattle.md_bar_tree.proofs.few_inner.has_few_inner.Given as goal

abbrev pub invariant-loop-part : goal.invariant-loop-part
invariant-loop-part l = (t : PlainTree) → l.parts ≡ outline_of t → AreComing l.class t (drop l.part-index l.parts) l.rows.items
