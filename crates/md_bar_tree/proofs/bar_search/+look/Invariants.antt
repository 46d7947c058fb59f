use Rattle.std.proofs.Common.{drop, map}
use Rattle.md_tree.specs.Trees.{row}
use Rattle.md_tree.specs.Plain.{plain}
use Rattle.md_bar_tree.specs.Inner.{HaveFewInner}
use Rattle.md_bar_tree.proofs.bar_search.+look.Given as goal

abbrev pub invariant-bar_below-loop-child : goal.invariant-bar_below-loop-child
invariant-bar_below-loop-child l =
    HaveFewInner l.class (row (map plain (drop l.child-index l.children.list.items))) → HaveFewInner l.class (row (map plain l.children.list.items))
