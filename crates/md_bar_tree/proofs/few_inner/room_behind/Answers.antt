use Rattle.std.proofs.Common.{◌↔◌, sym, subst}
use Rattle.md_tree.specs.Trees.{one_more}
use Rattle.md_bar_tree.specs.Inner.{AreLeaves}
use Rattle.md_bar_tree.specs.InnerRows.{MayBe}
use Rattle.md_bar_tree.proofs.InnerRows.{none_behind}
use Rattle.md_bar_tree.proofs.few_inner.room_behind.Goals as goal

pub returns-in-One : goal.returns-in-One
returns-in-One c t ts is = subst (λ room. MayBe room (one_more t ts) ↔ AreLeaves ts) (sym c.in-One.is) (none_behind t ts is)
