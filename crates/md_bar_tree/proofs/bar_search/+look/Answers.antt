use Rattle.std.proofs.lemmas.Option.{IfSome_then}
use Rattle.md_modules.proofs.PathSearch.{if_none_map}
use Rattle.md_bar_tree.proofs.Children.{found_at, found_node, few_leaf, few_node}
use Rattle.md_bar_tree.proofs.bar_search.+look.Goals as goal

pub bar_in-returns-in-Leaf-clause-none : goal.bar_in-returns-in-Leaf-clause-none
bar_in-returns-in-Leaf-clause-none t c = few_leaf c.args.class c.args.tree.now _ c.in-Leaf.is

pub bar_in-returns-in-Some-clause-found : goal.bar_in-returns-in-Some-clause-found
bar_in-returns-in-Some-clause-found t c = found_node c.args.class c.args.tree.now _ _ _ c.in-Node.is c.in-Some.bar c.in-Some.ensures.found

pub bar_in-returns-in-None-clause-found : goal.bar_in-returns-in-None-clause-found
bar_in-returns-in-None-clause-found t c = IfSome_then c.bar_below.result c.bar_below.ensures.found (found_node c.args.class c.args.tree.now _ _ _ c.in-Node.is)

pub bar_in-returns-in-None-clause-none : goal.bar_in-returns-in-None-clause-none
bar_in-returns-in-None-clause-none t c = if_none_map c.bar_below.result _ _ (few_node c.args.class c.args.tree.now _ _ _ c.in-Node.is c.in-None.ensures.none) c.bar_below.ensures.none

pub bar_below-returns-in-Some-clause-found : goal.bar_below-returns-in-Some-clause-found
bar_below-returns-in-Some-clause-found t c =
    found_at c.args.class c.args.kind c.args.children.now.list.items c.deref-child-items.result.now c.loop-child.child-index c.child-item.result c.in-Some.bar
    c.deref-child-items.ensures.value c.child-item.is c.loop-child-test.true c.in-Some.ensures.found
