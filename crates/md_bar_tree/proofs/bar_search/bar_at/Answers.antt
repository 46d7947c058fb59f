use Rattle.md_bar_tree.proofs.BarLaw.{one_of_leaves}
use Rattle.md_bar_tree.proofs.Children.{found_two_at, one_at}
use Rattle.md_bar_tree.proofs.bar_search.bar_at.Goals as goal

pub returns-in-Some-inner_from-clause-found : goal.returns-in-Some-inner_from-clause-found
returns-in-Some-inner_from-clause-found c =
    found_two_at c.args.class c.args.kind c.args.children.now.list.items c.in-Some.first c.in-Some-inner_from.second c.get.result.now c.get-in-Some-inner_from.result.now c.bar_of_two.result
    (c.is_narrow.ensures.0 c.if-not-is_narrow.false) c.in-Some.ensures.found c.get.ensures.value c.in-Some.ensures.position
    c.in-Some-inner_from.ensures.found c.get-in-Some-inner_from.ensures.value c.in-Some-inner_from.ensures.position c.bar_of_two.ensures

pub returns-in_default-inner_from-clause-none : goal.returns-in_default-inner_from-clause-none
returns-in_default-inner_from-clause-none c narrow =
    one_at c.args.children.now.list.items c.in-Some.first c.in-Some.ensures.found c.in-Some.ensures.position c.in_default-inner_from.ensures.none

pub returns-in_default-clause-none : goal.returns-in_default-clause-none
returns-in_default-clause-none c narrow = one_of_leaves _ c.in_default.ensures.none
