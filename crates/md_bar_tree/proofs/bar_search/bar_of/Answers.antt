use Rattle.std.proofs.lemmas.Option.{IfSome_then}
use Rattle.md_modules.proofs.PathSearch.{if_none_map}
use Rattle.md_bar_tree.proofs.Children.{found_of_tree, none_of_tree, none_of_none}
use Rattle.md_bar_tree.proofs.bar_search.bar_of.Goals as goal

pub returns-in-Some-clause-found : goal.returns-in-Some-clause-found
returns-in-Some-clause-found c = IfSome_then c.bar_in.result c.bar_in.ensures.found (found_of_tree c.args.class c.args.tree.now _ c.in-Some.is c.requires.no_prime)

pub returns-in-Some-clause-none : goal.returns-in-Some-clause-none
returns-in-Some-clause-none c = if_none_map c.bar_in.result _ _ (none_of_tree c.args.class c.args.tree.now _ c.in-Some.is c.requires.no_prime) c.bar_in.ensures.none

pub returns-in-None-clause-none : goal.returns-in-None-clause-none
returns-in-None-clause-none c = none_of_none c.args.class c.args.tree.now c.in-None.is
