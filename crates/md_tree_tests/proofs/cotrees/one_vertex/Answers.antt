use Rattle.std.proofs.Common.{◌<◌, Some, refl, sym, subst, lit<}
use Rattle.md_graph.specs.declared.TheConstants.{NAMES}
use Rattle.md_graph.proofs.SetLemmas.{of_only}
use Rattle.md_tree.specs.declared.TreeOf.{Leaf}
use Rattle.md_tree.specs.WellFormed.{IsWellFormed, HasNoPrimeNode}
use Rattle.md_tree.proofs.Plain.{plain_is_leaf}
use Rattle.md_tree_tests.proofs.cotrees.one_vertex.Goals as goal

seven : 7 < NAMES
seven = lit< tt

pub from_tree-requires-clause-well_formed : goal.from_tree-requires-clause-well_formed
from_tree-requires-clause-well_formed g c =
    subst (λ t. IsWellFormed (Some t)) (sym (plain_is_leaf (Leaf 7) 7 refl)) ((λ v h. subst (λ w. w < NAMES) (sym (of_only 7 v h)) seven), tt)

pub from_tree-requires-clause-no_prime : goal.from_tree-requires-clause-no_prime
from_tree-requires-clause-no_prime g c = subst HasNoPrimeNode (sym (plain_is_leaf (Leaf 7) 7 refl)) tt
