use Rattle.md_cotree.proofs.Telling.{has_tree, told_well_formed, told_no_prime, told_tree}
use Rattle.md_cotree.proofs.cotree.Cotree.to_tree.Goals as goal

pub tree_at-requires-clause-stands : goal.tree_at-requires-clause-stands
tree_at-requires-clause-stands c = has_tree c.args.self.now c.requires.sound.0 c.requires.sound.1 c.spare-spare.ensures.links c.in-Some.root c.in-Some.is

pub returns-in_ok-tree-in-Some-clause-tree : goal.returns-in_ok-tree-in-Some-clause-tree
returns-in_ok-tree-in-Some-clause-tree c = told_tree c.args.self.now c.in-Some.root c.in-Some.is _ c.in_ok-tree-in-Some.ensures

pub returns-in_ok-tree-in-Some-clause-well_formed : goal.returns-in_ok-tree-in-Some-clause-well_formed
returns-in_ok-tree-in-Some-clause-well_formed c = told_well_formed c.args.self.now c.in-Some.root c.in-Some.is _ c.in_ok-tree-in-Some.ensures c.requires.sound.0 c.requires.sound.1

pub returns-in_ok-tree-in-Some-clause-no_prime : goal.returns-in_ok-tree-in-Some-clause-no_prime
returns-in_ok-tree-in-Some-clause-no_prime c = told_no_prime c.args.self.now c.in-Some.root c.in-Some.is _ c.in_ok-tree-in-Some.ensures c.requires.sound.0 c.requires.sound.1
