use Rattle.std.proofs.Common.{refl}
use Rattle.md_graph.specs.PlainGraph.{adjacent}
use Rattle.md_modules.proofs.Turns.{graph_adjacency}
use Rattle.md_tree.specs.Plain.{plain_option}
use Rattle.md_cotree.proofs.NoPaths.{cotree_graph}
use Rattle.md_class.proofs.items.tree_or_bar.Goals as goal

pub to_tree-requires : goal.to_tree-requires
to_tree-requires c = let den = c.requires.1 in record { sound = (den.0, den.1) }

pub returns-in-Some : goal.returns-in-Some
returns-in-Some c = λ h den. c.in-Some.ensures.found (adjacent h) h.vertices (graph_adjacency (cotree_graph c.args.tree.now h den)) (c.in_ok-new.ensures.tree h den)

pub returns-in-None : goal.returns-in-None
returns-in-None c = λ h den.
    let tree = c.in_ok-new.ensures.tree h den in
    (c.in-None.ensures.none (adjacent h) h.vertices (graph_adjacency (cotree_graph c.args.tree.now h den)) tree, (plain_option c.in_ok-new.new, tree, refl))
