use Rattle.std.proofs.Common.{refl, sym, ◌∙◌}
use Rattle.std.specs.Option.{option_map}
use Rattle.md_tree.specs.TreeGraph.{graph_of_tree}
use Rattle.md_tree.specs.Plain.{plain_option}
use Rattle.md_tree.proofs.OneTree.{graph_proof}
use Rattle.md_cotree.specs.PlaceTrees.{shape}
use Rattle.md_cotree.proofs.NoPaths.{cotree_graph}
use Rattle.md_tree_tests.proofs.edit_histories.graph_denoted.Goals as goal

pub returns : goal.returns
returns c =
    let o = c.requires.0 in
    let g = graph_of_tree (option_map shape o) in
    let is = cotree_graph c.args.cotree.now g (o, c.requires.1, refl) in (
      o,
      c.requires.1,
      sym (graph_proof g is (plain_option c.in_ok-tree.tree) (c.in_ok-tree.ensures.tree g (o, c.requires.1, refl))) ∙ sym c.graph_of.ensures.graph,
    )
