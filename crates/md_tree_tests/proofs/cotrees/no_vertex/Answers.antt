use Rattle.md_tree_tests.proofs.cotrees.no_vertex.Goals as goal

pub node_count-requires : goal.node_count-requires
node_count-requires g c = let denotes = c.in_ok-cotree.ensures in (denotes.0, denotes.1)
