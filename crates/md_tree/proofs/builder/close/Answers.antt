use Rattle.md_tree.proofs.Stacking.{node_closed}
use Rattle.md_tree.proofs.builder.close.Goals as goal

pub returns-clause-trees : goal.returns-clause-trees
returns-clause-trees g c all kept taken =
    node_closed c.args.inner.kind c.args.inner.first (record { list = c.args.pairs }) c.args.list all c.args.held.now.trees.items c.append.new.list.items
    kept taken c.in_ok-append.ensures
