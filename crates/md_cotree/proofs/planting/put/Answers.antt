use Rattle.std.proofs.Common.{◌<◌, sym, ◌∙◌, ap, subst}
use Rattle.md_lists.specs.declared.TheConstants.{PLACES}
use Rattle.md_tree.proofs.Stacking.{if_ok}
use Rattle.md_cotree.specs.PlaceTrees.{node_counts}
use Rattle.md_cotree.specs.Forests.{shape_list, IsForest, IsReady, with_outline_part}
use Rattle.md_cotree.proofs.Growing.{leaf_put, node_split, node_put}
use Rattle.md_cotree.proofs.planting.put.Goals as goal

pub put_leaf-requires : goal.put_leaf-requires
put_leaf-requires g c =
    let ready = subst (IsReady c.args.cotree.now) c.in-Name.is c.requires.ready in
    record { forest = (c.requires.forest.0, c.requires.forest.1, c.requires.forest.2); name = ready.0; absent = ready.1 }

pub put_node-requires : goal.put_node-requires
put_node-requires g c =
    let ts = c.requires.forest.0 in
    let cut = node_split c.args.part c.in-Node.kind c.in-Node.count c.in-Node.is ts c.requires.forest.3 in
    record {
      forest = (
        cut.before,
        cut.after,
        subst (IsForest c.args.cotree.now c.args.stack.now.items) cut.whole c.requires.forest.1,
        cut.count,
        subst (λ us. node_counts us < PLACES) cut.whole c.requires.forest.2,
      );
      kind = subst (IsReady c.args.cotree.now) c.in-Node.is c.requires.ready;
    }

pub returns-in-Name : goal.returns-in-Name
returns-in-Name g c =
    if_ok c.put_leaf.result (λ x made ts forest has. (_, made.1 ts forest, leaf_put c.args.part c.in-Name.name made.0 ts c.in-Name.is)) c.put_leaf.ensures

pub returns-in-Node : goal.returns-in-Node
returns-in-Node g c =
    if_ok c.put_node.result
    (λ x made ts forest has.
    let cut = node_split c.args.part c.in-Node.kind c.in-Node.count c.in-Node.is ts has in (
      _,
      made.3 cut.before cut.after (subst (IsForest c.args.cotree.now c.args.stack.now.items) cut.whole forest) cut.count,
      node_put c.args.part c.in-Node.kind c.in-Node.count c.in-Node.is made.1 made.0 cut.before cut.after made.2 cut.count ∙ ap (λ us. with_outline_part c.args.part (shape_list us)) (sym cut.whole),
    ))
    c.put_node.ensures
