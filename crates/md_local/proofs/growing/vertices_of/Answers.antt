use Rattle.std.proofs.Common.{◌∙◌, ap}
use Rattle.md_tree.specs.Heads.{head}
use Rattle.md_tree.specs.Plain.{plain}
use Rattle.md_local.proofs.QuotientNames.{names_begin, names_step}
use Rattle.md_local.proofs.growing.vertices_of.Goals as goal

pub loop-tree-init : goal.loop-tree-init
loop-tree-init g c = record {
  names = names_begin _ _ _ _ c.args.u c.args.v c.none-names.ensures.value c.insert_vertex.ensures c.insert_vertex-2.ensures;
}

pub loop-tree-preserved : goal.loop-tree-preserved
loop-tree-preserved g c = record {
  names =
      names_step _ _ _ c.args.hanging.now c.loop-tree.tree-index _ c.args.u c.args.v _ c.loop-tree-test.true c.loop-tree.invariant.names
      (c.first_leaf.ensures ∙ ap (λ t. head (plain t)) c.tree-item.is) c.insert_vertex-in-loop-tree.ensures;
}
