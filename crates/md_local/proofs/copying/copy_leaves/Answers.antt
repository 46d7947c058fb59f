use Rattle.std.proofs.Common.{[], ◌∷◌, ◌++◌}
use Rattle.md_tree.specs.Trees.{leaf}
use Rattle.md_local.proofs.Ways.{pass_more, leaf_copied}
use Rattle.md_local.proofs.copying.copy_leaves.Goals as goal

pub loop-name-preserved : goal.loop-name-preserved
loop-name-preserved c =
    let so = c.loop-name.invariant in
    let name = c.in-Some-Leaf-default.name in (
      so.0 ++ leaf name ∷ [],
      pass_more _ so.0 c.loop-name.rest.now c.in-Some-Leaf-default.others.now c.in-Some-Leaf-default.field-0-0.now name so.1 c.in-Some-Leaf-default.ensures.cases.0 c.in-Some-Leaf-default.field-0-0-is,
      λ us is.
          leaf_copied _ name us so.0 c.loop-name.below.items c.push.new.self.items (so.2 us is) c.in-Some-Leaf-default.name-is c.in_ok-push.ensures.items,
    )
