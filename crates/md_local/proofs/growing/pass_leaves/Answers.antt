use Rattle.std.proofs.Common.{[], ◌∷◌, ◌++◌, append_assoc, subst}
use Rattle.md_tree.specs.Trees.{leaf}
use Rattle.md_local.specs.Growing.{IsGrownBelow}
use Rattle.md_local.proofs.Ways.{pass_more}
use Rattle.md_local.proofs.growing.pass_leaves.Goals as goal

pub loop-name-preserved : goal.loop-name-preserved
loop-name-preserved c =
    let so = c.loop-name.invariant in
    let name = c.in-Some-Leaf-default.name in (
      so.0 ++ leaf name ∷ [],
      pass_more _ so.0 c.loop-name.rest.now c.in-Some-Leaf-default.others.now c.in-Some-Leaf-default.field-0-0.now name so.1 c.in-Some-Leaf-default.ensures.cases.0 c.in-Some-Leaf-default.field-0-0-is,
      λ g us is.
          subst (λ l. IsGrownBelow g c.args.u c.args.v l c.add_leaf.new.below) (append_assoc us so.0 (leaf name ∷ []))
          (subst (λ n. IsGrownBelow g c.args.u c.args.v ((us ++ so.0) ++ leaf n ∷ []) c.add_leaf.new.below) c.in-Some-Leaf-default.name-is
          (c.in_ok-add_leaf.ensures g (us ++ so.0) (so.2 g us is))),
    )
