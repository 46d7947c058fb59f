use Rattle.std.proofs.Common.{◌≤◌, refl, sym, ◌∙◌, subst}
use Rattle.md_tree.specs.declared.TreeOf.{Leaf}
use Rattle.md_tree.proofs.Plain.{plain_is_leaf}
use Rattle.md_local.proofs.PutTrees.{place_past, place_empty}
use Rattle.md_local.proofs.hanging.take_place.Goals as goal
use Rattle.md_local.proofs.hanging.take_place.Goals.{then-at-len+in_default, else-at-len}

pub returns-clause-tree : goal.returns-clause-tree
returns-clause-tree c =
    plain_is_leaf (Leaf c.args.name) c.args.name refl
    ∙ elim c.if-at-len.branch [
      | then-at-len+in_default w ↦ place_empty c.args.places.now.items c.args.name w.index_mut.result.now w.index_mut.ensures.value (sym w.take.ensures.value ∙ w.in_default.is)
      | else-at-len w ↦ place_past c.args.places.now.items c.args.name (subst (λ n. n ≤ c.args.name) (c.len.ensures ∙ c.args.places.now.ok.0) w.if-at-len.false)
    ]
