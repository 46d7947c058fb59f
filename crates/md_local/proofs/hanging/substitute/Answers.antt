use Rattle.std.proofs.Common.{sym, ◌∙◌, ap, map}
use Rattle.std.specs.List.{list_any}
use Rattle.md_tree.specs.Plain.{plain}
use Rattle.md_tree.specs.declared.TreeOf.{TreeOf}
use Rattle.md_tree.specs.declared.Kind.{Kind}
use Rattle.md_tree.specs.declared.Pair.{Pair}
use Rattle.md_local.specs.Substitution.{is_inner}
use Rattle.md_local.proofs.PutTrees.{any_inner, leaves_substituted}
use Rattle.md_local.proofs.hanging.substitute.Goals as goal

pub returns-then-not-some_node : goal.returns-then-not-some_node
returns-then-not-some_node c =
    let told =
    sym (any_inner c.args.hanging.items) ∙ sym (ap (list_any (λ (t : TreeOf Kind Pair). is_inner (plain t))) c.deref.ensures.value)
    ∙ sym c.some_node.ensures in
    leaves_substituted (map plain c.args.hanging.items) (told ∙ c.if-not-some_node.true) (plain c.args.quotient) c.requires
