use Rattle.std.proofs.Common.{◌≡◌, [], ◌∷◌, ◌++◌, IfOk, refl, sym, ◌∙◌, ap, subst, append-nil}
use Rattle.md_graph.specs.PlainGraph.{adjacent}
use Rattle.md_outline.specs.declared.outline.OutlinePart.TheVariants.{Name}
use Rattle.md_decompose.specs.Turns.{open_names, IsOutlinePartOf, TakesOutlined}
use Rattle.md_decompose.proofs.outline.outline_apart.Goals as goal

pub returns-in_ok-push-in-One : goal.returns-in_ok-push-in-One
returns-in_ok-push-in-One g c = (
  Name c.in-One.name,
  [],
  [],
  (ap open_names c.in-One.is, refl),
  c.in_ok-push-in-One.ensures.items ∙ sym (append-nil (c.args.parts.now.items ++ Name c.in-One.name ∷ [])),
  sym (append-nil c.args.waiting.now.items),
)

pub returns-in-Several : goal.returns-in-Several
returns-in-Several g c =
    let same : c.in-Several.set.names ≡ open_names c.args.next = sym (ap open_names c.in-Several.is) in
    subst
    (λ s. IfOk c.outline_set_apart.result (λ _. TakesOutlined (IsOutlinePartOf (adjacent c.args.graph.now) s) c.args.parts.now.items c.args.waiting.now.items
    c.outline_set_apart.new.parts.items c.outline_set_apart.new.waiting.items)) same c.outline_set_apart.ensures
