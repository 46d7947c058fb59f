use Rattle.std.proofs.Common.{◌≡◌, [], map, IfOk, refl, sym, ap, subst, append-nil}
use Rattle.md_graph.specs.PlainGraph.{adjacent}
use Rattle.md_tree.specs.declared.parts.PartOf.TheVariants.{Leaf}
use Rattle.md_tree.specs.Parts.{plain_part, name}
use Rattle.md_tree.proofs.Stacking.{map_one_more}
use Rattle.md_decompose.specs.Turns.{open_names, IsPartOf, TakesApart}
use Rattle.md_decompose.proofs.decomposition.take_apart.Goals as goal

pub returns-in_ok-push-in-One : goal.returns-in_ok-push-in-One
returns-in_ok-push-in-One g c = (
  name c.in-One.name,
  [],
  (ap open_names c.in-One.is, refl),
  map_one_more plain_part c.push.new.self.items c.args.parts.now.items (Leaf c.in-One.name) c.in_ok-push-in-One.ensures.items,
  sym (append-nil c.args.waiting.now.items),
)

pub returns-in-Several : goal.returns-in-Several
returns-in-Several g c =
    let same : c.in-Several.set.names ≡ open_names c.args.next = sym (ap open_names c.in-Several.is) in
    subst
    (λ s. IfOk c.take_set_apart.result (λ _. TakesApart (IsPartOf (adjacent c.args.graph.now) s) (map plain_part c.args.parts.now.items) c.args.waiting.now.items
    (map plain_part c.take_set_apart.new.parts.items) c.take_set_apart.new.waiting.items)) same c.take_set_apart.ensures
