use Rattle.std.proofs.Common.{◌≡◌, [], map, refl, sym, ◌∙◌, subst, rules, append-nil}
use Rattle.md_graph.specs.Sets.{Within, HasTwo}
use Rattle.md_digraph.specs.PlainDigraph.{has_arc_to}
use Rattle.md_tree.specs.declared.parts.PartOf.TheVariants.{Leaf, Node}
use Rattle.md_tree.specs.Parts.{plain_part, name, inner}
use Rattle.md_tree.proofs.Stacking.{map_one_more, if_ok}
use Rattle.md_dtree.specs.DirectedTrees.{HasDirectedKind}
use Rattle.md_ddecompose.specs.Children.{AreDirectedChildren, DiffersFrom}
use Rattle.md_ddecompose.specs.Turns.{open_below}
use Rattle.md_ddecompose.proofs.decomposition.take_apart.Goals as goal

pub returns-in-Some : goal.returns-in-Some
returns-in-Some g c = (
  name c.in-Some.name,
  [],
  (c.in-Some.ensures.one, refl),
  map_one_more plain_part c.push.new.self.items c.args.parts.now.items (Leaf c.in-Some.name) c.in_ok-push.ensures.items,
  sym (append-nil c.args.waiting.now.items),
)

pub children-requires : goal.children-requires
children-requires g c =
    let s = c.args.next.names in
    let second : s ≡ c.set_in-set.result.now = sym c.set_in-set.ensures.value in (
      search rules,
      (
        search rules,
        (
          search rules,
          (
            subst (λ t. Within t c.args.graph.now.vertices) second c.requires.inside,
            (
              subst HasTwo second (c.in_default.ensures.more c.requires.some),
              subst (λ t. DiffersFrom (has_arc_to c.args.graph.now) t c.args.next.parent) second c.requires.below,
            ),
          ),
        ),
      ),
    )

pub returns : goal.returns
returns g c =
    if_ok c.push_open.result (λ _ grown.
    let s = c.args.next.names in
    let arc = has_arc_to c.args.graph.now in
    let first : c.set_in-set.result.now ≡ s = c.set_in-set.ensures.value in (
      inner c.in_ok-kind.kind c.len.result c.in_ok-kind.pairs.list.items,
      map (open_below c.in_ok-kind.kind) c.in_ok-kind.sets.items,
      (
        c.in_ok-kind.sets.items,
        record {
          kind = subst (λ t. HasDirectedKind arc t c.in_ok-kind.kind) first c.in_ok-kind.ensures.kind;
          children = subst (λ t. AreDirectedChildren arc t c.in_ok-kind.kind c.in_ok-kind.sets.items) first c.in_ok-kind.ensures.sets;
          number = c.len.ensures ∙ c.in_ok-kind.sets.ok.0;
          pairs = c.in_ok-kind.ensures.pairs;
        },
        refl,
      ),
      map_one_more plain_part c.push-2.new.self.items c.args.parts.now.items (Node c.in_ok-kind.kind c.len.result c.in_ok-kind.pairs) c.in_ok-push-2.ensures.items,
      grown,
    )) c.push_open.ensures
