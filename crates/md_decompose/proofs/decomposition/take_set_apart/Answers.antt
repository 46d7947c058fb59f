use Rattle.std.proofs.Common.{◌≡◌, sym, ◌∙◌, subst, rules}
use Rattle.md_graph.specs.PlainGraph.{adjacent}
use Rattle.md_graph.specs.Sets.{Within, HasTwo}
use Rattle.md_tree.specs.StrongTrees.{HasKind}
use Rattle.md_decompose.specs.Children.{AreChildren, FitsBelow}
use Rattle.md_decompose.specs.Chains.{IsChainOf}
use Rattle.md_decompose.specs.Turns.{ListsForKind}
use Rattle.md_tree.specs.declared.parts.PartOf.TheVariants.{Node}
use Rattle.md_tree.specs.Parts.{plain_part, inner}
use Rattle.md_decompose.proofs.Opened.{opened_node, chain_known}
use Rattle.md_tree.proofs.Stacking.{map_one_more, if_ok}
use Rattle.md_decompose.proofs.decomposition.take_set_apart.Goals as goal

pub returns : goal.returns
returns g c =
    if_ok c.push_open.result (λ _ grown.
    let s = c.args.set.names in
    let e = adjacent c.args.graph.now in
    let first : c.set_in-set.result.now ≡ s = c.set_in-set.ensures.value in
    let kind : HasKind e s c.in_ok-kind.kind = subst (λ t. HasKind e t c.in_ok-kind.kind) first c.in_ok-kind.ensures.kind in
    let sets : AreChildren e s c.in_ok-kind.sets.items = subst (λ t. AreChildren e t c.in_ok-kind.sets.items) first c.in_ok-kind.ensures.sets in
    let chain : IsChainOf e s c.children.new.chain = subst (λ t. IsChainOf e t c.children.new.chain) first c.in_ok-kind.ensures.chain in
    let node = opened_node s c.in_ok-kind.kind c.len.result c.in_ok-kind.sets.items c.children.new.chain grown.0 kind sets (c.len.ensures ∙ c.in_ok-kind.sets.ok.0) chain grown.2 in (
      inner c.in_ok-kind.kind c.len.result c.in_ok-kind.edges.list.items,
      grown.0,
      (node.0, subst (λ cs. ListsForKind e c.in_ok-kind.kind cs c.in_ok-kind.edges.list.items) (sym node.1) c.in_ok-kind.ensures.pairs),
      map_one_more plain_part c.push.new.self.items c.args.parts.now.items (Node c.in_ok-kind.kind c.len.result c.in_ok-kind.edges) c.in_ok-push.ensures.items,
      grown.1,
    )) c.push_open.ensures

pub children-requires : goal.children-requires
children-requires g c =
    let s = c.args.set.names in
    let e = adjacent c.args.graph.now in
    let first : c.set_in-set.result.now ≡ s = c.set_in-set.ensures.value in
    let second : s ≡ c.set_in-set.result.now = sym first in (
      search rules,
      (
        search rules,
        (
          search rules,
          (
            subst (λ t. Within t c.args.graph.now.vertices) second c.requires.inside,
            (
              subst HasTwo second c.requires.two,
              (
                subst (λ t. FitsBelow e t c.args.set.parent) second c.requires.below,
                subst (λ t. IsChainOf e t c.args.set.chain) second c.requires.chain,
              ),
            ),
          ),
        ),
      ),
    )

pub push_open-requires : goal.push_open-requires
push_open-requires g c =
    let same : c.set_in-set.result.now ≡ c.args.set.names = c.set_in-set.ensures.value in (
      search rules,
      (
        search rules,
        chain_known c.args.set.names c.children.new.chain (c.requires.two.0, c.requires.two.2) (subst (λ t. IsChainOf (adjacent c.args.graph.now) t c.children.new.chain) same c.in_ok-kind.ensures.chain),
      ),
    )
