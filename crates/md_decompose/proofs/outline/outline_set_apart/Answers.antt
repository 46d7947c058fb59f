use Rattle.std.proofs.Common.{◌≡◌, ◌≤◌, ◌*◌, ◌++◌, length, take, map, reverse, sym, ◌∙◌, ap, subst, rules, arith}
use Rattle.std.proofs.lemmas.List.{reverse-reverse, reverse-append}
use Rattle.std.specs.FinSet.{len}
use Rattle.md_graph.specs.declared.TheConstants.{NAMES}
use Rattle.md_graph.specs.NameSet.{AllBelow}
use Rattle.md_graph.specs.PlainGraph.{adjacent}
use Rattle.md_graph.proofs.NameLemmas.{length-ascending}
use Rattle.md_graph.proofs.MemberLists.{few_in}
use Rattle.md_graph.specs.Sets.{Within, HasTwo}
use Rattle.md_tree.specs.StrongTrees.{HasKind, IsBefore}
use Rattle.md_decompose.specs.Children.{AreChildren, FitsBelow}
use Rattle.md_decompose.specs.Chains.{IsChainOf}
use Rattle.md_decompose.specs.declared.decomposition.Open.TheVariants.{One}
use Rattle.md_decompose.specs.Turns.{IsNode}
use Rattle.md_outline.specs.declared.outline.OutlinePart.TheVariants.{Name, Node}
use Rattle.md_decompose.proofs.Joining.{not_before, children_few}
use Rattle.md_decompose.proofs.Opened.{opened_node, opened_from, chain_known}
use Rattle.md_tree.proofs.Stacking.{if_ok}
use Rattle.md_decompose.proofs.outline.outline_set_apart.Goals as goal

pub returns : goal.returns
returns g c =
    if_ok c.push_backward.result (λ _ grown.
    let s = c.args.set.names in
    let e = adjacent c.args.graph.now in
    let first : c.set_in-set.result.now ≡ s = c.set_in-set.ensures.value in
    let kind : HasKind e s c.in_ok-kind.kind = subst (λ t. HasKind e t c.in_ok-kind.kind) first c.in_ok-kind.ensures.kind in
    let sets : AreChildren e s c.in_ok-kind.sets.items = subst (λ t. AreChildren e t c.in_ok-kind.sets.items) first c.in_ok-kind.ensures.sets in
    let chain : IsChainOf e s c.kind_and_sets.new.chain = subst (λ t. IsChainOf e t c.kind_and_sets.new.chain) first c.in_ok-kind.ensures.chain in
    let pushed = c.in_ok-count.ensures in
    let opens = map One pushed.0 ++ grown.0 in
    let are = opened_from c.in_ok-kind.kind c.in_ok-count.count c.in_ok-kind.sets.items c.kind_and_sets.new.chain pushed.0 grown.0
    (sym (ap (take c.in_ok-count.count) c.deref.ensures.value) ∙ pushed.1) (subst (λ ss. c.in_ok-count.count ≤ length ss) c.deref.ensures.value pushed.2) grown.2 in
    let node = opened_node s c.in_ok-kind.kind c.len.result c.in_ok-kind.sets.items c.kind_and_sets.new.chain opens kind sets (c.len.ensures ∙ c.in_ok-kind.sets.ok.0) chain are in (
      Node c.in_ok-kind.kind c.len.result,
      pushed.0,
      reverse grown.0,
      subst (IsNode e s c.in_ok-kind.kind c.len.result) (sym (reverse-reverse opens) ∙ ap reverse (reverse-append (map One pushed.0) grown.0)) node.0,
      pushed.3 ∙ ap (λ ps. ps ++ map Name pushed.0) c.in_ok-push.ensures.items,
      grown.1,
    )) c.push_backward.ensures

pub kind_and_sets-requires : goal.kind_and_sets-requires
kind_and_sets-requires g c =
    let s = c.args.set.names in
    let e = adjacent c.args.graph.now in
    let first : c.set_in-set.result.now ≡ s = c.set_in-set.ensures.value in
    let second : s ≡ c.set_in-set.result.now = sym first in (
      search rules,
      (
        search rules,
        (
          search rules,
          (
            subst (λ t. Within t c.args.graph.now.vertices) second c.requires.inside,
            (
              subst HasTwo second c.requires.two,
              (
                subst (λ t. FitsBelow e t c.args.set.parent) second c.requires.below,
                subst (λ t. IsChainOf e t c.args.set.chain) second c.requires.chain,
              ),
            ),
          ),
        ),
      ),
    )

pub push_backward-requires : goal.push_backward-requires
push_backward-requires g c =
    let same : c.set_in-set.result.now ≡ c.args.set.names = c.set_in-set.ensures.value in (
      search rules,
      (
        search rules,
        (
          subst (λ ss. c.in_ok-count.count ≤ length ss) c.deref.ensures.value c.in_ok-count.ensures.2,
          chain_known c.args.set.names c.kind_and_sets.new.chain (c.requires.two.0, c.requires.two.2) (subst (λ t. IsChainOf (adjacent c.args.graph.now) t c.kind_and_sets.new.chain) same c.in_ok-kind.ensures.chain),
        ),
      ),
    )

pub overflow_cast-len : goal.overflow_cast-len
overflow_cast-len g c =
    let s = c.args.set.names in
    let sets : AreChildren (adjacent c.args.graph.now) s c.in_ok-kind.sets.items = subst (λ t. AreChildren (adjacent c.args.graph.now) t c.in_ok-kind.sets.items) c.set_in-set.ensures.value c.in_ok-kind.ensures.sets in
    let few : length c.in_ok-kind.sets.items ≤ 2 * len s = children_few s IsBefore not_before c.in_ok-kind.sets.items sets.exactly sets.order in
    let below : AllBelow s NAMES = λ v h. c.vertices-vertices.ensures.graph.names v (c.requires.inside v h) in
    let names = length-ascending s NAMES below in
    let all = few_in s NAMES below (omega arith) in
    let number = c.len.ensures ∙ c.in_ok-kind.sets.ok.0 in
    omega arith
