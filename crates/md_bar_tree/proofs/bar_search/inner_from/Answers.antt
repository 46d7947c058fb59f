use Rattle.std.proofs.Common.{◌<◌, ◌≤◌, subst}
use Rattle.md_graph.proofs.SetLemmas.{clash}
use Rattle.md_tree.specs.Plain.{row_from}
use Rattle.md_bar_tree.proofs.Children.{then_self, skip_more, skip_end}
use Rattle.md_bar_tree.proofs.bar_search.inner_from.Goals as goal

pub loop-at-init : goal.loop-at-init
loop-at-init c = then_self (row_from c.args.children.now c.args.from)

pub loop-at-preserved : goal.loop-at-preserved
loop-at-preserved c = skip_more (row_from c.args.children.now c.args.from) c.args.children.now.list.items c.loop-at.at c.get.result.now c.loop-at.invariant c.get.ensures.value
    (subst (λ n. c.loop-at.at < n) c.len-at-end.ensures.value c.loop-at-test.true) (λ i. clash (c.is_inner.ensures.1 i) c.if-is_inner.false)

pub returns-clause-none : goal.returns-clause-none
returns-clause-none c = skip_end (row_from c.args.children.now c.args.from) c.args.children.now.list.items c.loop-at.at c.loop-at.invariant
    (subst (λ n. n ≤ c.loop-at.at) c.len-at-end.ensures.value c.loop-at-test.false)
