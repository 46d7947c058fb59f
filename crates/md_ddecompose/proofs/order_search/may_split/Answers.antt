use Rattle.md_graph.proofs.SetLemmas.{clash, none_lacks}
use Rattle.md_digraph.specs.PlainDigraph.{has_arc_to}
use Rattle.md_ddecompose.proofs.OrderSearch.{no_part}
use Rattle.md_ddecompose.proofs.order_search.may_split.Goals as goal

pub returns-in_default : goal.returns-in_default
returns-in_default g c = λ _ split. clash (split.1.inside split.1.some.0 split.1.some.1) (none_lacks c.args.set.now c.in_default.ensures.none split.1.some.0)

pub returns : goal.returns
returns g c = λ is. no_part (has_arc_to c.args.graph.now) c.args.set.now c.in-Some.v c.in-Some.ensures.found.member (c.may_hold.ensures c.if-may_hold.false) (c.may_hold-2.ensures is)
