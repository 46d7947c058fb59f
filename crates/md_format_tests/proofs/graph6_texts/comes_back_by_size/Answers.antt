use Rattle.std.proofs.Common.{arith, rules}
use Rattle.md_graph.specs.declared.TheConstants.{NAMES}
use Rattle.md_graph6.proofs.FirstLemmas.{first_below}
use Rattle.md_format_tests.proofs.graph6_texts.comes_back_by_size.Goals as goal

pub new-lines-requires : goal.new-lines-requires
new-lines-requires g c = (NAMES, omega arith, search rules)

pub take_first-requires : goal.take_first-requires
take_first-requires g c =
    (search rules, (c.loop-n.invariant.small, first_below c.loop-n.lines c.next_bound-bound.result 64 c.if-bound-le64.true c.next_bound-bound.ensures.below))
