use Rattle.std.proofs.lemmas.Iterator.{items_from_drains}
use Rattle.std.proofs.lemmas.Iterator.Consumers.{YieldsList-from_first}
use Rattle.md_graph.specs.NameSet.{ascending}
use Rattle.md_script.proofs.NameListLemmas.{collected_list}
use Rattle.md_script.proofs.neighbours.Neighbours.new.Goals as goal

pub invariant_of-result : goal.invariant_of-result
invariant_of-result c =
    let ran = c.in_ok-list.ensures.ran in
    let all = items_from_drains {v = λ x. x} ran.0 ran.1 (YieldsList-from_first (λ x. x) (λ s. s) (ascending c.args.names.now) c.members.ensures.list) in
    collected_list c.in_ok-list.list.items ran.0 c.args.names.now ran.2.0 all
