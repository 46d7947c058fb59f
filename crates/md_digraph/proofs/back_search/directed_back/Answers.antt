use Rattle.md_modules.proofs.Turns.{back_taken, back_rest, back_fixed}
use Rattle.md_graph.proofs.SetLemmas.{flipped_along}
use Rattle.md_digraph.proofs.back_search.directed_back.Goals as goal

pub returns-clause-names : goal.returns-clause-names
returns-clause-names g c = back_taken c.args.within.now c.not_back.new.left c.symmetric_difference_with.new.self c.args.v (flipped_along c.args.within.now c.not_back.new.left c.symmetric_difference_with.new.self c.not_back.ensures.part c.symmetric_difference_with.ensures.changed) c.not_back.ensures.names

pub returns-clause-rest : goal.returns-clause-rest
returns-clause-rest g c = back_rest c.args.within.now c.not_back.new.left c.symmetric_difference_with.new.self c.not_back.ensures.part (flipped_along c.args.within.now c.not_back.new.left c.symmetric_difference_with.new.self c.not_back.ensures.part c.symmetric_difference_with.ensures.changed) c.not_back.ensures.rest

pub returns-clause-fixed : goal.returns-clause-fixed
returns-clause-fixed g c = back_fixed c.args.within.now c.not_back.new.left c.symmetric_difference_with.new.self c.args.v c.not_back.ensures.part (flipped_along c.args.within.now c.not_back.new.left c.symmetric_difference_with.new.self c.not_back.ensures.part c.symmetric_difference_with.ensures.changed) c.not_back.ensures.fixed
