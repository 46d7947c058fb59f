use Rattle.md_digraph.proofs.RowLemmas.{row_sees, row_misses, row_has_none, row_has_all}
use Rattle.md_digraph.proofs.refinement.is_divided.Goals as goal

pub returns-in_default-clause-alike : goal.returns-in_default-clause-alike
returns-in_default-clause-alike g c = λ _. row_has_none c.args.class.now c.args.row.now c.args.apart.now c.requires c.in_default.ensures.none

pub returns-in_default-first_in_symmetric_difference-clause-alike : goal.returns-in_default-first_in_symmetric_difference-clause-alike
returns-in_default-first_in_symmetric_difference-clause-alike g c = λ _. row_has_all c.args.class.now c.args.row.now c.in_default-first_in_symmetric_difference.ensures.none

pub returns-clause-sees : goal.returns-clause-sees
returns-clause-sees g c = λ _. row_sees c.args.class.now c.args.row.now c.args.apart.now c.in-Some.field-0 c.requires c.in-Some.ensures.found

pub returns-clause-misses : goal.returns-clause-misses
returns-clause-misses g c = λ _. row_misses c.args.class.now c.args.row.now c.in-Some-first_in_symmetric_difference.field-0 c.in-Some-first_in_symmetric_difference.ensures.found
