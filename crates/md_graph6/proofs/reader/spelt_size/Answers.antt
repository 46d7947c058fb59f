-- A size of one byte, and one of four.
use Rattle.std.proofs.Common.{arith, ◌∙◌}
use Rattle.std.proofs.lemmas.Grind.{common_steps}
use Rattle.md_graph6.proofs.FirstLemmas.{HasFour, size_some, size_one, size_four}
use Rattle.md_graph6.proofs.reader.spelt_size.Goals as goal

pub bounds-text-0 : goal.bounds-text-0
bounds-text-0 c = size_some c.args.text.now c.requires.1

pub bounds-text-0-then-text-ne-LONG : goal.bounds-text-0-then-text-ne-LONG
bounds-text-0-then-text-ne-LONG c = size_some c.args.text.now c.requires.1

pub overflow_sub-text : goal.overflow_sub-text
overflow_sub-text c = (size_one c.requires.0 c.args.text.now c.requires.1 c.if-text-ne-LONG.true).0

pub returns-then-text-ne-LONG : goal.returns-then-text-ne-LONG
returns-then-text-ne-LONG c = λ n size. c.from.ensures ∙ (size_one n c.args.text.now size c.if-text-ne-LONG.true).1

four : (c : goal.Else-text-ne-LONG) → HasFour c.requires.0 c.args.text.now
four c = size_four c.requires.0 c.args.text.now c.requires.1 c.if-text-ne-LONG.false

pub slice_bounds-eighteen-end : goal.slice_bounds-eighteen-end
slice_bounds-eighteen-end c = let long = (four c).long in grind (arith, common_steps)

pub eighteen-requires-clause-groups : goal.eighteen-requires-clause-groups
eighteen-requires-clause-groups c = (four c).groups

pub eighteen-requires-clause-inside : goal.eighteen-requires-clause-inside
eighteen-requires-clause-inside c = let long = (four c).long in grind (arith, common_steps)

pub returns : goal.returns
returns c = λ n size. c.eighteen.ensures.value ∙ (size_four n c.args.text.now size c.if-text-ne-LONG.false).value
