use Rattle.std.proofs.Common.{arith, ap, ◌∙◌}
use Rattle.md_graph6.specs.Bits.{body_length}
use Rattle.md_graph6.proofs.SizeText.{body_fits, length-size_below}
use Rattle.md_graph6.proofs.writer.blank_line.Goals as goal

pub overflow_add-end : goal.overflow_add-end
overflow_add-end c = omega (arith, c.requires.size, length-size_below c.args.n c.requires.few, c.body_length.ensures ∙ ap body_length c.from.ensures, body_fits c.args.n c.requires.few)

pub overflow_add-end-2 : goal.overflow_add-end-2
overflow_add-end-2 c = omega (arith, c.requires.size, length-size_below c.args.n c.requires.few, c.body_length.ensures ∙ ap body_length c.from.ensures, body_fits c.args.n c.requires.few)
