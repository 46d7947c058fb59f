-- The file has one graph.
use Rattle.std.proofs.Common.{refl}
use Rattle.md_input.specs.declared.format.Format.TheVariants.{G6}
use Rattle.md_input.proofs.GraphFiles.{one_line_graph}
use Rattle.md_input.proofs.inputs.inputs_of_lines.Goals as goal

pub returns-then-bound-le-BROAD-clause-graph : goal.returns-then-bound-le-BROAD-clause-graph
returns-then-bound-le-BROAD-clause-graph c =
    one_line_graph G6 refl c.args.file.now c.new-lines.result c.take_first.new.graph c.take_first.new.self c.take_first.result c.in_ok-count.count
    c.in_ok-count.ensures.sound c.if-count-ne1.false c.in_ok-count.ensures.count c.new-lines.ensures c.take_first.ensures.first c.take_first.ensures.none

pub returns-clause-graph : goal.returns-clause-graph
returns-clause-graph c =
    one_line_graph G6 refl c.args.file.now c.new-lines.result c.take_first-2.new.graph c.take_first-2.new.self c.take_first-2.result c.in_ok-count.count
    c.in_ok-count.ensures.sound c.if-count-ne1.false c.in_ok-count.ensures.count c.new-lines.ensures c.take_first-2.ensures.first c.take_first-2.ensures.none
