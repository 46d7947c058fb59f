use Rattle.std.proofs.Common.{◌≡◌, ◌<◌, length, get_or, sym, ap, ◌∙◌, arith}
use Rattle.std.proofs.lemmas.Grind.{common_steps}
use Rattle.std.proofs.lemmas.List.{take_rest}
use Rattle.md_digraph6.specs.ArcLine.{arc_rest_fault}
use Rattle.md_digraph6.proofs.ArcLines.{arc_line_fault-empty, arc_line_fault-arcs, arc_line_fault-other}
use Rattle.md_digraph6.proofs.line.arc_line_fault.Goals as goal

pub returns-then-is_empty : goal.returns-then-is_empty
returns-then-is_empty c = grind (arith, common_steps, arc_line_fault-empty c.args.line.now)

pub returns-then-line-ne-ARCS : goal.returns-then-line-ne-ARCS
returns-then-line-ne-ARCS c =
    let some : 0 < length c.args.line.now = grind (arith, common_steps) in
    sym (arc_line_fault-other c.args.line.now some c.if-line-ne-ARCS.true)

pub returns : goal.returns
returns c =
    let some : 0 < length c.args.line.now = grind (arith, common_steps) in
    let arcs : get_or c.args.line.now 0 0 ≡ 38 = grind (arith, common_steps) in
    c.arc_rest_fault.ensures ∙ ap arc_rest_fault (take_rest c.args.line.now 1) ∙ sym (arc_line_fault-arcs _ some arcs)
