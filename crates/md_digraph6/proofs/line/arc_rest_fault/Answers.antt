use Rattle.std.proofs.Common.{◌≡◌, ◌==◌, true, false, length, None, Some, sym, ◌∙◌, arith}
use Rattle.std.specs.List.{list_all}
use Rattle.std.proofs.lemmas.Grind.{common_steps}
use Rattle.md_graph6.specs.Line.{is_group}
use Rattle.md_graph6.specs.Size.{size_of}
use Rattle.md_digraph6.specs.ArcLine.{arc_rest_fault, arc_size_fault}
use Rattle.md_digraph6.proofs.ArcLines.{arc_rest_fault-sized}
use Rattle.md_digraph6.proofs.line.arc_rest_fault.Goals as goal

pub returns-then-not-are_groups : goal.returns-then-not-are_groups
unfolding arc_rest_fault
returns-then-not-are_groups c = grind (arith, common_steps)

pub returns-then-is_empty : goal.returns-then-is_empty
unfolding arc_rest_fault
returns-then-is_empty c = grind (arith, common_steps)

pub returns-in-Some : goal.returns-in-Some
unfolding arc_size_fault
returns-in-Some c =
    let sized : size_of c.args.rest.now ≡ Some (c.in-Some.taken, c.in-Some.n) = cc in
    let groups : list_all is_group c.args.rest.now ≡ true = cc in
    let some : (length c.args.rest.now == 0) ≡ false = cc in
    c.arc_body_fault.ensures ∙ sym (arc_rest_fault-sized c.args.rest.now _ groups some sized)

pub returns-in-None : goal.returns-in-None
unfolding arc_size_fault
returns-in-None c =
    let sized : size_of c.args.rest.now ≡ None = cc in
    let groups : list_all is_group c.args.rest.now ≡ true = cc in
    let some : (length c.args.rest.now == 0) ≡ false = cc in
    sym (arc_rest_fault-sized c.args.rest.now _ groups some sized)
