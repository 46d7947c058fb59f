use Rattle.std.proofs.Common.{◌≡◌, true, false, get_or, None, Some, sym, ◌∙◌, arith}
use Rattle.std.specs.List.{list_all}
use Rattle.std.proofs.lemmas.Grind.{common_steps}
use Rattle.md_graph6.specs.Line.{size_fault, begins_other, is_group}
use Rattle.md_graph6.specs.Size.{size_of}
use Rattle.md_graph6.proofs.LineLemmas.{graph6_fault-is, graph6_fault-sized}
use Rattle.md_graph6.proofs.line.graph6_fault.Goals as goal

pub returns-then-begins_other : goal.returns-then-begins_other
returns-then-begins_other c = grind (arith, common_steps, graph6_fault-is c.args.limit c.args.line.now)

pub returns-then-not-are_groups : goal.returns-then-not-are_groups
returns-then-not-are_groups c = grind (arith, common_steps, graph6_fault-is c.args.limit c.args.line.now)

pub returns-in-Some : goal.returns-in-Some
unfolding size_fault
returns-in-Some c =
    let sized : size_of c.args.line.now ≡ Some (c.in-Some.taken, c.in-Some.n) = cc in
    let first : begins_other (get_or c.args.line.now 0 0) ≡ false = cc in
    let groups : list_all is_group c.args.line.now ≡ true = cc in
    c.body_fault.ensures ∙ sym (graph6_fault-sized _ c.args.line.now _ first groups sized)

pub returns-in-None : goal.returns-in-None
unfolding size_fault
returns-in-None c =
    let sized : size_of c.args.line.now ≡ None = cc in
    let first : begins_other (get_or c.args.line.now 0 0) ≡ false = cc in
    let groups : list_all is_group c.args.line.now ≡ true = cc in
    sym (graph6_fault-sized _ c.args.line.now _ first groups sized)
