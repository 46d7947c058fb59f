use Rattle.std.proofs.Common.{rules, ◌≡◌, ◌*◌, ◌<◌, ◌∷◌, length, ap, sym, ◌∙◌, subst, arith}
use Rattle.std.proofs.lemmas.Grind.{common_steps}
use Rattle.md_graph6.specs.File.{stripped_lines}
use Rattle.md_digraph6.specs.ArcLine.{arc_line_fault, digraph_of_line}
use Rattle.md_digraph6.specs.ArcFile.{digraphs_in}
use Rattle.md_digraph6.specs.FirstDigraph.{FirstDigraphBelow}
use Rattle.md_graph6.proofs.ReadLemmas.{first_line, no_first_line, fault_behind-end, graphs_of_lines-end}
use Rattle.md_digraph6.proofs.reader.DirectedLines.take_first.Goals as goal

pub invariant_of-self : goal.invariant_of-self
invariant_of-self g c =
    let none : length c.next_line.result.0.now ≡ 0 = grind (arith, common_steps) in
    fault_behind-end arc_line_fault 0 c.next_line.result.1.now (c.next_line.ensures.none_left none)

pub returns-then-is_empty-clause-none : goal.returns-then-is_empty-clause-none
returns-then-is_empty-clause-none g c =
    let none : length c.next_line.result.0.now ≡ 0 = grind (arith, common_steps) in
    sym c.self.view_is ∙ no_first_line digraph_of_line (stripped_lines c.self.inside.rest.now) (c.next_line.ensures.none none)

pub returns-then-is_empty-clause-none_left : goal.returns-then-is_empty-clause-none_left
returns-then-is_empty-clause-none_left g c =
    let none : length c.next_line.result.0.now ≡ 0 = grind (arith, common_steps) in
    graphs_of_lines-end digraph_of_line c.next_line.result.1.now (c.next_line.ensures.none_left none)

pub fill_arc_line-requires : goal.fill_arc_line-requires
fill_arc_line-requires g c =
    let some : 0 < length c.next_line.result.0.now = grind (arith, common_steps) in
    let first = first_line arc_line_fault digraph_of_line _ _ _ c.self.invariant (c.next_line.ensures.first some) some in
    let room = subst (FirstDigraphBelow (64 * g.row.W)) (sym c.self.view_is ∙ first.graphs) c.requires.room in
    (search rules, (c.requires.empty, (some, (first.sound, room))))

pub invariant_of-self-2 : goal.invariant_of-self-2
invariant_of-self-2 g c =
    let some : 0 < length c.next_line.result.0.now = grind (arith, common_steps) in
    (first_line arc_line_fault digraph_of_line _ _ _ c.self.invariant (c.next_line.ensures.first some) some).more_sound

pub returns-clause-first : goal.returns-clause-first
returns-clause-first g c =
    let some : 0 < length c.next_line.result.0.now = grind (arith, common_steps) in
    let first = first_line arc_line_fault digraph_of_line _ _ _ c.self.invariant (c.next_line.ensures.first some) some in
    sym c.self.view_is ∙ first.graphs ∙ ap (λ h. h ∷ digraphs_in c.next_line.result.1.now) (sym c.fill_arc_line.ensures)
