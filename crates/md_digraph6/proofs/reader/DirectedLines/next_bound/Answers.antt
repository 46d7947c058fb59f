use Rattle.std.proofs.Common.{◌≡◌, ◌<◌, length, sym, ◌∙◌, subst, arith}
use Rattle.std.proofs.lemmas.Grind.{common_steps}
use Rattle.std.proofs.lemmas.List.{take_rest}
use Rattle.md_graph6.specs.File.{stripped_lines}
use Rattle.md_graph6.proofs.ReadLemmas.{first_line, no_first_line}
use Rattle.md_digraph6.specs.ArcLine.{arc_line_fault, digraph_of_line}
use Rattle.md_digraph6.specs.FirstDigraph.{FirstDigraphBelow}
use Rattle.md_digraph6.proofs.ArcReading.{leading_size, size_below, size_least, none_below}
use Rattle.md_digraph6.proofs.reader.DirectedLines.next_bound.Goals as goal

pub returns-then-is_empty-clause-below : goal.returns-then-is_empty-clause-below
returns-then-is_empty-clause-below c =
    let none : length c.next_line.result.0.now ≡ 0 = grind (arith, common_steps) in
    none_below 0 c.args.self.now (sym c.self.view_is ∙ no_first_line digraph_of_line (stripped_lines c.self.inside.rest.now) (c.next_line.ensures.none none))

pub spelt_size-requires : goal.spelt_size-requires
spelt_size-requires c =
    let some : 0 < length c.next_line.result.0.now = grind (arith, common_steps) in
    let first = first_line arc_line_fault digraph_of_line _ _ _ c.self.invariant (c.next_line.ensures.first some) some in
    let size = leading_size c.next_line.result.0.now some first.sound in
    (size.0, rw take_rest size.1.size)

pub returns-clause-below : goal.returns-clause-below
returns-clause-below c =
    let some : 0 < length c.next_line.result.0.now = grind (arith, common_steps) in
    let first = first_line arc_line_fault digraph_of_line _ _ _ c.self.invariant (c.next_line.ensures.first some) some in
    let size = leading_size c.next_line.result.0.now some first.sound in
    let same = c.spelt_size.ensures size.0 (rw take_rest size.1.size) in
    subst (λ n. FirstDigraphBelow n c.args.self.now) (sym same) (size_below size.0 c.next_line.result.0.now _ c.args.self.now (sym c.self.view_is ∙ first.graphs) size.1)

pub returns-clause-least : goal.returns-clause-least
returns-clause-least c = λ m below.
    let some : 0 < length c.next_line.result.0.now = grind (arith, common_steps) in
    let first = first_line arc_line_fault digraph_of_line _ _ _ c.self.invariant (c.next_line.ensures.first some) some in
    let size = leading_size c.next_line.result.0.now some first.sound in
    let same = c.spelt_size.ensures size.0 (rw take_rest size.1.size) in
    omega (arith, same, size_least size.0 m c.next_line.result.0.now _ c.args.self.now (sym c.self.view_is ∙ first.graphs) size.1 below)

pub returns-clause-few : goal.returns-clause-few
returns-clause-few c =
    let some : 0 < length c.next_line.result.0.now = grind (arith, common_steps) in
    let first = first_line arc_line_fault digraph_of_line _ _ _ c.self.invariant (c.next_line.ensures.first some) some in
    let size = leading_size c.next_line.result.0.now some first.sound in
    let same = c.spelt_size.ensures size.0 (rw take_rest size.1.size) in
    omega (arith, same, size.1.few)
