use Rattle.std.proofs.Common.{refl, ◌∙◌, ap, rules}
use Rattle.std.specs.FinSet.{insert, difference}
use Rattle.md_graph.proofs.SetLemmas.{of_minus}
use Rattle.md_digraph.specs.PlainDigraph.{has_arc_to}
use Rattle.md_digraph.proofs.ArcTurns.{arcs_turn, arcs_told}
use Rattle.md_decompose.proofs.ChildLemmas.{held_begins, held_falls, held_ends, held_grown}
use Rattle.md_ddecompose.proofs.prime.far_from.Goals as goal

pub loop-j-init : goal.loop-j-init
loop-j-init g c =
    held_begins c.args.set.now c.insert.new.self c.args.v c.requires.unsplit c.requires.member (c.insert.ensures.changed ∙ ap (λ s. insert s c.args.v) c.none-held.ensures.value)

pub hold-requires : goal.hold-requires
hold-requires g c =
    let out = of_minus c.args.set.now c.loop-j.held c.in-Some.j c.in-Some.ensures.found in
    (search rules, (search rules, (c.requires.inside, (c.loop-j.invariant.is_module, (c.loop-j.invariant.start, (out.0, out.1))))))

pub loop-j-smaller : goal.loop-j-smaller
loop-j-smaller g c =
    held_falls c.args.set.now c.loop-j.held c.hold.new.held (difference c.args.set.now c.loop-j.held) c.in-Some.j refl c.in-Some.ensures.found c.hold.ensures

pub loop-j-preserved : goal.loop-j-preserved
loop-j-preserved g c =
    let out = of_minus c.args.set.now c.loop-j.held c.in-Some.j c.in-Some.ensures.found in
    held_grown (arcs_turn (has_arc_to c.args.graph.now)) arcs_told c.args.set.now c.loop-j.held c.hold.new.held c.args.v c.in-Some.j c.requires.unsplit
    c.loop-j.invariant.is_module c.loop-j.invariant.start out.0 out.1 c.hold.ensures

pub returns-clause-differ : goal.returns-clause-differ
returns-clause-differ g c = (held_ends c.args.set.now c.loop-j.held (difference c.args.set.now c.loop-j.held) c.args.v c.loop-j.last refl c.in_default.ensures.none c.loop-j.invariant).0

pub returns-clause-whole : goal.returns-clause-whole
returns-clause-whole g c = (held_ends c.args.set.now c.loop-j.held (difference c.args.set.now c.loop-j.held) c.args.v c.loop-j.last refl c.in_default.ensures.none c.loop-j.invariant).1
