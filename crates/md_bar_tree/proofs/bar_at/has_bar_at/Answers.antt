use Rattle.std.proofs.Common.{rules, sym, subst, inl, inr}
use Rattle.md_graph.specs.Sets.{Has}
use Rattle.md_graph.specs.PlainGraph.{adjacent}
use Rattle.md_bar_tree.specs.declared.Class.{Class}
use Rattle.md_bar_tree.specs.Bars.{IsBar}
use Rattle.md_bar_tree.proofs.Crossings.{adjacent_bar, crossing_bar, trivial_at, threshold_at, near_joined, near_vertex, joined_near}
use Rattle.md_bar_tree.proofs.bar_at.has_bar_at.Goals as goal

pub some_crossing-requires : goal.some_crossing-requires
some_crossing-requires g c =
    (search rules, (search rules, (c.requires, λ x h. near_vertex c.vertices-vertices.ensures.graph c.args.w c.neighbours.result.now c.neighbours.ensures.set x h)))

pub returns-in-Trivial-clause-found : goal.returns-in-Trivial-clause-found
returns-in-Trivial-clause-found g c told =
    let cross = c.some_crossing.ensures.found told in
    let graph = c.vertices-vertices.ensures.graph in
    adjacent_bar graph c.args.class c.args.w cross.0 (near_joined graph c.args.w c.neighbours.result.now c.neighbours.ensures.set cross.0 cross.1) cross.2

pub returns-in-Trivial-clause-none : goal.returns-in-Trivial-clause-none
returns-in-Trivial-clause-none g c told bar is name =
    let graph = c.vertices-vertices.ensures.graph in
    let here = subst (λ (k : Class). IsBar k (adjacent c.args.graph.now) c.args.graph.now.vertices bar) c.in-Trivial.is is in
    elim (trivial_at graph c.args.w bar here name) [
      | inl path ↦ path
      | inr one ↦ absurd (c.some_crossing.ensures.none told one.0 (joined_near graph c.args.w c.neighbours.result.now c.neighbours.ensures.set one.0 one.1) one.2)
    ]

pub returns-in-Threshold-clause-found : goal.returns-in-Threshold-clause-found
returns-in-Threshold-clause-found g c told =
    let cross = c.some_crossing-in-Threshold.ensures.found told in
    crossing_bar c.vertices-vertices.ensures.graph c.args.class c.in-Threshold.is c.args.w cross.0 cross.2

pub returns-in-Threshold-clause-none : goal.returns-in-Threshold-clause-none
returns-in-Threshold-clause-none g c told bar is name =
    let graph = c.vertices-vertices.ensures.graph in
    let here = subst (λ (k : Class). IsBar k (adjacent c.args.graph.now) c.args.graph.now.vertices bar) c.in-Threshold.is is in
    elim (threshold_at graph c.args.w bar here name) [
      | inl path ↦ path
      | inr one ↦ absurd (c.some_crossing-in-Threshold.ensures.none told one.0 (subst (λ s. Has s one.0) (sym c.vertices-vertices.ensures.set) one.1) one.2)
    ]
