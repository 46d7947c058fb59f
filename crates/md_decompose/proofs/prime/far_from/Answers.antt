use Rattle.std.proofs.Common.{subst, sym, rules}
use Rattle.md_modules.proofs.Turns.{graph_adjacency}
use Rattle.md_graph.specs.PlainGraph.{adjacent}
use Rattle.md_graph.specs.declared.TheConstants.{NAMES}
use Rattle.md_graph.specs.Sets.{Has, Lacks}
use Rattle.md_modules.specs.Modules.{IsModule}
use Rattle.md_decompose.proofs.ChildLemmas.{IsHeld}
use Rattle.md_decompose.proofs.ChainLemmas.{steps_held, steps_within, told_out, turn_held, turn_grown, turn_falls, turn_whole, turn_names, search_ends, steps_pushed}
use Rattle.md_decompose.proofs.prime.far_from.Goals as goal

pub names-begun-requires : goal.names-begun-requires
names-begun-requires g c =
    let vertices = c.vertices-vertices.ensures in (
      search rules,
      (
        vertices.limit,
        (
          vertices.below _ (c.requires.inside _ c.requires.member),
          λ x known. vertices.below x (c.requires.inside x (steps_within (graph_adjacency vertices.graph) c.args.set.now c.args.v c.requires.prime c.requires.member c.args.chain.now.taken.items c.args.chain.now.steps.items c.requires.steps x known)),
        ),
      ),
    )

pub loop-j-init : goal.loop-j-init
loop-j-init g c = record {
  is_held = subst (IsHeld (adjacent c.args.graph.now) c.args.set.now c.args.v c.last_led-last.result) (sym c.names-begun.ensures)
      (steps_held (graph_adjacency c.vertices-vertices.ensures.graph) c.args.set.now c.args.v c.requires.prime c.requires.member c.args.chain.now.taken.items c.args.chain.now.steps.items
      c.last_led-last.result c.requires.steps c.last_led-last.ensures.none c.last_led-last.ensures.some);
  is_last = c.names-begun.ensures;
  steps = c.requires.steps;
}

pub hold-requires : goal.hold-requires
hold-requires g c =
    let held = sym c.copy-held.ensures.value in
    let out = told_out c.args.set.now c.loop-j.begun c.in-Some.j c.in-Some.ensures.found in (
      search rules,
      (
        search rules,
        (
          c.requires.inside,
          (
            subst (IsModule (adjacent c.args.graph.now) c.args.set.now) held c.loop-j.invariant.is_held.is_module,
            (subst (λ s. Has s c.args.v) held c.loop-j.invariant.is_held.start, (out.0, subst (λ s. Lacks s c.in-Some.j) held out.1)),
          ),
        ),
      ),
    )

pub returns-then-is_same-clause-differ : goal.returns-then-is_same-clause-differ
returns-then-is_same-clause-differ g c =
    (turn_whole (graph_adjacency c.vertices-vertices.ensures.graph) c.args.set.now c.args.v c.requires.prime c.requires.member c.loop-j.begun c.copy-held.result c.hold.new.held c.loop-j.last c.in-Some.j
    c.loop-j.invariant.is_held c.in-Some.ensures.found c.copy-held.ensures.value c.hold.ensures (c.is_same.ensures.exactly.0 c.if-is_same.true)).0

pub returns-then-is_same-clause-whole : goal.returns-then-is_same-clause-whole
returns-then-is_same-clause-whole g c =
    (turn_whole (graph_adjacency c.vertices-vertices.ensures.graph) c.args.set.now c.args.v c.requires.prime c.requires.member c.loop-j.begun c.copy-held.result c.hold.new.held c.loop-j.last c.in-Some.j
    c.loop-j.invariant.is_held c.in-Some.ensures.found c.copy-held.ensures.value c.hold.ensures (c.is_same.ensures.exactly.0 c.if-is_same.true)).1

pub loop-j-smaller : goal.loop-j-smaller
loop-j-smaller g c =
    turn_falls (graph_adjacency c.vertices-vertices.ensures.graph) c.args.set.now c.args.v c.requires.prime c.requires.member c.loop-j.begun c.copy-held.result c.hold.new.held c.loop-j.last c.in-Some.j
    c.loop-j.invariant.is_held c.in-Some.ensures.found c.copy-held.ensures.value c.hold.ensures

pub loop-j-preserved : goal.loop-j-preserved
loop-j-preserved g c =
    let graph = c.vertices-vertices.ensures.graph in
    let adj = graph_adjacency graph in
    let s = c.args.set.now in
    let v = c.args.v in
    let begun = c.loop-j.begun in
    let held = c.hold.new.held in
    let j = c.in-Some.j in
    let is = c.loop-j.invariant.is_held in
    let found = c.in-Some.ensures.found in
    let pushed =
    steps_pushed s v c.loop-j.chain.taken.items c.push.new.self.taken.items c.loop-j.chain.steps.items c.push.new.self.steps.items begun held j c.loop-j.invariant.steps c.loop-j.invariant.is_last
    (turn_grown adj s v c.requires.prime c.requires.member begun c.copy-held.result held c.loop-j.last j is found c.copy-held.ensures.value c.hold.ensures)
    (turn_names adj s v c.requires.prime c.requires.member begun c.copy-held.result held c.loop-j.last j is found c.copy-held.ensures.value c.hold.ensures NAMES (λ x h. graph.names x (c.requires.inside x h)))
    c.in_ok-push.ensures.taken c.in_ok-push.ensures.steps
    in
    record {
      is_held = turn_held adj s v c.requires.prime c.requires.member begun c.copy-held.result held c.loop-j.last j is found c.copy-held.ensures.value c.hold.ensures;
      is_last = pushed.1;
      steps = pushed.0;
    }

pub returns-clause-differ : goal.returns-clause-differ
returns-clause-differ g c =
    (search_ends (graph_adjacency c.vertices-vertices.ensures.graph) c.args.set.now c.args.v c.requires.prime c.requires.member c.loop-j.begun c.loop-j.last c.loop-j.invariant.is_held c.in_default.ensures.none).0

pub returns-clause-whole : goal.returns-clause-whole
returns-clause-whole g c =
    (search_ends (graph_adjacency c.vertices-vertices.ensures.graph) c.args.set.now c.args.v c.requires.prime c.requires.member c.loop-j.begun c.loop-j.last c.loop-j.invariant.is_held c.in_default.ensures.none).1
