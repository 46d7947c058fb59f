use Rattle.std.proofs.Common.{◌≡◌, length, vec_len, sym, ◌∙◌, subst, arith}
use Rattle.md_graph.specs.Sets.{Within}
use Rattle.md_tree.specs.declared.Pair.{Pair}
use Rattle.md_tree.specs.Trees.{names, names_below}
use Rattle.md_tree.specs.Plain.{plain, row_of_children}
use Rattle.md_tree.proofs.Nodes.{at_apart}
use Rattle.md_tree.proofs.Denoted.{pair_here, at_listed, at_within, pair_step}
use Rattle.md_tree.proofs.tree_graph.join_listed.Goals as goal

abbrev none : Pair
none = record { low = 0; high = 0 }

pub index-requires : goal.index-requires
index-requires c =
    let here = pair_here none c.requires.positions c.deref-pair-items.ensures.value c.loop-pair-test.true in
    let low = here.low in
    let len : vec_len c.args.children.now.list ≡ length c.args.children.now.list.items = c.args.children.now.list.ok.0 in
    omega arith

pub index-requires-in-loop-pair : goal.index-requires-in-loop-pair
index-requires-in-loop-pair c =
    let here = pair_here none c.requires.positions c.deref-pair-items.ensures.value c.loop-pair-test.true in
    let high = here.high in
    let len : vec_len c.args.children.now.list ≡ length c.args.children.now.list.items = c.args.children.now.list.ok.0 in
    omega arith

pub join_trees-requires-clause-inside_left : goal.join_trees-requires-clause-inside_left
join_trees-requires-clause-inside_left c =
    let here = pair_here none c.requires.positions c.deref-pair-items.ensures.value c.loop-pair-test.true in
    at_within (row_of_children c.args.children.now) c.loop-pair.graph.vertices (subst (Within (names_below (row_of_children c.args.children.now))) (sym c.loop-pair.invariant.0) c.requires.inside)
    _ (names (plain c.index.result.now)) (at_listed c.args.children.now.list.items _ c.index.result.now c.index.ensures here.low)

pub join_trees-requires-clause-inside_right : goal.join_trees-requires-clause-inside_right
join_trees-requires-clause-inside_right c =
    let here = pair_here none c.requires.positions c.deref-pair-items.ensures.value c.loop-pair-test.true in
    at_within (row_of_children c.args.children.now) c.loop-pair.graph.vertices (subst (Within (names_below (row_of_children c.args.children.now))) (sym c.loop-pair.invariant.0) c.requires.inside)
    _ (names (plain c.index-in-loop-pair.result.now)) (at_listed c.args.children.now.list.items _ c.index-in-loop-pair.result.now c.index-in-loop-pair.ensures here.high)

pub join_trees-requires-clause-apart : goal.join_trees-requires-clause-apart
join_trees-requires-clause-apart c =
    let here = pair_here none c.requires.positions c.deref-pair-items.ensures.value c.loop-pair-test.true in
    at_apart (row_of_children c.args.children.now) c.requires.apart _ _ here.ordered (names (plain c.index.result.now)) (names (plain c.index-in-loop-pair.result.now))
    (at_listed c.args.children.now.list.items _ c.index.result.now c.index.ensures here.low)
    (at_listed c.args.children.now.list.items _ c.index-in-loop-pair.result.now c.index-in-loop-pair.ensures here.high)

pub loop-pair-preserved : goal.loop-pair-preserved
loop-pair-preserved c =
    let here = pair_here none c.requires.positions c.deref-pair-items.ensures.value c.loop-pair-test.true in (
      c.join_trees.ensures.vertices ∙ c.loop-pair.invariant.0,
      pair_step (row_of_children c.args.children.now) c.deref-pair-items.result.now c.args.edges.now.list.items c.loop-pair.pair-index none c.args.graph.now c.loop-pair.graph c.join_trees.new.graph
          (names (plain c.index.result.now)) (names (plain c.index-in-loop-pair.result.now)) c.deref-pair-items.ensures.value c.loop-pair-test.true
          (at_listed c.args.children.now.list.items _ c.index.result.now c.index.ensures here.low)
          (at_listed c.args.children.now.list.items _ c.index-in-loop-pair.result.now c.index-in-loop-pair.ensures here.high)
          c.join_trees.ensures.edges c.loop-pair.invariant.1,
    )
