use Rattle.std.proofs.Common.{ℕ, Bool, drop, sym, subst}
use Rattle.md_graph.specs.Sets.{NameSet, Within, Disjoint}
use Rattle.md_tree.specs.Trees.{PlainTrees, names, names_below}
use Rattle.md_tree.specs.Plain.{plain}
use Rattle.md_tree.specs.TreeEdges.{crosses}
use Rattle.md_tree.proofs.Edges.{crosses_right, crosses_none}
use Rattle.md_tree.proofs.Loops.{loop_child, loop_others, loop_step, loop_end, disjoint_first, disjoint_rest}
use Rattle.md_tree.proofs.Denoted.{later_items}
use Rattle.md_tree.proofs.tree_graph.join_later.Goals as goal

abbrev F : NameSet → PlainTrees → ℕ → ℕ → Bool
F a ts = crosses a (names_below ts)

abbrev P : NameSet → PlainTrees → Type 0
P a ts = Disjoint a (names_below ts)

pub join_trees-requires-clause-inside_right : goal.join_trees-requires-clause-inside_right
join_trees-requires-clause-inside_right c =
    loop_child (F (names (plain c.args.tree.now))) (P (names (plain c.args.tree.now))) c.args.graph.now c.loop-later.graph (drop c.args.from c.args.children.now.list.items) c.loop-later.later-index c.loop-later.invariant.0
    _ (later_items c.deref.result.now c.args.children.now.list.items c.args.from c.deref.ensures.value) c.later-item.result c.later-item.is c.loop-later-test.true

pub join_trees-requires-clause-apart : goal.join_trees-requires-clause-apart
join_trees-requires-clause-apart c =
    disjoint_first (names (plain c.args.tree.now)) (plain c.later-item.result) _
    (loop_others (F (names (plain c.args.tree.now))) (P (names (plain c.args.tree.now))) c.args.graph.now c.loop-later.graph (drop c.args.from c.args.children.now.list.items) c.loop-later.later-index c.loop-later.invariant.0
    _ (later_items c.deref.result.now c.args.children.now.list.items c.args.from c.deref.ensures.value) c.later-item.result c.later-item.is c.loop-later-test.true)

pub loop-later-preserved : goal.loop-later-preserved
loop-later-preserved c = (
  loop_step (F (names (plain c.args.tree.now))) (P (names (plain c.args.tree.now))) c.args.graph.now c.loop-later.graph (drop c.args.from c.args.children.now.list.items) c.loop-later.later-index c.loop-later.invariant.0
      _ (later_items c.deref.result.now c.args.children.now.list.items c.args.from c.deref.ensures.value) c.later-item.result c.later-item.is c.loop-later-test.true
      (λ t ts. crosses (names (plain c.args.tree.now)) (names t)) (λ t ts l. disjoint_rest (names (plain c.args.tree.now)) t ts l) (λ t ts x y. crosses_right (names (plain c.args.tree.now)) t ts x y)
      c.join_trees.new.graph c.join_trees.ensures.vertices c.join_trees.ensures.edges,
  subst (Within (names (plain c.args.tree.now))) (sym c.join_trees.ensures.vertices) c.loop-later.invariant.1,
)

pub returns-clause-edges : goal.returns-clause-edges
returns-clause-edges c =
    loop_end (F (names (plain c.args.tree.now))) (P (names (plain c.args.tree.now))) c.args.graph.now c.loop-later.graph (drop c.args.from c.args.children.now.list.items) c.loop-later.later-index c.loop-later.invariant.0
    (crosses_none (names (plain c.args.tree.now))) _ (later_items c.deref.result.now c.args.children.now.list.items c.args.from c.deref.ensures.value) c.loop-later-test.false
