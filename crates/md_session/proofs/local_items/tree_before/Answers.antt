use Rattle.std.proofs.Common.{◌≡◌, ◌*◌, List, [], ◌∷◌, ◌∙◌, ap, subst, rules, arith}
use Rattle.md_graph.specs.PlainGraph.{PlainGraph}
use Rattle.md_tree.specs.Plain.{plain_option}
use Rattle.md_tree.proofs.Stacking.{if_ok}
use Rattle.md_script.specs.declared.edit.Edit.{Edit}
use Rattle.md_session.specs.LocalSteps.{IsNewTree}
use Rattle.md_session.proofs.KeptTrees.{back_ends}
use Rattle.md_session.proofs.local_items.tree_before.Goals as goal

pub back_through-requires : goal.back_through-requires
back_through-requires g c =
    let given = c.requires.item in
    let len = c.last_len.ensures given.0 given.1 given.2 in
    let room = c.in_ok-reserve-2.ensures.room in
    let one : c.reserve-2.new.self.items ≡ [] ∷ [] = c.reserve-2.ensures.items ∙ c.open_item.ensures.items ∙ ap (λ (l : List (List Edit)). [] ∷ l) (c.reserve.ensures.items ∙ c.in_ok-redo.ensures) in
    (search rules, (search rules, ((given.0, given.1, given.2, given.3, omega arith), one)))

pub new_tree-new-requires : goal.new_tree-new-requires
new_tree-new-requires g c =
    let given = c.requires.item in (
      search rules,
      back_ends (64 * g.row.W) c.args.graph.now c.back_through.new.graph c.args.history.now.items given.0 given.1 (plain_option c.args.tree.now) c.last_edge.result c.vertices-vertices.ensures.graph given.2 given.3
          (c.back_through.ensures.graph given.0 given.1 given.2) c.requires.tree c.last_edge.ensures,
    )

pub returns-clause-tree : goal.returns-clause-tree
returns-clause-tree g c =
    if_ok c.new_tree-new.result
    (λ new told last others is. subst (λ (k : PlainGraph). IsNewTree c.args.copies k new) (c.back_through.ensures.graph last others is) told)
    c.new_tree-new.ensures.tree

pub returns-clause-stays : goal.returns-clause-stays
returns-clause-stays g c = let again = c.back_through.ensures.again in c.take_item_back.ensures.graph again.0 [] again.1 ∙ again.3
