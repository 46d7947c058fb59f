use Rattle.std.proofs.Common.{◌≡◌, List, [], ◌∷◌, ◌∙◌, ap, subst, rules, arith}
use Rattle.md_graph.specs.PlainGraph.{PlainGraph, adjacent}
use Rattle.md_script.specs.declared.edit.Edit.{Edit}
use Rattle.md_tree.specs.StrongTrees.{IsTree}
use Rattle.md_tree.specs.Plain.{plain_option}
use Rattle.md_tree.proofs.Stacking.{if_ok}
use Rattle.md_session.proofs.general_items.tree_before.Goals as goal

pub returns-clause-tree : goal.returns-clause-tree
returns-clause-tree g c =
    if_ok c.decompose-tree.result
    (λ tree told last others is. subst (λ (k : PlainGraph). IsTree (adjacent k) k.vertices (plain_option tree)) (c.back_through.ensures.graph last others is) told)
    c.decompose-tree.ensures.tree

pub returns-clause-stays : goal.returns-clause-stays
returns-clause-stays g c = let again = c.back_through.ensures.again in c.take_item_back.ensures.graph again.0 [] again.1 ∙ again.3

pub back_through-requires : goal.back_through-requires
back_through-requires g c =
    let given = c.requires in
    let len = c.last_len.ensures given.0 given.1 given.2 in
    let room = c.in_ok-reserve-2.ensures.room in
    let one : c.reserve-2.new.self.items ≡ [] ∷ [] = c.reserve-2.ensures.items ∙ c.open_item.ensures.items ∙ ap (λ (l : List (List Edit)). [] ∷ l) (c.reserve.ensures.items ∙ c.in_ok-redo.ensures) in
    (search rules, (search rules, ((given.0, given.1, given.2, given.3, omega arith), one)))
