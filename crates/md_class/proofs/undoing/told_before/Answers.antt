use Rattle.std.proofs.Common.{◌≡◌, ◌*◌, ◌≤◌, List, [], ◌∷◌, sym, ◌∙◌, ap, subst, rules, arith}
use Rattle.md_graph.specs.PlainGraph.{PlainGraph}
use Rattle.md_script.specs.declared.edit.Edit.{Edit}
use Rattle.md_tree.proofs.Stacking.{if_ok}
use Rattle.md_class.specs.ItemAnswers.{IsToldOf}
use Rattle.md_class.proofs.undoing.told_before.Goals as goal

pub back_through-requires : goal.back_through-requires
back_through-requires g c =
    let given = c.requires.item in
    let len = c.last_len.ensures given.0 given.1 given.2 in
    let room = c.in_ok-reserve-2.ensures.room in
    let one : c.reserve-2.new.self.items ≡ [] ∷ [] = c.reserve-2.ensures.items ∙ c.open_item.ensures.items ∙ ap (λ (l : List (List Edit)). [] ∷ l) (c.reserve.ensures.items ∙ c.in_ok-redo.ensures) in
    (search rules, (search rules, (c.requires.denotes, (c.requires.near, ((given.0, given.1, given.2, given.3, omega arith), one)))))

pub told_of-before-requires : goal.told_of-before-requires
told_of-before-requires g c = (c.back_through.new.graph, c.back_through.ensures.denotes)

pub take_back_item-requires : goal.take_back_item-requires
take_back_item-requires g c =
    let again = c.back_through.ensures.again in
    (search rules, (search rules, (c.back_through.ensures.denotes, (subst (λ n. 64 * g.row.W ≤ n) (sym c.back_through.ensures.near) c.requires.near, (again.0, [], again.1, again.2)))))

pub returns-clause-told : goal.returns-clause-told
returns-clause-told g c =
    if_ok c.told_of-before.result
    (λ told so last others is. subst (λ (k : PlainGraph). IsToldOf c.args.whole k told) (c.back_through.ensures.graph last others is) (so c.back_through.new.graph c.back_through.ensures.denotes))
    c.told_of-before.ensures

pub returns-clause-stays : goal.returns-clause-stays
returns-clause-stays g c = let again = c.back_through.ensures.again in c.take_back_item.ensures.graph again.0 [] again.1 ∙ again.3
