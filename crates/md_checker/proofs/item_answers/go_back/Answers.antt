use Rattle.std.proofs.Common.{◌≡◌, List, [], ◌∷◌, ◌∙◌, ap, rules, arith}
use Rattle.md_script.specs.declared.edit.Edit.{Edit}
use Rattle.md_checker.proofs.item_answers.go_back.Goals as goal

pub back_through-requires : goal.back_through-requires
back_through-requires g c =
    let last = c.requires in
    let len = c.last_len.ensures last.0 last.1 last.2 in
    let room = c.in_ok-reserve-2.ensures.room in
    let one : c.reserve-2.new.self.items ≡ [] ∷ [] = c.reserve-2.ensures.items ∙ c.open_item.ensures.items ∙ ap (λ (l : List (List Edit)). [] ∷ l) (c.reserve.ensures.items ∙ c.in_ok-redo.ensures) in
    (search rules, (search rules, ((last.0, last.1, last.2, last.3, omega arith), one)))
