use Rattle.std.proofs.Common.{◌∷◌, ◌++◌, [], length, ◌∙◌, ap, subst}
use Rattle.md_text.specs.Pieces.{piece_text}
use Rattle.md_outline.specs.declared.outline.OutlinePart.TheVariants.{Name, Node}
use Rattle.md_outline.specs.BegunNodes.{IsPartBelow, MayGoOn}
use Rattle.md_outline.proofs.Writing.{due_next, name_put, letter_put}
use Rattle.md_outline.proofs.writer.put_part.Goals as goal

pub bounds-numerals-name : goal.bounds-numerals-name
bounds-numerals-name c = subst (IsPartBelow (length c.args.numerals.now)) c.in-Name.is c.requires.below

pub returns-in_ok-push-in-Name : goal.returns-in_ok-push-in-Name
returns-in_ok-push-in-Name c e s whole others go =
    let text = c.args.text.now.items ++ c.args.progress.now.pairs.chunk in
    let begun = c.args.progress.now.begun.items in
    let held = c.args.progress.now.heads.items in
    let mark = piece_text c.in_ok-mark.mark in
    name_put e s whole (text ++ mark) (c.put_two.new.target.items ++ c.put_two.new.chunk) others c.take_mark.new.begun.items held c.in-Name.name c.push.new.self.items
    (due_next e s whole text (text ++ mark) (Name c.in-Name.name) others begun c.take_mark.new.begun.items held c.requires.ready (c.in_ok-mark.ensures text) (subst (λ p. MayGoOn e s whole text (p ∷ others) begun held) c.in-Name.is go))
    (c.in_ok-put_two-in-Name.ensures.put ∙ ap (λ d. (text ++ mark) ++ d) (ap piece_text c.index-numerals-name.is ∙ c.requires.numerals.text c.in-Name.name c.index-numerals-name.result (subst (IsPartBelow (length c.args.numerals.now)) c.in-Name.is c.requires.below))) c.in_ok-push-in-Name.ensures.items

pub returns-in_ok-push-in-Node : goal.returns-in_ok-push-in-Node
returns-in_ok-push-in-Node c e s whole others go =
    let text = c.args.text.now.items ++ c.args.progress.now.pairs.chunk in
    let begun = c.args.progress.now.begun.items in
    let held = c.args.progress.now.heads.items in
    let mark = piece_text c.in_ok-mark.mark in
    letter_put e s whole (text ++ mark) (c.put_two-in-Node.new.target.items ++ c.put_two-in-Node.new.chunk) others c.take_mark.new.begun.items held c.in-Node.kind c.in-Node.count c.push-in-Node.new.self.items
    (due_next e s whole text (text ++ mark) (Node c.in-Node.kind c.in-Node.count) others begun c.take_mark.new.begun.items held c.requires.ready (c.in_ok-mark.ensures text) (subst (λ p. MayGoOn e s whole text (p ∷ others) begun held) c.in-Node.is go))
    (c.in_ok-put_two-in-Node.ensures.put ∙ ap (λ d. (text ++ mark) ++ d) (c.byte_piece-letter.ensures ∙ ap (λ b. b ∷ []) c.letter.ensures)) c.in_ok-push-in-Node.ensures.items
