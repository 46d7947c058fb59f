use Rattle.std.proofs.Common.{sym, ◌∙◌, refl, arith}
use Rattle.std.specs.Char.{is_ascii_digit}
use Rattle.std.proofs.lemmas.Bool.{and_from}
use Rattle.std.proofs.lemmas.List.Folds.{list_all_more}
use Rattle.md_tree.proofs.grammar.digits_end.Goals as goal

pub loop-count-init : goal.loop-count-init
loop-count-init c = refl

pub loop-count-preserved : goal.loop-count-preserved
loop-count-preserved c =
    list_all_more is_ascii_digit c.args.text.now c.loop-count.count 0 (omega arith)
    ∙ and_from _ _ c.loop-count.invariant (sym c.is_ascii_digit.ensures.value ∙ c.if-not-is_ascii_digit.false)
