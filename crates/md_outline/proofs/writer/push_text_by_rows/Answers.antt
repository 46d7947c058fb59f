use Rattle.std.proofs.lemmas.Result.{on_ok_weaker}
use Rattle.std.proofs.Common.{◌≤◌, ◌++◌, length, ap, sym, subst, ◌∙◌, rules, arith}
use Rattle.md_outline.proofs.Writing.{text_of_none, all_below, some_tree, text_of_some}
use Rattle.md_outline.proofs.writer.push_text_by_rows.Goals as goal

pub returns-then-is_empty : goal.returns-then-is_empty
returns-then-is_empty g c = record {
  written = λ t is are. c.in_ok-extend_from_slice.ensures.items ∙ ap (λ l. c.args.text.now.items ++ l) (text_of_none c.args.parts.now t (grind (arith, c.is_empty.ensures, c.if-is_empty.true)) are);
}

pub push_tree-requires : goal.push_tree-requires
push_tree-requires g c =
    (search rules, ((c.as_slice-numerals.ensures.spelled), (all_below c.vertices-vertices.ensures.graph c.args.parts.now (grind (arith, c.is_empty.ensures, c.if-is_empty.false)) c.bound.result _ (subst (λ l. c.bound.result ≤ length l) (sym c.as_slice-numerals.ensures.pieces) c.in_ok-spell.ensures.there) c.bound.ensures.above c.requires.0 c.requires.1 c.requires.2, some_tree c.vertices-vertices.ensures.graph c.args.parts.now (grind (arith, c.is_empty.ensures, c.if-is_empty.false)) c.requires.0 c.requires.1 c.requires.2)))

pub returns : goal.returns
returns g c = record {
  written =
      on_ok_weaker c.push_tree.result
      (text_of_some c.vertices-vertices.ensures.graph c.args.parts.now (grind (arith, c.is_empty.ensures, c.if-is_empty.false)) c.args.text.now.items c.push_tree.new.text.items)
      c.push_tree.ensures;
}
