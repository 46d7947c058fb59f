use Rattle.std.proofs.Common.{List, ap, ◌∙◌, subst, arith}
use Rattle.std.proofs.lemmas.List.{drop_all}
use Rattle.md_tree.specs.declared.Kind.{Kind}
use Rattle.md_outline.specs.declared.outline.OutlinePart.{OutlinePart}
use Rattle.md_bar_tree.specs.declared.few_inner.InnerRoom.TheVariants.{Any}
use Rattle.md_bar_tree.specs.InnerRows.{with_row, AreComing}
use Rattle.md_bar_tree.proofs.InnerRows.{first_coming, all_taken}
use Rattle.md_bar_tree.proofs.few_inner.has_few_inner.Goals as goal

pub loop-part-init : goal.loop-part-init
loop-part-init c t are =
    first_coming c.args.class t c.args.parts.now c.push_row.new.rows.items are (c.in_ok-push_row.ensures ∙ ap (λ l. with_row l Any 1) c.new-rows.ensures.items)

pub returns : goal.returns
returns c = record {
  exactly = λ o are.
      all_taken c.args.class c.args.parts.now o are c.loop-part.rows.items
      (λ t is. subst (λ (l : List (OutlinePart Kind)). AreComing c.args.class t l c.loop-part.rows.items) (drop_all c.loop-part.part-index c.args.parts.now (omega arith)) (c.loop-part.invariant t is));
}
