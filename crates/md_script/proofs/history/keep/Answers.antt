use Rattle.std.proofs.Common.{◌∙◌, sym, arith, ap, length, refl}
use Rattle.std.proofs.lemmas.List.{length-append}
use Rattle.md_script.proofs.KeptRows.{rows_append, row_put, same_behind}
use Rattle.md_script.proofs.history.keep.Goals as goal

pub returns-in-AddEdge-clause-rows : goal.returns-in-AddEdge-clause-rows
returns-in-AddEdge-clause-rows g c = λ edits are. rows_append 0 _ _ edits _ are refl

pub returns-in-DelEdge-clause-rows : goal.returns-in-DelEdge-clause-rows
returns-in-DelEdge-clause-rows g c = λ edits are. rows_append 0 _ _ edits _ are refl

pub returns-in-AddVertex-clause-rows : goal.returns-in-AddVertex-clause-rows
returns-in-AddVertex-clause-rows g c = λ edits are.
    rows_append 0 _ _ edits _ are (c.len-row.ensures ∙ c.args.rows.now.ok.0, sym (ap length c.push_reserved.ensures.items ∙ length-append c.args.rows.now.items _))

pub returns-in-AddVertex-clause-others : goal.returns-in-AddVertex-clause-others
returns-in-AddVertex-clause-others g c = λ edits are. same_behind c.args.rows.now.items _ _ edits _ c.push_reserved.ensures.items are refl

pub returns-in-DelVertex-clause-rows : goal.returns-in-DelVertex-clause-rows
returns-in-DelVertex-clause-rows g c = λ edits are. rows_append 0 _ _ edits _ are refl

pub returns-in-AddVertex-clause-past : goal.returns-in-AddVertex-clause-past
returns-in-AddVertex-clause-past g c = row_put c.args.rows.now.items _ _ c.in-AddVertex.x _ c.push_reserved.ensures.items (c.len-row.ensures ∙ c.args.rows.now.ok.0) ∙ sym c.in-AddVertex.is
