use Rattle.std.proofs.Common.{◌≡◌, ◌<◌, length, get_or, sym, ap, ◌∙◌, arith}
use Rattle.std.proofs.lemmas.Grind.{common_steps}
use Rattle.std.proofs.lemmas.List.{take_rest}
use Rattle.md_graph6.specs.SparseLine.{sparse_fault}
use Rattle.md_graph6.proofs.FileLineLemmas.{line_fault-empty, line_fault-dense, line_fault-sparse}
use Rattle.md_graph6.proofs.file_line.line_fault.Goals as goal

pub returns-then-is_empty : goal.returns-then-is_empty
returns-then-is_empty c = grind (arith, common_steps, line_fault-empty c.args.limit c.args.line.now)

pub returns-then-line-eq-SPARSE : goal.returns-then-line-eq-SPARSE
returns-then-line-eq-SPARSE c =
    let some : 0 < length c.args.line.now = grind (arith, common_steps) in
    let colon : get_or c.args.line.now 0 0 ≡ 58 = grind (arith, common_steps) in
    c.sparse_fault.ensures ∙ ap (sparse_fault c.args.limit) (take_rest c.args.line.now 1) ∙ sym (line_fault-sparse _ _ some colon)

pub returns : goal.returns
returns c =
    let some : 0 < length c.args.line.now = grind (arith, common_steps) in
    c.graph6_fault.ensures ∙ sym (line_fault-dense _ _ some c.if-line-eq-SPARSE.false)
