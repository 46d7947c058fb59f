use Rattle.std.proofs.Common.{rules, ◌≡◌, None, get_or, drop, arith, sym, ◌∙◌}
use Rattle.std.proofs.lemmas.Grind.{common_steps}
use Rattle.std.proofs.lemmas.List.{take_rest}
use Rattle.md_graph.specs.declared.TheConstants.{NAMES}
use Rattle.md_graph6.specs.Line.{graph6_fault}
use Rattle.md_graph6.specs.SparseLine.{sparse_fault}
use Rattle.md_graph6.proofs.FileLineLemmas.{line_fault-dense, line_fault-sparse, graph-dense, graph-sparse}
use Rattle.md_graph6.proofs.file_line.fill_line.Goals as goal

pub fill_sparse-requires : goal.fill_sparse-requires
fill_sparse-requires g c =
    let colon : get_or c.args.line.now 0 0 ≡ 58 = grind (arith, common_steps) in
    let sound : sparse_fault NAMES (drop 1 c.args.line.now) ≡ None = sym (line_fault-sparse NAMES c.args.line.now c.requires.some colon) ∙ c.requires.sound in
    (search rules, (c.requires.empty, (rw take_rest sound, rw (take_rest, ← graph-sparse c.args.line.now colon) c.requires.room)))

pub returns-then-line-eq-SPARSE : goal.returns-then-line-eq-SPARSE
returns-then-line-eq-SPARSE g c =
    let colon : get_or c.args.line.now 0 0 ≡ 58 = grind (arith, common_steps) in
    rw (graph-sparse c.args.line.now colon, ← take_rest c.args.line.now 1) c.fill_sparse.ensures

pub fill_graph6-requires : goal.fill_graph6-requires
fill_graph6-requires g c =
    let sound : graph6_fault NAMES c.args.line.now ≡ None = sym (line_fault-dense NAMES c.args.line.now c.requires.some c.if-line-eq-SPARSE.false) ∙ c.requires.sound in
    (search rules, (c.requires.empty, (c.requires.some, (sound, rw (← graph-dense c.args.line.now c.if-line-eq-SPARSE.false) c.requires.room))))

pub returns : goal.returns
returns g c = c.fill_graph6.ensures ∙ sym (graph-dense c.args.line.now c.if-line-eq-SPARSE.false)
