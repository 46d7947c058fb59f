use Rattle.std.proofs.Common.{◌∙◌, sym}
use Rattle.md_text.specs.Fields.{fields}
use Rattle.md_dimacs.proofs.LineLemmas.{problem_field_count, problem_unknown, sizes_read, sizes_refused}
use Rattle.md_dimacs.proofs.line.read_problem.Goals as goal

pub returns-then-not-names_edges-clause-fault : goal.returns-then-not-names_edges-clause-fault
returns-then-not-names_edges-clause-fault c = problem_unknown c.args.limit (fields c.args.rest.now) _ _ _ c.in-Some.ensures.fields (sym c.names_edges.ensures ∙ c.if-not-names_edges.true)

pub returns-else-not-names_edges-clause-sizes : goal.returns-else-not-names_edges-clause-sizes
returns-else-not-names_edges-clause-sizes c =
    sizes_read c.args.limit c.checked_size.result (fields c.args.rest.now) _ _ _ _ _ c.in-Some.ensures.fields (sym c.names_edges.ensures ∙ c.if-not-names_edges.false) c.number.ensures.value c.number-in-Some.ensures.value c.checked_size.ensures.sizes

pub returns-else-not-names_edges-clause-fault : goal.returns-else-not-names_edges-clause-fault
returns-else-not-names_edges-clause-fault c =
    sizes_refused c.args.limit c.checked_size.result (fields c.args.rest.now) _ _ _ _ _ c.in-Some.ensures.fields (sym c.names_edges.ensures ∙ c.if-not-names_edges.false) c.number.ensures.value c.number-in-Some.ensures.value c.checked_size.ensures.fault

pub returns-in-None-clause-fault : goal.returns-in-None-clause-fault
returns-in-None-clause-fault c = problem_field_count c.args.limit (fields c.args.rest.now) c.in-None.ensures.other_count
