use Rattle.std.proofs.Common.{None}
use Rattle.std.proofs.lemmas.Result.{err_from_is_err_and}
use Rattle.md_script.proofs.LineLemmas.{vertex_read, vertex_refused, others_fault}
use Rattle.md_script.proofs.line.read_new_vertex.Goals as goal

pub returns-in_err-x-clause-fault : goal.returns-in_err-x-clause-fault
returns-in_err-x-clause-fault c =
    let p = err_from_is_err_and c.from_residual.result c.from_residual.ensures.1 in
    rw (p.1, p.2) (vertex_refused c.args.rest.now c.in-Some.more.now c.in-Some.first c.in_err-x.field-0.0 c.in-Some.ensures.number c.in_err-x.ensures.fault)

pub returns-in_err-read_names-clause-fault : goal.returns-in_err-read_names-clause-fault
returns-in_err-read_names-clause-fault c =
    let p = err_from_is_err_and c.from_residual-in_err-read_names.result c.from_residual-in_err-read_names.ensures.1 in
    rw (p.1, p.2) (others_fault c.args.rest.now c.in-Some.more.now c.in-Some.first _ c.in-Some.ensures.number c.in_ok-x.ensures.faultless c.in_err-read_names.ensures.fault)

pub returns-clause-names : goal.returns-clause-names
returns-clause-names c =
    vertex_read c.args.rest.now c.in-Some.more.now c.in-Some.first c.in_ok-x.x c.read_names.new.names c.in-Some.ensures.number c.in_ok-x.ensures.name c.in_ok-read_names.ensures.names

pub returns-clause-faultless : goal.returns-clause-faultless
returns-clause-faultless c =
    others_fault c.args.rest.now c.in-Some.more.now c.in-Some.first None c.in-Some.ensures.number c.in_ok-x.ensures.faultless c.in_ok-read_names.ensures.faultless
