use Rattle.std.proofs.Common.{arith, sym, ◌∙◌}
use Rattle.md_text.specs.Lines.{lines}
use Rattle.md_dimacs.proofs.ReadLemmas.{refused_behind, vertices_kept, one_added, one_faultless, all_added, all_faultless}
use Rattle.md_dimacs.proofs.reader.read_edges.Goals as goal

pub returns-in-Err-clause-fault : goal.returns-in-Err-clause-fault
returns-in-Err-clause-fault g c =
    refused_behind c.args.n c.args.count c.loop-rest.count _ _ c.split_line.result.0.now c.without_return.result.now _ c.in-Err.kind c.loop-rest.invariant.fault c.split_line.ensures.cut c.without_return.ensures.value c.in-Err.ensures.fault

pub loop-rest-preserved : goal.loop-rest-preserved
loop-rest-preserved g c = record {
  vertices = vertices_kept c.args.n c.loop-rest.graph c.read_line.new.graph c.without_return.result.now c.loop-rest.invariant.vertices c.in_default.ensures.added;
  room = omega (arith, c.split_line.ensures.rest_shorter);
  added = one_added c.loop-rest.graph c.read_line.new.graph _ _ _ c.split_line.result.0.now c.without_return.result.now _ c.loop-rest.invariant.added c.split_line.ensures.cut c.without_return.ensures.value c.in_default.ensures.added;
  fault = one_faultless c.args.n c.args.count c.loop-rest.count _ _ c.split_line.result.0.now c.without_return.result.now _ c.loop-rest.invariant.fault c.split_line.ensures.cut c.without_return.ensures.value c.in_default.ensures.faultless;
}

pub returns-clause-added : goal.returns-clause-added
returns-clause-added g c = all_added c.loop-rest.graph c.args.graph.now (lines c.args.bytes.now) c.loop-rest.rest.now c.loop-rest.invariant.added (sym c.is_empty.ensures ∙ c.loop-rest-test.false)

pub returns-clause-faultless : goal.returns-clause-faultless
returns-clause-faultless g c = all_faultless c.args.n c.args.count c.loop-rest.count (lines c.args.bytes.now) c.loop-rest.rest.now c.loop-rest.invariant.fault (sym c.is_empty.ensures ∙ c.loop-rest-test.false)
