use Rattle.std.proofs.Common.{sym, ◌∙◌, arith, rules}
use Rattle.md_graph.proofs.Ranges.{none_there}
use Rattle.md_text.specs.Lines.{lines}
use Rattle.md_dimacs.proofs.ReadLemmas.{outcome_spells, outcome_faultless, outcome_fault, nothing_on_ok, nothing_on_err, always_on_err, vertices-edgeless, edgeless_by_range}
use Rattle.md_dimacs.proofs.reader.read.Goals as goal

pub add_range-requires : goal.add_range-requires
add_range-requires g c = (search rules, (omega (arith, c.in_ok-n.ensures.below, c.requires.room), λ v low high. none_there c.requires.empty v))

pub read_edges-outcome-requires : goal.read_edges-outcome-requires
read_edges-outcome-requires g c = (search rules, (vertices-edgeless c.add_range.new.self c.in_ok-n.n (edgeless_by_range c.in_ok-n.n c.requires.empty c.add_range.ensures.changed), search rules))

pub returns-then-is_err-clause-spells : goal.returns-then-is_err-clause-spells
returns-then-is_err-clause-spells g c = nothing_on_ok c.read_edges-outcome.result _ (sym c.is_err.ensures.value ∙ c.if-is_err.true)

pub returns-then-is_err-clause-faultless : goal.returns-then-is_err-clause-faultless
returns-then-is_err-clause-faultless g c = nothing_on_ok c.read_edges-outcome.result _ (sym c.is_err.ensures.value ∙ c.if-is_err.true)

pub returns-then-is_err-clause-fault : goal.returns-then-is_err-clause-fault
returns-then-is_err-clause-fault g c =
    outcome_fault c.args.limit c.read_edges-outcome.result c.args.bytes.now c.in_ok-n.n c.in_ok-n.count (lines c.in_ok-n.rest.now) c.in_ok-n.ensures.found c.read_edges-outcome.ensures.fault

pub returns-then-is_err-clause-refused : goal.returns-then-is_err-clause-refused
returns-then-is_err-clause-refused g c = always_on_err c.read_edges-outcome.result _ c.clear.ensures.changed

pub returns-else-is_err-clause-spells : goal.returns-else-is_err-clause-spells
returns-else-is_err-clause-spells g c =
    outcome_spells c.args.limit c.read_edges-outcome.result c.args.bytes.now c.in_ok-n.n c.in_ok-n.count (lines c.in_ok-n.rest.now) c.add_range.new.self c.read_edges-outcome.new.graph
    c.requires.few c.in_ok-n.ensures.found (edgeless_by_range c.in_ok-n.n c.requires.empty c.add_range.ensures.changed) c.read_edges-outcome.ensures.faultless c.read_edges-outcome.ensures.added

pub returns-else-is_err-clause-faultless : goal.returns-else-is_err-clause-faultless
returns-else-is_err-clause-faultless g c =
    outcome_faultless c.args.limit c.read_edges-outcome.result c.args.bytes.now c.in_ok-n.n c.in_ok-n.count (lines c.in_ok-n.rest.now) c.in_ok-n.ensures.found c.read_edges-outcome.ensures.faultless

pub returns-else-is_err-clause-fault : goal.returns-else-is_err-clause-fault
returns-else-is_err-clause-fault g c =
    outcome_fault c.args.limit c.read_edges-outcome.result c.args.bytes.now c.in_ok-n.n c.in_ok-n.count (lines c.in_ok-n.rest.now) c.in_ok-n.ensures.found c.read_edges-outcome.ensures.fault

pub returns-else-is_err-clause-refused : goal.returns-else-is_err-clause-refused
returns-else-is_err-clause-refused g c = nothing_on_err c.read_edges-outcome.result _ (sym c.is_err.ensures.value ∙ c.if-is_err.false)
