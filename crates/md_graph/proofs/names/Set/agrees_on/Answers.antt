use Rattle.md_graph.proofs.SetLemmas.{agree_test}
use Rattle.md_graph.proofs.names.Set.agrees_on.Goals as goal

pub returns : goal.returns
returns g c = record {
  exactly =
      agree_test c.args.names.now c.args.self.now c.args.other.now c.first_in_symmetric_difference.result c.is_none.result c.first_in_symmetric_difference.ensures.found c.first_in_symmetric_difference.ensures.none
      c.is_none.ensures;
}
