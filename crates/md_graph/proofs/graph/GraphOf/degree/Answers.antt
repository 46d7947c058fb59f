use Rattle.std.proofs.Common.{arith, ◌∙◌, ap}
use Rattle.std.specs.FinSet as set
use Rattle.md_graph.proofs.RowLemmas.{still_below, row_is}
use Rattle.md_graph.proofs.graph.GraphOf.degree.Goals as goal

pub index-row-requires : goal.index-row-requires
index-row-requires g c =
    let name = still_below c.self.invariant.0 c.self.view_is c.args.v c.requires.vertex in
    omega (arith, c.self.invariant.0.one_each)

pub returns : goal.returns
returns g c = record {
  value =
      let name = still_below c.self.invariant.0 c.self.view_is c.args.v c.requires.vertex in
      c.count.ensures.value ∙ ap set.len (row_is c.self.invariant.0 c.self.view_is c.args.v name _ c.index-row.ensures);
}
