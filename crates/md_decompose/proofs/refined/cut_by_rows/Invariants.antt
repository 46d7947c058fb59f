use Rattle.std.specs.Prelude.{◌≡◌, []}
use Rattle.md_graph.specs.PlainGraph.{adjacent}
use Rattle.md_graph.specs.Sets.{Within}
use Rattle.md_decompose.specs.Refined.{CutNoModule}
use Rattle.md_decompose.proofs.refined.cut_by_rows.Given as goal

abbrev pub invariant-loop : goal.invariant-loop
invariant-loop g l = record {
  cut : CutNoModule (adjacent l.graph) l.set l.fn.rest l.partition.classes;
  untouched : l.partition.touched ≡ [];
  near : Within l.near l.set;
  left : Within l.left l.set;
}
