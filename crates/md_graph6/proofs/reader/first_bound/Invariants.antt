use Rattle.std.proofs.Common.{◌≡◌, length}
use Rattle.md_graph6.specs.File.{HasNoFault, stripped_lines, graphs_in}
use Rattle.md_graph6.proofs.reader.first_bound.Given as goal

abbrev pub invariant-loop-rest : goal.invariant-loop-rest
invariant-loop-rest l = record {
  sound : HasNoFault (stripped_lines l.rest);
  same : graphs_in l.rest ≡ graphs_in l.fn.text;
}

abbrev pub decreases-loop-rest : goal.decreases-loop-rest
decreases-loop-rest l = length l.rest
