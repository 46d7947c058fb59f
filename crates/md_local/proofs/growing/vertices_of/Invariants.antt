use Rattle.std.proofs.Common.{◌≡◌, map, take}
use Rattle.std.specs.FinSet.{intersection}
use Rattle.md_tree.specs.Plain.{plain}
use Rattle.md_local.specs.Growing.{quotient_names}
use Rattle.md_local.proofs.growing.vertices_of.Given as goal

abbrev pub invariant-loop-tree : goal.invariant-loop-tree
invariant-loop-tree g l = record {
  names : l.names ≡ intersection l.vertices (quotient_names (map plain (take l.tree-index l.hanging)) l.u l.v);
}
