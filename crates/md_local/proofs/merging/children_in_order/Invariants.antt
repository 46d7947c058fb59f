use Rattle.std.proofs.Common.{◌≡◌, ◌++◌, map}
use Rattle.md_tree.specs.Plain.{plain}
use Rattle.md_local.specs.Growing.{all_in_place}
use Rattle.md_local.proofs.merging.children_in_order.Given as goal

abbrev pub invariant-loop-child : goal.invariant-loop-child
invariant-loop-child l = record {
  list : map plain l.list.items ≡ all_in_place l.kind (map plain l.yielded);
  left : l.yielded ++ l.child-iterator.rest.items ≡ l.initial.child-iterator.rest.items;
}
