use Rattle.std.proofs.Common.{◌≡◌, ◌==◌, ℕ, ◌<◌, ◌≤◌, length, slice_index_or, Some, None, if◌then◌else◌, vec_capacity}
use Rattle.std.specs.List.{count_by}
use Rattle.std.specs.FinSet as set
use Rattle.md_graph.specs.NameSet.{ascending_between}
use Rattle.md_refine.specs.Slots.{is_mark}
use Rattle.md_refine.proofs.places.homes_of.Given as goal

abbrev pub invariant-loop-name : goal.invariant-loop-name
invariant-loop-name g l = record {
  homes : (k : ℕ) → k < l.name → slice_index_or l.homes.items k None ≡ (if set.contains l.names k then Some 0 else None);
  counts : (i : ℕ) → count_by (is_mark i) l.homes.items ≡ (if i == 0 then length (ascending_between l.names 0 l.name) else 0);
  len : length l.homes.items ≡ l.name;
  room : l.count ≤ vec_capacity l.homes;
}
