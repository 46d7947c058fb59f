use Rattle.std.proofs.Common.{◌≡◌, ◌+◌, ◌++◌, ◌≤◌, ◌⊎◌, List, reverse, vec_len, vec_capacity}
use Rattle.md_graph.specs.Sets.{NameSet}
use Rattle.md_decompose.specs.declared.decomposition.Open.{Open}
use Rattle.md_decompose.specs.Turns.{AreBare}
use Rattle.md_decompose.proofs.outline.push_backward.Given as goal

abbrev pub invariant-loop-waiting : goal.invariant-loop-waiting
invariant-loop-waiting g l = record {
  behind : (cs : List NameSet) × (os : List (Open g.row.W)) × (l.initial.left.items ≡ l.left.items ++ cs) × (l.waiting.items ≡ l.initial.waiting.items ++ reverse os) × AreBare l.kind cs os;
  room : vec_len l.waiting + vec_len l.left ≤ vec_capacity l.waiting;
  most : (l.others ≤ vec_len l.left) ⊎ (l.left.items ≡ l.initial.left.items);
}

abbrev pub decreases-loop-waiting : goal.decreases-loop-waiting
decreases-loop-waiting g l = vec_len l.left
