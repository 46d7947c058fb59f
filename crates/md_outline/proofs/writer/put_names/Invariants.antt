use Rattle.std.proofs.Common.{◌+◌, ◌≤◌, ℕ, Bool, List, [], ◌∷◌, ◌++◌, drop, vec_len, vec_capacity}
use Rattle.md_graph.specs.Sets.{NameSet}
use Rattle.md_outline.specs.declared.writer.Begun.{Begun}
use Rattle.md_outline.specs.BegunNodes.{IsOnWay}
use Rattle.md_outline.proofs.writer.put_names.Given as goal

abbrev pub invariant-loop-name : goal.invariant-loop-name
invariant-loop-name l = record {
  written : (e : ℕ → ℕ → Bool) (s : NameSet) (whole : List ℕ) (outer : List Begun) → IsOnWay e s whole (l.initial.text.items ++ l.initial.chunk) (drop l.initial.next l.parts) (outer ++ l.initial.node ∷ []) l.initial.heads.items →
      IsOnWay e s whole (l.text.items ++ l.chunk) (drop l.next l.parts) (outer ++ l.node ∷ []) l.heads.items;
  on : l.from ≤ l.next;
  room : vec_len l.heads + l.node.left ≤ vec_capacity l.heads;
}

abbrev pub decreases-loop-name : goal.decreases-loop-name
decreases-loop-name l = l.node.left
