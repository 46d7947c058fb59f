use Rattle.std.proofs.Common.{◌≡◌, ℕ, List, ◌++◌, map, vec_len}
use Rattle.md_tree.specs.declared.Kind.{Kind}
use Rattle.md_tree.specs.declared.Pair.{Pair}
use Rattle.md_tree.specs.declared.TreeOf.{TreeOf}
use Rattle.md_tree.specs.Plain.{plain}
use Rattle.md_local.specs.Substitution.{standing_at, tree_at}
use Rattle.md_local.proofs.hanging.places_of.Given as goal

abbrev pub invariant-loop-tree : goal.invariant-loop-tree
invariant-loop-tree l = record {
  placed : (done : List (TreeOf Kind Pair)) × (l.hanging.items ++ done ≡ l.initial.hanging.items) × ((x : ℕ) → standing_at l.places.items x ≡ tree_at (map plain done) x);
}

abbrev pub decreases-loop-tree : goal.decreases-loop-tree
decreases-loop-tree l = vec_len l.hanging
