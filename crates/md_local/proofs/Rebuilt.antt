-- The turns of rebuilding: the tree at the end, and the steps.
use Rattle.std.proofs.Common.{◌≡◌, ℕ, ◌+◌, ◌≤◌, false, not, List, [], map, sym, ◌∙◌, ap, subst, arith}
use Rattle.std.specs.FinSet.{len}
use Rattle.std.specs.List.{sum_by}
use Rattle.md_graph.specs.PlainGraph.{PlainGraph, IsGraph, adjacent}
use Rattle.md_graph.specs.Sets.{NameSet, Has}
use Rattle.md_graph.proofs.SetLemmas.{Has-along}
use Rattle.md_modules.proofs.Turns.{graph_adjacency}
use Rattle.md_tree.specs.declared.Kind.{Kind}
use Rattle.md_tree.specs.declared.Pair.{Pair}
use Rattle.md_tree.specs.declared.TreeOf.{TreeOf}
use Rattle.md_tree.specs.Trees.{PlainTree, names, row}
use Rattle.md_local.specs.NodeLists.{row_nodes_backward}
use Rattle.md_tree.specs.Parts.{below_node}
use Rattle.md_tree.specs.Plain.{plain}
use Rattle.md_tree.specs.StrongTrees.{IsTreeOf}
use Rattle.md_tree.proofs.Built.{tree_names}
use Rattle.md_local.specs.declared.growing.Below.{Below}
use Rattle.md_local.specs.declared.growing.Grown.{Grown}
use Rattle.md_local.specs.declared.walking.Open.{Open}
use Rattle.md_local.specs.declared.growing.Growth.TheVariants.{Whole}
use Rattle.md_local.specs.Changes.{IsLeastStrong}
use Rattle.md_local.specs.Edits.{IsEdited}
use Rattle.md_local.specs.Growing.{own_steps, names_between, IsOld, HasGrown, is_hanging, one_alone, IsGrownFrom}
use Rattle.md_local.specs.Walks.{steps_ahead}
use Rattle.md_local.proofs.Between.{between_least}
use Rattle.md_local.proofs.Ways.{begin_ahead, weight_nodes}

module _ (g : PlainGraph) (u v : ℕ) (t : PlainTree) where
  pub old_whole : (before : PlainGraph) → IsGraph g → IsEdited before g u v → IsTreeOf (adjacent before) before.vertices t → IsOld g u v (adjacent before) t
  old_whole before graph edited is =
      let same : names t ≡ g.vertices = tree_names before.vertices t is ∙ sym edited.vertices in
      record {
        adjacency = graph_adjacency edited.before;
        after = graph_adjacency graph;
        edited = edited.edges;
        inside = Has-along (names t) g.vertices same;
        tree = subst (λ s. IsTreeOf (adjacent before) s t) (sym (tree_names before.vertices t is)) is;
      }

  -- ---- the end

  pub whole_grown : (before : PlainGraph) (x : Grown) → IsEdited before g u v → IsTreeOf (adjacent before) before.vertices t → Has g.vertices u → Has g.vertices v → IsGrownFrom g u v t x →
      is_hanging x.growth ≡ false
  whole_grown before x edited is hu hv grown =
      let same : g.vertices ≡ names t = sym (tree_names before.vertices t is ∙ sym edited.vertices) in
      grown.hanging ∙ ap (λ b. one_alone b x.right) (grown.left ∙ Has-along g.vertices (names t) same u hu) ∙ ap not (grown.right ∙ Has-along g.vertices (names t) same v hv)

  pub tree_grown : (before : PlainGraph) (x : Grown) (r : TreeOf Kind Pair) → IsGraph g → IsEdited before g u v → IsTreeOf (adjacent before) before.vertices t → IsGrownFrom g u v t x → x.growth ≡ Whole r →
      IsTreeOf (adjacent g) g.vertices (plain r)
  tree_grown before x r graph edited is grown made =
      let same : names t ≡ g.vertices = tree_names before.vertices t is ∙ sym edited.vertices in
      subst (λ s. IsTreeOf (adjacent g) s (plain r)) same
      (subst (HasGrown (adjacent before) (adjacent g) (names t) u v) made (grown.growth (adjacent before) (old_whole before graph edited is)))

  -- ---- the steps

  pub steps_begin : (fs : List (Open Below)) (f : Open Below) (work : ℕ) → fs ≡ [] → plain f.tree.now ≡ t → map plain f.rest.now ≡ below_node t →
      work + steps_ahead (own_steps u v) (own_steps u v) fs f ≤ work + names_between u v t
  steps_begin fs f work none is all =
      let a = begin_ahead (own_steps u v) (own_steps u v) t fs f none is all in
      let b : names_between u v t ≡ own_steps u v t + sum_by (own_steps u v) (row_nodes_backward (row (below_node t))) = weight_nodes (own_steps u v) (own_steps u v) t in
      omega arith

  pub steps_few : (before : PlainGraph) (w : NameSet) (begun work : ℕ) → work ≤ begun + names_between u v t → IsGraph before → IsTreeOf (adjacent before) before.vertices t →
      IsLeastStrong (adjacent before) before.vertices u v w → work ≤ begun + len w
  steps_few before w begun work so graph is least = let low = between_least u v (adjacent before) before.vertices t (graph_adjacency graph) is w least in omega arith
