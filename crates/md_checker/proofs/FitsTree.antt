-- A tree as well-formed trees are is the tree of strong modules of a graph exactly where it fits the graph.
use Rattle.std.proofs.Common.{◌≡◌, ℕ, ◌<◌, ◌≤◌, Bool, true, false, cond, eqb, min, max, List, Contains, refl, sym, ◌∙◌, ap, subst, inl, inr, eqb-true, arith}
use Rattle.std.proofs.lemmas.Bool.{false_from_ne_true}
use Rattle.md_graph.specs.Sets.{NameSet, Has, Within, only_name}
use Rattle.md_graph.proofs.SetLemmas.{Has-along}
use Rattle.md_graph.proofs.Search.{decide_test}
use Rattle.md_graph.specs.Adjacency.{IsAdjacency}
use Rattle.md_modules.specs.Modules.{IsModule}
use Rattle.md_modules.specs.Kinds.{IsSplit, IsPrime}
use Rattle.md_modules.proofs.Modules.{undirected, whole_module}
use Rattle.md_modules.proofs.Components.{prime_unsplit, unsplit_prime}
use Rattle.md_modules.proofs.Strong.{larger_than_single}
use Rattle.md_tree.specs.declared.Kind.{Kind}
use Rattle.md_tree.specs.declared.Kind.TheVariants.{Parallel, Series, Prime}
use Rattle.md_tree.specs.declared.Pair.{Pair}
use Rattle.md_tree.specs.Trees.{PlainTree, leaf, node, PlainTrees, no_tree, one_more, names, names_below, names_at, count, EachNode, EachNodeBelow}
use Rattle.md_tree.specs.StrongTrees.{HasKind, AreTreesJoined, ListsJoined, IsNodeOf}
use Rattle.md_tree.specs.WellFormed.{IsOfKind, NoneOfKind, IsCanonicalNode}
use Rattle.md_tree.specs.TreeGraph.{position_of, lists_pair, joins, adjacent_below}
use Rattle.md_tree.specs.Heads.{head, head_at, AreChildModules}
use Rattle.md_tree.specs.Laws.{AreToldByHeads}
use Rattle.md_tree.proofs.Nodes.{IsChild, at_inside, position_at, position_below}
use Rattle.md_tree.proofs.Built.{IsBuilt, tree_names, tree_built, children_maximal}
use Rattle.md_tree.proofs.Kinded.{built_tree}
use Rattle.md_tree.proofs.GraphKinds.{two_of_kind, one_kind, kinds_of_graphs}
use Rattle.md_tree.proofs.Graph.{adjacent_right}
use Rattle.md_tree.proofs.Heads.{child_here, heads_in}
use Rattle.md_tree.proofs.Fitted.{at_places, told_by_heads, by_positions, by_trees, modules_below, to_fit, of_fit}
use Rattle.md_checker.specs.Fits.{IsFitNode, FitsIfTree}
use Rattle.md_outline.proofs.Heads.{some_child, tree_head}
use Rattle.md_checker.proofs.Listed.{to_listed, of_listed}

module _ {e : ℕ → ℕ → Bool} (adj : IsAdjacency e) (s : NameSet) where
  -- what the heads of the children of a node tell of it
  module _ (k : Kind) (cs : PlainTrees) (ps : List Pair) (canon : IsCanonicalNode k cs ps) (each : EachNodeBelow IsCanonicalNode cs) (inside : Within (names_below cs) s)
      (mods : (c : PlainTree) → IsChild cs c → IsModule e s (names c)) where
    own : (i : ℕ) → i < count cs → Has (names_at cs i) (head_at cs i)
    own = heads_in IsCanonicalNode some_child cs each

    are_modules : AreChildModules e cs
    are_modules = modules_below s cs canon.apart own inside mods

    told : AreToldByHeads e cs
    told = told_by_heads (undirected adj) cs are_modules decide_test

  -- a node of the tree of strong modules fits
  module _ (k : Kind) (cs : PlainTrees) (ps : List Pair) (canon : IsCanonicalNode k cs ps) (each : EachNodeBelow IsCanonicalNode cs) (built : IsBuilt e k cs ps) (below : EachNodeBelow (IsBuilt e) cs) where
    joined_heads : (i j : ℕ) → i < j → j < count cs → e (head_at cs i) (head_at cs j) ≡ joins k ps i j
    joined_heads i j less n =
        let b : i < count cs = omega arith in
        let hi : Has (names_at cs i) (head_at cs i) = heads_in IsCanonicalNode some_child cs each i b in
        let hj : Has (names_at cs j) (head_at cs j) = heads_in IsCanonicalNode some_child cs each j n in
        let p : position_of cs (head_at cs i) ≡ i = position_at cs canon.apart i (head_at cs i) hi in
        let q : position_of cs (head_at cs j) ≡ j = position_at cs canon.apart j (head_at cs j) hj in
        let l : eqb i j ≡ false = false_from_ne_true _ (λ h. let same : i ≡ j = eqb-true i j h in omega arith) in
        sym (adjacent_right e adj (node k cs ps) (built, below) (head_at cs i) (head_at cs j) (at_inside cs i (head_at cs i) hi) (at_inside cs j (head_at cs j) hj))
        ∙ ap (λ w. cond (eqb w (position_of cs (head_at cs j))) (adjacent_below cs (head_at cs i) (head_at cs j)) (joins k ps w (position_of cs (head_at cs j)))) p
        ∙ ap (λ w. cond (eqb i w) (adjacent_below cs (head_at cs i) (head_at cs j)) (joins k ps i w)) q
        ∙ ap (λ w. cond w (adjacent_below cs (head_at cs i) (head_at cs j)) (joins k ps i j)) l

    node_fits : IsModule e s (names_below cs) → IsFitNode e s k cs ps
    node_fits is = record {
      is_module = is;
      joined = joined_heads;
      trivial = λ same.
          let prime : IsPrime e (names_below cs) = subst (HasKind e (names_below cs)) same built.node_of.kind in
          let mods : (c : PlainTree) → IsChild cs c → IsModule e (names_below cs) (names c) = λ c i. (children_maximal k cs ps built c i).is_strong.is_module in
          (told_by_heads (undirected adj) cs (modules_below (names_below cs) cs canon.apart (heads_in IsCanonicalNode some_child cs each) (λ x h. h) mods) decide_test).trivial
          (prime_unsplit (names_below cs) prime) (by_positions cs built.children);
    }

  -- no child has the kind of its parallel or series node
  other_kind : (t : PlainTree) → EachNode (IsBuilt e) t → (k : Kind) → (IsOfKind t k → ⊥) → HasKind e (names t) k → ⊥
  other_kind (leaf v) built k other kind = larger_than_single (only_name v) v (two_of_kind e (only_name v) k kind) refl
  other_kind (node l cs ps) built k other kind = other (one_kind (undirected adj) (names_below cs) l k built.0.node_of.kind kind)

  other_kinds : (cs : PlainTrees) → EachNodeBelow (IsBuilt e) cs → (k : Kind) → NoneOfKind cs k → (c : PlainTree) → IsChild cs c → HasKind e (names c) k → ⊥
  other_kinds no_tree built k none c i kind = i
  other_kinds (one_more t ts) built k none c (inl same) kind = other_kind t built.0 k none.0 (subst (λ d. HasKind e (names d) k) same kind)
  other_kinds (one_more t ts) built k none c (inr i) kind = other_kinds ts built.1 k none.1 c i kind

  -- a child that splits as its parallel or series node has the kind of that node
  module _ (k : Kind) (v : Bool) (cs : PlainTrees) (kind : (t : NameSet) (part : NameSet) → IsSplit e t part v → HasKind e t k) (none : NoneOfKind cs k) (built : EachNodeBelow (IsBuilt e) cs) where
    no_child_splits : (i : ℕ) (part : NameSet) → i < count cs → IsSplit e (names_at cs i) part v → ⊥
    no_child_splits i part l split =
        let c = child_here cs i l in
        other_kinds cs built k none c.0 c.1 (kind (names c.0) part (subst (λ t. IsSplit e t part v) c.2 split))

  -- the pairs of a prime node that fits are those that are joined
  lists_fit : (cs : PlainTrees) (ps : List Pair) (canon : IsCanonicalNode Prime cs ps) → IsFitNode e s Prime cs ps → AreChildModules e cs → ListsJoined e cs ps
  lists_fit cs ps canon fit mods = record { ascending = canon.shape.ascending; exactly = λ p. (joined_of p, listed_of p) } where
    ordered_pair : (i j : ℕ) → i < j → joins Prime ps i j ≡ lists_pair ps i j
    ordered_pair i j less =
        let a : min i j ≡ i = omega arith in
        let b : max i j ≡ j = omega arith in
        ap (λ w. lists_pair ps w (max i j)) a ∙ ap (lists_pair ps i) b

    joined_of : (p : Pair) → Contains ps p → AreTreesJoined e cs p.low p.high
    joined_of p h =
        let b : (p.low < p.high) × (p.high < count cs) = canon.shape.positions p h in
        let low_bound : p.low < count cs = (let x : p.low < p.high = b.0 in let y : p.high < count cs = b.1 in omega arith) in
        record {
          ordered = b.0;
          edge = (
            head_at cs p.low,
            head_at cs p.high,
            mods.heads p.low low_bound,
            mods.heads p.high b.1,
            fit.joined p.low p.high b.0 b.1 ∙ ordered_pair p.low p.high b.0 ∙ to_listed ps p h,
          );
        }

    listed_of : (p : Pair) → AreTreesJoined e cs p.low p.high → Contains ps p
    listed_of p is =
        let below : p.high < count cs = position_below cs p.high is.edge.1 is.edge.3 in
        let joined : lists_pair ps p.low p.high ≡ true =
        sym (ordered_pair p.low p.high is.ordered) ∙ sym (fit.joined p.low p.high is.ordered below)
        ∙ sym (at_places (undirected adj) cs mods p.low p.high is.edge.0 is.edge.1 is.ordered is.edge.2 is.edge.3) ∙ is.edge.4 in
        of_listed ps p.low p.high joined

  -- a node that fits is one of the tree of strong modules
  node_built : (k : Kind) (cs : PlainTrees) (ps : List Pair) → IsCanonicalNode k cs ps → EachNodeBelow IsCanonicalNode cs → IsFitNode e s k cs ps →
      ((c : PlainTree) → IsChild cs c → IsModule e s (names c)) → EachNodeBelow (IsBuilt e) cs → IsBuilt e k cs ps
  node_built Parallel cs ps canon each fit mods built =
      let r = (told Parallel cs ps canon each fit.is_module.inside mods).split false canon.shape.enough fit.joined
      (no_child_splits Parallel false cs (λ t part split. (part, split)) canon.shape.other_kinds built) in
      record { node_of = record { kind = r.0; order = canon.order; pairs = canon.shape.no_pairs }; children = by_trees cs r.1 }
  node_built Series cs ps canon each fit mods built =
      let r = (told Series cs ps canon each fit.is_module.inside mods).split true canon.shape.enough fit.joined
      (no_child_splits Series true cs (λ t part split. (part, split)) canon.shape.other_kinds built) in
      record { node_of = record { kind = r.0; order = canon.order; pairs = canon.shape.no_pairs }; children = by_trees cs r.1 }
  node_built Prime cs ps canon each fit mods built =
      let three : 3 ≤ count cs = (let four : 4 ≤ count cs = canon.shape.enough in omega arith) in
      let r = (told Prime cs ps canon each fit.is_module.inside mods).unsplit three (fit.trivial refl) in
      record {
        node_of = record {
          kind = unsplit_prime (names_below cs) r.0;
          order = canon.order;
          pairs = lists_fit cs ps canon fit (are_modules Prime cs ps canon each fit.is_module.inside mods);
        };
        children = by_trees cs r.1;
      }

pub fits_proof : FitsIfTree
fits_proof e adj s t canon = (
  (λ fits. built_tree (kinds_of_graphs (undirected adj)) decide_test s t fits.0 (of_fit s (IsFitNode e s) (λ k cs ps fit. fit.is_module) (IsNodeOf e) IsCanonicalNode (node_built adj s) t canon fits.1)),
  λ is.
      let same : names t ≡ s = tree_names s t is in
      let whole : IsModule e s (names t) = subst (IsModule e s) (sym same) (whole_module s (head t, Has-along (names t) s same (head t) (tree_head t canon))) in
      (same, to_fit s (IsFitNode e s) (λ k cs ps fit. fit.is_module) (IsNodeOf e) IsCanonicalNode (node_fits adj s) t (tree_built s t is) canon whole),
)
