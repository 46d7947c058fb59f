-- A canonical tree without prime nodes is the tree of strong modules of each graph with its adjacency: the children of a node are
-- the components, of the graph or of its complement.
use Rattle.std.proofs.Common.{◌≡◌, ◌≢◌, ℕ, suc, ◌≤◌, Bool, true, false, cond, List, [], Some, None, refl, sym, ◌∙◌, ap, subst, inl, inr, arith}
use Rattle.std.proofs.lemmas.Bool.{cases_Bool, eq-eqb, ne_eqb, false_from_ne_true}
use Rattle.std.specs.FinSet.{contains, intersection}
use Rattle.md_graph.specs.Sets.{NameSet, Has, Lacks, HasSome}
use Rattle.md_graph.specs.PlainGraph.{adjacent}
use Rattle.md_graph.proofs.SetLemmas.{clash, meet_has, of_meet, of_meet_lacks, union_left, union_right, of_only, only_has, empty_lacks, Has-along}
use Rattle.md_graph.specs.Adjacency.{IsAdjacency}
use Rattle.md_modules.specs.Modules.{IsMaximalStrong}
use Rattle.md_modules.specs.Kinds.{IsSplit}
use Rattle.md_modules.specs.Components.{IsComponent}
use Rattle.md_modules.proofs.Turns.{graph_adjacency}
use Rattle.md_graph.proofs.Search.{decide_test}
use Rattle.md_modules.proofs.Modules.{undirected}
use Rattle.md_modules.proofs.Splits.{split_closed}
use Rattle.md_modules.proofs.Components.{one_component, component_child, child_component}
use Rattle.md_tree.specs.declared.Kind.{Kind}
use Rattle.md_tree.specs.declared.Kind.TheVariants.{Parallel, Series, Prime}
use Rattle.md_tree.specs.declared.Pair.{Pair}
use Rattle.md_tree.specs.Trees.{PlainTree, leaf, node, PlainTrees, no_tree, one_more, names, names_below, names_at, count, EachNode, EachNodeBelow}
use Rattle.md_tree.specs.StrongTrees.{HasKind, HasPairs, IsTreeOf, IsTree}
use Rattle.md_tree.specs.WellFormed.{IsOfKind, NoneOfKind, AreDisjoint, IsPlainNode, HasShape, IsCanonicalNode, IsCanonicalTree, HasNoPrimeNode}
use Rattle.md_tree.specs.TreeGraph.{position_of, joins, adjacent_in, adjacent_below, graph_of_tree}
use Rattle.md_tree.proofs.Spelled.{plain_two}
use Rattle.md_tree.proofs.Nodes.{IsChild, child_inside, child_of_name, each_child}
use Rattle.md_tree.proofs.Built.{IsBuilt}
use Rattle.md_tree.proofs.Kinded.{built_tree}
use Rattle.md_tree.proofs.GraphKinds.{one_kind, kinds_of_graphs}
use Rattle.md_tree.proofs.Nodes.{at_position}
use Rattle.md_tree.proofs.OneTree.{one_tree_proof, no_path_proof}
use Rattle.md_cotree.specs.Laws.{TreeOfItsGraph, OneTreeOfAGraph, NoPathInItsGraph}
use Rattle.md_tree.proofs.Edges.{here as first_place, later as later_place}
use Rattle.md_cotree.proofs.TreeGraphs.{graph_tells, tree_denotes}

abbrev pub NotPrime : Kind → PlainTrees → List Pair → Type 0
NotPrime k cs ps = k ≢ Prime

-- whether a node of this kind joins its children
abbrev pub value : Kind → Bool
value Parallel = false
value Series = true
value Prime = true

-- ---- children

pub child_other_kind : (cs : PlainTrees) (k : Kind) (c : PlainTree) → NoneOfKind cs k → IsChild cs c → IsOfKind c k → ⊥
child_other_kind no_tree k c none i = absurd i
child_other_kind (one_more t ts) k c none (inl e) = λ is. none.0 (subst (λ w. IsOfKind w k) e is)
child_other_kind (one_more t ts) k c none (inr i) = child_other_kind ts k c none.1 i

first_child : (cs : PlainTrees) → 2 ≤ count cs → (c : PlainTree) × IsChild cs c
first_child no_tree two = absurd (omega arith)
first_child (one_more t ts) two = (t, inl refl)

pub plain_shape : (k : Kind) (cs : PlainTrees) (ps : List Pair) → k ≢ Prime → HasShape k cs ps → IsPlainNode k cs ps
plain_shape Parallel cs ps not shape = shape
plain_shape Series cs ps not shape = shape
plain_shape Prime cs ps not shape = absurd (not refl)

no_pairs : (e : ℕ → ℕ → Bool) (k : Kind) (cs : PlainTrees) (ps : List Pair) → k ≢ Prime → ps ≡ [] → HasPairs e k cs ps
no_pairs e Parallel cs ps not none = none
no_pairs e Series cs ps not none = none
no_pairs e Prime cs ps not none = absurd (not refl)

pub joins_value : (k : Kind) (ps : List Pair) (i j : ℕ) → k ≢ Prime → joins k ps i j ≡ value k
joins_value Parallel ps i j not = refl
joins_value Series ps i j not = refl
joins_value Prime ps i j not = absurd (not refl)

split_kind : (e : ℕ → ℕ → Bool) (s a : NameSet) (k : Kind) → k ≢ Prime → IsSplit e s a (value k) → HasKind e s k
split_kind e s a Parallel not split = (a, split)
split_kind e s a Series not split = (a, split)
split_kind e s a Prime not split = absurd (not refl)

-- a tree has a name
some_name : (t : PlainTree) → IsCanonicalTree t → EachNode NotPrime t → HasSome (names t)
some_name (leaf v) each not = (v, only_has v)
some_name (node k no_tree ps) each not = absurd (let two = (plain_two (plain_shape k no_tree ps not.0 each.0.shape)) in omega arith)
some_name (node k (one_more t ts) ps) each not =
    let x = some_name t each.1.0 not.1.0 in (x.0, union_left (names t) (names_below ts) x.0 x.1)

-- two names of one child have one position, and are adjacent below the node as they are in the child
below_lacks : (t : PlainTree) (ts : PlainTrees) (x : ℕ) → AreDisjoint (one_more t ts) → Has (names_below ts) x → Lacks (names t) x
below_lacks t ts x apart h = false_from_ne_true _ (λ k. clash h (apart.0 x k))

pub same_position : (cs : PlainTrees) (c : PlainTree) → AreDisjoint cs → IsChild cs c → (a b : ℕ) → Has (names c) a → Has (names c) b → position_of cs a ≡ position_of cs b
same_position no_tree c apart i a b ha hb = absurd i
same_position (one_more t ts) c apart (inl e) a b ha hb =
    first_place t ts a (Has-along (names c) (names t) (ap names e) a ha) ∙ sym (first_place t ts b (Has-along (names c) (names t) (ap names e) b hb))
same_position (one_more t ts) c apart (inr i) a b ha hb =
    later_place t ts a (below_lacks t ts a apart (child_inside ts c i a ha))
    ∙ ap (λ n. suc n) (same_position ts c apart.1 i a b ha hb)
    ∙ sym (later_place t ts b (below_lacks t ts b apart (child_inside ts c i b hb)))

pub below_is : (cs : PlainTrees) (c : PlainTree) → AreDisjoint cs → IsChild cs c → (a b : ℕ) → Has (names c) a → Has (names c) b → adjacent_below cs a b ≡ adjacent_in c a b
below_is no_tree c apart i a b ha hb = absurd i
below_is (one_more t ts) c apart (inl e) a b ha hb =
    ap (λ w. cond w (adjacent_in t a b) (adjacent_below ts a b)) (Has-along (names c) (names t) (ap names e) a ha) ∙ ap (λ w. adjacent_in w a b) (sym e)
below_is (one_more t ts) c apart (inr i) a b ha hb =
    ap (λ w. cond w (adjacent_in t a b) (adjacent_below ts a b)) (below_lacks t ts a apart (child_inside ts c i a ha))
    ∙ below_is ts c apart.1 i a b ha hb

-- a name at the position of a child's name is the child's
child_position : (cs : PlainTrees) (c : PlainTree) → AreDisjoint cs → IsChild cs c → (a : ℕ) → Has (names c) a → names_at cs (position_of cs a) ≡ names c
child_position no_tree c apart i a ha = absurd i
child_position (one_more t ts) c apart (inl e) a ha =
    ap (names_at (one_more t ts)) (first_place t ts a (Has-along (names c) (names t) (ap names e) a ha)) ∙ ap names (sym e)
child_position (one_more t ts) c apart (inr i) a ha =
    ap (names_at (one_more t ts)) (later_place t ts a (below_lacks t ts a apart (child_inside ts c i a ha))) ∙ child_position ts c apart.1 i a ha

pub other_position : (cs : PlainTrees) (c : PlainTree) → AreDisjoint cs → IsChild cs c → (a b : ℕ) → Has (names c) a → Has (names_below cs) b → Lacks (names c) b → position_of cs a ≢ position_of cs b
other_position cs c apart i a b ha hb lb same =
    clash (Has-along (names_at cs (position_of cs b)) (names c) (ap (names_at cs) (sym same) ∙ child_position cs c apart i a ha) b (at_position cs b hb)) lb

-- another child has a name
other_name : (cs : PlainTrees) (c : PlainTree) → AreDisjoint cs → 2 ≤ count cs → ((d : PlainTree) → IsChild cs d → HasSome (names d)) → IsChild cs c → (x : ℕ) × Has (names_below cs) x × Lacks (names c) x
other_name no_tree c apart two some i = absurd i
other_name (one_more t no_tree) c apart two some i = absurd (omega arith)
other_name (one_more t (one_more u us)) c apart two some (inl e) =
    let x = some u (inr (inl refl)) in
    let h = union_left (names u) (names_below us) x.0 x.1 in
    (x.0, union_right (names t) (names_below (one_more u us)) x.0 h, ap (λ w. contains w x.0) (ap names e) ∙ below_lacks t (one_more u us) x.0 apart h)
other_name (one_more t (one_more u us)) c apart two some (inr i) =
    let x = some t (inl refl) in
    (x.0, union_left (names t) (names_below (one_more u us)) x.0 x.1, false_from_ne_true _ (λ k. clash (child_inside (one_more u us) c i x.0 k) (apart.0 x.0 x.1)))

-- ---- a graph with the adjacency of a tree

-- the names of the tree are adjacent as they are in the tree
abbrev Agrees : (ℕ → ℕ → Bool) → PlainTree → Type 0
Agrees e t = (a b : ℕ) → Has (names t) a → Has (names t) b → adjacent_in t a b ≡ e a b

module _ (e : ℕ → ℕ → Bool) where
  child_agrees : (k : Kind) (cs : PlainTrees) (ps : List Pair) (c : PlainTree) → Agrees e (node k cs ps) → AreDisjoint cs → IsChild cs c → Agrees e c
  child_agrees k cs ps c agrees apart i a b ha hb =
      sym (ap (λ w. cond w (adjacent_below cs a b) (joins k ps (position_of cs a) (position_of cs b)))
      (eq-eqb (position_of cs a) (position_of cs b) (same_position cs c apart i a b ha hb)) ∙ below_is cs c apart i a b ha hb)
      ∙ agrees a b (child_inside cs c i a ha) (child_inside cs c i b hb)

  -- each child is one side of a split
  child_split : (k : Kind) (cs : PlainTrees) (ps : List Pair) (c : PlainTree) → IsCanonicalTree (node k cs ps) → EachNode NotPrime (node k cs ps) → Agrees e (node k cs ps) → IsChild cs c → IsSplit e (names_below cs) (names c) (value k)
  child_split k cs ps c each not agrees i = record {
    some = some_of c i;
    inside = child_inside cs c i;
    rest = other_name cs c each.0.apart (plain_two (plain_shape k cs ps not.0 each.0.shape)) some_of i;
    across = λ a b ha hb lb.
        sym (agrees a b (child_inside cs c i a ha) hb)
        ∙ ap (λ w. cond w (adjacent_below cs a b) (joins k ps (position_of cs a) (position_of cs b)))
        (ne_eqb (position_of cs a) (position_of cs b) (other_position cs c each.0.apart i a b ha hb lb))
        ∙ joins_value k ps (position_of cs a) (position_of cs b) not.0;
  }
    where
      some_of : (d : PlainTree) → IsChild cs d → HasSome (names d)
      some_of d j = some_name d (each_child IsCanonicalNode cs d each.1 j) (each_child NotPrime cs d not.1 j)

  node_kind : (k : Kind) (cs : PlainTrees) (ps : List Pair) → IsCanonicalTree (node k cs ps) → EachNode NotPrime (node k cs ps) → Agrees e (node k cs ps) → HasKind e (names_below cs) k
  node_kind k cs ps each not agrees =
      let c = first_child cs (plain_two (plain_shape k cs ps not.0 each.0.shape)) in
      split_kind e (names_below cs) (names c.0) k not.0 (child_split k cs ps c.0 each not agrees c.1)

  module _ (adj : IsAdjacency e) where
    -- a tree of another kind doesn't split as a node of this kind does
    unsplit : (k : Kind) (c : PlainTree) → k ≢ Prime → IsCanonicalTree c → EachNode NotPrime c → Agrees e c → (IsOfKind c k → ⊥) → (a : NameSet) → IsSplit e (names c) a (value k) → ⊥
    unsplit k (leaf v) differs each not agrees other a split =
        let x = of_only v split.some.0 (split.inside split.some.0 split.some.1) in
        let y = of_only v split.rest.0 split.rest.1 in
        clash (subst (λ w. Has a w) (x ∙ sym y) split.some.1) split.rest.2
    unsplit k (node l ds qs) differs each not agrees other a split =
        other (one_kind (undirected adj) (names_below ds) l k (node_kind l ds qs each not agrees) (split_kind e (names_below ds) a k differs split))

    module _ (k : Kind) (cs : PlainTrees) (ps : List Pair) (each : IsCanonicalTree (node k cs ps)) (not : EachNode NotPrime (node k cs ps)) (agrees : Agrees e (node k cs ps)) where
      child_whole : (c : PlainTree) → IsChild cs c → (a : NameSet) → IsSplit e (names c) a (value k) → ⊥
      child_whole c i =
          unsplit k c not.0 (each_child IsCanonicalNode cs c each.1 i) (each_child NotPrime cs c not.1 i) (child_agrees k cs ps c agrees each.0.apart i)
          (child_other_kind cs k c (plain_shape k cs ps not.0 each.0.shape).other_kinds i)

      -- a child is the component of each of its names
      child_is_component : (c : PlainTree) → IsChild cs c → (x : ℕ) → Has (names c) x → IsComponent e (names_below cs) x (names c) (value k)
      child_is_component c i x hx = record {
        holds = hx;
        closed = split_closed (names_below cs) (names c) (value k) (child_split k cs ps c each not agrees i);
        least = λ part closed px y hy. elim (cases_Bool (contains part y)) [
          | inl h ↦ h
          | inr l ↦ absurd (child_whole c i (intersection (names c) part) (record {
            some = (x, meet_has (names c) part x hx px);
            inside = λ z h. (of_meet (names c) part z h).0;
            rest = (y, hy, false_from_ne_true _ (λ h. clash (of_meet (names c) part y h).1 l));
            across = λ a b ha hb lb.
                closed.across a b (of_meet (names c) part a ha).1 (child_inside cs c i b hb)
                (elim (of_meet_lacks (names c) part b lb) [ inl n ↦ clash hb n | inr n ↦ n ]);
          }))
        ];
      }

      node_built : IsBuilt e k cs ps
      node_built = record {
        node_of = record {
          kind = node_kind k cs ps each not agrees;
          order = each.0.order;
          pairs = no_pairs e k cs ps not.0 (plain_shape k cs ps not.0 each.0.shape).no_pairs;
        };
        children = λ m. (
          λ max.
              let x = max.is_strong.is_module.some in
              let c = child_of_name cs x.0 (max.is_strong.is_module.inside x.0 x.1) in (
                c.0,
                c.1,
                one_component (names_below cs) m (names c.0) (value k) x.0
                    (child_component (undirected adj) decide_test (names_below cs) m (names c.0) (value k) x.0 refl (child_split k cs ps c.0 each not agrees c.1) max x.1)
                    (child_is_component c.0 c.1 x.0 c.2),
              ),
          λ is.
              let split = child_split k cs ps is.0 each not agrees is.1 in
              subst (IsMaximalStrong e (names_below cs)) (sym is.2)
              (component_child (undirected adj) (names_below cs) (names is.0) (names is.0) (value k) split.some.0 refl split (child_is_component is.0 is.1 split.some.0 split.some.1)),
        );
      }

    mutual
      all_built : (t : PlainTree) → IsCanonicalTree t → EachNode NotPrime t → Agrees e t → EachNode (IsBuilt e) t
      all_built (leaf v) each not agrees = tt
      all_built (node k cs ps) each not agrees =
          (node_built k cs ps each not agrees, built_below cs each.1 not.1 (λ c i. child_agrees k cs ps c agrees each.0.apart i))

      built_below : (cs : PlainTrees) → EachNodeBelow IsCanonicalNode cs → EachNodeBelow NotPrime cs → ((c : PlainTree) → IsChild cs c → Agrees e c) → EachNodeBelow (IsBuilt e) cs
      built_below no_tree each not agrees = tt
      built_below (one_more t ts) each not agrees =
          (all_built t each.0 not.0 (agrees t (inl refl)), built_below ts each.1 not.1 (λ c i. agrees c (inr i)))

    -- such a tree is the tree of strong modules
    pub tree_of_canonical : (t : PlainTree) → IsCanonicalTree t → HasNoPrimeNode t → Agrees e t → IsTreeOf e (names t) t
    tree_of_canonical t each not agrees = built_tree (kinds_of_graphs (undirected adj)) decide_test (names t) t refl (all_built t each not agrees)

pub tree_proof : TreeOfItsGraph
tree_proof None is not = refl
tree_proof (Some t) is not =
    tree_of_canonical (adjacent (graph_of_tree (Some t))) (graph_adjacency (tree_denotes (Some t) is)) t is.1 not (graph_tells t is.0)

pub one_proof : OneTreeOfAGraph
one_proof o p is_o not_o is_p not_p same =
    let g = graph_of_tree o in
    let all = one_tree_proof (adjacent g) (graph_adjacency (tree_denotes o is_o)) g.vertices in
    all.2 o (tree_proof o is_o not_o)
    ∙ sym (all.2 p (subst (λ h. IsTree (adjacent h) h.vertices p) (sym same) (tree_proof p is_p not_p)))

pub path_proof : NoPathInItsGraph
path_proof None is not = λ path. clash path.4.inside.0 (empty_lacks path.0)
path_proof (Some t) is not =
    (no_path_proof (adjacent (graph_of_tree (Some t))) (graph_adjacency (tree_denotes (Some t) is)) (names t) t (tree_proof (Some t) is not)).1 not
