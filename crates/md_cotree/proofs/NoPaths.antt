-- No tree without prime nodes has an induced path on four names: the names would lie in one child of each node.
use Rattle.std.proofs.Common.{vec_len, ◌≡◌, ◌≢◌, ℕ, suc, ◌<◌, Bool, true, false, cond, ◌&&◌, ◌==◌, List, Option, Some, None, is_some, refl, sym, ◌∙◌, ap, subst, inl, inr, arith}
use Rattle.std.proofs.lemmas.Bool.{cases_Bool, cases_eq, eq-eqb, ne_eqb, true≢false, false≢true}
use Rattle.std.specs.FinSet.{contains}
use Rattle.std.specs.Option.{option_map}
use Rattle.md_graph.specs.declared.TheConstants.{NAMES}
use Rattle.md_graph.specs.Sets.{Has, Lacks}
use Rattle.md_graph.specs.NameSet.{AllBelow}
use Rattle.md_graph.specs.PlainGraph.{IsGraph, adjacent}
use Rattle.md_graph.proofs.SetLemmas.{clash, of_only, empty_lacks, of_union}
use Rattle.md_graph.proofs.GraphLemmas.{IsGraph-empty_graph}
use Rattle.md_modules.specs.InducedPaths.{HasInducedPath, HasPathEdges}
use Rattle.md_lists.proofs.LinkLaws.{some_within, held}
use Rattle.md_tree.specs.declared.Kind.{Kind}
use Rattle.md_tree.specs.declared.Kind.TheVariants.{Parallel, Series, Prime}
use Rattle.md_tree.specs.declared.Pair.{Pair}
use Rattle.md_tree.specs.Trees.{PlainTree, leaf, node, PlainTrees, no_tree, one_more, names, names_below, EachNode, EachNodeBelow}
use Rattle.md_tree.specs.TreeGraph.{position_of, joins, adjacent_in, adjacent_below, graph_of_tree}
use Rattle.md_cotree.specs.declared.cotree.Cotree.{Cotree}
use Rattle.md_cotree.specs.PlaceTrees.{PlaceTree, tip, inner, PlaceTrees, no_more, then, leaves_in, leaves_among, kind_of, shape, shapes}
use Rattle.md_cotree.specs.Cotrees.{IsKeptAs, place_at}
use Rattle.md_cotree.specs.CotreeLaws.{NoPathInACotree, CotreeDenotesGraph}
use Rattle.md_cotree.proofs.Cographs.{NotPrime}
use Rattle.md_tree.proofs.Edges.{here as first_place, later as later_place}
use Rattle.md_cotree.proofs.TreeGraphs.{some_graph, graph_tells}

-- four names at one position
record OnePlace (cs : PlainTrees) (a b c d : ℕ) : Type 0 where
  first : position_of cs a ≡ position_of cs b
  second : position_of cs a ≡ position_of cs c
  third : position_of cs a ≡ position_of cs d

-- names that are adjacent at a parallel node, or apart at a series node, have one position
together : (cs : PlainTrees) (ps : List Pair) (k : Kind) (v : Bool) (x y : ℕ) → ((i j : ℕ) → joins k ps i j ≡ v → ⊥) → adjacent_in (node k cs ps) x y ≡ v → position_of cs x ≡ position_of cs y
together cs ps k v x y never is =
    elim (cases_eq (position_of cs x) (position_of cs y)) [
      | inl same ↦ same
      | inr other ↦ absurd (never (position_of cs x) (position_of cs y)
          (sym (ap (λ w. cond w (adjacent_below cs x y) (joins k ps (position_of cs x) (position_of cs y))) (ne_eqb (position_of cs x) (position_of cs y) other)) ∙ is))
    ]

one_place : (cs : PlainTrees) (ps : List Pair) (k : Kind) (a b c d : ℕ) → k ≢ Prime → HasPathEdges (adjacent_in (node k cs ps)) a b c d → OnePlace cs a b c d
one_place cs ps Parallel a b c d not path =
    let never : (i j : ℕ) → joins Parallel ps i j ≡ true → ⊥ = λ i j e. false≢true e in
    let ab = together cs ps Parallel true a b never path.edges.0 in
    let bc = together cs ps Parallel true b c never path.edges.1 in
    let cd = together cs ps Parallel true c d never path.edges.2 in
    record { first = ab; second = ab ∙ bc; third = ab ∙ bc ∙ cd }
one_place cs ps Series a b c d not path =
    let never : (i j : ℕ) → joins Series ps i j ≡ false → ⊥ = λ i j e. true≢false e in
    let ac = together cs ps Series false a c never path.apart.0 in
    let ad = together cs ps Series false a d never path.apart.1 in
    let bd = together cs ps Series false b d never path.apart.2 in
    record { first = ad ∙ sym bd; second = ac; third = ad }
one_place cs ps Prime a b c d not path = absurd (not refl)

-- what is told of two names at one position is told below
told_below : (k : Kind) (cs : PlainTrees) (ps : List Pair) (x y : ℕ) (v : Bool) → position_of cs x ≡ position_of cs y → adjacent_in (node k cs ps) x y ≡ v → adjacent_below cs x y ≡ v
told_below k cs ps x y v same is =
    sym (ap (λ w. cond w (adjacent_below cs x y) (joins k ps (position_of cs x) (position_of cs y))) (eq-eqb (position_of cs x) (position_of cs y) same)) ∙ is

path_below : (k : Kind) (cs : PlainTrees) (ps : List Pair) (a b c d : ℕ) → OnePlace cs a b c d → HasPathEdges (adjacent_in (node k cs ps)) a b c d → HasPathEdges (adjacent_below cs) a b c d
path_below k cs ps a b c d at path = record {
  edges = (
    told_below k cs ps a b true at.first path.edges.0,
    told_below k cs ps b c true (sym at.first ∙ at.second) path.edges.1,
    told_below k cs ps c d true (sym at.second ∙ at.third) path.edges.2,
  );
  apart = (
    told_below k cs ps a c false at.second path.apart.0,
    told_below k cs ps a d false at.third path.apart.1,
    told_below k cs ps b d false (sym at.first ∙ at.third) path.apart.2,
  );
}

pub here_too : (t : PlainTree) (ts : PlainTrees) (x y : ℕ) → Has (names t) x → position_of (one_more t ts) x ≡ position_of (one_more t ts) y → Has (names t) y
here_too t ts x y h same =
    elim (cases_Bool (contains (names t) y)) [
      | inl k ↦ k
      | inr l ↦ absurd (let e : 0 ≡ suc (position_of ts y) = sym (first_place t ts x h) ∙ same ∙ later_place t ts y l in omega arith)
    ]

pub there_too : (t : PlainTree) (ts : PlainTrees) (x y : ℕ) → Lacks (names t) x → position_of (one_more t ts) x ≡ position_of (one_more t ts) y → Lacks (names t) y
there_too t ts x y l same =
    elim (cases_Bool (contains (names t) y)) [
      | inl h ↦ absurd (let e : suc (position_of ts x) ≡ 0 = sym (later_place t ts x l) ∙ same ∙ first_place t ts y h in omega arith)
      | inr k ↦ k
    ]

pub later_same : (t : PlainTree) (ts : PlainTrees) (x y : ℕ) → Lacks (names t) x → position_of (one_more t ts) x ≡ position_of (one_more t ts) y → position_of ts x ≡ position_of ts y
later_same t ts x y l same =
    let e : suc (position_of ts x) ≡ suc (position_of ts y) = sym (later_place t ts x l) ∙ same ∙ later_place t ts y (there_too t ts x y l same) in
    omega arith

mutual
  no_path_in : (t : PlainTree) → EachNode NotPrime t → (a b c d : ℕ) → HasPathEdges (adjacent_in t) a b c d → ⊥
  no_path_in (leaf v) not a b c d path = false≢true path.edges.0
  no_path_in (node k cs ps) not a b c d path =
      let at = one_place cs ps k a b c d not.0 path in
      no_path_below cs not.1 a b c d at (path_below k cs ps a b c d at path)

  no_path_below : (cs : PlainTrees) → EachNodeBelow NotPrime cs → (a b c d : ℕ) → OnePlace cs a b c d → HasPathEdges (adjacent_below cs) a b c d → ⊥
  no_path_below no_tree not a b c d at path = false≢true path.edges.0
  no_path_below (one_more t ts) not a b c d at path =
      elim (cases_Bool (contains (names t) a)) [
        | inl h ↦
            let hb = here_too t ts a b h at.first in
            let hc = here_too t ts a c h at.second in
            no_path_in t not.0 a b c d (record {
              edges = (inside a b true h path.edges.0, inside b c true hb path.edges.1, inside c d true hc path.edges.2);
              apart = (inside a c false h path.apart.0, inside a d false h path.apart.1, inside b d false hb path.apart.2);
            })
        | inr l ↦
            let lb = there_too t ts a b l at.first in
            let lc = there_too t ts a c l at.second in
            no_path_below ts not.1 a b c d
            (record { first = later_same t ts a b l at.first; second = later_same t ts a c l at.second; third = later_same t ts a d l at.third })
            (record {
              edges = (outside a b true l path.edges.0, outside b c true lb path.edges.1, outside c d true lc path.edges.2);
              apart = (outside a c false l path.apart.0, outside a d false l path.apart.1, outside b d false lb path.apart.2);
            })
      ]
    where
      inside : (x y : ℕ) (v : Bool) → Has (names t) x → adjacent_below (one_more t ts) x y ≡ v → adjacent_in t x y ≡ v
      inside x y v h is = sym (ap (λ w. cond w (adjacent_in t x y) (adjacent_below ts x y)) h) ∙ is

      outside : (x y : ℕ) (v : Bool) → Lacks (names t) x → adjacent_below (one_more t ts) x y ≡ v → adjacent_below ts x y ≡ v
      outside x y v l is = sym (ap (λ w. cond w (adjacent_in t x y) (adjacent_below ts x y)) l) ∙ is

-- ---- the tree of a cotree

pub kind_not_prime : (k : Bool) → kind_of k ≢ Prime
kind_not_prime true = λ e. cc
kind_not_prime false = λ e. cc

cond_one : (p w v : ℕ) → w ≡ v → ◌≡◌ {A = ℕ} (cond ((p == p) && (w == v)) 1 0) 1
cond_one p w v same = λ i. cond (eq-eqb p p refl i && eq-eqb w v same i) 1 0

mutual
  pub shape_not_prime : (t : PlaceTree) → EachNode NotPrime (shape t)
  shape_not_prime (tip p v) = tt
  shape_not_prime (inner p k ts) = (kind_not_prime k, shapes_not_prime ts)

  shapes_not_prime : (ts : PlaceTrees) → EachNodeBelow NotPrime (shapes ts)
  shapes_not_prime no_more = tt
  shapes_not_prime (then t ts) = (shape_not_prime t, shapes_not_prime ts)

mutual
  -- a name of the tree stands at a leaf
  pub name_stands : (t : PlaceTree) (v : ℕ) → Has (names (shape t)) v → (p : ℕ) × (0 < leaves_in p v t)
  name_stands (tip p w) v h =
      (p, let same = of_only w v h in let one = cond_one p w v (sym same) in omega arith)
  name_stands (inner p k ts) v h = name_below ts v h

  pub name_below : (ts : PlaceTrees) (v : ℕ) → Has (names_below (shapes ts)) v → (p : ℕ) × (0 < leaves_among p v ts)
  name_below no_more v h = clash h (empty_lacks v)
  name_below (then t ts) v h =
      elim (of_union (names (shape t)) (names_below (shapes ts)) v h) [
        | inl i ↦ let r = name_stands t v i in (r.0, let some = r.1 in omega arith)
        | inr i ↦ let r = name_below ts v i in (r.0, let some = r.1 in omega arith)
      ]

-- the names of a kept tree are names
pub kept_below : (c : Cotree) (t : PlaceTree) → IsKeptAs c (Some t) → AllBelow (names (shape t)) NAMES
kept_below c t kept v h =
    let at = name_stands t v h in
    let e = kept.names v at.0 in
    let some = at.1 in
    let low = some_within c.places.items (vec_len c.places) v (sym c.places.ok.0) (ap is_some (held (place_at c v) at.0 (omega arith))) in
    let few = kept.entries.0 in
    omega arith

pub cotree_graph : CotreeDenotesGraph
cotree_graph c g is = go is.0 is.1 is.2
  where
    go : (o : Option PlaceTree) → IsKeptAs c o → graph_of_tree (option_map shape o) ≡ g → IsGraph g
    go None kept same = subst IsGraph same IsGraph-empty_graph
    go (Some t) kept same = subst IsGraph same (some_graph (shape t) (kept_below c t kept))

pub cotree_no_path : NoPathInACotree
cotree_no_path c g is = go is.0 is.1 is.2
  where
    none : HasInducedPath (adjacent (graph_of_tree None)) (graph_of_tree None).vertices → ⊥
    none path = clash path.4.inside.0 (empty_lacks path.0)

    some : (t : PlaceTree) → IsKeptAs c (Some t) → HasInducedPath (adjacent (graph_of_tree (Some (shape t)))) (names (shape t)) → ⊥
    some t kept path =
        let below = kept_below c t kept in
        let is = path.4 in
        let told : (x y : ℕ) → Has (names (shape t)) x → Has (names (shape t)) y → adjacent_in (shape t) x y ≡ adjacent (graph_of_tree (Some (shape t))) x y = graph_tells (shape t) below in
        no_path_in (shape t) (shape_not_prime t) path.0 path.1 path.2 path.3 (record {
          edges = (told path.0 path.1 is.inside.0 is.inside.1 ∙ is.edges.0, told path.1 path.2 is.inside.1 is.inside.2 ∙ is.edges.1, told path.2 path.3 is.inside.2 is.inside.3 ∙ is.edges.2);
          apart = (told path.0 path.2 is.inside.0 is.inside.2 ∙ is.apart.0, told path.0 path.3 is.inside.0 is.inside.3 ∙ is.apart.1, told path.1 path.3 is.inside.1 is.inside.3 ∙ is.apart.2);
        })

    go : (o : Option PlaceTree) → IsKeptAs c o → graph_of_tree (option_map shape o) ≡ g → HasInducedPath (adjacent g) g.vertices → ⊥
    go None kept same path = none (subst (λ h. HasInducedPath (adjacent h) h.vertices) (sym same) path)
    go (Some t) kept same path = some t kept (subst (λ h. HasInducedPath (adjacent h) h.vertices) (sym same) path)
