-- A tree as well-formed trees are is the tree of strong modules of a directed graph exactly where
-- it fits the graph.
use Rattle.std.proofs.Common.{◌≡◌, ◌≢◌, ℕ, zero, suc, ◌<◌, ◌≤◌, Bool, true, eqb, ◌&&◌, ◌||◌, List, [], ◌∷◌, Contains, refl, sym, ◌∙◌, ap, subst, inl, inr, true≢false, eqb-true, eq-eqb, arith}
use Rattle.std.proofs.lemmas.Bool.{cases_Bool, false_from_ne_true, and_parts}
use Rattle.std.specs.Cmp.{both_ways}
use Rattle.md_graph.specs.Sets.{NameSet, Has, only_name}
use Rattle.md_graph.proofs.SetLemmas.{clash, Has-along, ascending_or_not, empty_lacks}
use Rattle.md_modules.specs.Modules.{IsModule}
use Rattle.md_modules.specs.Kinds.{IsSplit, IsUnsplit}
use Rattle.md_modules.specs.Components.{IsComponent}
use Rattle.md_modules.proofs.Modules.{whole_module}
use Rattle.md_modules.proofs.Components.{child_component}
use Rattle.md_modules.proofs.Strong.{larger_than_single}
use Rattle.md_digraph.specs.ArcColours.{ArcColour, between, swapped, no_arc, both_arcs}
use Rattle.md_digraph.proofs.ArcTurns.{arcs_turn, arcs_told}
use Rattle.md_text.proofs.Lists.{In, of_contains, to_contains}
use Rattle.md_tree.specs.Trees.{leaf, node, no_tree, one_more, names, names_below, names_at, count, EachNode, EachNodeBelow}
use Rattle.md_tree.specs.StrongTrees.{ListsExactly, StandBy}
use Rattle.md_tree.specs.WellFormed.{IsOfKind, NoneOfKind, HasShapeIf}
use Rattle.md_tree.specs.Heads.{head, head_at, AreChildModules}
use Rattle.md_tree.proofs.Nodes.{IsChild, at_inside, at_apart, position_below}
use Rattle.md_tree.proofs.Built.{tree_names, tree_built, children_maximal}
use Rattle.md_tree.proofs.Kinded.{built_tree}
use Rattle.md_tree.proofs.Heads.{child_here, head_in, heads_in}
use Rattle.md_tree.proofs.Canonical.{place_of}
use Rattle.md_tree.proofs.Fitted.{at_places, told_by_heads, by_positions, by_trees, modules_below, to_fit, of_fit}
use Rattle.md_dtree.specs.declared.DKind.{DKind}
use Rattle.md_dtree.specs.declared.DKind.TheVariants.{Parallel, Series, Order, Prime}
use Rattle.md_dtree.specs.declared.DPair.{DPair}
use Rattle.md_dtree.specs.DirectedSpelling.{directed_spelling, directed_pairs, lists_arcs}
use Rattle.md_dtree.specs.DirectedTrees.{PlainDTree, PlainDTrees, arc_forth, SplitsWith, IsDirectedPrime, HasDirectedKind, AllArcsTo, IsArcPair, IsDirectedNode, IsCanonicalDNode}
use Rattle.md_dtree.specs.DirectedFits.{lists_arc, puts_arcs, IsFitDNode}
use Rattle.md_dtree.specs.Laws.{FitsIfDirectedTree}
use Rattle.md_dtree.proofs.ArcKinds.{two_of_kind, one_kind, directed_kinds_law}
use Rattle.md_dtree.proofs.DirectedCanonical.{IsDBuilt, unsplit_prime}

-- ---- lists of pairs

abbrev arc_pair : ℕ → ℕ → DPair
arc_pair i j = record { from = i; to = j }

same_numbers : (p : DPair) (i j : ℕ) → (eqb p.from i && eqb p.to j) ≡ true → arc_pair i j ≡ p
same_numbers p i j h =
    let two = and_parts (eqb p.from i) (eqb p.to j) h in
    let a : p.from ≡ i = eqb-true p.from i two.0 in
    let b : p.to ≡ j = eqb-true p.to j two.1 in
    λ k. record { from = sym a k; to = sym b k }

pub of_listed : (ps : List DPair) (i j : ℕ) → lists_arc ps i j ≡ true → In ps (arc_pair i j)
of_listed [] i j h = absurd (true≢false (sym h))
of_listed (p ∷ ps) i j h = elim (cases_Bool (eqb p.from i && eqb p.to j)) [
  | inl a ↦ inl (same_numbers p i j a)
  | inr a ↦ inr (of_listed ps i j (sym (ap (λ w. w || lists_arc ps i j) a) ∙ h))
]

pub to_listed : (ps : List DPair) (p : DPair) → In ps p → lists_arc ps p.from p.to ≡ true
to_listed [] p i = absurd i
to_listed (q ∷ ps) p (inl e) =
    ap (λ w. (w && eqb q.to p.to) || lists_arc ps p.from p.to) (eq-eqb q.from p.from (sym (ap (λ r. r.from) e)))
    ∙ ap (λ w. w || lists_arc ps p.from p.to) (eq-eqb q.to p.to (sym (ap (λ r. r.to) e)))
to_listed (q ∷ ps) p (inr i) = elim (cases_Bool (eqb q.from p.from && eqb q.to p.to)) [
  | inl a ↦ ap (λ w. w || lists_arc ps p.from p.to) a
  | inr a ↦ ap (λ w. w || lists_arc ps p.from p.to) a ∙ to_listed ps p i
]

-- ---- nodes have children

some_of_shape : (k : DKind) (cs : PlainDTrees) (ps : List DPair) → HasShapeIf directed_spelling (lists_arcs k) k cs ps → 1 ≤ count cs
some_of_shape Parallel cs ps shape = let b : 2 ≤ count cs = shape.enough in omega arith
some_of_shape Series cs ps shape = let b : 2 ≤ count cs = shape.enough in omega arith
some_of_shape Order cs ps shape = let b : 2 ≤ count cs = shape.enough in omega arith
some_of_shape Prime cs ps shape = let b : 3 ≤ count cs = shape.enough in omega arith

pub some_child : (k : DKind) (cs : PlainDTrees) (ps : List DPair) → IsCanonicalDNode k cs ps → 1 ≤ count cs
some_child k cs ps canon = some_of_shape k cs ps canon.shape

module _ (arc : ℕ → ℕ → Bool) where
  -- ---- the order of the children

  -- the names of an earlier child have the arcs to those of a later one
  arcs_along : (cs : PlainDTrees) → StandBy (AllArcsTo arc) cs → (i j a b : ℕ) → i < j → Has (names_at cs i) a → Has (names_at cs j) b → between arc a b ≡ arc_forth
  arcs_along no_tree stand i j a b less ha hb = clash ha (empty_lacks a)
  arcs_along (one_more t ts) stand i zero a b less ha hb = absurd (omega arith)
  arcs_along (one_more t ts) stand zero (suc j) a b less ha hb = stand.0 a b ha (at_inside ts j b hb)
  arcs_along (one_more t ts) stand (suc i) (suc j) a b less ha hb = arcs_along ts stand.1 i j a b (omega arith) ha hb

  stand_along : (cs : PlainDTrees) → ((i j a b : ℕ) → i < j → Has (names_at cs i) a → Has (names_at cs j) b → between arc a b ≡ arc_forth) → StandBy (AllArcsTo arc) cs
  stand_along no_tree along = tt
  stand_along (one_more t ts) along = (
    λ a b ha hb. let p = place_of ts b hb in along 0 (suc p.0) a b (omega arith) ha p.1,
    stand_along ts (λ i j a b less ha hb. along (suc i) (suc j) a b (omega arith) ha hb),
  )

  -- names of different children have the arcs of the heads
  pair_at_heads : (cs : PlainDTrees) → AreChildModules (between arc) cs → (i j a b : ℕ) → i ≢ j → Has (names_at cs i) a → Has (names_at cs j) b → arc a b ≡ arc (head_at cs i) (head_at cs j)
  pair_at_heads cs mods i j a b differ ha hb = elim (ascending_or_not i j differ) [
    | inl less ↦ ap (λ c. c.0) (at_places (arcs_turn arc) cs mods i j a b less ha hb)
    | inr more ↦ ap (λ c. c.1) (at_places (arcs_turn arc) cs mods j i b a more hb ha)
  ]

  -- the pairs of a prime node are listed exactly where the heads have an arc
  listed_heads : (cs : PlainDTrees) (ps : List DPair) → AreChildModules (between arc) cs → ListsExactly directed_pairs (IsArcPair arc cs) ps →
      (i j : ℕ) → i ≢ j → i < count cs → j < count cs → arc (head_at cs i) (head_at cs j) ≡ lists_arc ps i j
  listed_heads cs ps mods lists i j differ bi bj = both_ways _ _
      (λ h. to_listed ps (arc_pair i j) (of_contains ps (arc_pair i j) ((lists.exactly (arc_pair i j)).1
      (record { differ = differ; runs = (head_at cs i, head_at cs j, mods.heads i bi, mods.heads j bj, h) }))))
      (λ h.
      let is : IsArcPair arc cs i j = (lists.exactly (arc_pair i j)).0 (to_contains ps (arc_pair i j) (of_listed ps i j h)) in
      sym (pair_at_heads cs mods i j is.runs.0 is.runs.1 differ is.runs.2 is.runs.3) ∙ is.runs.4)

  -- ---- a node of the tree of strong modules fits

  module _ (k : DKind) (cs : PlainDTrees) (ps : List DPair) (canon : IsCanonicalDNode k cs ps) (each : EachNodeBelow IsCanonicalDNode cs) (built : IsDBuilt arc k cs ps) where
    own : (i : ℕ) → i < count cs → Has (names_at cs i) (head_at cs i)
    own = heads_in IsCanonicalDNode some_child cs each

    inner_modules : AreChildModules (between arc) cs
    inner_modules = modules_below (names_below cs) cs canon.apart own (λ x h. h) (λ c i. (children_maximal k cs ps built c i).is_strong.is_module)

    -- where the node splits with a colour that is its own reverse, names of different children have
    -- it
    split_heads : (v : ArcColour) → swapped v ≡ v → SplitsWith arc (names_below cs) v → (i j : ℕ) → i < j → j < count cs → between arc (head_at cs i) (head_at cs j) ≡ v
    split_heads v own_reverse split i j less bj =
        let bi : i < count cs = omega arith in
        let c = child_here cs i bi in
        let hc : Has (names c.0) (head_at cs i) = Has-along (names_at cs i) (names c.0) c.2 (head_at cs i) (own i bi) in
        let is : IsComponent (between arc) (names_below cs) (head_at cs i) (names c.0) v =
        child_component (arcs_turn arc) arcs_told (names_below cs) (names c.0) split.0 v (head_at cs i) own_reverse split.1 (children_maximal k cs ps built c.0 c.1) hc in
        is.closed.across (head_at cs i) (head_at cs j) hc (at_inside cs j (head_at cs j) (own j bj))
        (false_from_ne_true _ (λ h. clash (own j bj) (at_apart cs canon.apart i j less (names_at cs i) (names_at cs j) refl refl (head_at cs j)
        (Has-along (names c.0) (names_at cs i) (sym c.2) (head_at cs j) h))))

  joined_heads : (k : DKind) (cs : PlainDTrees) (ps : List DPair) → IsCanonicalDNode k cs ps → EachNodeBelow IsCanonicalDNode cs → IsDBuilt arc k cs ps →
      (i j : ℕ) → i < j → j < count cs → between arc (head_at cs i) (head_at cs j) ≡ puts_arcs k ps i j
  joined_heads Parallel cs ps canon each built i j less bj = split_heads Parallel cs ps canon each built no_arc refl built.node_of.kind i j less bj
  joined_heads Series cs ps canon each built i j less bj = split_heads Series cs ps canon each built both_arcs refl built.node_of.kind i j less bj
  joined_heads Order cs ps canon each built i j less bj =
      let bi : i < count cs = omega arith in
      arcs_along cs built.node_of.order i j (head_at cs i) (head_at cs j) less (own Order cs ps canon each built i bi) (own Order cs ps canon each built j bj)
  joined_heads Prime cs ps canon each built i j less bj =
      let bi : i < count cs = omega arith in
      let mods = inner_modules Prime cs ps canon each built in
      let there : arc (head_at cs i) (head_at cs j) ≡ lists_arc ps i j = listed_heads cs ps mods built.node_of.pairs i j (λ same. omega arith) bi bj in
      let back : arc (head_at cs j) (head_at cs i) ≡ lists_arc ps j i = listed_heads cs ps mods built.node_of.pairs j i (λ same. omega arith) bj bi in
      λ n. (there n, back n)

  prime_names : (k : DKind) (cs : PlainDTrees) → HasDirectedKind arc (names_below cs) k → k ≡ Prime → IsUnsplit (between arc) (names_below cs)
  prime_names k cs kind same =
      let prime : IsDirectedPrime arc (names_below cs) = subst (HasDirectedKind arc (names_below cs)) same kind in
      record { two = prime.two; unsplit = λ v part split. unsplit_prime arc (names_below cs) prime v (part, split) }

  node_fits : (s : NameSet) (k : DKind) (cs : PlainDTrees) (ps : List DPair) → IsCanonicalDNode k cs ps → EachNodeBelow IsCanonicalDNode cs → IsDBuilt arc k cs ps → EachNodeBelow (IsDBuilt arc) cs →
      IsModule (between arc) s (names_below cs) → IsFitDNode arc s k cs ps
  node_fits s k cs ps canon each built below is = record {
    is_module = is;
    joined = joined_heads k cs ps canon each built;
    trivial = λ same. (told_by_heads (arcs_turn arc) cs (inner_modules k cs ps canon each built) arcs_told).trivial (prime_names k cs built.node_of.kind same) (by_positions cs built.children);
  }

  -- ---- a node that fits is one of the tree of strong modules

  -- no child has the kind of its node, if that lists no pairs
  other_kind : (t : PlainDTree) → EachNode (IsDBuilt arc) t → (k : DKind) → (IsOfKind t k → ⊥) → HasDirectedKind arc (names t) k → ⊥
  other_kind (leaf v) built k other kind = larger_than_single (only_name v) v (two_of_kind arc (only_name v) k kind) refl
  other_kind (node l cs ps) built k other kind = other (one_kind arc (names_below cs) l k built.0.node_of.kind kind)

  other_kinds : (cs : PlainDTrees) → EachNodeBelow (IsDBuilt arc) cs → (k : DKind) → NoneOfKind cs k → (c : PlainDTree) → IsChild cs c → HasDirectedKind arc (names c) k → ⊥
  other_kinds no_tree built k none c i kind = i
  other_kinds (one_more t ts) built k none c (inl same) kind = other_kind t built.0 k none.0 (subst (λ d. HasDirectedKind arc (names d) k) same kind)
  other_kinds (one_more t ts) built k none c (inr i) kind = other_kinds ts built.1 k none.1 c i kind

  -- a child that splits as its node has the kind of that node
  no_child_splits : (k : DKind) (v : ArcColour) (cs : PlainDTrees) → ((t part : NameSet) → IsSplit (between arc) t part v → HasDirectedKind arc t k) → NoneOfKind cs k → EachNodeBelow (IsDBuilt arc) cs →
      (i : ℕ) (part : NameSet) → i < count cs → IsSplit (between arc) (names_at cs i) part v → ⊥
  no_child_splits k v cs kind none built i part l split =
      let c = child_here cs i l in
      other_kinds cs built k none c.0 c.1 (kind (names c.0) part (subst (λ t. IsSplit (between arc) t part v) c.2 split))

  module _ (s : NameSet) where
    child_modules : (k : DKind) (cs : PlainDTrees) (ps : List DPair) → IsCanonicalDNode k cs ps → EachNodeBelow IsCanonicalDNode cs → IsFitDNode arc s k cs ps →
        ((c : PlainDTree) → IsChild cs c → IsModule (between arc) s (names c)) → AreChildModules (between arc) cs
    child_modules k cs ps canon each fit mods = modules_below s cs canon.apart (heads_in IsCanonicalDNode some_child cs each) fit.is_module.inside mods

    -- the pairs of a prime node that fits are those with arcs
    lists_fit : (cs : PlainDTrees) (ps : List DPair) → IsCanonicalDNode Prime cs ps → IsFitDNode arc s Prime cs ps → AreChildModules (between arc) cs → ListsExactly directed_pairs (IsArcPair arc cs) ps
    lists_fit cs ps canon fit mods = record { ascending = canon.shape.ascending; exactly = λ p. (arc_of p, listed_of p) } where
      at_heads : (i j : ℕ) → i ≢ j → i < count cs → j < count cs → arc (head_at cs i) (head_at cs j) ≡ lists_arc ps i j
      at_heads i j differ bi bj = elim (ascending_or_not i j differ) [
        | inl less ↦ ap (λ c. c.0) (fit.joined i j less bj)
        | inr more ↦ ap (λ c. c.1) (fit.joined j i more bi)
      ]

      arc_of : (p : DPair) → Contains ps p → IsArcPair arc cs p.from p.to
      arc_of p h =
          let b = canon.shape.positions p h in
          record {
            differ = b.0;
            runs = (
              head_at cs p.from,
              head_at cs p.to,
              mods.heads p.from b.1,
              mods.heads p.to b.2,
              at_heads p.from p.to b.0 b.1 b.2 ∙ to_listed ps p (of_contains ps p h),
            );
          }

      listed_of : (p : DPair) → IsArcPair arc cs p.from p.to → Contains ps p
      listed_of p is =
          let bi = position_below cs p.from is.runs.0 is.runs.2 in
          let bj = position_below cs p.to is.runs.1 is.runs.3 in
          to_contains ps p (of_listed ps p.from p.to
          (sym (at_heads p.from p.to is.differ bi bj) ∙ sym (pair_at_heads cs mods p.from p.to is.runs.0 is.runs.1 is.differ is.runs.2 is.runs.3) ∙ is.runs.4))

    node_built : (k : DKind) (cs : PlainDTrees) (ps : List DPair) → IsCanonicalDNode k cs ps → EachNodeBelow IsCanonicalDNode cs → IsFitDNode arc s k cs ps →
        ((c : PlainDTree) → IsChild cs c → IsModule (between arc) s (names c)) → EachNodeBelow (IsDBuilt arc) cs → IsDBuilt arc k cs ps
    node_built Parallel cs ps canon each fit mods built =
        let r = (told_by_heads (arcs_turn arc) cs (child_modules Parallel cs ps canon each fit mods) arcs_told).split no_arc canon.shape.enough fit.joined
        (no_child_splits Parallel no_arc cs (λ t part split. (part, split)) canon.shape.other_kinds built) in
        record { node_of = record { kind = r.0; order = canon.order; pairs = canon.shape.no_pairs }; children = by_trees cs r.1 }
    node_built Series cs ps canon each fit mods built =
        let r = (told_by_heads (arcs_turn arc) cs (child_modules Series cs ps canon each fit mods) arcs_told).split both_arcs canon.shape.enough fit.joined
        (no_child_splits Series both_arcs cs (λ t part split. (part, split)) canon.shape.other_kinds built) in
        record { node_of = record { kind = r.0; order = canon.order; pairs = canon.shape.no_pairs }; children = by_trees cs r.1 }
    node_built Order cs ps canon each fit mods built =
        let inner : AreChildModules (between arc) cs = child_modules Order cs ps canon each fit mods in
        let r = (told_by_heads (arcs_turn arc) cs inner arcs_told).split arc_forth canon.shape.enough fit.joined
        (no_child_splits Order arc_forth cs (λ t part split. (part, split)) canon.shape.other_kinds built) in
        record {
          node_of = record {
            kind = r.0;
            order = stand_along cs (λ i j a b less ha hb. at_places (arcs_turn arc) cs inner i j a b less ha hb ∙ fit.joined i j less (position_below cs j b hb));
            pairs = canon.shape.no_pairs;
          };
          children = by_trees cs r.1;
        }
    node_built Prime cs ps canon each fit mods built =
        let inner : AreChildModules (between arc) cs = child_modules Prime cs ps canon each fit mods in
        let r = (told_by_heads (arcs_turn arc) cs inner arcs_told).unsplit canon.shape.enough (fit.trivial refl) in
        record {
          node_of = record {
            kind = record {
              two = r.0.two;
              not_parallel = λ split. r.0.unsplit no_arc split.0 split.1;
              not_series = λ split. r.0.unsplit both_arcs split.0 split.1;
              not_order = λ split. r.0.unsplit arc_forth split.0 split.1;
            };
            order = canon.order;
            pairs = lists_fit cs ps canon fit inner;
          };
          children = by_trees cs r.1;
        }

pub fits_proof : FitsIfDirectedTree
fits_proof arc s t canon = (
  (λ fits. built_tree (directed_kinds_law arc) arcs_told s t fits.0 (of_fit s (IsFitDNode arc s) (λ k cs ps fit. fit.is_module) (IsDirectedNode arc) IsCanonicalDNode (node_built arc s) t canon fits.1)),
  λ is.
      let same : names t ≡ s = tree_names s t is in
      let whole : IsModule (between arc) s (names t) =
      subst (IsModule (between arc) s) (sym same) (whole_module s (head t, Has-along (names t) s same (head t) (head_in IsCanonicalDNode some_child t canon))) in
      (same, to_fit s (IsFitDNode arc s) (λ k cs ps fit. fit.is_module) (IsDirectedNode arc) IsCanonicalDNode (node_fits arc s) t (tree_built s t is) canon whole),
)
