-- A node over the trees that its children have grown to is a tree of the graph afterwards.
use Rattle.std.proofs.Common.{◌≡◌, ◌↔◌, ℕ, zero, suc, ◌<◌, Bool, true, false, List, [], ◌∷◌, refl, sym, ◌∙◌, ap, subst, inl, inr}
use Rattle.std.specs.Prelude.{⊤}
use Rattle.std.proofs.lemmas.Bool.{cases_Bool, false_from_ne_true, false≢true}
use Rattle.std.proofs.lemmas.List.Sorted.{Contains-permutation, IsPermutation-sym}
use Rattle.std.specs.FinSet.{contains}
use Rattle.std.specs.List.{list_any}
use Rattle.md_graph.specs.Sets.{NameSet, Has, Lacks, HasTwo, only_name}
use Rattle.md_graph.specs.Adjacency.{IsAdjacency}
use Rattle.md_graph.proofs.SetLemmas.{clash, of_only, Has-along, same_members}
use Rattle.md_graph.proofs.Search.{decide_same, decide_test}
use Rattle.md_modules.specs.Modules.{IsMaximalStrong}
use Rattle.md_modules.specs.Kinds.{IsSplit}
use Rattle.md_modules.proofs.Modules.{undirected}
use Rattle.md_modules.proofs.Strong.{child_of, children_meet}
use Rattle.md_modules.proofs.Splits.{child_unsplit}
use Rattle.md_text.proofs.Lists.{In, in_left, in_right, of_append, of_contains, to_contains}
use Rattle.md_tree.specs.declared.Kind.{Kind}
use Rattle.md_tree.specs.declared.Kind.TheVariants.{Parallel, Series, Prime}
use Rattle.md_tree.specs.declared.Pair.{Pair}
use Rattle.md_tree.specs.Trees.{PlainTree, leaf, node, PlainTrees, no_tree, one_more, names, names_below, names_at, row, EachNode, EachNodeBelow}
use Rattle.md_tree.specs.Parts.{listed, below_node}
use Rattle.md_tree.specs.StrongTrees.{HasKind, IsInOrder, IsBefore, AreTreesJoined, ListsJoined, HasPairs, IsTreeOf}
use Rattle.md_tree.specs.WellFormed.{AreDisjoint}
use Rattle.md_tree.proofs.Nodes.{IsChild, child_inside, child_of_name, child_at, at_apart, at_inside, each_child}
use Rattle.md_tree.proofs.Built.{IsBuilt, IsChildSet, children_maximal}
use Rattle.md_tree.proofs.Kinded.{apart_of, built_tree, same_tree}
use Rattle.md_tree.proofs.GraphKinds.{two_of_kind, one_kind, kinds_of_graphs}
use Rattle.md_tree.proofs.Folding.{row_listed}
use Rattle.md_local.specs.Changes.{AgreeOff, MergesIntoParent}
use Rattle.md_local.specs.Growing.{is_merged, in_place_of, all_in_place, AreOrdered}
use Rattle.md_local.proofs.Transfer.{agree_right}
use Rattle.md_local.proofs.Staying.{parent_is, other_stays, child_stays, below_comes, of_children, children_stay, kind_stays}
use Rattle.md_local.proofs.Ordering.{child_of_in, in_of_child, head_least, place_merged, place_kept, none_merged, places_apart, in_order}

-- ---- trees at the places of others

-- at the place of each tree is one whose names are those that `lift` leads to, and each node of which is built by f
abbrev pub AreTreesOver : (ℕ → ℕ → Bool) → (NameSet → NameSet) → PlainTrees → List PlainTree → Type 0
AreTreesOver f lift no_tree [] = ⊤
AreTreesOver f lift no_tree (g ∷ gs) = ⊥
AreTreesOver f lift (one_more c cs) [] = ⊥
AreTreesOver f lift (one_more c cs) (g ∷ gs) = ((names g ≡ lift (names c)) × EachNode (IsBuilt f) g) × AreTreesOver f lift cs gs

-- the same with the names of the tree
abbrev pub AreTrees : (ℕ → ℕ → Bool) → PlainTrees → List PlainTree → Type 0
AreTrees f = AreTreesOver f (λ m. m)

module _ (f : ℕ → ℕ → Bool) (lift : NameSet → NameSet) where
  pub tree_of_child : (cs : PlainTrees) (gs : List PlainTree) → AreTreesOver f lift cs gs → (c : PlainTree) → IsChild cs c → (g : PlainTree) × In gs g × (names g ≡ lift (names c)) × EachNode (IsBuilt f) g
  tree_of_child no_tree gs are c i = absurd i
  tree_of_child (one_more t cs) [] are c i = absurd are
  tree_of_child (one_more t cs) (g ∷ gs) are c (inl e) = (g, inl refl, are.0.0 ∙ ap (λ d. lift (names d)) (sym e), are.0.1)
  tree_of_child (one_more t cs) (g ∷ gs) are c (inr i) = let r = tree_of_child cs gs are.1 c i in (r.0, inr r.1, r.2, r.3)

  pub child_of_tree : (cs : PlainTrees) (gs : List PlainTree) → AreTreesOver f lift cs gs → (g : PlainTree) → In gs g → (c : PlainTree) × IsChild cs c × (names g ≡ lift (names c)) × EachNode (IsBuilt f) g
  child_of_tree no_tree [] are g i = absurd i
  child_of_tree no_tree (x ∷ gs) are g i = absurd are
  child_of_tree (one_more t cs) [] are g i = absurd are
  child_of_tree (one_more t cs) (x ∷ gs) are g (inl e) = (t, inl refl, ap names e ∙ are.0.0, subst (EachNode (IsBuilt f)) (sym e) are.0.1)
  child_of_tree (one_more t cs) (x ∷ gs) are g (inr i) = let r = child_of_tree cs gs are.1 g i in (r.0, inr r.1, r.2, r.3)

module _ (f : ℕ → ℕ → Bool) where
  same_below : (cs : PlainTrees) (gs : List PlainTree) → AreTrees f cs gs → names_below (row gs) ≡ names_below cs
  same_below no_tree [] are = refl
  same_below no_tree (g ∷ gs) are = absurd are
  same_below (one_more t cs) [] are = absurd are
  same_below (one_more t cs) (g ∷ gs) are = let a = are.0.0 in let b = same_below cs gs are.1 in cc

  same_at : (cs : PlainTrees) (gs : List PlainTree) → AreTrees f cs gs → (i : ℕ) → names_at (row gs) i ≡ names_at cs i
  same_at no_tree [] are i = refl
  same_at no_tree (g ∷ gs) are i = absurd are
  same_at (one_more t cs) [] are i = absurd are
  same_at (one_more t cs) (g ∷ gs) are zero = are.0.0
  same_at (one_more t cs) (g ∷ gs) are (suc i) = same_at cs gs are.1 i

  same_order : (cs : PlainTrees) (gs : List PlainTree) → AreTrees f cs gs → IsInOrder cs → IsInOrder (row gs)
  same_order no_tree [] are order = tt
  same_order no_tree (g ∷ gs) are order = absurd are
  same_order (one_more t cs) [] are order = absurd are
  same_order (one_more t cs) (g ∷ gs) are order = (
    subst (λ a. IsBefore a (names_below (row gs))) (sym are.0.0) (subst (IsBefore (names t)) (sym (same_below cs gs are.1)) order.0),
    same_order cs gs are.1 order.1,
  )

  same_apart : (cs : PlainTrees) (gs : List PlainTree) → AreTrees f cs gs → AreDisjoint cs → AreDisjoint (row gs)
  same_apart no_tree [] are apart = tt
  same_apart no_tree (g ∷ gs) are apart = absurd are
  same_apart (one_more t cs) [] are apart = absurd are
  same_apart (one_more t cs) (g ∷ gs) are apart = (
    λ x h. subst (λ a. Lacks a x) (sym (same_below cs gs are.1)) (apart.0 x (Has-along (names g) (names t) are.0.0 x h)),
    same_apart cs gs are.1 apart.1,
  )

-- ---- what stands in their place

in_all : (k : Kind) (gs : List PlainTree) (g t : PlainTree) → In gs g → In (in_place_of k g) t → In (all_in_place k gs) t
in_all k [] g t i j = absurd i
in_all k (x ∷ gs) g t (inl e) j = in_left (in_place_of k x) (all_in_place k gs) t (subst (λ y. In (in_place_of k y) t) e j)
in_all k (x ∷ gs) g t (inr i) j = in_right (in_place_of k x) (all_in_place k gs) t (in_all k gs g t i j)

of_all : (k : Kind) (gs : List PlainTree) (t : PlainTree) → In (all_in_place k gs) t → (g : PlainTree) × In gs g × In (in_place_of k g) t
of_all k [] t i = absurd i
of_all k (x ∷ gs) t i = elim (of_append (in_place_of k x) (all_in_place k gs) t i) [
  | inl j ↦ (x, inl refl, j)
  | inr j ↦ let r = of_all k gs t j in (r.0, inr r.1, r.2)
]

module _ (k : Kind) (gs us : List PlainTree) (ordered : AreOrdered k gs us) where
  pub in_us : (g t : PlainTree) → In gs g → In (in_place_of k g) t → In us t
  in_us g t i j = of_contains us t (Contains-permutation (all_in_place k gs) us t ordered.moved (to_contains (all_in_place k gs) t (in_all k gs g t i j)))

  pub of_us : (t : PlainTree) → In us t → (g : PlainTree) × In gs g × In (in_place_of k g) t
  of_us t i =
      of_all k gs t
      (of_contains (all_in_place k gs) t (Contains-permutation us (all_in_place k gs) t (IsPermutation-sym (all_in_place k gs) us ordered.moved) (to_contains us t i)))

pub prime_keeps : (gs : List PlainTree) → list_any (is_merged Prime) gs ≡ false
prime_keeps [] = refl
prime_keeps (leaf v ∷ gs) = prime_keeps gs
prime_keeps (node k cs ps ∷ gs) = prime_keeps gs

pub each_row : (N : Kind → PlainTrees → List Pair → Type 0) (ts : List PlainTree) → ((t : PlainTree) → In ts t → EachNode N t) → EachNodeBelow N (row ts)
each_row N [] all = tt
each_row N (t ∷ ts) all = (all t (inl refl), each_row N ts (λ u i. all u (inr i)))

pub only_in : (g t : PlainTree) → In (g ∷ []) t → t ≡ g
only_in g t (inl e) = e
only_in g t (inr i) = absurd i

pub each_below : (N : Kind → PlainTrees → List Pair → Type 0) (g t : PlainTree) → EachNode N g → In (below_node g) t → EachNode N t
each_below N (leaf v) t each i = absurd i
each_below N (node k cs ps) t each i = each_child N cs t each.1 (subst (λ ts. IsChild ts t) (row_listed cs) (child_of_in (listed cs) t i))

-- the children of a node that is built have no name in common
pub apart_below : {f : ℕ → ℕ → Bool} → IsAdjacency f → (t : PlainTree) → EachNode (IsBuilt f) t → AreDisjoint (row (below_node t))
apart_below af (leaf v) each = tt
apart_below af (node k cs ps) each =
    subst AreDisjoint (sym (row_listed cs)) (apart_of (kinds_of_graphs (undirected af)) k (names_below cs) cs (children_maximal k cs ps each.0) each.0.node_of.order)

-- ---- kinds and splits

-- of the two kinds that split: whether every pair across is an edge
abbrev pub colour : Kind → Bool
colour Parallel = false
colour Series = true
colour Prime = false

abbrev pub kind_of : Bool → Kind
kind_of false = Parallel
kind_of true = Series

pub split_kind : (e : ℕ → ℕ → Bool) (s a : NameSet) (v : Bool) → IsSplit e s a v → HasKind e s (kind_of v)
split_kind e s a false split = (a, split)
split_kind e s a true split = (a, split)

split_over : (e : ℕ → ℕ → Bool) (s : NameSet) (k : Kind) (t : PlainTree) → is_merged k t ≡ true → HasKind e s k → (a : NameSet) × IsSplit e s a (colour k)
split_over e s Parallel t m h = h
split_over e s Series t m h = h
split_over e s Prime (leaf v) m h = absurd (false≢true m)
split_over e s Prime (node l cs ps) m h = absurd (false≢true m)

pub split_below : (f : ℕ → ℕ → Bool) (k : Kind) (t : PlainTree) → EachNode (IsBuilt f) t → is_merged k t ≡ true → (b : NameSet) × IsSplit f (names t) b (colour k)
split_below f k (leaf v) each m = absurd (false≢true m)
split_below f Parallel (node Parallel cs ps) each m = each.0.node_of.kind
split_below f Parallel (node Series cs ps) each m = absurd (false≢true m)
split_below f Parallel (node Prime cs ps) each m = absurd (false≢true m)
split_below f Series (node Parallel cs ps) each m = absurd (false≢true m)
split_below f Series (node Series cs ps) each m = each.0.node_of.kind
split_below f Series (node Prime cs ps) each m = absurd (false≢true m)
split_below f Prime (node l cs ps) each m = absurd (false≢true m)

one_split : (k l : Kind) (v : Bool) (cs : PlainTrees) (ps : List Pair) → k ≡ kind_of v → l ≡ kind_of v → is_merged k (node l cs ps) ≡ true
one_split k l false cs ps a b = ap (λ i. is_merged i (node l cs ps)) a ∙ ap (λ i. is_merged Parallel (node i cs ps)) b
one_split k l true cs ps a b = ap (λ i. is_merged i (node l cs ps)) a ∙ ap (λ i. is_merged Series (node i cs ps)) b

pub merged_if : {f : ℕ → ℕ → Bool} → IsAdjacency f → (k : Kind) (t : PlainTree) (v : Bool) → EachNode (IsBuilt f) t → k ≡ kind_of v → HasKind f (names t) (kind_of v) → is_merged k t ≡ true
merged_if {f = f} af k (leaf x) v each same h =
    let two : HasTwo (only_name x) = two_of_kind f (only_name x) (kind_of v) h in
    absurd (two.4 (of_only x two.0 two.2 ∙ sym (of_only x two.1 two.3)))
merged_if af k (node l cs ps) v each same h = one_split k l v cs ps same (one_kind (undirected af) (names_below cs) l (kind_of v) each.0.node_of.kind h)

pub merged_children : (f : ℕ → ℕ → Bool) (k : Kind) (t : PlainTree) → EachNode (IsBuilt f) t → is_merged k t ≡ true → (m : NameSet) → IsMaximalStrong f (names t) m ↔ IsChildSet (row (below_node t)) m
merged_children f k (leaf v) each m n = absurd (false≢true m)
merged_children f k (node l cs ps) each m n = subst (λ ts. IsMaximalStrong f (names_below cs) n ↔ IsChildSet ts n) (sym (row_listed cs)) (each.0.children n)

-- ---- the node

module _ {e f : ℕ → ℕ → Bool} (ae : IsAdjacency e) (af : IsAdjacency f) (k : Kind) (cs : PlainTrees) (ps : List Pair) (each : EachNode (IsBuilt e) (node k cs ps))
    (gs : List PlainTree) (trees : AreTrees f cs gs) (d : PlainTree) (place : IsChild cs d) (agree : AgreeOff e f (names_below cs) (names d)) where
  maximal : (c : PlainTree) → IsChild cs c → IsMaximalStrong e (names_below cs) (names c)
  maximal = children_maximal k cs ps each.0

  apart : AreDisjoint cs
  apart = apart_of (kinds_of_graphs (undirected ae)) k (names_below cs) cs maximal each.0.node_of.order

  of_d : (g : PlainTree) × In gs g × (names g ≡ names d) × EachNode (IsBuilt f) g
  of_d = tree_of_child f (λ m. m) cs gs trees d place

  -- what grows where the names of d are is what d has grown to
  is_of_d : (g : PlainTree) → EachNode (IsBuilt f) g → names g ≡ names d → g ≡ of_d.0
  is_of_d g built same = same_tree (kinds_of_graphs (undirected af)) g of_d.0 built of_d.3 (same ∙ sym of_d.2)

  -- only what d has grown to is merged
  merged_is_d : (c g : PlainTree) → IsChild cs c → names g ≡ names c → EachNode (IsBuilt f) g → is_merged k g ≡ true → names c ≡ names d
  merged_is_d c g i same built m = elim (decide_same (names c) (names d)) [
    | inl equal ↦ equal
    | inr differs ↦
        let off : (x : ℕ) → Has (names c) x → Lacks (names d) x =
        λ x h. false_from_ne_true _ (λ l. differs (children_meet (names_below cs) (names c) (names d) x (maximal c i) (maximal d place) h l)) in
        let whole : (a : NameSet) × IsSplit e (names_below cs) a (colour k) = split_over e (names_below cs) k g m each.0.node_of.kind in
        let part : (b : NameSet) × IsSplit f (names c) b (colour k) = subst (λ n. (b : NameSet) × IsSplit f n b (colour k)) same (split_below f k g built m) in
        let before : IsSplit e (names c) part.0 (colour k) = record {
          some = part.1.some;
          inside = part.1.inside;
          rest = part.1.rest;
          across = λ p q hp hq l.
              let hc : Has (names c) p = part.1.inside p hp in
              agree p q (child_inside cs c i p hc) (child_inside cs c i q hq) (off p hc) ∙ part.1.across p q hp hq l;
        } in
        absurd (child_unsplit (undirected ae) decide_test (names_below cs) (names c) whole.0 (colour k) whole.1 (maximal c i) part.0 before)
  ]

  -- and it is merged where the law of local changes says so
  unmerged : is_merged k of_d.0 ≡ false → MergesIntoParent e f (names_below cs) (names d) → ⊥
  unmerged fails (q, v, a, b, parent, split, part) =
      let whole : IsSplit e (names_below cs) a v = subst (λ t. IsSplit e t a v) (parent_is (names_below cs) (names d) q (maximal d place) parent) split in
      let kind : k ≡ kind_of v = one_kind (undirected ae) (names_below cs) k (kind_of v) each.0.node_of.kind (split_kind e (names_below cs) a v whole) in
      let below : HasKind f (names of_d.0) (kind_of v) = subst (λ n. HasKind f n (kind_of v)) (sym of_d.2) (split_kind f (names d) b v part) in
      clash (merged_if af k of_d.0 v of_d.3 kind below) fails

  -- a child that is kept stays a child
  kept_child : (c g : PlainTree) → IsChild cs c → names g ≡ names c → EachNode (IsBuilt f) g → is_merged k g ≡ false → IsMaximalStrong f (names_below cs) (names c)
  kept_child c g i same built fails = elim (decide_same (names c) (names d)) [
    | inl equal ↦
        subst (IsMaximalStrong f (names_below cs)) (sym equal)
        (child_stays (undirected ae) (undirected af) decide_test (names_below cs) (names d) agree (maximal d place)
        (unmerged (subst (λ t. is_merged k t ≡ false) (is_of_d g built (same ∙ equal)) fails)))
    | inr differs ↦ other_stays (undirected ae) (undirected af) decide_test (names_below cs) (names d) agree (maximal d place) (names c) (maximal c i) differs
  ]

  module _ (us : List PlainTree) (ordered : AreOrdered k gs us) where
    -- the set of a child that is kept is that of one of the trees
    kept_set : (m : NameSet) (c : PlainTree) → IsChild cs c → m ≡ names c → ((g : PlainTree) → EachNode (IsBuilt f) g → names g ≡ names c → is_merged k g ≡ false) → IsChildSet (row us) m
    kept_set m c i is kept =
        let g : (g : PlainTree) × In gs g × (names g ≡ names c) × EachNode (IsBuilt f) g = tree_of_child f (λ m. m) cs gs trees c i in
        let own : In (in_place_of k g.0) g.0 = subst (λ l. In l g.0) (sym (place_kept k g.0 (kept g.0 g.3 g.2))) (inl refl) in
        (g.0, child_of_in us g.0 (in_us k gs us ordered g.0 g.0 g.1 own), is ∙ sym g.2)

    -- the children afterwards are the trees
    to_us : (m : NameSet) → IsMaximalStrong f (names_below cs) m → IsChildSet (row us) m
    to_us m max = elim (cases_Bool (is_merged k of_d.0)) [
      | inl holds ↦
          let whole : (a : NameSet) × IsSplit e (names_below cs) a (colour k) = split_over e (names_below cs) k of_d.0 holds each.0.node_of.kind in
          let part : (b : NameSet) × IsSplit f (names d) b (colour k) = subst (λ n. (b : NameSet) × IsSplit f n b (colour k)) of_d.2 (split_below f k of_d.0 of_d.3 holds) in
          elim (of_children (undirected ae) (undirected af) decide_test (names_below cs) (names d) agree (maximal d place) (colour k) whole.0 part.0 whole.1 part.1 m max) [
            | inl before ↦
                let c : IsChildSet cs m = (each.0.children m).0 before.0 in
                kept_set m c.0 c.1 c.2 (λ g built same. false_from_ne_true _ (λ holds. before.1 (c.2 ∙ merged_is_d c.0 g c.1 same built holds)))
            | inr below ↦
                let c : IsChildSet (row (below_node of_d.0)) m = (merged_children f k of_d.0 of_d.3 holds m).0 (subst (λ n. IsMaximalStrong f n m) (sym of_d.2) below) in
                let i : In (in_place_of k of_d.0) c.0 = subst (λ l. In l c.0) (sym (place_merged k of_d.0 holds)) (in_of_child (below_node of_d.0) c.0 c.1) in
                (c.0, child_of_in us c.0 (in_us k gs us ordered of_d.0 c.0 of_d.1 i), c.2)
          ]
      | inr fails ↦
          let before : IsMaximalStrong e (names_below cs) m =
          children_stay (undirected ae) (undirected af) decide_test (names_below cs) (names d) agree (maximal d place) (unmerged fails) m max in
          let c : IsChildSet cs m = (each.0.children m).0 before in
          kept_set m c.0 c.1 c.2
          (λ g built same. false_from_ne_true _ (λ holds.
          clash (subst (λ t. is_merged k t ≡ true) (is_of_d g built (same ∙ merged_is_d c.0 g c.1 same built holds)) holds) fails))
    ]

    of_us_max : (t : PlainTree) → In us t → IsMaximalStrong f (names_below cs) (names t) × EachNode (IsBuilt f) t
    of_us_max t i =
        let g : (g : PlainTree) × In gs g × In (in_place_of k g) t = of_us k gs us ordered t i in
        let c : (c : PlainTree) × IsChild cs c × (names g.0 ≡ names c) × EachNode (IsBuilt f) g.0 = child_of_tree f (λ m. m) cs gs trees g.0 g.1 in
        elim (cases_Bool (is_merged k g.0)) [
          | inl holds ↦
              let same : names g.0 ≡ names d = c.2 ∙ merged_is_d c.0 g.0 c.1 c.2 c.3 holds in
              let whole : (a : NameSet) × IsSplit e (names_below cs) a (colour k) = split_over e (names_below cs) k g.0 holds each.0.node_of.kind in
              let part : (b : NameSet) × IsSplit f (names d) b (colour k) = subst (λ n. (b : NameSet) × IsSplit f n b (colour k)) same (split_below f k g.0 c.3 holds) in
              let below : In (below_node g.0) t = subst (λ l. In l t) (place_merged k g.0 holds) g.2 in
              let max : IsMaximalStrong f (names g.0) (names t) =
              (merged_children f k g.0 c.3 holds (names t)).1 (t, child_of_in (below_node g.0) t below, refl) in (
                below_comes (undirected ae) (undirected af) decide_test (names_below cs) (names d) agree (maximal d place) (colour k) whole.0 part.0 whole.1 part.1
                    (names t) (subst (λ n. IsMaximalStrong f n (names t)) same max),
                each_below (IsBuilt f) g.0 t c.3 below,
              )
          | inr fails ↦
              let own : t ≡ g.0 = only_in g.0 t (subst (λ l. In l t) (place_kept k g.0 fails) g.2) in (
                subst (IsMaximalStrong f (names_below cs)) (sym (ap names own ∙ c.2)) (kept_child c.0 g.0 c.1 c.2 c.3 fails),
                subst (EachNode (IsBuilt f)) (sym own) c.3,
              )
        ]

    same_names : names_below (row us) ≡ names_below cs
    same_names =
        same_members (names_below (row us)) (names_below cs)
        (λ x h.
        let c : (c : PlainTree) × IsChild (row us) c × Has (names c) x = child_of_name (row us) x h in
        (of_us_max c.0 (in_of_child us c.0 c.1)).0.is_strong.is_module.inside x c.2)
        (λ x h.
        let m : (m : NameSet) × IsMaximalStrong f (names_below cs) m × Has m x = child_of decide_test (names_below cs) x (two_of_kind e (names_below cs) k each.0.node_of.kind) h in
        let c : IsChildSet (row us) m.0 = to_us m.0 m.1 in
        child_inside (row us) c.0 c.1 x (Has-along m.0 (names c.0) c.2 x m.2))

    apart_us : AreDisjoint (row us)
    apart_us =
        places_apart k gs us (same_apart f cs gs trees apart)
        (λ g i. apart_below af g (child_of_tree f (λ m. m) cs gs trees g i).3) ordered.moved

    in_order_us : IsInOrder (row us)
    in_order_us = elim (cases_Bool (list_any (is_merged k) gs)) [
      | inl holds ↦ in_order us (ordered.rising holds) apart_us (λ t i. head_least f t (of_us_max t i).1)
      | inr fails ↦ subst (λ l. IsInOrder (row l)) (sym (ordered.kept fails ∙ none_merged k gs fails)) (same_order f cs gs trees each.0.node_of.order)
    ]

    -- ---- the pairs of a prime node

    joined_alike : (i j a b : ℕ) → i < j → Has (names_at cs i) a → Has (names_at cs j) b → e a b ≡ f a b
    joined_alike i j a b less ha hb = elim (cases_Bool (contains (names d) a)) [
      | inr off ↦ agree a b (at_inside cs i a ha) (at_inside cs j b hb) off
      | inl on ↦
          agree_right (undirected ae) (undirected af) (names_below cs) (names d) agree a b (at_inside cs i a ha) (at_inside cs j b hb)
          (false_from_ne_true _ (λ h.
          let c : (c : PlainTree) × IsChild cs c × (names_at cs i ≡ names c) = child_at cs i a ha in
          let g : (c : PlainTree) × IsChild cs c × (names_at cs j ≡ names c) = child_at cs j b hb in
          let p : names c.0 ≡ names d =
          children_meet (names_below cs) (names c.0) (names d) a (maximal c.0 c.1) (maximal d place) (Has-along (names_at cs i) (names c.0) c.2 a ha) on in
          let q : names g.0 ≡ names d =
          children_meet (names_below cs) (names g.0) (names d) b (maximal g.0 g.1) (maximal d place) (Has-along (names_at cs j) (names g.0) g.2 b hb) h in
          clash ha (subst (λ m. Lacks m a) (g.2 ∙ q ∙ sym p ∙ sym c.2)
          (at_apart cs apart i j less (names_at cs i) (names_at cs j) refl refl a ha))))
    ]

    joined_to : (i j : ℕ) → AreTreesJoined e cs i j → AreTreesJoined f (row gs) i j
    joined_to i j is = record {
      ordered = is.ordered;
      edge = (
        is.edge.0,
        is.edge.1,
        Has-along (names_at cs i) (names_at (row gs) i) (sym (same_at f cs gs trees i)) is.edge.0 is.edge.2,
        Has-along (names_at cs j) (names_at (row gs) j) (sym (same_at f cs gs trees j)) is.edge.1 is.edge.3,
        sym (joined_alike i j is.edge.0 is.edge.1 is.ordered is.edge.2 is.edge.3) ∙ is.edge.4,
      );
    }

    joined_from : (i j : ℕ) → AreTreesJoined f (row gs) i j → AreTreesJoined e cs i j
    joined_from i j is =
        let ha : Has (names_at cs i) is.edge.0 = Has-along (names_at (row gs) i) (names_at cs i) (same_at f cs gs trees i) is.edge.0 is.edge.2 in
        let hb : Has (names_at cs j) is.edge.1 = Has-along (names_at (row gs) j) (names_at cs j) (same_at f cs gs trees j) is.edge.1 is.edge.3 in
        record {
          ordered = is.ordered;
          edge = (is.edge.0, is.edge.1, ha, hb, joined_alike i j is.edge.0 is.edge.1 is.ordered ha hb ∙ is.edge.4);
        }

    pairs_us : (l : Kind) → k ≡ l → HasPairs e l cs ps → HasPairs f l (row us) ps
    pairs_us Parallel same has = has
    pairs_us Series same has = has
    pairs_us Prime same has =
        subst (λ l. ListsJoined f (row l) ps) (sym (ordered.kept none ∙ none_merged k gs none))
        (record {
          ascending = has.ascending;
          exactly = λ p. (
            (λ i. joined_to p.low p.high ((has.exactly p).0 i)),
            λ is. (has.exactly p).1 (joined_from p.low p.high is),
          );
        })
      where
        none : list_any (is_merged k) gs ≡ false
        none = subst (λ l. list_any (is_merged l) gs ≡ false) (sym same) (prime_keeps gs)

    pub joined_tree : IsTreeOf f (names_below cs) (node k (row us) ps)
    joined_tree =
        built_tree (kinds_of_graphs (undirected af)) decide_test (names_below cs) (node k (row us) ps) same_names (
          record {
            node_of = record {
              kind = subst (λ n. HasKind f n k) (sym same_names) (kind_stays ae af (names_below cs) (names d) agree (maximal d place) k each.0.node_of.kind);
              order = in_order_us;
              pairs = pairs_us k refl each.0.node_of.pairs;
            };
            children = λ m. (
              (λ max. to_us m (subst (λ n. IsMaximalStrong f n m) same_names max)),
              λ c. subst (λ n. IsMaximalStrong f n m) (sym same_names) (subst (IsMaximalStrong f (names_below cs)) (sym c.2) (of_us_max c.0 (in_of_child us c.0 c.1)).0),
            );
          },
          each_row (IsBuilt f) us (λ t i. (of_us_max t i).1),
        )
