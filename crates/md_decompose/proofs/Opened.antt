-- The sets that wait to be taken apart, and what is laid down so far: whatever trees the sets have, with theirs it is what is laid down of a tree.
use Rattle.std.proofs.Common.{◌≡◌, ℕ, zero, suc, take, drop, ◌+◌, ◌-◌, ◌*◌, ◌<◌, ◌≤◌, ◌⊎◌, Bool, true, false, List, [], ◌∷◌, ◌++◌, length, map, reverse, Contains, Option, Some, None, refl, sym, ◌∙◌, ap, subst, inl, inr, arith, append_assoc, append-nil}
use Rattle.std.proofs.lemmas.List.{map-append, take-append-drop, drop_at}
use Rattle.std.specs.FinSet.{len}
use Rattle.md_graph.specs.NameSet.{IsLeastFrom}
use Rattle.md_graph.specs.Sets.{NameSet, Has, Within, HasSome, HasTwo, only_name}
use Rattle.md_graph.specs.Adjacency.{IsAdjacency}
use Rattle.md_modules.specs.Modules.{IsMaximalStrong}
use Rattle.md_graph.proofs.SetLemmas.{Has-along}
use Rattle.md_modules.proofs.Modules.{undirected}
use Rattle.md_modules.proofs.Splits.{child_unsplit}
use Rattle.md_modules.proofs.Strong.{child_of}
use Rattle.md_graph.proofs.Search.{decide_test, some_len, first_member}
use Rattle.md_tree.specs.declared.Kind.{Kind}
use Rattle.md_tree.specs.declared.Kind.TheVariants.{Parallel, Series, Prime}
use Rattle.md_tree.specs.declared.Pair.{Pair}
use Rattle.md_tree.specs.Trees.{PlainTree, leaf, node, names, row, count, EachNode, EachNodeBelow}
use Rattle.md_tree.specs.StrongTrees.{HasKind, IsBefore, HasPairs, IsTreeOf}
use Rattle.md_text.proofs.Lists.{In, of_append, in_left, in_right, of_contains, to_contains, of_pairs}
use Rattle.md_tree.proofs.Built.{IsBuilt}
use Rattle.md_tree.proofs.Kinded.{built_tree}
use Rattle.md_tree.proofs.GraphKinds.{two_of_kind, kinds_of_graphs}
use Rattle.md_decompose.specs.declared.decomposition.Open.{Open}
use Rattle.md_decompose.specs.declared.decomposition.Open.TheVariants.{One, Several}
use Rattle.md_decompose.specs.declared.decomposition.OpenSet.{OpenSet}
use Rattle.md_tree.specs.Parts.{PlainPart, name, inner}
use Rattle.md_outline.specs.declared.outline.OutlinePart.{OutlinePart}
use Rattle.md_outline.specs.declared.outline.OutlinePart.TheVariants.{Name, Node}
use Rattle.md_outline.proofs.TreeOutlines.{map_reverse}
use Rattle.md_decompose.specs.Children.{FitsBelow, AreChildren}
use Rattle.md_decompose.specs.declared.nested_modules.Nested.{Nested}
use Rattle.md_decompose.specs.Chains.{step_at, AreSteps, IsChainOf, IsChainFront}
use Rattle.md_decompose.specs.Turns.{open_names, IsOpenOf, IsNoVertexAlone, IsUnder, FitsOpen, HasChain, HasNoChain, HasFront, sets_of, AreBare, IsFirstOpen, AreOpen, AreOpenFrom, IsNode, IsPartOf, IsOutlinePartOf, TakesApart, TakesOutlined}
use Rattle.md_decompose.proofs.ChainLemmas.{steps_none, steps_inside}
use Rattle.md_decompose.proofs.Turned.{reverse_more, in_reverse, each_reverse, laid_outlines, outlines_laid}
use Rattle.md_decompose.proofs.Waiting.{no_trees, count_trees, IsLaidBackward, laid_parts, GoesOn, IsPartOver, goes_begin, goes_more, goes_end}
use Rattle.md_decompose.proofs.Joining.{has_pairs, all_names, node_built, weights, weights-append, weights-reverse, not_before, child_maximal, children_fall}

in_sets : {w : ℕ} (os : List (Open w)) (o : Open w) → In os o → In (sets_of os) (open_names o)
in_sets [] o i = absurd i
in_sets (q ∷ os) o (inl same) = inl (ap open_names same)
in_sets (q ∷ os) o (inr i) = inr (in_sets os o i)

-- ---- the sets of a node's children

-- sets without chains behind the others
abbrev pub AreBehind : {w : ℕ} → Kind → List (Open w) → List (Open w) → List NameSet → Type 0
AreBehind {w} k begun now cs = (os : List (Open w)) × (now ≡ begun ++ os) × AreBare k cs os

pub behind_none : {w : ℕ} (k : Kind) (os : List (Open w)) (cs : List NameSet) → cs ≡ [] → AreBehind k os os cs
behind_none k os cs none = ([], sym (append-nil os), (sym none, λ o c. absurd (of_contains [] o c)))

pub behind_more : {w : ℕ} (k : Kind) (begun now now' : List (Open w)) (cs cs' : List NameSet) (c : NameSet) (o : Open w) → AreBehind k begun now cs → open_names o ≡ c → IsUnder (Some k) o →
    HasNoChain o → now' ≡ now ++ o ∷ [] → cs' ≡ cs ++ c ∷ [] → AreBehind k begun now' cs'
behind_more {w} k begun now now' cs cs' c o is same_names below bare is_now is_cs = (
  is.0 ++ o ∷ [],
  is_now ∙ ap (λ os. os ++ o ∷ []) is.1 ∙ append_assoc begun is.0 (o ∷ []),
  (
    map-append open_names is.0 (o ∷ []) ∙ ap (λ ss. ss ++ open_names o ∷ []) is.2.0 ∙ ap (λ s. cs ++ s ∷ []) same_names ∙ sym is_cs,
    λ q known. elim (of_append is.0 (o ∷ []) q (of_contains (is.0 ++ o ∷ []) q known)) [
      | inl i ↦ is.2.1 q (to_contains is.0 q i)
      | inr i ↦ elim i [
        | inl same ↦ subst (λ (p : Open w). IsUnder (Some k) p × HasNoChain p) (sym same) (below, bare)
        | inr none ↦ absurd none
      ]
    ],
  ),
)

-- ---- what is opened

pub opened_names : {w : ℕ} (s : NameSet) (p : Option Kind) (chain : Nested) (o : Open w) → IsOpenOf s p chain o → open_names o ≡ s
opened_names {w} s p chain (One v) is = sym is
opened_names {w} s p chain (Several b) is = ap (λ (x : OpenSet w). x.names) is.0

pub opened_below : {w : ℕ} (s : NameSet) (p : Option Kind) (chain : Nested) (o : Open w) → IsOpenOf s p chain o → IsUnder p o
opened_below {w} s p chain (One v) is = tt
opened_below {w} s p chain (Several b) is =
    let same : s ≡ b.names = sym (ap (λ (x : OpenSet w). x.names) is.0) in
    (ap (λ (x : OpenSet w). x.parent) is.0, subst (λ n. HasSome n → HasTwo n) same is.1)

pub opened_bare : {w : ℕ} (s : NameSet) (p : Option Kind) (chain : Nested) (o : Open w) → chain.taken.items ≡ [] → chain.steps.items ≡ [] → IsOpenOf s p chain o → HasNoChain o
opened_bare {w} s p chain (One v) no_names no_steps is = tt
opened_bare {w} s p chain (Several b) no_names no_steps is = (ap (λ (x : OpenSet w). x.chain.taken.items) is.0 ∙ no_names, ap (λ (x : OpenSet w). x.chain.steps.items) is.0 ∙ no_steps)

pub opened_front : {w : ℕ} (s : NameSet) (p : Option Kind) (chain whole : Nested) (n : ℕ) (o : Open w) → IsChainFront whole n chain → IsOpenOf s p chain o → HasFront whole n o
opened_front {w} s p chain whole n (One v) front is = tt
opened_front {w} s p chain whole n (Several b) front is = subst (IsChainFront whole n) (sym (ap (λ (x : OpenSet w). x.chain) is.0)) front

pub opened_all : {w : ℕ} (k : Kind) (c : NameSet) (cs all : List NameSet) (chain : Nested) (begun begun' now : List (Open w)) (o : Open w) → all ≡ c ∷ cs → IsFirstOpen k c chain o →
    begun' ≡ begun ++ o ∷ [] → AreBehind k begun' now cs → (os : List (Open w)) × (now ≡ begun ++ os) × AreOpen k all chain os
opened_all k c cs all chain begun begun' now o is_all first is_begun is = (
  o ∷ is.0,
  is.1 ∙ ap (λ os. os ++ is.0) is_begun ∙ append_assoc begun (o ∷ []) is.0,
  subst (λ ss. AreOpen k ss chain (o ∷ is.0)) (sym is_all) (o, is.0, refl, first, is.2),
)

-- one more set before those that are opened without chains
pub bare_more : {w : ℕ} (k : Kind) (c : NameSet) (cs : List NameSet) (o : Open w) (os : List (Open w)) → open_names o ≡ c → IsUnder (Some k) o → HasNoChain o → AreBare k cs os →
    AreBare k (c ∷ cs) (o ∷ os)
bare_more {w} k c cs o os own below bare is = (
  ap (λ s. s ∷ sets_of os) own ∙ ap (λ ss. c ∷ ss) is.0,
  λ q known. elim (of_contains (o ∷ os) q known) [
    | inl same ↦ subst (λ (p : Open w). IsUnder (Some k) p × HasNoChain p) (sym same) (below, bare)
    | inr i ↦ is.1 q (to_contains os q i)
  ],
)

-- sets that are taken from the end of a list are opened from the last to the first
pub backward_more : {w : ℕ} (k : Kind) (front front' cs : List NameSet) (c : NameSet) (begun now now' : List (Open w)) (o : Open w) (os : List (Open w)) → front ≡ front' ++ c ∷ [] →
    now ≡ begun ++ reverse os → now' ≡ now ++ o ∷ [] → (front ++ cs ≡ front' ++ c ∷ cs) × (now' ≡ begun ++ reverse (o ∷ os))
backward_more k front front' cs c begun now now' o os is_front is_now is_next = (
  ap (λ ss. ss ++ cs) is_front ∙ append_assoc front' (c ∷ []) cs,
  is_next ∙ ap (λ us. us ++ o ∷ []) is_now ∙ append_assoc begun (reverse os) (o ∷ []) ∙ ap (λ us. begun ++ us) (sym (reverse_more o os)),
)

no_opens : {w : ℕ} (os : List (Open w)) → sets_of os ≡ [] → os ≡ []
no_opens [] none = refl
no_opens (o ∷ os) none = absurd (cc)

-- all sets from the n-th on are opened, where n isn't 0
pub opened_behind : {w : ℕ} (k : Kind) (n : ℕ) (cs left ds : List NameSet) (chain : Nested) (os : List (Open w)) → 0 < n → length left ≡ n → cs ≡ left ++ ds → AreBare k ds os →
    AreOpenFrom k n cs chain os
opened_behind k zero cs left ds chain os some long whole is = absurd (omega arith)
opened_behind k (suc n) cs left ds chain os some long whole is =
    subst (λ ss. AreBare k ss os) (sym (ap (drop (suc n)) whole ∙ drop_at left ds (suc n) long)) is

-- all sets are opened, the first one last
pub opened_whole : {w : ℕ} (k : Kind) (n : ℕ) (cs left ds : List NameSet) (chain : Nested) (begun now now' os : List (Open w)) → n ≡ 0 → length left ≤ 1 → (1 ≤ length left) ⊎ (left ≡ cs) → cs ≡ left ++ ds →
    now ≡ begun ++ reverse os → AreBare k ds os →
    ((c : NameSet) (fs : List NameSet) → left ≡ fs ++ c ∷ [] → (o : Open w) × (now' ≡ now ++ o ∷ []) × IsFirstOpen k c chain o) → (left ≡ [] → now' ≡ now) →
    (us : List (Open w)) × (now' ≡ begun ++ reverse us) × AreOpenFrom k n cs chain us
opened_whole {w} k n cs [] ds chain begun now now' os zero_is few most whole is_now is some none =
    let empty : cs ≡ [] = elim most [ inl less ↦ absurd (omega arith) | inr same ↦ sym same ] in (
      os,
      none refl ∙ is_now,
      subst (λ m. AreOpenFrom k m cs chain os) (sym zero_is) (subst (λ ss. AreOpen k ss chain os) (sym empty) (no_opens os (is.0 ∙ sym whole ∙ empty))),
    )
opened_whole {w} k n cs (c ∷ []) ds chain begun now now' os zero_is few most whole is_now is some none =
    let first = some c [] refl in (
      first.0 ∷ os,
      first.1 ∙ ap (λ us. us ++ first.0 ∷ []) is_now ∙ append_assoc begun (reverse os) (first.0 ∷ []) ∙ ap (λ us. begun ++ us) (sym (reverse_more first.0 os)),
      subst (λ m. AreOpenFrom k m cs chain (first.0 ∷ os)) (sym zero_is) (subst (λ ss. AreOpen k ss chain (first.0 ∷ os)) (sym whole) (first.0, os, refl, first.2, is)),
    )
opened_whole {w} k n cs (c ∷ d ∷ left) ds chain begun now now' os zero_is few most whole is_now is some none = absurd (omega arith)

-- names before the sets that are opened
names_bare : {w : ℕ} (k : Kind) (vs : List ℕ) (cs : List NameSet) (os : List (Open w)) → AreBare k cs os → AreBare k (map only_name vs ++ cs) (map One vs ++ os)
names_bare k [] cs os is = is
names_bare k (v ∷ vs) cs os is = bare_more k (only_name v) (map only_name vs ++ cs) (One v) (map One vs ++ os) refl tt tt (names_bare k vs cs os is)

pub opened_from : {w : ℕ} (k : Kind) (n : ℕ) (cs : List NameSet) (chain : Nested) (vs : List ℕ) (os : List (Open w)) → take n cs ≡ map only_name vs → n ≤ length cs → AreOpenFrom k n cs chain os →
    AreOpen k cs chain (map One vs ++ os)
opened_from k zero cs chain [] os front few is = is
opened_from k zero cs chain (v ∷ vs) os front few is = absurd (cc)
opened_from k (suc n) [] chain vs os front few is = absurd (omega arith)
opened_from k (suc n) (c ∷ cs) chain [] os front few is = absurd (cc)
opened_from k (suc n) (c ∷ cs) chain (v ∷ vs) os front few is =
    let own : c ≡ only_name v = cc in
    let others : take n cs ≡ map only_name vs = cc in (
      One v,
      map One vs ++ os,
      refl,
      record { is = sym own; below = tt; front = tt },
      subst (λ ds. AreBare k ds (map One vs ++ os)) (ap (λ ds. ds ++ drop n cs) (sym others) ∙ take-append-drop n cs) (names_bare k vs (drop n cs) os is),
    )

bare_chain : {w : ℕ} (e : ℕ → ℕ → Bool) (o : Open w) → HasNoChain o → HasChain e o
bare_chain e (One v) bare = tt
bare_chain e (Several b) bare = λ v least. steps_none b.names v b.chain.taken.items b.chain.steps.items bare.0 bare.1

module _ {e : ℕ → ℕ → Bool} where
  -- the first child has the least name
  least_in_first : (s c : NameSet) (cs : List NameSet) → AreChildren e s (c ∷ cs) → HasTwo s → (v : ℕ) → IsLeastFrom c 0 v → IsLeastFrom s 0 v
  least_in_first s c cs are two v least = record {
    member = child.is_strong.is_module.inside v least.member;
    above = least.above;
    first = λ w h l. let a : z.0 ≤ w = z.2 w h in let b : v ≤ z.0 = least.first z.0 inside (omega arith) in omega arith;
  } where
    z : (z : ℕ) × Has s z × ((y : ℕ) → Has s y → z ≤ y)
    z = first_member s two.0 two.2

    child : IsMaximalStrong e s c
    child = (are.exactly c).1 (to_contains (c ∷ cs) c (inl refl))

    inside : Has c z.0
    inside =
        let m : (m : NameSet) × IsMaximalStrong e s m × Has m z.0 = child_of decide_test s z.0 two z.1 in
        elim (of_contains (c ∷ cs) m.0 ((are.exactly m.0).0 m.1)) [
          | inl same ↦ Has-along m.0 c same z.0 m.2
          | inr later ↦
              let b : IsBefore c m.0 = (of_pairs IsBefore (c ∷ cs) are.order).0 m.0 later in
              let p : b.0 < z.0 = b.2 z.0 m.2 in
              let q : z.0 ≤ b.0 = z.2 b.0 (child.is_strong.is_module.inside b.0 b.1) in
              absurd (omega arith)
        ]

  first_chain : {w : ℕ} (s c : NameSet) (cs : List NameSet) (chain : Nested) (o : Open w) → AreChildren e s (c ∷ cs) → HasTwo s → IsChainOf e s chain → open_names o ≡ c → HasFront chain (len c) o → HasChain e o
  first_chain s c cs chain (One v) are two chained is front = tt
  first_chain s c cs chain (Several b) are two chained is front = λ v least.
      let in_c : IsLeastFrom c 0 v = subst (λ n. IsLeastFrom n 0 v) is least in
      let child : IsMaximalStrong e s c = (are.exactly c).1 (to_contains (c ∷ cs) c (inl refl)) in
      subst (λ n. AreSteps e n v b.chain.taken.items b.chain.steps.items) (sym is)
      (steps_inside s c v (len c) chain b.chain (chained v (least_in_first s c cs are two v in_c)) child.is_strong in_c.member front refl)

  -- each child has modules of it
  opened_children : {w : ℕ} (s : NameSet) (k : Kind) (cs : List NameSet) (chain : Nested) (os : List (Open w)) → AreChildren e s cs → HasTwo s → IsChainOf e s chain → AreOpen k cs chain os →
      (sets_of os ≡ cs) × ((o : Open w) → Contains os o → IsUnder (Some k) o × HasChain e o)
  opened_children {w} s k [] chain os are two chained is = (ap sets_of is, λ o c. absurd (of_contains [] o (subst (λ ws. Contains ws o) is c)))
  opened_children {w} s k (c ∷ cs) chain os are two chained is = (
    ap sets_of is.2 ∙ ap (λ n. n ∷ sets_of is.1) is.3.is ∙ ap (λ ss. c ∷ ss) is.4.0,
    λ q known. elim (of_contains (is.0 ∷ is.1) q (subst (λ ws. Contains ws q) is.2 known)) [
      | inl same ↦ subst (λ (p : Open w). IsUnder (Some k) p × HasChain e p) (sym same) (is.3.below, first_chain s c cs chain is.0 are two chained is.3.is is.3.front)
      | inr i ↦ (let bare : IsUnder (Some k) q × HasNoChain q = is.4.1 q (to_contains is.1 q i) in (bare.0, bare_chain e q bare.1))
    ],
  )

  pub opened_node : {w : ℕ} (s : NameSet) (k : Kind) (n : ℕ) (cs : List NameSet) (chain : Nested) (os : List (Open w)) → HasKind e s k → AreChildren e s cs → n ≡ length cs → IsChainOf e s chain →
      AreOpen k cs chain os → IsNode e s k n os × (sets_of os ≡ cs)
  opened_node s k n cs chain os kind are number chained is =
      let opened = opened_children s k cs chain os are (two_of_kind e s k kind) chained is in (
        record {
          kind = kind;
          children = subst (AreChildren e s) (sym opened.0) are;
          number = number ∙ ap length (sym opened.0);
          each = opened.1;
        },
        opened.0,
      )

  pub chain_known : (s : NameSet) (chain : Nested) → HasSome s → IsChainOf e s chain → (k : ℕ) → k < length chain.steps.items → (step_at chain.steps.items k).to ≤ length chain.taken.items
  chain_known s chain some chained k l =
      let z : (z : ℕ) × Has s z × ((y : ℕ) → Has s y → z ≤ y) = first_member s some.0 some.1 in
      ((chained z.0 (record { member = z.1; above = (let same : z.0 ≡ z.0 = refl in omega arith); first = λ w h b. z.2 w h })).each k l).known

-- ---- what waits

-- a set that waits: a part of all the names, whose kind fits that of the node above, with modules of it
pub record IsReady {w : ℕ} (e : ℕ → ℕ → Bool) (all : NameSet) (o : Open w) : Type 0 where
  pub some : HasSome (open_names o)
  pub two : IsNoVertexAlone o
  pub inside : Within (open_names o) all
  pub below : FitsOpen e o
  pub chain : HasChain e o

no_vertex : {w : ℕ} (p : Option Kind) (o : Open w) → IsUnder p o → HasSome (open_names o) → IsNoVertexAlone o
no_vertex p (One v) below some = tt
no_vertex p (Several b) below some = below.1 some

pub record IsOpened {w : ℕ} {X : Type 0} (laid : List PlainTree → List X) (e : ℕ → ℕ → Bool) (all : NameSet) (parts : List X) (os : List (Open w)) : Type 0 where
  pub ready : (o : Open w) → In os o → IsReady e all o
  pub goes_on : GoesOn laid (IsBuilt e) all parts (sets_of os)

-- what is found when a set s is taken apart: its part p, and sets os, which are those of its children
pub record IsDivision {w : ℕ} {X : Type 0} (laid : List PlainTree → List X) (e : ℕ → ℕ → Bool) (s : NameSet) (p : X) (os : List (Open w)) : Type 0 where
  pub falls : weights (sets_of os) < 2 * len s - 1
  pub ready : (q : Open w) → In os q → IsReady e s q
  pub over : IsPartOver laid (IsBuilt e) s p (sets_of os)

module _ {e : ℕ → ℕ → Bool} (adj : IsAdjacency e) where
  child_fits : (s c : NameSet) (k : Kind) → HasKind e s k → IsMaximalStrong e s c → FitsBelow e c (Some k)
  child_fits s c Parallel kind max = λ inner. child_unsplit (undirected adj) decide_test s c kind.0 false kind.1 max inner.0 inner.1
  child_fits s c Series kind max = λ inner. child_unsplit (undirected adj) decide_test s c kind.0 true kind.1 max inner.0 inner.1
  child_fits s c Prime kind max = tt

  fits_open : {w : ℕ} (q : Open w) (k : Kind) → IsUnder (Some k) q → FitsBelow e (open_names q) (Some k) → FitsOpen e q
  fits_open (One v) k below fits = tt
  fits_open (Several b) k below fits = subst (FitsBelow e b.names) (sym below.0) fits

  -- a name alone
  name_falls : {w : ℕ} (s : NameSet) (os : List (Open w)) → HasSome s → os ≡ [] → weights (sets_of os) < 2 * len s - 1
  name_falls s os some none =
      let a : 1 ≤ len s = some_len s some.0 some.1 in
      let b : weights (sets_of os) ≡ 0 = ap (λ ws. weights (sets_of ws)) none in
      omega arith

  -- a node over its children
  module _ {w : ℕ} (s : NameSet) (k : Kind) (n : ℕ) (os : List (Open w)) (is : IsNode e s k n os) where
    node_two : HasTwo s
    node_two = two_of_kind e s k is.kind

    node_falls : weights (sets_of os) < 2 * len s - 1
    node_falls = children_fall s IsBefore not_before (sets_of os) is.children.exactly is.children.order decide_test node_two

    node_ready : (q : Open w) → In os q → IsReady e s q
    node_ready q i =
        let below : IsUnder (Some k) q × HasChain e q = is.each q (to_contains os q i) in
        let max : IsMaximalStrong e s (open_names q) = child_maximal s (sets_of os) is.children.exactly (open_names q) (in_sets os q i) in
        record {
          some = max.is_strong.is_module.some;
          two = no_vertex (Some k) q below.0 max.is_strong.is_module.some;
          inside = max.is_strong.is_module.inside;
          below = fits_open q k below.0 (child_fits s (open_names q) k is.kind max);
          chain = below.1;
        }

    module _ (us : List PlainTree) (same : map names us ≡ sets_of os) (each : EachNodeBelow (IsBuilt e) (row us)) (ps : List Pair) (pairs : HasPairs e k (row us) ps) where
      node_names : names (node k (row us) ps) ≡ s
      node_names = all_names us (sets_of os) same s is.children.exactly decide_test node_two

      node_each : EachNode (IsBuilt e) (node k (row us) ps)
      node_each = (node_built e us (sets_of os) same s is.children node_two k ps is.kind pairs, each)

      node_count : count (row us) ≡ n
      node_count = count_trees us ∙ ap (λ cs. length cs) same ∙ sym is.number

  -- ---- parts, and the children in order

  part_over : {w : ℕ} (s : NameSet) (p : PlainPart) (os : List (Open w)) → IsPartOf e s p os → IsPartOver laid_parts (IsBuilt e) s p (sets_of os)
  part_over s (name v) os part us sets each =
      (leaf v, sym part.0, tt, ap (λ ts. name v ∷ laid_parts ts) (sym (no_trees us (sets ∙ ap sets_of part.1))))
  part_over s (inner k n ps) os part us sets each =
      let pairs : HasPairs e k (row us) ps = has_pairs e us (sets_of os) sets k ps part.1 in (
        node k (row us) ps,
        node_names s k n os part.0 us sets each ps pairs,
        node_each s k n os part.0 us sets each ps pairs,
        ap (λ m. inner k m ps ∷ laid_parts us) (node_count s k n os part.0 us sets each ps pairs),
      )

  pub part_division : {w : ℕ} (s : NameSet) (p : PlainPart) (os : List (Open w)) → HasSome s → IsPartOf e s p os → IsDivision laid_parts e s p os
  part_division s (name v) os some part = record {
    falls = name_falls s os some part.1;
    ready = λ q i. absurd (subst (λ ws. In ws q) part.1 i);
    over = part_over s (name v) os part;
  }
  part_division s (inner k n ps) os some part = record {
    falls = node_falls s k n os part.0;
    ready = node_ready s k n os part.0;
    over = part_over s (inner k n ps) os part;
  }

  -- ---- an outline, and the children from the last to the first

  outline_over : {w : ℕ} (s : NameSet) (p : OutlinePart Kind) (os : List (Open w)) → IsOutlinePartOf e s p os → IsPartOver laid_outlines (IsBuilt e) s p (sets_of os)
  outline_over s (Name v) os part us sets each =
      (leaf v, sym part.0, tt, ap (λ ts. Name v ∷ laid_outlines ts) (sym (no_trees us (sets ∙ ap sets_of part.1))))
  outline_over s (Node k n) os part us sets each =
      let turned : map names (reverse us) ≡ sets_of (reverse os) = map_reverse names us ∙ ap reverse sets ∙ sym (map_reverse open_names os) in
      let built : EachNodeBelow (IsBuilt e) (row (reverse us)) = each_reverse (IsBuilt e) us each in
      let pairs : (ps : List Pair) × HasPairs e k (row (reverse us)) ps = (kinds_of_graphs (undirected adj)).some_pairs k (row (reverse us)) in (
        node k (row (reverse us)) pairs.0,
        node_names s k n (reverse os) part (reverse us) turned built pairs.0 pairs.1,
        node_each s k n (reverse os) part (reverse us) turned built pairs.0 pairs.1,
        append-nil (Node k (count (row (reverse us))) ∷ laid_outlines us)
            ∙ ap (λ m. Node k m ∷ laid_outlines us) (node_count s k n (reverse os) part (reverse us) turned built pairs.0 pairs.1),
      )

  pub outline_division : {w : ℕ} (s : NameSet) (p : OutlinePart Kind) (os : List (Open w)) → HasSome s → IsOutlinePartOf e s p os → IsDivision laid_outlines e s p os
  outline_division s (Name v) os some part = record {
    falls = name_falls s os some part.1;
    ready = λ q i. absurd (subst (λ ws. In ws q) part.1 i);
    over = outline_over s (Name v) os part;
  }
  outline_division s (Node k n) os some part = record {
    falls = (
        let a : weights (sets_of (reverse os)) < 2 * len s - 1 = node_falls s k n (reverse os) part in
        let b : weights (sets_of (reverse os)) ≡ weights (sets_of os) = ap weights (map_reverse open_names os) ∙ weights-reverse (sets_of os) in
        omega arith);
    ready = λ q i. node_ready s k n (reverse os) part q (in_reverse os q i);
    over = outline_over s (Node k n) os part;
  }

  -- ---- the loop

  module _ {X : Type 0} {laid : List PlainTree → List X} (is_laid : IsLaidBackward laid) (all : NameSet) where
    whole_fits : {w : ℕ} (o : Open w) → IsUnder None o → FitsOpen e o
    whole_fits (One v) top = tt
    whole_fits (Several b) top = subst (FitsBelow e b.names) (sym top.0) tt

    whole_ready : {w : ℕ} (o : Open w) → HasSome all → open_names o ≡ all → IsUnder None o → HasNoChain o → IsReady e all o
    whole_ready o some same top bare = record {
      some = subst HasSome (sym same) some;
      two = no_vertex None o top (subst HasSome (sym same) some);
      inside = Has-along (open_names o) all same;
      below = whole_fits o top;
      chain = bare_chain e o bare;
    }

    pub opened_begin : {w : ℕ} (os : List (Open w)) (parts : List X) → HasSome all → (o : Open w) × (os ≡ o ∷ []) × (open_names o ≡ all) × IsUnder None o × HasNoChain o → parts ≡ [] →
        IsOpened laid e all parts os
    opened_begin os parts some whole none = record {
      ready = λ q i. elim (subst (λ ws. In ws q) whole.1 i) [ inl is ↦ subst (IsReady e all) (sym is) (whole_ready whole.0 some whole.2 whole.3 whole.4) | inr j ↦ absurd j ];
      goes_on = subst (λ ps. GoesOn laid (IsBuilt e) all ps (sets_of os)) (sym none)
          (subst (GoesOn laid (IsBuilt e) all []) (ap (λ m. m ∷ []) (sym whole.2) ∙ sym (ap sets_of whole.1)) (goes_begin is_laid (IsBuilt e) all));
    }

    module _ {w : ℕ} (parts : List X) (os waiting : List (Open w)) (o : Open w) (is : IsOpened laid e all parts os) (popped : os ≡ waiting ++ o ∷ []) where
      pub next_ready : IsReady e all o
      next_ready = is.ready o (subst (λ ws. In ws o) (sym popped) (in_right waiting (o ∷ []) o (inl refl)))

      module _ (IsFound : X → List (Open w) → Type 0) (division : (p : X) (added : List (Open w)) → IsFound p added → IsDivision laid e (open_names o) p added)
          (parts' : List X) (os' : List (Open w)) (turn : TakesApart IsFound parts waiting parts' os') where
        found : IsDivision laid e (open_names o) turn.0 turn.1
        found = division turn.0 turn.1 turn.2

        pub turn_falls : weights (sets_of os') < weights (sets_of os)
        turn_falls =
            let a : weights (sets_of os') ≡ weights (sets_of waiting) + weights (sets_of turn.1) =
            ap weights (ap sets_of turn.4 ∙ map-append open_names waiting turn.1) ∙ weights-append (sets_of waiting) (sets_of turn.1) in
            let b : weights (sets_of os) ≡ weights (sets_of waiting) + ((2 * len (open_names o) - 1) + 0) =
            ap weights (ap sets_of popped ∙ map-append open_names waiting (o ∷ [])) ∙ weights-append (sets_of waiting) ((open_names o) ∷ []) in
            let c : weights (sets_of turn.1) < 2 * len (open_names o) - 1 = found.falls in
            omega arith

        child_ready : (q : Open w) → IsReady e (open_names o) q → IsReady e all q
        child_ready q ready = record {
          some = ready.some;
          two = ready.two;
          inside = λ x h. next_ready.inside x (ready.inside x h);
          below = ready.below;
          chain = ready.chain;
        }

        pub opened_more : IsOpened laid e all parts' os'
        opened_more = record {
          ready = λ q i. elim (of_append waiting turn.1 q (subst (λ ws. In ws q) turn.4 i)) [
            | inl a ↦ is.ready q (subst (λ ws. In ws q) (sym popped) (in_left waiting (o ∷ []) q a))
            | inr b ↦ child_ready q (found.ready q b)
          ];
          goes_on = subst (GoesOn laid (IsBuilt e) all parts') (sym (ap sets_of turn.4 ∙ map-append open_names waiting turn.1))
              (subst (λ ps. GoesOn laid (IsBuilt e) all ps (sets_of waiting ++ sets_of turn.1)) (sym turn.3)
              (goes_more is_laid (IsBuilt e) all parts (sets_of waiting) (open_names o)
              (subst (GoesOn laid (IsBuilt e) all parts) (ap sets_of popped ∙ map-append open_names waiting (o ∷ [])) is.goes_on)
              turn.0 (sets_of turn.1) found.over));
        }

    pub opened_end : {w : ℕ} (parts : List X) (os : List (Open w)) → IsOpened laid e all parts os → os ≡ [] → (t : PlainTree) × IsTreeOf e all t × (parts ≡ laid (t ∷ []))
    opened_end parts os is none =
        let b = goes_end is_laid (IsBuilt e) all parts (subst (GoesOn laid (IsBuilt e) all parts) (ap sets_of none) is.goes_on) in
        (b.0, built_tree (kinds_of_graphs (undirected adj)) decide_test all b.0 b.1 b.2, b.3)

  -- ---- names that follow a part of an outline

  -- names that wait, the first one last, are taken apart one after the other
  pub names_more : {w : ℕ} (all : NameSet) (vs : List ℕ) (parts : List (OutlinePart Kind)) (waiting : List (Open w)) →
      IsOpened laid_outlines e all parts (waiting ++ reverse (map One vs)) → IsOpened laid_outlines e all (parts ++ map Name vs) waiting
  names_more all [] parts waiting is =
      subst (λ ps. IsOpened laid_outlines e all ps waiting) (sym (append-nil parts)) (subst (IsOpened laid_outlines e all parts) (append-nil waiting) is)
  names_more {w} all (v ∷ vs) parts waiting is =
      let before : List (Open w) = waiting ++ reverse (map One vs) in
      let popped : waiting ++ reverse (map One (v ∷ vs)) ≡ before ++ One v ∷ [] =
      ap (λ os. waiting ++ os) (reverse_more (One v) (map One vs)) ∙ sym (append_assoc waiting (reverse (map One vs)) (One v ∷ [])) in
      let ready : IsReady e all (One v) = next_ready outlines_laid all parts (waiting ++ reverse (map One (v ∷ vs))) before (One v) is popped in
      let one : IsOpened laid_outlines e all (parts ++ Name v ∷ []) before =
      opened_more outlines_laid all parts (waiting ++ reverse (map One (v ∷ vs))) before (One v) is popped
      (IsOutlinePartOf e (only_name v)) (λ p added. outline_division (only_name v) p added ready.some)
      (parts ++ Name v ∷ []) before (Name v, [], (refl, refl), refl, sym (append-nil before)) in
      subst (λ ps. IsOpened laid_outlines e all ps waiting) (append_assoc parts (Name v ∷ []) (map Name vs)) (names_more all vs (parts ++ Name v ∷ []) waiting one)

  module _ {w : ℕ} (all : NameSet) (parts : List (OutlinePart Kind)) (os waiting : List (Open w)) (o : Open w) (is : IsOpened laid_outlines e all parts os) (popped : os ≡ waiting ++ o ∷ [])
      (some : HasSome (open_names o)) (parts' : List (OutlinePart Kind)) (os' : List (Open w)) (turn : TakesOutlined (IsOutlinePartOf e (open_names o)) parts waiting parts' os') where
    -- the part alone, before the names that follow it
    abbrev one_turn : TakesApart (IsOutlinePartOf e (open_names o)) parts waiting (parts ++ turn.0 ∷ []) (waiting ++ (turn.2 ++ reverse (map One turn.1)))
    one_turn = (turn.0, turn.2 ++ reverse (map One turn.1), turn.3, refl, refl)

    pub outlined_falls : weights (sets_of os') < weights (sets_of os)
    outlined_falls =
        let a : weights (sets_of (waiting ++ (turn.2 ++ reverse (map One turn.1)))) < weights (sets_of os) =
        turn_falls outlines_laid all parts os waiting o is popped (IsOutlinePartOf e (open_names o)) (λ p added. outline_division (open_names o) p added some)
        (parts ++ turn.0 ∷ []) (waiting ++ (turn.2 ++ reverse (map One turn.1))) one_turn in
        let cut : weights (sets_of (waiting ++ (turn.2 ++ reverse (map One turn.1)))) ≡ weights (sets_of (waiting ++ turn.2)) + weights (sets_of (reverse (map One turn.1))) =
        ap weights (ap sets_of (sym (append_assoc waiting turn.2 (reverse (map One turn.1)))) ∙ map-append open_names (waiting ++ turn.2) (reverse (map One turn.1)))
        ∙ weights-append (sets_of (waiting ++ turn.2)) (sets_of (reverse (map One turn.1))) in
        let b : weights (sets_of os') ≡ weights (sets_of (waiting ++ turn.2)) = ap (λ (us : List (Open w)). weights (sets_of us)) turn.5 in
        omega arith

    pub outlined_more : IsOpened laid_outlines e all parts' os'
    outlined_more =
        let whole : IsOpened laid_outlines e all (parts ++ turn.0 ∷ []) (waiting ++ (turn.2 ++ reverse (map One turn.1))) =
        opened_more outlines_laid all parts os waiting o is popped (IsOutlinePartOf e (open_names o)) (λ p added. outline_division (open_names o) p added some)
        (parts ++ turn.0 ∷ []) (waiting ++ (turn.2 ++ reverse (map One turn.1))) one_turn in
        subst (λ ps. IsOpened laid_outlines e all ps os') (sym turn.4)
        (subst (IsOpened laid_outlines e all ((parts ++ turn.0 ∷ []) ++ map Name turn.1)) (sym turn.5)
        (names_more all turn.1 (parts ++ turn.0 ∷ []) (waiting ++ turn.2)
        (subst (IsOpened laid_outlines e all (parts ++ turn.0 ∷ [])) (sym (append_assoc waiting turn.2 (reverse (map One turn.1)))) whole)))
