-- Where the kinds of nodes keep their laws, each set of names with a member has exactly one tree of strong modules.
use Rattle.std.proofs.Common.{◌≡◌, ◌≢◌, ℕ, zero, suc, ◌+◌, ◌<◌, List, refl, sym, ◌∙◌, ap, subst, inl, inr, arith}
use Rattle.std.specs.Prelude.{Option, Some, None}
use Rattle.std.specs.FinSet.{contains, empty, len, difference, union}
use Rattle.md_graph.specs.Sets.{NameSet, Has, Lacks, Within, HasSome, only_name}
use Rattle.md_modules.specs.Colours.{AreTold}
use Rattle.md_modules.specs.Modules.{IsStrong, IsMaximalStrong}
use Rattle.std.proofs.lemmas.Bool.{cases_Bool, false_from_ne_true}
use Rattle.md_graph.proofs.SetLemmas.{clash, only_has, of_only, empty_lacks, Has-along, same_members, union_left, union_right, of_union, minus_has, of_minus, of_minus_lacks}
use Rattle.md_graph.proofs.Search.{decide_has_some, decide_same, other_or_alone, len_proper}
use Rattle.md_modules.proofs.Strong.{whole_strong, strong_of_strong, children_meet, child_leaves, strong_descends, larger_than_single}
use Rattle.md_tree.specs.Trees.{PlainTreeOf, leaf, node, PlainTreesOf, no_tree, one_more, names, names_below, node_sets, node_sets_below, EachNode, EachNodeBelow}
use Rattle.md_tree.specs.StrongTrees.{StandBy, IsNodeBy, IsTreeBy, IsTreeOrNone}
use Rattle.md_tree.specs.NodeKinds.{IsLeft, AreKinds}
use Rattle.md_tree.specs.WellFormed.{AreDisjoint}
use Rattle.md_text.proofs.Lists.{In, Later, of_append, in_left, in_right, of_contains, to_contains, to_pairs, later_append}
use Rattle.md_tree.proofs.Nodes.{IsChild, Differ, set_inside, sets_inside, child_inside, child_of_name, child_of_set}
use Rattle.md_tree.proofs.Built.{IsChildSet, IsBuiltBy, children_maximal, tree_names, tree_built}

-- a set without a part of it, and that part
join_rest : (rest c : NameSet) → Within c rest → union c (difference rest c) ≡ rest
join_rest rest c w = same_members (union c (difference rest c)) rest
    (λ x h. elim (of_union c (difference rest c) x h) [ inl i ↦ w x i | inr i ↦ (of_minus rest c x i).0 ])
    (λ x h. elim (cases_Bool (contains c x)) [ inl i ↦ union_left c (difference rest c) x i | inr l ↦ union_right c (difference rest c) x (minus_has rest c x h l) ])

module _ {K P C : Type 0} {e : ℕ → ℕ → C} {HasTheKind : NameSet → K → Type 0} {Before : K → NameSet → NameSet → Type 0} {Lists : K → PlainTreesOf K P → List P → Type 0}
    (kinds : AreKinds e HasTheKind Before Lists) where
  -- a node as its kind has it, whose children are the maximal proper strong modules of its leaf set
  abbrev pub N : K → PlainTreesOf K P → List P → Type 0
  N = IsNodeBy HasTheKind Before Lists

  abbrev pub B : K → PlainTreesOf K P → List P → Type 0
  B = IsBuiltBy N e

  some_name : (t : PlainTreeOf K P) → EachNode B t → HasSome (names t)
  some_name (leaf v) each = (v, only_has v)
  some_name (node k cs ps) each = let two = kinds.two (names_below cs) k each.0.node_of.kind in (two.0, two.2)

  -- a set with a member doesn't stand before one that holds it
  never_before_more : (k : K) (a b : NameSet) → HasSome a → Before k a b → Within a b → ⊥
  never_before_more k a b some before w = let own = kinds.fewer k a b a before w in kinds.not_both k a a some some own own

  -- ---- a tree

  -- the children that are left when one more is taken off
  left_behind : (s rest c : NameSet) (k : K) → IsMaximalStrong e s c → IsLeft e (Before k) s rest → Before k c (difference rest c) → IsLeft e (Before k) s (difference rest c)
  left_behind s rest c k child is before = record {
    inside = λ x h. is.inside x (of_minus rest c x h).0;
    whole = λ d max x hd hx y hy. minus_has rest c y (is.whole d max x hd (of_minus rest c x hx).0 y hy)
        (false_from_ne_true _ (λ h. clash (subst (λ m. Has m x) (children_meet s d c y max child hy h) hd) (of_minus rest c x hx).1));
    behind = λ d max x hd l. elim (of_minus_lacks rest c x l) [
      | inl o ↦ kinds.fewer k d rest (difference rest c) (is.behind d max x hd o) (λ y h. (of_minus rest c y h).0)
      | inr i ↦ subst (λ m. Before k m (difference rest c)) (children_meet s c d x child max i hd) before
    ];
  }

  -- a tree with the leaf set s
  abbrev pub HasTree : NameSet → Type 0
  HasTree s = (t : PlainTreeOf K P) × (names t ≡ s) × EachNode B t

  -- a row of such trees for the children of s that lie in rest
  record IsRow (k : K) (s rest : NameSet) (cs : PlainTreesOf K P) : Type 0 where
    all : names_below cs ≡ rest
    order : StandBy (Before k) cs
    built : EachNodeBelow B cs
    each : (m : NameSet) → IsMaximalStrong e s m → Within m rest → IsChildSet cs m
    alone : (m : NameSet) → IsChildSet cs m → IsMaximalStrong e s m

  module _ (told : AreTold C) where
    module _ (k : K) (s : NameSet) (kind : HasTheKind s k) (tree : (c : NameSet) → IsMaximalStrong e s c → HasTree c) where
      row_none : (rest : NameSet) → (HasSome rest → ⊥) → IsRow k s rest no_tree
      row_none rest none = record {
        all = same_members empty rest (λ x h. clash h (empty_lacks x)) (λ x h. absurd (none (x, h)));
        order = tt;
        built = tt;
        each = λ m max w. absurd (none (max.is_strong.is_module.some.0, w max.is_strong.is_module.some.0 max.is_strong.is_module.some.1));
        alone = λ m c. absurd c.1;
      }

      -- where c is the child that stands before the others, and ts a row of these
      module _ (rest c : NameSet) (max : IsMaximalStrong e s c) (inside : Within c rest) (before : Before k c (difference rest c)) (ts : PlainTreesOf K P)
          (row : IsRow k s (difference rest c) ts) where
        abbrev t : PlainTreeOf K P
        t = (tree c max).0

        t_names : names t ≡ c
        t_names = (tree c max).1

        all_names : union (names t) (names_below ts) ≡ rest
        all_names =
            let p : names t ≡ c = t_names in
            let q : names_below ts ≡ difference rest c = row.all in
            let r : union c (difference rest c) ≡ rest = join_rest rest c inside in
            cc

        each_child : (m : NameSet) → IsMaximalStrong e s m → Within m rest → IsChildSet (one_more t ts) m
        each_child m other w = elim (decide_same m c) [
          | inl same ↦ (t, inl refl, same ∙ sym t_names)
          | inr differs ↦ (
              let r : IsChildSet ts m = row.each m other (λ x h. minus_has rest c x (w x h) (false_from_ne_true _ (λ i. differs (children_meet s m c x other max h i)))) in
              (r.0, inr r.1, r.2))
        ]

        child_alone : (m : NameSet) (d : PlainTreeOf K P) → IsChild (one_more t ts) d → m ≡ names d → IsMaximalStrong e s m
        child_alone m d (inl i) p = subst (IsMaximalStrong e s) (sym (p ∙ ap names i ∙ t_names)) max
        child_alone m d (inr i) p = row.alone m (d, i, p)

        row_more : IsRow k s rest (one_more t ts)
        row_more = record {
          all = all_names;
          order = (subst (Before k (names t)) (sym row.all) (subst (λ w. Before k w (difference rest c)) (sym t_names) before), row.order);
          built = ((tree c max).2, row.built);
          each = each_child;
          alone = λ m i. child_alone m i.0 i.1 i.2;
        }

      row_in : (n : ℕ) (rest : NameSet) → len rest < n → IsLeft e (Before k) s rest → (cs : PlainTreesOf K P) × IsRow k s rest cs
      row_in zero rest b left = absurd (omega arith)
      row_in (suc n) rest b left = elim (decide_has_some rest) [
        | inr none ↦ (no_tree, row_none rest none)
        | inl some ↦
            let c : (c : NameSet) × IsMaximalStrong e s c × Within c rest × Before k c (difference rest c) = kinds.next s rest k kind left some in
            let x : HasSome c.0 = c.1.is_strong.is_module.some in
            let less : len (difference rest c.0) < len rest =
            len_proper (difference rest c.0) rest x.0 (λ y h. (of_minus rest c.0 y h).0) (c.2 x.0 x.1) (false_from_ne_true _ (λ h. clash x.1 (of_minus rest c.0 x.0 h).1)) in
            let r : (ts : PlainTreesOf K P) × IsRow k s (difference rest c.0) ts = row_in n (difference rest c.0) (omega arith) (left_behind s rest c.0 k c.1 left c.3) in
            (one_more (t rest c.0 c.1 c.2 c.3 r.0 r.1) r.0, row_more rest c.0 c.1 c.2 c.3 r.0 r.1)
      ]

      node_tree : HasTree s
      node_tree =
          let whole : IsLeft e (Before k) s s = record {
            inside = λ x h. h;
            whole = λ c max x hc hs. max.is_strong.is_module.inside;
            behind = λ c max x hc l. clash (max.is_strong.is_module.inside x hc) l;
          } in
          let r : (cs : PlainTreesOf K P) × IsRow k s s cs = row_in (len s + 1) s (omega arith) whole in
          let ps : (ps : List P) × Lists k r.0 ps = kinds.some_pairs k r.0 in (
            node k r.0 ps.0,
            r.1.all,
            (
              record {
                node_of = record { kind = subst (λ w. HasTheKind w k) (sym r.1.all) kind; order = r.1.order; pairs = ps.1 };
                children = λ m. (
                  (λ max. r.1.each m (subst (λ w. IsMaximalStrong e w m) r.1.all max) (subst (λ w. IsMaximalStrong e w m) r.1.all max).is_strong.is_module.inside),
                  λ i. subst (λ w. IsMaximalStrong e w m) (sym r.1.all) (r.1.alone m i),
                );
              },
              r.1.built,
            ),
          )

    tree_below : (n : ℕ) (s : NameSet) → len s < n → HasSome s → HasTree s
    tree_below zero s b some = absurd (omega arith)
    tree_below (suc n) s b some = elim (other_or_alone s some.0) [
      | inr alone ↦ (leaf some.0, same_members (only_name some.0) s (λ x h. subst (Has s) (sym (of_only some.0 x h)) some.1) (λ x h. subst (Has (only_name some.0)) (sym (alone x h)) (only_has some.0)), tt)
      | inl other ↦
          let k : (k : K) × HasTheKind s k = kinds.some_kind s (other.0, some.0, other.1, some.1, other.2) in
          node_tree k.0 s k.1 (λ c max.
          let rest : (x : ℕ) × Has s x × Lacks c x = child_leaves s c max in
          let less : len c < len s = len_proper c s rest.0 max.is_strong.is_module.inside rest.1 rest.2 in
          tree_below n c (omega arith) max.is_strong.is_module.some)
    ]

    -- each set with a member has a tree
    pub some_tree : (s : NameSet) → HasSome s → HasTree s
    some_tree s some = tree_below (len s + 1) s (omega arith) some

  -- ---- no second one

  -- the first trees of two rows in order that have the same leaf sets
  first_set : (k : K) (t u c d : PlainTreeOf K P) (ts us : PlainTreesOf K P) → HasSome (names t) → HasSome (names u) → Before k (names t) (names_below ts) → Before k (names u) (names_below us) →
      IsChild (one_more u us) c → names t ≡ names c → IsChild (one_more t ts) d → names u ≡ names d → names t ≡ names u
  first_set k t u c d ts us st su a b (inl i) p j q = p ∙ ap names i
  first_set k t u c d ts us st su a b (inr i) p (inl j) q = sym (q ∙ ap names j)
  first_set k t u c d ts us st su a b (inr i) p (inr j) q =
      absurd (kinds.not_both k (names t) (names u) st su
      (kinds.fewer k (names t) (names_below ts) (names u) a (λ x h. child_inside ts d j x (Has-along (names u) (names d) q x h)))
      (kinds.fewer k (names u) (names_below us) (names t) b (λ x h. child_inside us c i x (Has-along (names t) (names c) p x h))))

  rest_set : (k : K) (t u d : PlainTreeOf K P) (ts us : PlainTreesOf K P) (m : NameSet) → HasSome (names t) → names t ≡ names u → Before k (names t) (names_below ts) →
      IsChildSet ts m → IsChild (one_more u us) d → m ≡ names d → IsChildSet us m
  rest_set k t u d ts us m some same a c (inl i) p =
      absurd (never_before_more k (names t) (names_below ts) some a
      (λ x h. child_inside ts c.0 c.1 x (Has-along m (names c.0) c.2 x (Has-along (names t) m (same ∙ sym (ap names i) ∙ sym p) x h))))
  rest_set k t u d ts us m some same a c (inr i) p = (d, i, p)

  same_node : (k l : K) (cs ds : PlainTreesOf K P) (ps qs : List P) → k ≡ l → cs ≡ ds → Lists k cs ps → Lists l ds qs → node k cs ps ≡ node l ds qs
  same_node k l cs ds ps qs p q a b =
      let r : ps ≡ qs = kinds.one_pairs k cs ps qs a (subst (λ w. Lists k w qs) (sym q) (subst (λ w. Lists w ds qs) (sym p) b)) in
      cc

  mutual
    -- two such trees with one leaf set are equal
    pub same_tree : (t u : PlainTreeOf K P) → EachNode B t → EachNode B u → names t ≡ names u → t ≡ u
    same_tree (leaf v) (leaf w) a b same = ap leaf (of_only w v (Has-along (only_name v) (only_name w) same v (only_has v)))
    same_tree (leaf v) (node k cs ps) a b same = absurd (larger_than_single (names_below cs) v (kinds.two (names_below cs) k b.0.node_of.kind) same)
    same_tree (node k cs ps) (leaf v) a b same = absurd (larger_than_single (names_below cs) v (kinds.two (names_below cs) k a.0.node_of.kind) (sym same))
    same_tree (node k cs ps) (node l ds qs) a b same =
        let kind : k ≡ l = kinds.one_kind (names_below cs) k l a.0.node_of.kind (subst (λ w. HasTheKind w l) (sym same) b.0.node_of.kind) in
        same_node k l cs ds ps qs kind
        (same_trees k cs ds a.1 b.1 a.0.node_of.order (subst (λ j. StandBy (Before j) ds) (sym kind) b.0.node_of.order)
        (λ m i. (b.0.children m).0 (subst (λ w. IsMaximalStrong e w m) same ((a.0.children m).1 i)))
        (λ m i. (a.0.children m).0 (subst (λ w. IsMaximalStrong e w m) (sym same) ((b.0.children m).1 i))))
        a.0.node_of.pairs b.0.node_of.pairs

    same_trees : (k : K) (ts us : PlainTreesOf K P) → EachNodeBelow B ts → EachNodeBelow B us → StandBy (Before k) ts → StandBy (Before k) us →
        ((m : NameSet) → IsChildSet ts m → IsChildSet us m) → ((m : NameSet) → IsChildSet us m → IsChildSet ts m) → ts ≡ us
    same_trees k no_tree no_tree a b o p f g = refl
    same_trees k no_tree (one_more u us) a b o p f g = absurd ((g (names u) (u, inl refl, refl)).1)
    same_trees k (one_more t ts) no_tree a b o p f g = absurd ((f (names t) (t, inl refl, refl)).1)
    same_trees k (one_more t ts) (one_more u us) a b o p f g =
        let st : HasSome (names t) = some_name t a.0 in
        let su : HasSome (names u) = some_name u b.0 in
        let c : IsChildSet (one_more u us) (names t) = f (names t) (t, inl refl, refl) in
        let d : IsChildSet (one_more t ts) (names u) = g (names u) (u, inl refl, refl) in
        let same : names t ≡ names u = first_set k t u c.0 d.0 ts us st su o.0 p.0 c.1 c.2 d.1 d.2 in
        let first : t ≡ u = same_tree t u a.0 b.0 same in
        let others : ts ≡ us =
        same_trees k ts us a.1 b.1 o.1 p.1
        (λ m i. let r : IsChildSet (one_more u us) m = f m (i.0, inr i.1, i.2) in rest_set k t u r.0 ts us m st same o.0 i r.1 r.2)
        (λ m i. let r : IsChildSet (one_more t ts) m = g m (i.0, inr i.1, i.2) in rest_set k u t r.0 us ts m su (sym same) p.0 i r.1 r.2) in
        cc

  -- ---- its sets

  -- children in order have no name in common
  pub apart_of : (k : K) (s : NameSet) (cs : PlainTreesOf K P) → ((c : PlainTreeOf K P) → IsChild cs c → IsMaximalStrong e s (names c)) → StandBy (Before k) cs → AreDisjoint cs
  apart_of k s no_tree max order = tt
  apart_of k s (one_more t ts) max order = ((λ x h. false_from_ne_true _ (λ i. shared x h i)), apart_of k s ts (λ c i. max c (inr i)) order.1) where
    shared : (x : ℕ) → Has (names t) x → Has (names_below ts) x → ⊥
    shared x h i =
        let c : (c : PlainTreeOf K P) × IsChild ts c × Has (names c) x = child_of_name ts x i in
        let same : names t ≡ names c.0 = children_meet s (names t) (names c.0) x (max t (inl refl)) (max c.0 (inr c.1)) h c.2 in
        never_before_more k (names t) (names_below ts) (x, h) order.0 (λ y hy. child_inside ts c.0 c.1 y (Has-along (names t) (names c.0) same y hy))

  whole_at : (k : K) (cs : PlainTreesOf K P) (ps : List P) → B k cs ps → IsStrong e (names_below cs) (names_below cs)
  whole_at k cs ps built = let two = kinds.two (names_below cs) k built.node_of.kind in whole_strong (names_below cs) (two.0, two.2)

  -- the sets of the nodes are strong modules
  mutual
    of_sets : (t : PlainTreeOf K P) → EachNode B t → (m : NameSet) → In (node_sets t) m → IsStrong e (names t) m
    of_sets (leaf v) each m (inl same) = subst (IsStrong e (only_name v)) (sym same) (whole_strong (only_name v) (v, only_has v))
    of_sets (leaf v) each m (inr i) = absurd i
    of_sets (node k cs ps) each m (inl same) = subst (IsStrong e (names_below cs)) (sym same) (whole_at k cs ps each.0)
    of_sets (node k cs ps) each m (inr i) =
        let c : (c : PlainTreeOf K P) × IsChild cs c × IsStrong e (names c) m = of_sets_below cs each.1 m i in
        strong_of_strong (names_below cs) (names c.0) m (children_maximal k cs ps each.0 c.0 c.1).is_strong c.2

    of_sets_below : (cs : PlainTreesOf K P) → EachNodeBelow B cs → (m : NameSet) → In (node_sets_below cs) m → (c : PlainTreeOf K P) × IsChild cs c × IsStrong e (names c) m
    of_sets_below no_tree each m i = absurd i
    of_sets_below (one_more t ts) each m i = elim (of_append (node_sets t) (node_sets_below ts) m i) [
      | inl l ↦ (t, inl refl, of_sets t each.0 m l)
      | inr r ↦ (let c : (c : PlainTreeOf K P) × IsChild ts c × IsStrong e (names c) m = of_sets_below ts each.1 m r in (c.0, inr c.1, c.2))
    ]

  -- and each is there once
  own_not_below : (k : K) (cs : PlainTreesOf K P) (ps : List P) → B k cs ps → (m : NameSet) → In (node_sets_below cs) m → names_below cs ≢ m
  own_not_below k cs ps built m i same =
      let c : (c : PlainTreeOf K P) × IsChild cs c × In (node_sets c) m = child_of_set cs m i in
      let x : (x : ℕ) × Has (names_below cs) x × Lacks (names c.0) x = child_leaves (names_below cs) (names c.0) (children_maximal k cs ps built c.0 c.1) in
      clash (set_inside c.0 m c.2 x.0 (Has-along (names_below cs) m same x.0 x.1)) x.2

  mutual
    once_of : (t : PlainTreeOf K P) → EachNode B t → Later Differ (node_sets t)
    once_of (leaf v) each = ((λ y i. absurd i), tt)
    once_of (node k cs ps) each = (
      own_not_below k cs ps each.0,
      once_below cs each.1 (apart_of k (names_below cs) cs (children_maximal k cs ps each.0) each.0.node_of.order),
    )

    once_below : (cs : PlainTreesOf K P) → EachNodeBelow B cs → AreDisjoint cs → Later Differ (node_sets_below cs)
    once_below no_tree each apart = tt
    once_below (one_more t ts) each apart =
        later_append Differ (node_sets t) (node_sets_below ts) (once_of t each.0) (once_below ts each.1 apart.1)
        (λ m n i j same.
        let x : HasSome m = (of_sets t each.0 m i).is_module.some in
        clash (sets_inside ts n j x.0 (Has-along m n same x.0 x.1)) (apart.0 x.0 (set_inside t m i x.0 x.1)))

  mutual
    nodes_of : (t : PlainTreeOf K P) → EachNode B t → EachNode N t
    nodes_of (leaf v) each = tt
    nodes_of (node k cs ps) each = (each.0.node_of, nodes_below cs each.1)

    nodes_below : (cs : PlainTreesOf K P) → EachNodeBelow B cs → EachNodeBelow N cs
    nodes_below no_tree each = tt
    nodes_below (one_more t ts) each = (nodes_of t each.0, nodes_below ts each.1)

  module _ (told : AreTold C) where
    -- each strong module is the set of a node
    mutual
      to_sets : (t : PlainTreeOf K P) → EachNode B t → (m : NameSet) → IsStrong e (names t) m → In (node_sets t) m
      to_sets (leaf v) each m st =
          let x : HasSome m = st.is_module.some in
          inl (same_members m (only_name v) st.is_module.inside (λ y h. subst (Has m) (of_only v x.0 (st.is_module.inside x.0 x.1) ∙ sym (of_only v y h)) x.1))
      to_sets (node k cs ps) each m st = elim (strong_descends told (names_below cs) m st) [
        | inl same ↦ inl same
        | inr below ↦ inr (let d : IsChildSet cs below.0 = (each.0.children below.0).0 below.1 in to_sets_below cs each.1 m d.0 d.1 (subst (λ w. IsStrong e w m) d.2 below.2))
      ]

      to_sets_below : (cs : PlainTreesOf K P) → EachNodeBelow B cs → (m : NameSet) (d : PlainTreeOf K P) → IsChild cs d → IsStrong e (names d) m → In (node_sets_below cs) m
      to_sets_below no_tree each m d i st = absurd i
      to_sets_below (one_more t ts) each m d (inl f) st = in_left (node_sets t) (node_sets_below ts) m (to_sets t each.0 m (subst (λ w. IsStrong e (names w) m) f st))
      to_sets_below (one_more t ts) each m d (inr i) st = in_right (node_sets t) (node_sets_below ts) m (to_sets_below ts each.1 m d i st)

    pub built_tree : (s : NameSet) (t : PlainTreeOf K P) → names t ≡ s → EachNode B t → IsTreeBy N e s t
    built_tree s t same each = record {
      strong = λ m. (
        (λ st. to_contains (node_sets t) m (to_sets t each m (subst (λ w. IsStrong e w m) (sym same) st))),
        λ c. subst (λ w. IsStrong e w m) same (of_sets t each m (of_contains (node_sets t) m c)),
      );
      once = to_pairs Differ (node_sets t) (once_of t each);
      nodes = nodes_of t each;
    }

    pub one_at_least : (s : NameSet) → (o : Option (PlainTreeOf K P)) × IsTreeOrNone N e s o
    one_at_least s = elim (decide_has_some s) [
      | inl some ↦ (let t : HasTree s = some_tree told s some in (Some t.0, built_tree s t.0 t.1 t.2))
      | inr none ↦ (None, same_members s empty (λ x h. absurd (none (x, h))) (λ x h. clash h (empty_lacks x)))
    ]

  -- ---- exactly one

  no_tree_of_empty : (s : NameSet) (t : PlainTreeOf K P) → s ≡ empty → IsTreeBy N e s t → ⊥
  no_tree_of_empty s t none is =
      let x : HasSome (names t) = some_name t (tree_built s t is) in
      clash (Has-along (names t) empty (tree_names s t is ∙ none) x.0 x.1) (empty_lacks x.0)

  pub one_at_most : (s : NameSet) (o p : Option (PlainTreeOf K P)) → IsTreeOrNone N e s o → IsTreeOrNone N e s p → p ≡ o
  one_at_most s None None a b = refl
  one_at_most s None (Some t) a b = absurd (no_tree_of_empty s t a b)
  one_at_most s (Some t) None a b = absurd (no_tree_of_empty s t b a)
  one_at_most s (Some t) (Some u) a b = ap Some (same_tree u t (tree_built s u b) (tree_built s t a) (tree_names s u b ∙ sym (tree_names s t a)))
