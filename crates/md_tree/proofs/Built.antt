-- A tree is the tree of strong modules exactly where the children of each node are the maximal proper strong modules.
use Rattle.std.proofs.Common.{◌≡◌, ◌≢◌, ℕ, Bool, ◌↔◌, refl, sym, subst, inl, inr}
use Rattle.std.specs.Prelude.{List}
use Rattle.md_graph.specs.Sets.{NameSet, Has, Within, HasSome, only_name}
use Rattle.md_modules.specs.Modules.{IsStrong, IsMaximalStrong}
use Rattle.md_graph.proofs.SetLemmas.{Has-along, same_members}
use Rattle.md_modules.proofs.Strong.{whole_strong, strong_inside, strong_of_strong}
use Rattle.md_tree.specs.declared.Kind.{Kind}
use Rattle.md_tree.specs.declared.Pair.{Pair}
use Rattle.md_tree.specs.Trees.{PlainTreeOf, leaf, node, PlainTreesOf, PlainTrees, no_tree, one_more, names, names_below, node_sets, EachNode, EachNodeBelow}
use Rattle.md_tree.specs.StrongTrees.{IsNodeOf, IsTreeBy}
use Rattle.md_text.proofs.Lists.{In, Later, of_contains, to_contains, of_pairs}
use Rattle.md_tree.proofs.Nodes.{IsChild, Differ, own_set, set_inside, single_in, child_inside, child_set_in, child_of_set, child_once, one_child}

-- m is the leaf set of one of the trees
abbrev pub IsChildSet : {K P : Type 0} → PlainTreesOf K P → NameSet → Type 0
IsChildSet cs m = (c : PlainTreeOf _ _) × IsChild cs c × (m ≡ names c)

-- the sets of t are the strong modules of its leaf set, each once
pub record IsFitting {K P C : Type 0} (e : ℕ → ℕ → C) (t : PlainTreeOf K P) : Type 0 where
  pub strong : (m : NameSet) → IsStrong e (names t) m ↔ In (node_sets t) m
  pub once : Later Differ (node_sets t)

-- the children of a node are the maximal proper strong modules of its leaf set
abbrev pub HasChildren : {K P C : Type 0} → (ℕ → ℕ → C) → PlainTreesOf K P → Type 0
HasChildren e cs = (m : NameSet) → IsMaximalStrong e (names_below cs) m ↔ IsChildSet cs m

pub record IsBuiltBy {K P C : Type 0} (N : K → PlainTreesOf K P → List P → Type 0) (e : ℕ → ℕ → C) (k : K) (cs : PlainTreesOf K P) (ps : List P) : Type 0 where
  pub node_of : N k cs ps
  pub children : HasChildren e cs

abbrev pub IsBuilt : (ℕ → ℕ → Bool) → Kind → PlainTrees → List Pair → Type 0
IsBuilt e = IsBuiltBy (IsNodeOf e) e

module _ {K P C : Type 0} {e : ℕ → ℕ → C} where
  -- the children of a node of the tree of strong modules
  module _ (k : K) (cs : PlainTreesOf K P) (ps : List P) (fit : IsFitting e (node k cs ps)) where
    abbrev s : NameSet
    s = names_below cs

    same_child : (c d : PlainTreeOf K P) (x : ℕ) → IsChild cs c → IsChild cs d → Has (names c) x → Has (names d) x → c ≡ d
    same_child c d x i j p q = one_child cs c d (only_name x) fit.once.1 i j (single_in c x p) (single_in d x q)

    child_strong : (c : PlainTreeOf K P) (m : NameSet) → IsChild cs c → In (node_sets c) m → IsStrong e s m
    child_strong c m i h = (fit.strong m).1 (inr (child_set_in cs c m i h))

    child_proper : (c : PlainTreeOf K P) (m : NameSet) → IsChild cs c → In (node_sets c) m → m ≢ s
    child_proper c m i h same = fit.once.0 m (child_set_in cs c m i h) (sym same)

    -- a strong module other than the whole is below a child
    below_child : (m : NameSet) → IsStrong e s m → m ≢ s → (c : PlainTreeOf K P) × IsChild cs c × In (node_sets c) m
    below_child m st differs = elim ((fit.strong m).0 st) [ inl same ↦ absurd (differs same) | inr i ↦ child_of_set cs m i ]

    child_maximal_strong : (c : PlainTreeOf K P) → IsChild cs c → IsMaximalStrong e s (names c)
    child_maximal_strong c i =
        let st : IsStrong e s (names c) = child_strong c (names c) i (own_set c) in
        record {
          is_strong = st;
          proper = child_proper c (names c) i (own_set c);
          maximal = λ n strong differs w.
              let d : (d : PlainTreeOf K P) × IsChild cs d × In (node_sets d) n = below_child n strong differs in
              let x : HasSome (names c) = st.is_module.some in
              let same : d.0 ≡ c = same_child d.0 c x.0 d.1 i (set_inside d.0 n d.2 x.0 (w x.0 x.1)) x.1 in
              same_members n (names c) (subst (λ t. Within n (names t)) same (set_inside d.0 n d.2)) w;
        }

    maximal_strong_child : (m : NameSet) → IsMaximalStrong e s m → IsChildSet cs m
    maximal_strong_child m max =
        let c : (c : PlainTreeOf K P) × IsChild cs c × In (node_sets c) m = below_child m max.is_strong max.proper in
        (c.0, c.1, sym (max.maximal (names c.0) (child_strong c.0 (names c.0) c.1 (own_set c.0)) (child_proper c.0 (names c.0) c.1 (own_set c.0)) (set_inside c.0 m c.2)))

    has_children : HasChildren e cs
    has_children m = (maximal_strong_child m, λ c. subst (IsMaximalStrong e s) (sym c.2) (child_maximal_strong c.0 c.1))

    child_fits : (c : PlainTreeOf K P) → IsChild cs c → IsFitting e c
    child_fits c i = record {
      strong = λ m. (strong_in m, λ h. strong_inside s (names c) m st (set_inside c m h) (child_strong c m i h));
      once = child_once cs c i fit.once.1;
    } where
      st : IsStrong e s (names c)
      st = child_strong c (names c) i (own_set c)

      strong_in : (m : NameSet) → IsStrong e (names c) m → In (node_sets c) m
      strong_in m inner =
          let d : (d : PlainTreeOf K P) × IsChild cs d × In (node_sets d) m =
          below_child m (strong_of_strong s (names c) m st inner)
          (λ same. child_proper c (names c) i (own_set c) (same_members (names c) s (child_inside cs c i) (λ x h. inner.is_module.inside x (Has-along s m (sym same) x h)))) in
          let x : HasSome m = inner.is_module.some in
          let same : d.0 ≡ c = same_child d.0 c x.0 d.1 i (set_inside d.0 m d.2 x.0 x.1) (inner.is_module.inside x.0 x.1) in
          subst (λ t. In (node_sets t) m) same d.2

module _ {K P C : Type 0} {N : K → PlainTreesOf K P → List P → Type 0} {e : ℕ → ℕ → C} where
  pub children_maximal : (k : K) (cs : PlainTreesOf K P) (ps : List P) → IsBuiltBy N e k cs ps → (c : PlainTreeOf K P) → IsChild cs c → IsMaximalStrong e (names_below cs) (names c)
  children_maximal k cs ps built c i = (built.children (names c)).1 (c, i, refl)

module _ {K P C : Type 0} (N : K → PlainTreesOf K P → List P → Type 0) {e : ℕ → ℕ → C} where
  mutual
    built_of : (t : PlainTreeOf K P) → IsFitting e t → EachNode N t → EachNode (IsBuiltBy N e) t
    built_of (leaf v) fit each = tt
    built_of (node k cs ps) fit each =
        (record { node_of = each.0; children = has_children k cs ps fit }, built_below cs (child_fits k cs ps fit) each.1)

    built_below : (cs : PlainTreesOf K P) → ((c : PlainTreeOf K P) → IsChild cs c → IsFitting e c) → EachNodeBelow N cs → EachNodeBelow (IsBuiltBy N e) cs
    built_below no_tree fits each = tt
    built_below (one_more t ts) fits each = (built_of t (fits t (inl refl)) each.0, built_below ts (λ c i. fits c (inr i)) each.1)

module _ {K P C : Type 0} {N : K → PlainTreesOf K P → List P → Type 0} {e : ℕ → ℕ → C} where
  -- the root of the tree of strong modules has all names
  pub tree_names : (s : NameSet) (t : PlainTreeOf K P) → IsTreeBy N e s t → names t ≡ s
  tree_names s t is =
      same_members (names t) s root.is_module.inside
      (set_inside t s (of_contains (node_sets t) s ((is.strong s).0 (whole_strong s (root.is_module.some.0, root.is_module.inside root.is_module.some.0 root.is_module.some.1)))))
    where
      root : IsStrong e s (names t)
      root = (is.strong (names t)).1 (to_contains (node_sets t) (names t) (own_set t))

  pub tree_built : (s : NameSet) (t : PlainTreeOf K P) → IsTreeBy N e s t → EachNode (IsBuiltBy N e) t
  tree_built s t is = built_of N t (record {
    strong = λ m. (
      (λ st. of_contains (node_sets t) m ((is.strong m).0 (subst (λ w. IsStrong e w m) (tree_names s t is) st))),
      λ i. subst (λ w. IsStrong e w m) (sym (tree_names s t is)) ((is.strong m).1 (to_contains (node_sets t) m i)),
    );
    once = of_pairs Differ (node_sets t) is.once;
  }) is.nodes
