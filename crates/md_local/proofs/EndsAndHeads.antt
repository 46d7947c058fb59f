-- The quotient by the names of hanging trees: their heads and the two ends of the edge, and the trees at their leaves.
use Rattle.std.proofs.Common.{◌≡◌, ◌≢◌, ◌⊎◌, ℕ, ◌≤◌, Bool, false, cond, List, [], ◌∷◌, nat_eq, refl, sym, ◌∙◌, ap, subst, inl, inr, eqb-true, eq-eqb, arith}
use Rattle.std.proofs.lemmas.Bool.{false_from_ne_true}
use Rattle.std.specs.FinSet.{contains, insert, len, intersection}
use Rattle.md_graph.specs.Sets.{NameSet, Has, Lacks, Within, only_name}
use Rattle.md_graph.specs.Adjacency.{IsAdjacency}
use Rattle.md_graph.proofs.SetLemmas.{clash, same_name, of_only, only_has, Has-along, same_members, insert_new, insert_old, of_insert, union_left, union_right, meet_has, of_meet}
use Rattle.md_graph.proofs.Search.{decide_test, len_within}
use Rattle.md_modules.specs.Modules.{IsModule}
use Rattle.md_modules.specs.Quotients.{IsModularPartition, class}
use Rattle.md_modules.proofs.Modules.{undirected, single_module}
use Rattle.md_modules.proofs.Quotients.{class_has, of_class}
use Rattle.md_text.proofs.Lists.{In, to_contains}
use Rattle.md_tree.specs.Trees.{PlainTree, leaf, node, PlainTrees, no_tree, one_more, names, names_below, row, EachNode}
use Rattle.md_tree.specs.Heads.{head, heads}
use Rattle.md_tree.specs.Held.{IsLeast}
use Rattle.md_tree.specs.StrongTrees.{IsTreeOf}
use Rattle.md_tree.specs.WellFormed.{AreDisjoint}
use Rattle.md_tree.proofs.Nodes.{IsChild, child_inside, child_of_name}
use Rattle.md_tree.proofs.Heads.{child_here, place_of_child, to_heads, of_heads}
use Rattle.md_tree.proofs.Built.{IsBuilt, tree_names, tree_built}
use Rattle.md_tree.proofs.Kinded.{built_tree}
use Rattle.md_tree.proofs.GraphKinds.{kinds_of_graphs}
use Rattle.md_local.specs.Changes.{AgreeBut}
use Rattle.md_local.specs.Growing.{AreHanging, quotient_names}
use Rattle.md_local.specs.Substitution.{IsSubstituted, AreSubstituted, IsOverQuotient, tree_at}
use Rattle.md_local.proofs.Ordering.{child_of_in, in_of_child, head_least}
use Rattle.md_local.proofs.Substituted.{substituted_tree}

-- ---- the head of the tree that holds a name, and the tree with a head

-- the head of the tree that holds the name, and the name where none does
abbrev lead : List PlainTree → ℕ → ℕ
lead [] x = x
lead (t ∷ ts) x = cond (contains (names t) x) (head t) (lead ts x)

in_row : (ts : List PlainTree) (t : PlainTree) (x : ℕ) → In ts t → Has (names t) x → Has (names_below (row ts)) x
in_row ts t x i h = child_inside (row ts) t (child_of_in ts t i) x h

lead_in : (ts : List PlainTree) → AreDisjoint (row ts) → (t : PlainTree) (x : ℕ) → In ts t → Has (names t) x → lead ts x ≡ head t
lead_in [] apart t x i h = absurd i
lead_in (w ∷ ts) apart t x (inl e) h = ap (λ b. cond b (head w) (lead ts x)) (subst (λ z. Has (names z) x) e h) ∙ ap head (sym e)
lead_in (w ∷ ts) apart t x (inr i) h =
    let off : Lacks (names w) x = false_from_ne_true _ (λ k. clash (in_row ts t x i h) (apart.0 x k)) in
    ap (λ b. cond b (head w) (lead ts x)) off ∙ lead_in ts apart.1 t x i h

lead_out : (ts : List PlainTree) (x : ℕ) → ((t : PlainTree) → In ts t → Lacks (names t) x) → lead ts x ≡ x
lead_out [] x none = refl
lead_out (t ∷ ts) x none = ap (λ b. cond b (head t) (lead ts x)) (none t (inl refl)) ∙ lead_out ts x (λ c i. none c (inr i))

tree_in : (ts : List PlainTree) → AreDisjoint (row ts) → ((t : PlainTree) → In ts t → Has (names t) (head t)) → (t : PlainTree) → In ts t → tree_at ts (head t) ≡ t
tree_in [] apart own t i = absurd i
tree_in (w ∷ ts) apart own t (inl e) = ap (λ b. cond b w (tree_at ts (head t))) (eq-eqb (head w) (head t) (ap head (sym e))) ∙ sym e
tree_in (w ∷ ts) apart own t (inr i) =
    let off : nat_eq (head w) (head t) ≡ false =
    false_from_ne_true _ (λ k. clash (in_row ts t (head t) i (own t (inr i))) (subst (Lacks (names_below (row ts))) (eqb-true (head w) (head t) k) (apart.0 (head w) (own w (inl refl))))) in
    ap (λ b. cond b w (tree_at ts (head t))) off ∙ tree_in ts apart.1 (λ c j. own c (inr j)) t i

tree_out : (ts : List PlainTree) (x : ℕ) → ((t : PlainTree) → In ts t → head t ≢ x) → tree_at ts x ≡ leaf x
tree_out [] x none = refl
tree_out (t ∷ ts) x none =
    ap (λ b. cond b t (tree_at ts x)) (false_from_ne_true _ (λ k. none t (inl refl) (eqb-true (head t) x k))) ∙ tree_out ts x (λ c i. none c (inr i))

-- ---- what fits the names of a tree

module _ (P Q : ℕ → PlainTree → Type 0) where
  mutual
    pub fits_more : (t u : PlainTree) → ((x : ℕ) (p : PlainTree) → Has (names t) x → P x p → Q x p) → IsSubstituted P t u → IsSubstituted Q t u
    fits_more (leaf x) u more is = more x u (only_has x) is
    fits_more (node k cs ps) u more (us, are, joined) = (us, fit_more cs us more are, joined)

    fit_more : (cs : PlainTrees) (us : List PlainTree) → ((x : ℕ) (p : PlainTree) → Has (names_below cs) x → P x p → Q x p) → AreSubstituted P cs us → AreSubstituted Q cs us
    fit_more no_tree [] more are = tt
    fit_more no_tree (u ∷ us) more are = absurd are
    fit_more (one_more t cs) [] more are = absurd are
    fit_more (one_more t cs) (u ∷ us) more are = (
      fits_more t u (λ x p h. more x p (union_left (names t) (names_below cs) x h)) are.0,
      fit_more cs us (λ x p h. more x p (union_right (names t) (names_below cs) x h)) are.1,
    )

-- a module without the two ends stays one
module_stays : (e f : ℕ → ℕ → Bool) (s m : NameSet) (u v : ℕ) → AgreeBut e f u v → IsModule e s m → Lacks m u → Lacks m v → IsModule f s m
module_stays e f s m u v edited is lu lv = record {
  some = is.some;
  inside = is.inside;
  alike = λ a b x ha hb hx l. sym (same x a ha) ∙ is.alike a b x ha hb hx l ∙ same x b hb;
} where
  same : (x a : ℕ) → Has m a → e x a ≡ f x a
  same x a h = edited x a (λ k. clash (subst (Has m) k.1 h) lv) (λ k. clash (subst (Has m) k.1 h) lu)

-- ---- the quotient

module _ {e f : ℕ → ℕ → Bool} (af : IsAdjacency f) (s : NameSet) (u v : ℕ) (edited : AgreeBut e f u v) (hu : Has s u) (hv : Has s v) (ts : List PlainTree) (hang : AreHanging e f s u v ts) where
  built : (t : PlainTree) → In ts t → EachNode (IsBuilt f) t
  built t i = tree_built (names t) t (hang.trees t (to_contains ts t i)).1

  own : (t : PlainTree) → In ts t → Has (names t) (head t)
  own t i = (head_least f t (built t i)).member

  inside : (t : PlainTree) → In ts t → Within (names t) s
  inside t i = (hang.trees t (to_contains ts t i)).0.inside

  -- a name of s that is in none of the trees
  record IsEnd (x : ℕ) : Type 0 where
    there : Has s x
    off : (t : PlainTree) → In ts t → Lacks (names t) x

  end_u : IsEnd u
  end_u = record { there = hu; off = λ t i. false_from_ne_true _ (λ h. ((hang.others u).0 (in_row ts t u i h)).1 refl) }

  end_v : IsEnd v
  end_v = record { there = hv; off = λ t i. false_from_ne_true _ (λ h. ((hang.others v).0 (in_row ts t v i h)).2 refl) }

  tree_or_end : (x : ℕ) → Has s x → ((t : PlainTree) × In ts t × Has (names t) x) ⊎ IsEnd x
  tree_or_end x h = elim (same_name x u) [
    | inl is ↦ inr (subst IsEnd (sym is) end_u)
    | inr du ↦ elim (same_name x v) [
      | inl is ↦ inr (subst IsEnd (sym is) end_v)
      | inr dv ↦ (
          let c : (c : PlainTree) × IsChild (row ts) c × Has (names c) x = child_of_name (row ts) x ((hang.others x).1 (h, du, dv)) in
          inl (c.0, in_of_child ts c.0 c.1, c.2))
    ]
  ]

  head_named : (t : PlainTree) → In ts t → Has (quotient_names ts u v) (head t)
  head_named t i =
      let p = place_of_child (row ts) t (child_of_in ts t i) in
      insert_old (insert (heads (row ts)) u) v (head t) (insert_old (heads (row ts)) u (head t) (subst (Has (heads (row ts))) p.3 (to_heads (row ts) p.0 p.1)))

  head_or_end : (p : ℕ) → Has (quotient_names ts u v) p → ((t : PlainTree) × In ts t × (p ≡ head t)) ⊎ IsEnd p
  head_or_end p h = elim (of_insert (insert (heads (row ts)) u) v p h) [
    | inl is ↦ inr (subst IsEnd (sym is) end_v)
    | inr more ↦ elim (of_insert (heads (row ts)) u p more) [
      | inl is ↦ inr (subst IsEnd (sym is) end_u)
      | inr among ↦ (
          let i = of_heads (row ts) p among in
          let c = child_here (row ts) i.0 i.1 in
          inl (c.0, in_of_child ts c.0 c.1, i.2 ∙ c.3))
    ]
  ]

  end_named : (x : ℕ) → Has s x → IsEnd x → Has (quotient_names ts u v) x
  end_named x h is = elim (same_name x u) [
    | inl same ↦ insert_old (insert (heads (row ts)) u) v x (subst (Has (insert (heads (row ts)) u)) (sym same) (insert_new (heads (row ts)) u))
    | inr du ↦ elim (same_name x v) [
      | inl same ↦ subst (Has (quotient_names ts u v)) (sym same) (insert_new (insert (heads (row ts)) u) v)
      | inr dv ↦ (
          let c : (c : PlainTree) × IsChild (row ts) c × Has (names c) x = child_of_name (row ts) x ((hang.others x).1 (h, du, dv)) in
          clash c.2 (is.off c.0 (in_of_child ts c.0 c.1)))
    ]
  ]

  class_tree : (t : PlainTree) → In ts t → class s (lead ts) (head t) ≡ names t
  class_tree t i = same_members (class s (lead ts) (head t)) (names t)
      (λ x h.
      let o = of_class s (lead ts) (head t) x h in
      elim (tree_or_end x o.0) [
        | inl w ↦
            let one : head w.0 ≡ head t = sym (lead_in ts hang.apart w.0 x w.1 w.2) ∙ o.1 in
            let same : w.0 ≡ t = sym (tree_in ts hang.apart own w.0 w.1) ∙ ap (tree_at ts) one ∙ tree_in ts hang.apart own t i in
            subst (λ z. Has (names z) x) same w.2
        | inr is ↦
            let one : x ≡ head t = sym (lead_out ts x is.off) ∙ o.1 in
            clash (own t i) (subst (Lacks (names t)) one (is.off t i))
      ])
      (λ x h. class_has s (lead ts) (head t) x (inside t i x h) (lead_in ts hang.apart t x i h))

  class_end : (p : ℕ) → IsEnd p → class s (lead ts) p ≡ only_name p
  class_end p is = same_members (class s (lead ts) p) (only_name p)
      (λ x h.
      let o = of_class s (lead ts) p x h in
      elim (tree_or_end x o.0) [
        | inl w ↦
            let one : head w.0 ≡ p = sym (lead_in ts hang.apart w.0 x w.1 w.2) ∙ o.1 in
            clash (own w.0 w.1) (subst (Lacks (names w.0)) (sym one) (is.off w.0 w.1))
        | inr end ↦ subst (Has (only_name p)) (sym (sym (lead_out ts x end.off) ∙ o.1)) (only_has p)
      ])
      (λ x h. let same : x ≡ p = of_only p x h in class_has s (lead ts) p x (subst (Has s) (sym same) is.there) (ap (lead ts) same ∙ lead_out ts p is.off))

  names_inside : Within (quotient_names ts u v) s
  names_inside p h = elim (head_or_end p h) [
    | inl w ↦ subst (Has s) (sym w.2) (inside w.0 w.1 (head w.0) (own w.0 w.1))
    | inr is ↦ is.there
  ]

  partition : IsModularPartition f s (quotient_names ts u v) (lead ts)
  partition = record {
    inside = names_inside;
    leads = λ x h. elim (tree_or_end x h) [
      | inl w ↦ subst (Has (quotient_names ts u v)) (sym (lead_in ts hang.apart w.0 x w.1 w.2)) (head_named w.0 w.1)
      | inr is ↦ subst (Has (quotient_names ts u v)) (sym (lead_out ts x is.off)) (end_named x h is)
    ];
    own = λ p h. elim (head_or_end p h) [
      | inl w ↦ ap (lead ts) w.2 ∙ lead_in ts hang.apart w.0 (head w.0) w.1 (own w.0 w.1) ∙ sym w.2
      | inr is ↦ lead_out ts p is.off
    ];
    modules = λ p h. elim (head_or_end p h) [
      | inl w ↦ subst (IsModule f s) (sym (ap (class s (lead ts)) w.2 ∙ class_tree w.0 w.1))
          (module_stays e f s (names w.0) u v edited (hang.trees w.0 (to_contains ts w.0 w.1)).0 (end_u.off w.0 w.1) (end_v.off w.0 w.1))
      | inr is ↦ subst (IsModule f s) (sym (class_end p is)) (single_module s p is.there)
    ];
  }

  least : (p : ℕ) → Has (quotient_names ts u v) p → IsLeast (class s (lead ts) p) p
  least p h = elim (head_or_end p h) [
    | inl w ↦ subst (λ q. IsLeast (class s (lead ts) q) q) (sym w.2) (subst (λ m. IsLeast m (head w.0)) (sym (class_tree w.0 w.1)) (head_least f w.0 (built w.0 w.1)))
    | inr is ↦ subst (λ m. IsLeast m p) (sym (class_end p is)) (record { member = only_has p; first = λ x k. let same = of_only p x k in omega arith })
  ]

  fits : (p : ℕ) → Has (quotient_names ts u v) p → IsTreeOf f (class s (lead ts) p) (tree_at ts p)
  fits p h = elim (head_or_end p h) [
    | inl w ↦ subst (λ q. IsTreeOf f (class s (lead ts) q) (tree_at ts q)) (sym w.2)
        (subst (λ t. IsTreeOf f (class s (lead ts) (head w.0)) t) (sym (tree_in ts hang.apart own w.0 w.1))
        (subst (λ m. IsTreeOf f m w.0) (sym (class_tree w.0 w.1)) (hang.trees w.0 (to_contains ts w.0 w.1)).1))
    | inr is ↦ subst (λ t. IsTreeOf f (class s (lead ts) p) t)
        (sym (tree_out ts p (λ t i same. clash (own t i) (subst (Lacks (names t)) (sym same) (is.off t i)))))
        (subst (λ m. IsTreeOf f m (leaf p)) (sym (class_end p is)) (built_tree (kinds_of_graphs (undirected af)) decide_test (only_name p) (leaf p) refl tt))
  ]

  over_names : (w : PlainTree) → IsOverQuotient f (quotient_names ts u v) ts w → IsTreeOf f s w
  over_names w (t, tree, put) =
      substituted_tree af s (quotient_names ts u v) (lead ts) partition least t w tree
      (fits_more (λ x p. p ≡ tree_at ts x) (λ x p. IsTreeOf f (class s (lead ts) x) p) t w
      (λ x p h is. subst (IsTreeOf f (class s (lead ts) x)) (sym is) (fits x (Has-along (names t) (quotient_names ts u v) (tree_names (quotient_names ts u v) t tree) x h))) put)

  -- the names that are vertices are all
  pub over_vertices : (vertices : NameSet) → Within s vertices → (w : PlainTree) → IsOverQuotient f (intersection vertices (quotient_names ts u v)) ts w → IsTreeOf f s w
  over_vertices vertices live w over = over_names w (subst (λ r. IsOverQuotient f r ts w) same over) where
    same : intersection vertices (quotient_names ts u v) ≡ quotient_names ts u v
    same = same_members (intersection vertices (quotient_names ts u v)) (quotient_names ts u v)
        (λ x h. (of_meet vertices (quotient_names ts u v) x h).1)
        (λ x h. meet_has vertices (quotient_names ts u v) x (live x (names_inside x h)) h)

  pub few_names : len (quotient_names ts u v) ≤ len s
  few_names = len_within (quotient_names ts u v) s names_inside
