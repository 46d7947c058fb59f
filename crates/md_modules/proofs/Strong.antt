-- Strong modules: the tree that they are, and the children of a set of each kind.
use Rattle.std.proofs.Common.{◌≡◌, ℕ, ◌≢◌, ◌⊎◌, sym, ◌∙◌, subst, inl, inr}
use Rattle.md_graph.specs.Sets.{NameSet, Has, Lacks, Within, Disjoint, HasSome, HasTwo, Proper, only_name}
use Rattle.md_modules.specs.Colours.{AreTold}
use Rattle.md_modules.specs.Modules.{Overlap, IsStrong, IsMaximalStrong, IsParent}
use Rattle.md_modules.specs.Laws.{AreTree, Descends, StrongModulesAreTree, StrongModulesDescend, ColouredStrongModules}
use Rattle.md_graph.proofs.SetLemmas.{clash, only_has, of_only, Has-along, same_members}
use Rattle.md_graph.proofs.Search.{decide_test, decide_both, decide_not, decide_same, decide_within, outside_or_within, meet_or_disjoint, larger_or_same, smallest, largest}
use Rattle.md_modules.proofs.Modules.{whole_module, single_module, module_inside, module_of_module, decide_strong}

-- sets that don't overlap don't meet, or one holds the other
pub apart_or_nested : (a b : NameSet) → (Overlap a b → ⊥) → Disjoint a b ⊎ Within a b ⊎ Within b a
apart_or_nested a b free =
    elim (meet_or_disjoint a b) [
      | inr apart ↦ inl apart
      | inl meet ↦ elim (outside_or_within a b) [
        | inr w ↦ inr (inl w)
        | inl left ↦ elim (outside_or_within b a) [
          | inr w ↦ inr (inr w)
          | inl right ↦ absurd (free (record { meet = meet; left = left; right = right }))
        ]
      ]
    ]

-- of two sets that don't overlap and meet, one holds the other
pub nested_if_meet : (a b : NameSet) (x : ℕ) → (Overlap a b → ⊥) → Has a x → Has b x → Within a b ⊎ Within b a
nested_if_meet a b x free p q = elim (apart_or_nested a b free) [ inl apart ↦ clash q (apart x p) | inr n ↦ n ]

-- another member, for a set that isn't the single name v
pub larger_than_single : (s : NameSet) (v : ℕ) → HasTwo s → only_name v ≢ s
larger_than_single s v two e = two.4 (of_only v two.0 (Has-along s _ (sym e) two.0 two.2) ∙ sym (of_only v two.1 (Has-along s _ (sym e) two.1 two.3)))

module _ {C : Type 0} {e : ℕ → ℕ → C} where
  pub whole_strong : (s : NameSet) → HasSome s → IsStrong e s s
  whole_strong s some = record {
    is_module = whole_module s some;
    free = λ n module_is over. clash (module_is.inside over.right.0 over.right.1) over.right.2;
  }

  pub single_strong : (s : NameSet) (v : ℕ) → Has s v → IsStrong e s (only_name v)
  single_strong s v h = record {
    is_module = single_module s v h;
    free = λ n module_is over. clash (subst (Has n) (of_only v over.meet.0 over.meet.1 ∙ sym (of_only v over.left.0 over.left.1)) over.meet.2) over.left.2;
  }

  -- a strong module of s inside a strong module m is one of m
  pub strong_inside : (s m n : NameSet) → IsStrong e s m → Within n m → IsStrong e s n → IsStrong e m n
  strong_inside s m n outer w inner = record {
    is_module = module_inside s m n inner.is_module outer.is_module.inside w;
    free = λ k module_is over. inner.free k (module_of_module s m k outer.is_module module_is) over;
  }

  -- a strong module of a strong module is one of s
  pub strong_of_strong : (s m n : NameSet) → IsStrong e s m → IsStrong e m n → IsStrong e s n
  strong_of_strong s m n outer inner = record {
    is_module = module_of_module s m n outer.is_module inner.is_module;
    free = λ k module_is over.
        elim (nested_if_meet m k over.meet.0 (outer.free k module_is) (inner.is_module.inside over.meet.0 over.meet.1) over.meet.2) [
          | inl w ↦ clash (w over.left.0 (inner.is_module.inside over.left.0 over.left.1)) over.left.2
          | inr w ↦ inner.free k (module_inside s m k module_is outer.is_module.inside w) over
        ];
  }

  -- of two strong modules that meet, one holds the other
  pub strong_nested : (s m n : NameSet) (x : ℕ) → IsStrong e s m → IsStrong e s n → Has m x → Has n x → Within m n ⊎ Within n m
  strong_nested s m n x a b p q = nested_if_meet m n x (a.free n b.is_module) p q

  -- each strong module but s lies in a child
  pub in_child : AreTold C → (s m : NameSet) → IsStrong e s m → m ≢ s → (c : NameSet) × IsMaximalStrong e s c × Within m c
  in_child told s m is differs =
      let r : (c : NameSet) × Within m c × Within c s × (IsStrong e s c × (c ≢ s)) × ((b : NameSet) → Within c b → Within b s → IsStrong e s b × (b ≢ s) → b ≡ c) =
      largest (λ c. IsStrong e s c × (c ≢ s)) s m is.is_module.inside (is, differs) (λ c w. decide_both (decide_strong told s c) (decide_not (decide_same c s))) in
      (r.0, record { is_strong = r.3.0; proper = r.3.1; maximal = λ n st d w. r.4 n w st.is_module.inside (st, d) }, r.1)

  -- two children that meet are one
  pub children_meet : (s c d : NameSet) (x : ℕ) → IsMaximalStrong e s c → IsMaximalStrong e s d → Has c x → Has d x → c ≡ d
  children_meet s c d x a b p q =
      elim (strong_nested s c d x a.is_strong b.is_strong p q) [
        | inl w ↦ sym (a.maximal d b.is_strong b.proper w)
        | inr w ↦ b.maximal c a.is_strong a.proper w
      ]

  -- each member of a set with two lies in a child
  pub child_of : AreTold C → (s : NameSet) (x : ℕ) → HasTwo s → Has s x → (c : NameSet) × IsMaximalStrong e s c × Has c x
  child_of told s x two h =
      let r : (c : NameSet) × IsMaximalStrong e s c × Within (only_name x) c = in_child told s (only_name x) (single_strong s x h) (larger_than_single s x two) in
      (r.0, r.1, r.2 x (only_has x))

  -- a child leaves a member out
  pub child_leaves : (s c : NameSet) → IsMaximalStrong e s c → (x : ℕ) × Has s x × Lacks c x
  child_leaves s c is = elim (larger_or_same c s is.is_strong.is_module.inside) [ inl rest ↦ rest | inr same ↦ absurd (is.proper same) ]

  -- the parent of a strong module
  pub parent_of : AreTold C → (s m : NameSet) → IsStrong e s m → m ≢ s → (p : NameSet) × IsParent e s m p
  parent_of told s m is differs =
      let r : (p : NameSet) × Within p s × (IsStrong e s p × Proper m p) × ((a : NameSet) → Within a p → IsStrong e s a × Proper m a → a ≡ p) =
      smallest (λ p. IsStrong e s p × Proper m p) s (whole_strong s (m_some.0, is.is_module.inside m_some.0 m_some.1), (is.is_module.inside, differs))
      (λ a w. decide_both (decide_strong told s a) (decide_both (decide_within m a) (decide_not (decide_same m a)))) in (
        r.0,
        record {
          is_strong = r.2.0;
          above = r.2.1;
          least = λ n st above.
              elim (strong_nested s r.0 n m_some.0 r.2.0 st (r.2.1.0 m_some.0 m_some.1) (above.0 m_some.0 m_some.1)) [
                | inl w ↦ w
                | inr w ↦ Has-along r.0 n (sym (r.3 n w (st, above)))
              ];
        },
      )
    where
      m_some : HasSome m
      m_some = is.is_module.some

  pub one_parent : (s m p q : NameSet) → IsParent e s m p → IsParent e s m q → p ≡ q
  one_parent s m p q a b = same_members p q (a.least q b.is_strong b.above) (b.least p a.is_strong a.above)

  leaf_if_single : (s m : NameSet) (v : ℕ) → m ≡ only_name v → (n : NameSet) → IsStrong e s n → Proper n m → ⊥
  leaf_if_single s m v same n is above =
      above.1 (same_members n m above.0 (λ y h. subst (Has n) (only n_some.0 (above.0 n_some.0 n_some.1) ∙ sym (only y h)) n_some.1))
    where
      n_some : HasSome n
      n_some = is.is_module.some

      only : (y : ℕ) → Has m y → y ≡ v
      only y h = of_only v y (Has-along m _ same y h)

  single_if_leaf : (s m : NameSet) → IsStrong e s m → ((n : NameSet) → IsStrong e s n → Proper n m → ⊥) → (v : ℕ) × (m ≡ only_name v)
  single_if_leaf s m is leaf =
      elim (decide_same (only_name v) m) [
        | inl same ↦ (v, sym same)
        | inr differs ↦ absurd (leaf (only_name v) (single_strong s v (is.is_module.inside v h)) ((λ x k. subst (Has m) (sym (of_only v x k)) h), differs))
      ]
    where
      v : ℕ
      v = is.is_module.some.0

      h : Has m v
      h = is.is_module.some.1

  -- the strong modules are s and those of its children
  pub strong_descends : AreTold C → (s m : NameSet) → IsStrong e s m → (m ≡ s) ⊎ ((c : NameSet) × IsMaximalStrong e s c × IsStrong e c m)
  strong_descends told s m is =
      elim (decide_same m s) [
        | inl same ↦ inl same
        | inr differs ↦ inr (let r : (c : NameSet) × IsMaximalStrong e s c × Within m c = in_child told s m is differs in (r.0, r.1, strong_inside s r.0 m r.1.is_strong r.2 is))
      ]

  pub strong_tree : AreTold C → (s : NameSet) → HasSome s → AreTree e s
  strong_tree told s some = record {
    root = whole_strong s some;
    below_root = λ m is. is.is_module.inside;
    nested = λ m n a b. apart_or_nested m n (a.free n b.is_module);
    parent = parent_of told s;
    one_parent = one_parent s;
    singles = single_strong s;
    leaves = λ m is. ((λ w. leaf_if_single s m w.0 w.1), single_if_leaf s m is);
  }

  pub strong_descent : AreTold C → (s : NameSet) → HasSome s → Descends e s
  strong_descent told s some m = (
    strong_descends told s m,
    λ w. elim w [
      | inl same ↦ subst (IsStrong e s) (sym same) (whole_strong s some)
      | inr below ↦ strong_of_strong s below.0 m below.1.is_strong below.2
    ],
  )

pub tree_proof : StrongModulesAreTree
tree_proof e s some = strong_tree decide_test s some

pub descend_proof : StrongModulesDescend
descend_proof e s some = strong_descent decide_test s some

pub coloured_tree_proof : (C : Type 0) → ColouredStrongModules C
coloured_tree_proof C told e s some = (strong_tree told s some, strong_descent told s some)
