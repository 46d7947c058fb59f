-- The kind and the children of a set after a change inside one of its children.
use Rattle.std.proofs.Common.{◌≡◌, ◌≢◌, ◌⊎◌, ℕ, Bool, true, false, sym, subst, inl, inr}
use Rattle.std.proofs.lemmas.Bool.{false_from_ne_true}
use Rattle.md_graph.specs.Sets.{NameSet, Has, Lacks, Within, HasSome}
use Rattle.md_graph.specs.Adjacency.{IsAdjacency}
use Rattle.md_graph.proofs.SetLemmas.{clash, Has-along, same_members}
use Rattle.md_graph.proofs.Search.{outside_or_within, larger_or_same, decide_same, decide_test}
use Rattle.md_modules.specs.Colours.{IsColouring, AreTold}
use Rattle.md_modules.specs.Modules.{IsStrong, IsMaximalStrong, IsParent}
use Rattle.md_modules.specs.Kinds.{IsSplit}
use Rattle.md_modules.proofs.Modules.{undirected}
use Rattle.md_modules.proofs.Strong.{whole_strong, strong_nested, in_child, children_meet}
use Rattle.md_modules.proofs.Splits.{child_unsplit}
use Rattle.md_tree.specs.declared.Kind.{Kind}
use Rattle.md_tree.specs.declared.Kind.TheVariants.{Parallel, Series, Prime}
use Rattle.md_tree.specs.StrongTrees.{HasKind}
use Rattle.md_local.specs.Changes.{AgreeOff, MergesIntoParent, IsLocalChange}
use Rattle.md_local.proofs.Transfer.{agree_back}
use Rattle.md_local.proofs.Local.{local_change, split_stays}

-- ---- one colouring

module _ {C : Type 0} {e : ℕ → ℕ → C} where
  -- the parent of a child is the set
  pub parent_is : (s d q : NameSet) → IsMaximalStrong e s d → IsParent e s d q → q ≡ s
  parent_is s d q child parent = elim (decide_same q s) [
    | inl same ↦ same
    | inr differs ↦ absurd (parent.above.1 (sym (child.maximal q parent.is_strong differs parent.above.0)))
  ]

  child_parent : (s d : NameSet) → IsMaximalStrong e s d → IsParent e s d s
  child_parent s d child = record {
    is_strong = let x = child.is_strong.is_module.some in whole_strong s (x.0, child.is_strong.is_module.inside x.0 x.1);
    above = (child.is_strong.is_module.inside, child.proper);
    least = λ n st above. elim (decide_same n s) [
      | inl same ↦ Has-along s n (sym same)
      | inr differs ↦ absurd (above.1 (sym (child.maximal n st differs above.0)))
    ];
  }

-- ---- both

module _ {C : Type 0} {reverse : C → C} {e f : ℕ → ℕ → C} (ce : IsColouring reverse e) (cf : IsColouring reverse f) (told : AreTold C)
    (s d : NameSet) (agree : AgreeOff e f s d) (child : IsMaximalStrong e s d) where
  changed : IsLocalChange e f s d
  changed = local_change ce cf told s d child.is_strong agree

  -- each other child
  pub other_stays : (m : NameSet) → IsMaximalStrong e s m → m ≢ d → IsMaximalStrong f s m
  other_stays m is differs = record {
    is_strong = (changed.outside m x hx lx).1 is.is_strong;
    proper = is.proper;
    maximal = λ n st p w. is.maximal n ((changed.outside n x (w x hx) lx).0 st) p w;
  } where
    x : ℕ
    x = is.is_strong.is_module.some.0

    hx : Has m x
    hx = is.is_strong.is_module.some.1

    lx : Lacks d x
    lx = false_from_ne_true _ (λ h. differs (children_meet s m d x is child hx h))

  -- the child itself, where it isn't merged
  pub child_stays : (MergesIntoParent e f s d → ⊥) → IsMaximalStrong f s d
  child_stays none = record {
    is_strong = changed.itself.1 none;
    proper = child.proper;
    maximal = λ n st p w. elim (larger_or_same d n w) [
      | inr same ↦ sym same
      | inl more ↦ child.maximal n ((changed.outside n more.0 more.1 more.2).0 st) p w
    ];
  }

  pub each_stays : (MergesIntoParent e f s d → ⊥) → (m : NameSet) → IsMaximalStrong e s m → IsMaximalStrong f s m
  each_stays none m is = elim (decide_same m d) [
    | inl same ↦ subst (IsMaximalStrong f s) (sym same) (child_stays none)
    | inr differs ↦ other_stays m is differs
  ]

  -- a split before that isn't one of the child is one with its parent
  not_merged_back : (MergesIntoParent e f s d → ⊥) → MergesIntoParent f e s d → ⊥
  not_merged_back none (q, v, a, b, parent, split, part) =
      let same : q ≡ s = parent_is s d q (child_stays none) parent in
      child_unsplit ce told s d a v (split_stays cf ce told s d a v (agree_back s d agree) (child_stays none) (subst (λ t. IsSplit f t a v) same split)) child b part

  -- ---- where the child is merged

  module _ (v : C) (a b : NameSet) (split : IsSplit e s a v) (part : IsSplit f d b v) where
    goes : IsStrong f s d → ⊥
    goes strong = changed.itself.0 strong (s, v, a, b, child_parent s d child, split, part)

    inside : Within d s
    inside = child.is_strong.is_module.inside

    -- its children take its place
    pub below_comes : (m : NameSet) → IsMaximalStrong f d m → IsMaximalStrong f s m
    below_comes m max = record {
      is_strong = (changed.inside m (max.is_strong.is_module.inside, max.proper)).1 max.is_strong;
      proper = λ same. child.proper (same_members d s inside (λ x h. max.is_strong.is_module.inside x (Has-along s m (sym same) x h)));
      maximal = λ n st p w. elim (outside_or_within n d) [
        | inr within ↦
            let differs : n ≢ d = λ same. goes (subst (IsStrong f s) same st) in
            max.maximal n ((changed.inside n (within, differs)).0 st) differs w
        | inl more ↦
            let before : IsStrong e s n = (changed.outside n more.0 more.1 more.2).0 st in
            let x : HasSome m = max.is_strong.is_module.some in
            elim (strong_nested s d n x.0 child.is_strong before (max.is_strong.is_module.inside x.0 x.1) (w x.0 x.1)) [
              | inl k ↦ clash (Has-along n d (child.maximal n before p k) more.0 more.1) more.2
              | inr k ↦ clash (k more.0 more.1) more.2
            ]
      ];
    }

    -- and there are no others
    pub of_children : (m : NameSet) → IsMaximalStrong f s m → (IsMaximalStrong e s m × (m ≢ d)) ⊎ IsMaximalStrong f d m
    of_children m max = elim (outside_or_within m d) [
      | inl more ↦ inl (
        (
            let before : IsStrong e s m = (changed.outside m more.0 more.1 more.2).0 max.is_strong in
            let c : (c : NameSet) × IsMaximalStrong e s c × Within m c = in_child told s m before max.proper in
            let stays : IsMaximalStrong f s c.0 = other_stays c.0 c.1 (λ same. clash (Has-along c.0 d same more.0 (c.2 more.0 more.1)) more.2) in
            subst (IsMaximalStrong e s) (max.maximal c.0 stays.is_strong stays.proper c.2) c.1
            ),
        λ same. clash (Has-along m d same more.0 more.1) more.2,
      )
      | inr within ↦
          let differs : m ≢ d = λ same. goes (subst (IsStrong f s) same max.is_strong) in
          inr (record {
            is_strong = (changed.inside m (within, differs)).0 max.is_strong;
            proper = differs;
            maximal = λ n st p w. max.maximal n ((changed.inside n (st.is_module.inside, p)).1 st)
                (λ same. child.proper (same_members d s inside (λ x h. st.is_module.inside x (Has-along s n (sym same) x h)))) w;
          })
    ]

-- the children are the same where none is merged
pub children_stay : {C : Type 0} {reverse : C → C} {e f : ℕ → ℕ → C} → IsColouring reverse e → IsColouring reverse f → AreTold C → (s d : NameSet) → AgreeOff e f s d →
    IsMaximalStrong e s d → (MergesIntoParent e f s d → ⊥) → (m : NameSet) → IsMaximalStrong f s m → IsMaximalStrong e s m
children_stay ce cf told s d agree child none m max =
    each_stays cf ce told s d (agree_back s d agree) (child_stays ce cf told s d agree child none) (not_merged_back ce cf told s d agree child none) m max

-- ---- the kind

module _ {e f : ℕ → ℕ → Bool} (ae : IsAdjacency e) (af : IsAdjacency f) (s d : NameSet) (agree : AgreeOff e f s d) (child : IsMaximalStrong e s d) where
  pub prime_unmerged : HasKind e s Prime → MergesIntoParent e f s d → ⊥
  prime_unmerged prime (q, v, a, b, parent, split, part) = elim (decide_test v true) [
    | inl same ↦ prime.co_connected (a, subst (IsSplit e s a) same here)
    | inr differs ↦ prime.connected (a, subst (IsSplit e s a) (false_from_ne_true v differs) here)
  ] where
    here : IsSplit e s a v
    here = subst (λ t. IsSplit e t a v) (parent_is s d q child parent) split

  pub kind_stays : (k : Kind) → HasKind e s k → HasKind f s k
  kind_stays Parallel h = (h.0, split_stays (undirected ae) (undirected af) decide_test s d h.0 false agree child h.1)
  kind_stays Series h = (h.0, split_stays (undirected ae) (undirected af) decide_test s d h.0 true agree child h.1)
  kind_stays Prime h = record {
    two = h.two;
    connected = λ p. h.connected (p.0, back p.0 false p.1);
    co_connected = λ p. h.co_connected (p.0, back p.0 true p.1);
  } where
    back : (a : NameSet) (v : Bool) → IsSplit f s a v → IsSplit e s a v
    back a v split =
        split_stays (undirected af) (undirected ae) decide_test s d a v (agree_back s d agree)
        (child_stays (undirected ae) (undirected af) decide_test s d agree child (prime_unmerged h)) split
