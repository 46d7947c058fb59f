-- The strong modules after a change inside a strong module.
use Rattle.std.proofs.Common.{◌≡◌, ◌≢◌, ◌↔◌, ◌⊎◌, ℕ, sym, ◌∙◌, subst, inl, inr}
use Rattle.std.proofs.lemmas.Bool.{cases_Bool, false_from_ne_true}
use Rattle.std.specs.FinSet.{contains, union, intersection, difference}
use Rattle.md_graph.specs.Sets.{NameSet, Has, Lacks, Within, Disjoint, HasSome, Proper}
use Rattle.md_graph.proofs.SetLemmas.{clash, lacks_within, Has-along, same_members, union_left, union_right, of_union, union_lacks, meet_has, of_meet, of_meet_lacks, minus_has, of_minus, of_minus_lacks, minus_lacks}
use Rattle.md_graph.proofs.Search.{Decided, decide_some, decide_same, outside_or_within, meet_or_disjoint, larger_or_same}
use Rattle.md_modules.specs.Colours.{IsColouring, AreTold}
use Rattle.md_modules.specs.Modules.{IsModule, Overlap, IsStrong, IsMaximalStrong, IsParent}
use Rattle.md_modules.specs.Kinds.{IsSplit, IsUnsplit}
use Rattle.md_modules.specs.Segments.{IsLeastSegment}
use Rattle.md_modules.proofs.Modules.{other_way, decide_overlap, module_inside, module_of_module, join_module, meet_module, minus_module}
use Rattle.md_modules.proofs.Strong.{apart_or_nested, nested_if_meet, strong_inside, strong_of_strong, in_child, parent_of}
use Rattle.md_modules.proofs.Splits.{decide_split, split_closed, split_rest, split_reverses, unsplit_within, child_segment, child_unsplit, split_children}
use Rattle.md_modules.proofs.Children.{child_maximal}
use Rattle.md_local.specs.Changes.{AgreeOff, AgreeBut, IsLeastStrong, MergesIntoParent, IsLocalChange, ChangesStayLocal, EdgeEditsStayLocal}
use Rattle.md_local.proofs.Transfer.{agree_back, agree_within, agree_right, transfer, transfer_itself}

-- ---- one colouring

module _ {C : Type 0} {e : ℕ → ℕ → C} where
  -- a strong module of s inside a module is one of that module
  strong_in_module : (s c m : NameSet) → IsModule e s c → Within m c → IsStrong e s m → IsStrong e c m
  strong_in_module s c m whole w is = record {
    is_module = module_inside s c m is.is_module whole.inside w;
    free = λ k module_is over. is.free k (module_of_module s c k whole module_is) over;
  }

  -- a child of its parent
  child_of_parent : (s c q : NameSet) → IsStrong e s c → IsParent e s c q → IsMaximalStrong e q c
  child_of_parent s c q is parent = record {
    is_strong = strong_inside s q c parent.is_strong parent.above.0 is;
    proper = parent.above.1;
    maximal = λ n st differs w. elim (larger_or_same c n w) [
      | inr same ↦ sym same
      | inl more ↦
          let above : Proper c n = (w, λ same. clash (Has-along n c (sym same) more.0 more.1) more.2) in
          absurd (differs (same_members n q st.is_module.inside (parent.least n (strong_of_strong s q n parent.is_strong st) above)))
    ];
  }

  module _ (told : AreTold C) where
    -- whether a set splits with some colour
    decide_splits : (s : NameSet) → Decided ((x : ℕ) × Has s x × ((y : ℕ) × Has s y × ((part : NameSet) × IsSplit e s part (e x y))))
    decide_splits s = decide_some s _ (λ x hx. decide_some s _ (λ y hy. decide_split told s (e x y)))

    -- a set with a module that is larger than a child splits
    splits_if_larger : {reverse : C → C} → IsColouring reverse e → (q c u : NameSet) → IsMaximalStrong e q c → IsModule e q u → u ≢ q → Within c u → (y : ℕ) → Has u y → Lacks c y →
        (v : C) × (part : NameSet) × IsSplit e q part v
    splits_if_larger col q c u child module_is differs w y hy ly = elim (decide_splits q) [
      | inl f ↦ (e f.0 f.2.0, f.2.2.0, f.2.2.1)
      | inr none ↦
          let some : HasSome c = child.is_strong.is_module.some in
          let unsplit : IsUnsplit e q = record {
            two = (some.0, y, child.is_strong.is_module.inside some.0 some.1, module_is.inside y hy, λ same. clash (subst (Has c) same some.1) ly);
            unsplit = λ v part split. none (
              split.some.0,
              split.inside split.some.0 split.some.1,
              (split.rest.0, split.rest.1, (part, subst (IsSplit e q part) (sym (split.across split.some.0 split.rest.0 split.some.1 split.rest.1 split.rest.2)) split)),
            );
          } in
          clash (Has-along u c ((child_maximal col told q c unsplit child).maximal u module_is differs w) y hy) ly
    ]

    -- the pairs from a child of a set that splits to the rest have the colour of a split
    split_of_pair : {reverse : C → C} → IsColouring reverse e → (q c part : NameSet) (v : C) (x y : ℕ) → IsSplit e q part v → IsMaximalStrong e q c → Has c x → Has q y → Lacks c y →
        (a : NameSet) × IsSplit e q a (e x y)
    split_of_pair {reverse = reverse} col q c part v x y split child hx hy ly =
        let r : IsLeastSegment e q x c v (reverse v) = child_segment col told q part c v (reverse v) x (split_reverses col q part v split) split child hx in
        let both : Has r.segment.first x × Has r.segment.last x = of_meet r.segment.first r.segment.last x (Has-along c _ r.segment.is x hx) in
        elim (of_meet_lacks r.segment.first r.segment.last y (subst (λ t. Lacks t y) r.segment.is ly)) [
          | inl o ↦ (part, subst (IsSplit e q part) (sym (r.segment.initial.across x y both.0 hy o)) split)
          | inr o ↦ (difference q part, subst (IsSplit e q (difference q part)) (sym (r.segment.final.across x y both.1 hy o)) (split_rest col q part v split))
        ]

-- ---- with a name outside c

module _ {C : Type 0} {reverse : C → C} {e f : ℕ → ℕ → C} (ce : IsColouring reverse e) (cf : IsColouring reverse f) where
  -- a strong module with a name outside a module c stays strong
  outside_stays : (s c m : NameSet) → AgreeOff e f s c → IsModule e s c → (x : ℕ) → Has m x → Lacks c x → IsStrong e s m → IsStrong f s m
  outside_stays s c m agree whole x hx lx is = record {
    is_module = transfer ce cf s c m agree place is.is_module;
    free = λ k module_is over. elim (decide_overlap k c) [
      | inl crossed ↦ crossing k module_is over crossed place
      | inr free ↦ elim (apart_or_nested k c free) [
        | inl apart ↦ is.free k (transfer cf ce s c k (agree_back s c agree) (inl apart) module_is) over
        | inr n ↦ elim n [
          | inl w ↦ below k over w place
          | inr w ↦ is.free k (transfer cf ce s c k (agree_back s c agree) (inr w) module_is) over
        ]
      ]
    ];
  } where
    place : Disjoint m c ⊎ Within c m
    place = elim (apart_or_nested m c (is.free c whole)) [
      | inl apart ↦ inl apart
      | inr n ↦ elim n [ inl w ↦ clash (w x hx) lx | inr w ↦ inr w ]
    ]

    same : IsModule f s c
    same = transfer_itself ce cf s c agree whole

    below : (k : NameSet) → Overlap m k → Within k c → Disjoint m c ⊎ Within c m → ⊥
    below k over w (inl apart) = clash (w over.meet.0 over.meet.2) (apart over.meet.0 over.meet.1)
    below k over w (inr holds) = clash (holds over.right.0 (w over.right.0 over.right.1)) over.right.2

    joined : (k : NameSet) → IsModule f s k → Overlap k c → IsModule e s (union k c)
    joined k module_is crossed =
        transfer cf ce s c (union k c) (agree_back s c agree) (inr (union_right k c))
        (join_module s k c crossed.meet.0 module_is same crossed.meet.1 crossed.meet.2)

    parted : (k : NameSet) → IsModule f s k → Overlap k c → IsModule e s (difference k c)
    parted k module_is crossed =
        transfer cf ce s c (difference k c) (agree_back s c agree) (inl (λ y h. (of_minus k c y h).1))
        (minus_module cf s k c module_is same crossed)

    crossing : (k : NameSet) → IsModule f s k → Overlap m k → Overlap k c → Disjoint m c ⊎ Within c m → ⊥
    crossing k module_is over crossed (inl apart) = is.free (union k c) (joined k module_is crossed) (record {
      meet = (over.meet.0, over.meet.1, union_left k c over.meet.0 over.meet.2);
      left = (over.left.0, over.left.1, union_lacks k c over.left.0 over.left.2 (apart over.left.0 over.left.1));
      right = (crossed.meet.0, union_right k c crossed.meet.0 crossed.meet.2, false_from_ne_true _ (λ h. clash crossed.meet.2 (apart crossed.meet.0 h)));
    })
    crossing k module_is over crossed (inr holds) = elim (cases_Bool (contains k x)) [
      | inl kx ↦ is.free (difference k c) (parted k module_is crossed) (record {
        meet = (x, hx, minus_has k c x kx lx);
        left = (crossed.meet.0, holds crossed.meet.0 crossed.meet.2, minus_lacks k c crossed.meet.0 crossed.meet.2);
        right = (over.right.0, minus_has k c over.right.0 over.right.1 (lacks_within c m holds over.right.0 over.right.2), over.right.2);
      })
      | inr kl ↦ is.free (union k c) (joined k module_is crossed) (record {
        meet = (over.meet.0, over.meet.1, union_left k c over.meet.0 over.meet.2);
        left = (x, hx, union_lacks k c x kl lx);
        right = (over.right.0, union_left k c over.right.0 over.right.1, over.right.2);
      })
    ]

-- ---- inside c

module _ {C : Type 0} {reverse : C → C} {f : ℕ → ℕ → C} (cf : IsColouring reverse f) where
  -- a strong module properly inside a module is one of s
  inside_comes : (s c m : NameSet) → IsModule f s c → Proper m c → IsStrong f c m → IsStrong f s m
  inside_comes s c m whole above is = record {
    is_module = module_of_module s c m whole is.is_module;
    free = λ k module_is over. elim (outside_or_within (intersection k c) m) [
      | inl rest ↦ is.free (intersection k c) (met k module_is over) (record {
        meet = (over.meet.0, over.meet.1, meet_has k c over.meet.0 over.meet.2 (above.0 over.meet.0 over.meet.1));
        left = (over.left.0, over.left.1, false_from_ne_true _ (λ h. clash (of_meet k c over.left.0 h).0 over.left.2));
        right = rest;
      })
      | inr w ↦ apart k module_is over w (larger_or_same m c above.0)
    ];
  } where
    met : (k : NameSet) → IsModule f s k → Overlap m k → IsModule f c (intersection k c)
    met k module_is over =
        module_inside s c (intersection k c)
        (meet_module s k c module_is whole (over.meet.0, meet_has k c over.meet.0 over.meet.2 (above.0 over.meet.0 over.meet.1))) whole.inside (λ z h. (of_meet k c z h).1)

    apart : (k : NameSet) → IsModule f s k → Overlap m k → Within (intersection k c) m → ((z : ℕ) × Has c z × Lacks m z) ⊎ (m ≡ c) → ⊥
    apart k module_is over w (inr same) = above.1 same
    apart k module_is over w (inl more) =
        let crossed : Overlap c k = record {
          meet = (over.meet.0, above.0 over.meet.0 over.meet.1, over.meet.2);
          left = (over.left.0, above.0 over.left.0 over.left.1, over.left.2);
          right = (over.right.0, over.right.1, false_from_ne_true _ (λ h. clash (w over.right.0 (meet_has k c over.right.0 over.right.1 h)) over.right.2));
        } in
        is.free (difference c k)
        (module_inside s c (difference c k) (minus_module cf s c k whole module_is crossed) whole.inside (λ z h. (of_minus c k z h).0))
        (record {
          meet = (over.left.0, over.left.1, minus_has c k over.left.0 (above.0 over.left.0 over.left.1) over.left.2);
          left = (over.meet.0, over.meet.1, minus_lacks c k over.meet.0 over.meet.2);
          right = (more.0, minus_has c k more.0 more.1 (false_from_ne_true _ (λ h. clash (w more.0 (meet_has k c more.0 h more.1)) more.2)), more.2);
        })

-- ---- c itself

module _ {C : Type 0} {reverse : C → C} {e f : ℕ → ℕ → C} (ce : IsColouring reverse e) (cf : IsColouring reverse f) (told : AreTold C) where
  -- where a module of f overlaps c, this is merged
  merged_if_crossed : (s c k : NameSet) → AgreeOff e f s c → IsStrong e s c → IsModule f s k → Overlap k c → MergesIntoParent e f s c
  merged_if_crossed s c k agree is module_is over =
      elim (outside_or_within q (union k c)) [
        | inr w ↦ (q, e x (y w), c, difference c k, parent, whole_split w, part_split (y w) (ky w) (ly w))
        | inl rest ↦ merged_below rest (elim strong_or_nested [ inl w ↦ clash (w rest.0 rest.1) rest.2 | inr w ↦ w ])
      ]
    where
      differs : c ≢ s
      differs same = clash (Has-along s c (sym same) over.left.0 (module_is.inside over.left.0 over.left.1)) over.left.2

      found : (q : NameSet) × IsParent e s c q
      found = parent_of told s c is differs

      q : NameSet
      q = found.0

      parent : IsParent e s c q
      parent = found.1

      child : IsMaximalStrong e q c
      child = child_of_parent s c q is parent

      x : ℕ
      x = over.right.0

      same : IsModule f s c
      same = transfer_itself ce cf s c agree is.is_module

      joined : IsModule e s (union k c)
      joined = transfer cf ce s c (union k c) (agree_back s c agree) (inr (union_right k c)) (join_module s k c over.meet.0 module_is same over.meet.1 over.meet.2)

      parted : IsModule e s (difference k c)
      parted = transfer cf ce s c (difference k c) (agree_back s c agree) (inl (λ z h. (of_minus k c z h).1)) (minus_module cf s k c module_is same over)

      strong_or_nested : Within q (union k c) ⊎ Within (union k c) q
      strong_or_nested = nested_if_meet q (union k c) x (parent.is_strong.free (union k c) joined) (parent.above.0 x over.right.1) (union_right k c x over.right.1)

      -- c splits with f, with the colour of a pair to a name of k outside c
      part_split : (y : ℕ) → Has k y → Lacks c y → IsSplit f c (difference c k) (e x y)
      part_split y hy ly = record {
        some = (x, minus_has c k x over.right.1 over.right.2);
        inside = λ z h. (of_minus c k z h).0;
        rest = (over.meet.0, over.meet.2, minus_lacks c k over.meet.0 over.meet.1);
        across = λ a b ha hb l.
            let in_a : Has c a × Lacks k a = of_minus c k a ha in
            let in_s : Has s a = is.is_module.inside a in_a.0 in
            let kb : Has k b = elim (of_minus_lacks c k b l) [ inl o ↦ clash hb o | inr h ↦ h ] in
            module_is.alike b y a kb hy in_s in_a.1
            ∙ sym (agree_right ce cf s c agree a y in_s (module_is.inside y hy) ly)
            ∙ other_way ce y a y x (is.is_module.alike a x y in_a.0 over.right.1 (module_is.inside y hy) ly);
      }

      -- where q has no other names than k and c, it splits at c
      more : (y : ℕ) × Has q y × Lacks c y
      more = elim (larger_or_same c q parent.above.0) [ inl m ↦ m | inr differ ↦ absurd (parent.above.1 differ) ]

      y : Within q (union k c) → ℕ
      y w = more.0

      ly : (w : Within q (union k c)) → Lacks c (y w)
      ly w = more.2

      ky : (w : Within q (union k c)) → Has k (y w)
      ky w = elim (of_union k c more.0 (w more.0 more.1)) [ inl h ↦ h | inr h ↦ clash h more.2 ]

      whole_split : (w : Within q (union k c)) → IsSplit e q c (e x (y w))
      whole_split w = record {
        some = (x, over.right.1);
        inside = parent.above.0;
        rest = more;
        across = λ a b ha hb l.
            let kb : Has k b = elim (of_union k c b (w b hb)) [ inl h ↦ h | inr h ↦ clash h l ] in
            let in_s : (z : ℕ) → Has q z → Has s z = parent.is_strong.is_module.inside in
            parted.alike b more.0 a (minus_has k c b kb l) (minus_has k c more.0 (ky w) more.2) (is.is_module.inside a ha) (false_from_ne_true _ (λ h. clash ha (of_minus k c a h).1))
            ∙ other_way ce more.0 a more.0 x (is.is_module.alike a x more.0 ha over.right.1 (in_s more.0 more.1) more.2);
      }

      -- else it has a larger module than c, and splits
      merged_below : (z : ℕ) × Has q z × Lacks (union k c) z → Within (union k c) q → MergesIntoParent e f s c
      merged_below rest w =
          let z : ℕ = over.left.0 in
          let hq : Has q z = w z (union_left k c z over.left.1) in
          let r : (v : C) × (part : NameSet) × IsSplit e q part v =
          splits_if_larger told ce q c (union k c) child (module_inside s q (union k c) joined parent.is_strong.is_module.inside w)
          (λ all. clash (Has-along q (union k c) (sym all) rest.0 rest.1) rest.2) (union_right k c) z (union_left k c z over.left.1) over.left.2 in
          let p : (a : NameSet) × IsSplit e q a (e x z) = split_of_pair told ce q c r.1 r.0 x z r.2 child over.right.1 hq over.left.2 in
          (q, e x z, p.0, difference c k, parent, p.1, part_split z over.left.1 over.left.2)

  -- a set that splits still does after a change inside a child
  pub split_stays : (s c a : NameSet) (v : C) → AgreeOff e f s c → IsMaximalStrong e s c → IsSplit e s a v → IsSplit f s a v
  split_stays s c a v agree child split =
      record { some = split.some; inside = split.inside; rest = split.rest; across = λ p r hp hr l. across p r hp hr l apart }
    where
      apart : Disjoint c a ⊎ Within c a
      apart = elim (meet_or_disjoint c a) [
        | inr none ↦ inl none
        | inl meet ↦ inr (unsplit_within s c a v meet.0 child.is_strong.is_module.inside (child_unsplit ce told s c a v split child) (split_closed s a v split) meet.1 meet.2)
      ]

      across : (p r : ℕ) → Has a p → Has s r → Lacks a r → Disjoint c a ⊎ Within c a → f p r ≡ v
      across p r hp hr l (inl none) = sym (agree p r (split.inside p hp) hr (false_from_ne_true _ (λ h. clash hp (none p h)))) ∙ split.across p r hp hr l
      across p r hp hr l (inr w) = sym (agree_right ce cf s c agree p r (split.inside p hp) hr (lacks_within c a w r l)) ∙ split.across p r hp hr l

  -- and where it is merged, it isn't strong
  merged_goes : (s c : NameSet) → AgreeOff e f s c → IsStrong e s c → MergesIntoParent e f s c → IsStrong f s c → ⊥
  merged_goes s c agree is (q, v, a, b, parent, split, part) strong =
      elim (larger_or_same c d.0 d.2) [
        | inr equal ↦ ((split_children cf told q a v split_after).unsplit d.0 b d.1).0 (subst (λ t. IsSplit f t b v) equal part)
        | inl more ↦
            let stays : IsStrong e q d.0 = outside_stays cf ce q c d.0 (agree_back q c inner) same more.0 more.1 more.2 d.1.is_strong in
            clash (Has-along d.0 c (child.maximal d.0 stays d.1.proper d.2) more.0 more.1) more.2
      ]
    where
      child : IsMaximalStrong e q c
      child = child_of_parent s c q is parent

      inner : AgreeOff e f q c
      inner = agree_within s q c parent.is_strong.is_module.inside agree

      same : IsModule f q c
      same = transfer_itself ce cf q c inner child.is_strong.is_module

      split_after : IsSplit f q a v
      split_after = split_stays q c a v inner child split

      outer : IsModule f s q
      outer = transfer ce cf s c q agree (inr parent.above.0) parent.is_strong.is_module

      d : (d : NameSet) × IsMaximalStrong f q d × Within c d
      d = in_child told q c (strong_in_module s q c outer parent.above.0 strong) parent.above.1

-- ---- the laws

module _ {C : Type 0} {reverse : C → C} {e f : ℕ → ℕ → C} (ce : IsColouring reverse e) (cf : IsColouring reverse f) (told : AreTold C) where
  pub local_change : (s c : NameSet) → IsStrong e s c → AgreeOff e f s c → IsLocalChange e f s c
  local_change s c is agree = record {
    outside = λ m x hx lx. (
      outside_stays cf ce s c m (agree_back s c agree) same x hx lx,
      outside_stays ce cf s c m agree is.is_module x hx lx,
    );
    inside = λ m above. (strong_in_module s c m same above.0, inside_comes cf s c m same above);
    itself = (
      λ strong merged. merged_goes ce cf told s c agree is merged strong,
      λ none. record { is_module = same; free = λ k module_is over. none (merged_if_crossed ce cf told s c k agree is module_is (turned k over)) },
    );
  } where
    same : IsModule f s c
    same = transfer_itself ce cf s c agree is.is_module

    turned : (k : NameSet) → Overlap c k → Overlap k c
    turned k over = record { meet = (over.meet.0, over.meet.2, over.meet.1); left = over.right; right = over.left }

  edge_edit : (s : NameSet) (u v : ℕ) → AgreeBut e f u v → (w : NameSet) → IsLeastStrong e s u v w → (m : NameSet) →
      IsStrong f s m ↔ (((IsStrong e s m × (Proper m w → ⊥)) ⊎ IsStrong f w m) × ((m ≡ w) × MergesIntoParent e f s w → ⊥))
  edge_edit s u v but w least m = (
    λ strong. (there strong, λ merged. local.itself.0 (subst (IsStrong f s) merged.0 strong) merged.1),
    λ found. elim (decide_same m w) [
      | inl same ↦ subst (IsStrong f s) (sym same) (local.itself.1 (λ merged. found.1 (same, merged)))
      | inr differs ↦ back differs found.0
    ],
  ) where
    agree : AgreeOff e f s w
    agree a b ha hb l = but a b (λ same. clash (subst (Has w) (sym same.0) least.has_left) l) (λ same. clash (subst (Has w) (sym same.0) least.has_right) l)

    local : IsLocalChange e f s w
    local = local_change s w least.is_strong agree

    there : IsStrong f s m → (IsStrong e s m × (Proper m w → ⊥)) ⊎ IsStrong f w m
    there strong = elim (outside_or_within m w) [
      | inl more ↦ inl ((local.outside m more.0 more.1 more.2).0 strong, λ above. clash (above.0 more.0 more.1) more.2)
      | inr inside ↦ inr (strong_in_module s w m (transfer_itself ce cf s w agree least.is_strong.is_module) inside strong)
    ]

    back : m ≢ w → (IsStrong e s m × (Proper m w → ⊥)) ⊎ IsStrong f w m → IsStrong f s m
    back differs (inl known) = elim (outside_or_within m w) [
      | inl more ↦ (local.outside m more.0 more.1 more.2).1 known.0
      | inr inside ↦ absurd (known.1 (inside, differs))
    ]
    back differs (inr known) = (local.inside m (known.is_module.inside, differs)).1 known

pub changes_proof : (C : Type 0) → ChangesStayLocal C
changes_proof C reverse e f ce cf told s c is agree = local_change ce cf told s c is agree

pub edge_edits_proof : (C : Type 0) → EdgeEditsStayLocal C
edge_edits_proof C reverse e f ce cf told s u v but w least m = edge_edit ce cf told s u v but w least m
