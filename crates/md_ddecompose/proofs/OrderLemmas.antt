-- The uncut segments of a set are its children in order, where they are two or more; a set with one of them doesn't split so.
use Rattle.std.proofs.Common.{◌≡◌, ℕ, suc, ◌<◌, ◌≤◌, Bool, List, [], ◌∷◌, length, Contains, refl, sym, ◌∙◌, ap, subst, inl, inr, true≢false, arith}
use Rattle.std.proofs.lemmas.Bool.{false_from_ne_true}
use Rattle.md_graph.specs.Sets.{NameSet, Has, Within, HasSome}
use Rattle.md_graph.proofs.SetLemmas.{clash, same_members}
use Rattle.md_modules.specs.Modules.{IsMaximalStrong}
use Rattle.md_modules.proofs.Strong.{children_meet}
use Rattle.md_modules.proofs.Splits.{AreReverses, segment_inside, unsplit_segment, segment_child}
use Rattle.md_digraph.specs.ArcColours.{between, swapped}
use Rattle.md_digraph.proofs.ArcTurns.{arcs_turn}
use Rattle.md_text.proofs.Lists.{In, of_contains, to_contains, of_pairs}
use Rattle.md_dtree.specs.declared.DKind.TheVariants.{Order}
use Rattle.md_dtree.specs.DirectedTrees.{arc_forth, SplitsWith, AllArcsTo}
use Rattle.md_ddecompose.specs.Children.{AreDirectedChildren}
use Rattle.md_ddecompose.specs.Ranks.{IsUncutSegment, AreUncutSegments}

module _ (arc : ℕ → ℕ → Bool) (s : NameSet) where
  inside_of : (c : NameSet) → IsUncutSegment arc s c → Within c s
  inside_of c is = segment_inside s c arc_forth (swapped arc_forth) is.segment

  pub no_order : (cs : List NameSet) → AreUncutSegments arc s cs → HasSome s → length cs < 2 → SplitsWith arc s arc_forth → ⊥
  no_order [] are some few split = absurd (of_contains [] (are.cover some.0 some.1).0 (are.cover some.0 some.1).1)
  no_order (c ∷ []) are some few split =
      let is : IsUncutSegment arc s c = are.each c (to_contains (c ∷ []) c (inl refl)) in
      let same : c ≡ s = same_members c s (inside_of c is) (λ x h.
      let d = are.cover x h in
      elim (of_contains (c ∷ []) d.0 d.1) [ inl e ↦ subst (λ t. Has t x) e d.2 | inr none ↦ absurd none ]) in
      is.uncut (subst (λ t. SplitsWith arc t arc_forth) (sym same) split)
  no_order (c ∷ d ∷ cs) are some few split = absurd (let b : suc (suc (length cs)) < 2 = few in omega arith)

  first_splits : (cs : List NameSet) → AreUncutSegments arc s cs → 2 ≤ length cs → SplitsWith arc s arc_forth
  first_splits [] are many = absurd (let b : 2 ≤ 0 = many in omega arith)
  first_splits (c ∷ []) are many = absurd (let b : 2 ≤ 1 = many in omega arith)
  first_splits (c ∷ d ∷ cs) are many = (
    c,
    record {
      some = c_is.some;
      inside = inside_of c c_is;
      rest = (
        d_is.some.0,
        inside_of d d_is d_is.some.0 d_is.some.1,
        false_from_ne_true _ (λ h.
            let own = later d (inl refl) d_is.some.0 d_is.some.0 h d_is.some.1 in
            true≢false (sym (ap (λ k. k.0) own) ∙ ap (λ k. k.1) own)),
      );
      across = λ a b ha hb l.
          let f = are.cover b hb in
          elim (of_contains (c ∷ d ∷ cs) f.0 f.1) [
            | inl e ↦ clash (subst (λ t. Has t b) e f.2) l
            | inr i ↦ later f.0 i a b ha f.2
          ];
    },
  ) where
    c_is : IsUncutSegment arc s c
    c_is = are.each c (to_contains (c ∷ d ∷ cs) c (inl refl))

    d_is : IsUncutSegment arc s d
    d_is = are.each d (to_contains (c ∷ d ∷ cs) d (inr (inl refl)))

    later : (m : NameSet) → In (d ∷ cs) m → AllArcsTo arc c m
    later m i = (of_pairs (AllArcsTo arc) (c ∷ d ∷ cs) are.order).0 m i

  reverses : AreReverses swapped arc_forth (swapped arc_forth)
  reverses = record { there = refl; back = refl }

  pub order_children : (cs : List NameSet) → AreUncutSegments arc s cs → 2 ≤ length cs → SplitsWith arc s arc_forth × AreDirectedChildren arc s Order cs
  order_children cs are many = (
    splits,
    record {
      exactly = λ m. (
        λ max.
            let x : HasSome m = max.is_strong.is_module.some in
            let c = are.cover x.0 (max.is_strong.is_module.inside x.0 x.1) in
            let same : c.0 ≡ m = children_meet s c.0 m x.0 (child c.0 (are.each c.0 c.1)) max c.2 x.1 in
            subst (Contains cs) same c.1,
        λ known. child m (are.each m known),
      );
      order = are.order;
    },
  ) where
    splits : SplitsWith arc s arc_forth
    splits = first_splits cs are many

    child : (c : NameSet) → IsUncutSegment arc s c → IsMaximalStrong (between arc) s c
    child c is =
        segment_child (arcs_turn arc) s splits.0 c arc_forth (swapped arc_forth) is.some.0 reverses splits.1
        (unsplit_segment (arcs_turn arc) s c arc_forth (swapped arc_forth) is.some.0 reverses is.segment (λ a split. is.uncut (a, split)) is.some.1)
