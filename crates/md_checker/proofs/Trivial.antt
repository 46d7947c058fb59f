-- Three searches decide whether the graph on a set has trivial modules alone.
use Rattle.std.proofs.Common.{◌≡◌, ◌≢◌, ◌↔◌, ℕ, zero, suc, ◌+◌, ◌<◌, ◌≤◌, List, [], ◌∷◌, length, refl, sym, ◌∙◌, subst, inl, inr, arith}
use Rattle.std.proofs.lemmas.Bool.{cases_Bool}
use Rattle.std.specs.FinSet.{contains, remove, difference}
use Rattle.md_graph.specs.Sets.{NameSet, Has, Within, HasSome, HasTwo, only_name}
use Rattle.md_graph.proofs.SetLemmas.{clash, empty_lacks, only_has, of_only, Has-along, same_members, of_remove, remove_left, minus_has, of_minus}
use Rattle.md_graph.proofs.Search.{other_or_alone}
use Rattle.md_modules.specs.Classes.{class_at, AreMaximalInside}
use Rattle.md_modules.specs.Modules.{IsModule, IsLeastModule, HasTrivialModulesAlone}
use Rattle.md_checker.specs.FitTests.{IsSingle, AreSingle}

-- ---- sets with one member

pub two_not_single : (s : NameSet) → (HasSome s → HasTwo s) → IsSingle s → ⊥
two_not_single s more single =
    let two : HasTwo s = more (single.0, Has-along (only_name single.0) s (sym single.1) single.0 (only_has single.0)) in
    two.4 (of_only single.0 two.0 (Has-along s (only_name single.0) single.1 two.0 two.2) ∙ sym (of_only single.0 two.1 (Has-along s (only_name single.0) single.1 two.1 two.3)))

single_at : (cs : List NameSet) → AreSingle cs → (k x : ℕ) → Has (class_at cs k) x → IsSingle (class_at cs k)
single_at [] single k x h = clash h (empty_lacks x)
single_at (c ∷ cs) single zero x h = single.0
single_at (c ∷ cs) single (suc k) x h = single_at cs single.1 k x h

all_single : (cs : List NameSet) → ((k : ℕ) → k < length cs → IsSingle (class_at cs k)) → AreSingle cs
all_single [] each = tt
all_single (c ∷ cs) each = (
  each 0 (let b : 0 < suc (length cs) = omega arith in b),
  all_single cs (λ k h. each (suc k) (let b : suc k < suc (length cs) = omega arith in b)),
)

pub later_differs : (v j : ℕ) → v + 1 ≤ j → v ≢ j
later_differs v j later same = omega arith

-- b has the names that no module smaller than s holds with v
abbrev pub AreWhole : {C : Type 0} → (ℕ → ℕ → C) → NameSet → NameSet → ℕ → Type 0
AreWhole e s b v = (i : ℕ) → Has b i ↔ (Has s i × (i ≢ v) × IsLeastModule e s v i s)

module _ {C : Type 0} {e : ℕ → ℕ → C} (s : NameSet) where
  -- ---- the least module with two names

  pub not_trivial : (k : NameSet) (v j : ℕ) → IsLeastModule e s v j k → v ≢ j → k ≢ s → HasTrivialModulesAlone e s → ⊥
  not_trivial k v j least differ proper trivial = elim (trivial k least.is_module) [
    | inl x ↦ differ (x.1 v least.has_left ∙ sym (x.1 j least.has_right))
    | inr same ↦ proper same
  ]

  -- ---- the names that no smaller module holds with the first one

  pub back_alone : (b : NameSet) (v j : ℕ) → IsLeastModule e s v j s → v ≢ j → AreWhole e s b v → IsModule e s (difference s b) → Has (difference s b) v →
      HasTrivialModulesAlone e s → b ≡ remove s v
  back_alone b v j whole differ names rest fixed trivial = same_members b (remove s v)
      (λ i h. let w = (names i).0 h in remove_left s v i w.1 w.0)
      (λ i h.
      let w = of_remove s v i h in
      elim (cases_Bool (contains b i)) [
        | inl hb ↦ hb
        | inr l ↦ elim (trivial (difference s b) rest) [
          | inl x ↦ absurd (w.0 (x.1 i (minus_has s b i w.1 l) ∙ sym (x.1 v fixed)))
          | inr same ↦ clash j_in (of_minus s b j (Has-along s (difference s b) (sym same) j whole.has_right)).1
        ]
      ])
    where
      j_in : Has b j
      j_in = (names j).1 (whole.has_right, (λ same. differ (sym same)), whole)

  -- ---- the classes of the other names

  module _ (b : NameSet) (v : ℕ) (is_rest : b ≡ remove s v) (cs : List NameSet) (max : AreMaximalInside e s b cs) where
    pub trivial_if : AreWhole e s b v → AreSingle cs → HasTrivialModulesAlone e s
    trivial_if names single m is = elim (cases_Bool (contains m v)) [
      | inl hv ↦ elim (other_or_alone m v) [
        | inl y ↦
            let in_b : Has b y.0 = Has-along (remove s v) b (sym is_rest) y.0 (remove_left s v y.0 y.2 (is.inside y.0 y.1)) in
            let whole : IsLeastModule e s v y.0 s = ((names y.0).0 in_b).2 in
            inr (same_members m s is.inside (whole.least m is hv y.1))
        | inr alone ↦ inl (v, alone)
      ]
      | inr lv ↦
          let in_b : Within m b = λ y h.
          Has-along (remove s v) b (sym is_rest) y (remove_left s v y (λ same. clash (subst (Has m) same h) lv) (is.inside y h)) in
          let x = is.some in
          let k : (k : ℕ) × Has (class_at cs k) x.0 = max.holds.partition.cover x.0 (in_b x.0 x.1) in
          let w : Within m (class_at cs k.0) = max.holds.whole m is in_b k.0 x.0 k.1 x.1 in
          let one : IsSingle (class_at cs k.0) = single_at cs single k.0 x.0 k.1 in
          inl (one.0, λ y h. of_only one.0 y (Has-along (class_at cs k.0) (only_name one.0) one.1 y (w y h)))
    ]

    pub single_if : Has s v → HasTrivialModulesAlone e s → AreSingle cs
    single_if hv trivial = all_single cs (λ k below.
        let is : IsModule e s (class_at cs k) = max.modules k below in
        elim (trivial (class_at cs k) is) [
          | inl x ↦ (
            x.0,
            same_members (class_at cs k) (only_name x.0)
                (λ y h. subst (Has (only_name x.0)) (sym (x.1 y h)) (only_has x.0))
                (λ y h. subst (Has (class_at cs k)) (x.1 is.some.0 is.some.1 ∙ sym (of_only x.0 y h)) is.some.1),
          )
          | inr same ↦
              let in_class : Has (class_at cs k) v = Has-along s (class_at cs k) (sym same) v hv in
              let in_b : Has b v = max.holds.partition.inside k v in_class in
              absurd ((of_remove s v v (Has-along b (remove s v) is_rest v in_b)).0 refl)
        ])
