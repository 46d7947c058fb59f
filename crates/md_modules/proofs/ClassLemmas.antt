-- Classes that are cut until they are modules.
use Rattle.std.proofs.Common.{◌≡◌, ℕ, ◌+◌, ◌<◌, ◌≤◌, ◌≢◌, ◌⊎◌, Bool, true, false, List, [], ◌∷◌, length, refl, sym, ◌∙◌, ap, ap₂, subst, inl, inr, arith}
use Rattle.md_modules.specs.Colours.{AreTold}
use Rattle.md_modules.proofs.Modules.{alike_or_told}
use Rattle.std.specs.FinSet.{contains, union, intersection, difference}
use Rattle.md_graph.specs.NameSet.{IsLeastFrom, NoneFrom, symmetric_difference}
use Rattle.md_graph.specs.PlainGraph.{PlainGraph, IsGraph, adjacent, neighbours}
use Rattle.md_graph.proofs.GraphLemmas.{adjacent_sym}
use Rattle.md_graph.specs.Sets.{NameSet, Has, Lacks, Within, Disjoint, HasSome, only_name}
use Rattle.md_modules.specs.Modules.{IsModule}
use Rattle.std.proofs.lemmas.Bool.{cases_Bool, true_from_ne_false, false_from_ne_true}
use Rattle.md_graph.proofs.SetLemmas.{clash, same_name, of_only, Has-along, meet_has, of_meet, minus_has, of_minus, minus_lacks, union_left, union_right, of_union, union_lacks, lacks_within, none_lacks}
use Rattle.md_graph.proofs.BitWords.{from_both}
use Rattle.md_modules.proofs.Growth.{TakesUnless}
use Rattle.md_modules.proofs.Turns.{told_all}
use Rattle.md_modules.specs.Classes.{class_at}
use Rattle.md_modules.specs.Classes.{IsSplitter, HoldsSplitters, IsSideOf, IsPartition, HoldsModules, AreMaximalInside}
use Rattle.md_modules.proofs.ClassLists.{at_known, at_one, in_one, IsCutAt, place_of}

-- ---- splitters

module _ {g : PlainGraph} (graph : IsGraph g) where
  apart : (a x : ℕ) (first second out : NameSet) → first ≡ neighbours g a → second ≡ neighbours g x → TakesUnless (λ y. adjacent g a y ≡ adjacent g x y) out (intersection out (symmetric_difference first second))
  apart a x first second out is_first is_second =
      subst (TakesUnless (λ y. adjacent g a y ≡ adjacent g x y) out) (ap₂ (λ s t. intersection out (symmetric_difference s t)) (sym is_first) (sym is_second)) (told_all graph a x out)

  pub splitter_found : (c first second left : NameSet) (a x p : ℕ) → Has c a → Has c x → Disjoint c left → first ≡ neighbours g a → second ≡ neighbours g x →
      IsLeastFrom (intersection left (symmetric_difference first second)) 0 p → IsSplitter (adjacent g) left c p
  splitter_found c first second left a x p ha hx out is_first is_second is =
      let two : Has left p × (adjacent g a p ≢ adjacent g x p) = (apart a x first second left is_first is_second).1 p is.member in
      record {
        inside = two.0;
        outside = false_from_ne_true _ (λ h. clash two.0 (out p h));
        tells = (a, x, ha, hx, λ same. two.1 (adjacent_sym g a p ∙ same ∙ adjacent_sym g p x));
      }

  pub splitter_none : (first second out : NameSet) (a x : ℕ) → first ≡ neighbours g a → second ≡ neighbours g x →
      NoneFrom (intersection out (symmetric_difference first second)) 0 → (y : ℕ) → Has out y → adjacent g a y ≡ adjacent g x y
  splitter_none first second out a x is_first is_second none y h =
      (apart a x first second out is_first is_second).0 y h (none_lacks _ none y)

  -- where all members of a class see the names left alike
  pub no_splitter : (c left : NameSet) (first : ℕ) → ((w : ℕ) → Has c w → (y : ℕ) → Has left y → adjacent g first y ≡ adjacent g w y) → (p : ℕ) → IsSplitter (adjacent g) left c p → ⊥
  no_splitter c left first alike p is =
      let (a, b, ha, hb, differ) = is.tells in
      differ (adjacent_sym g p a ∙ sym (alike a ha p is.inside) ∙ alike b hb p is.inside ∙ adjacent_sym g b p)

-- p is a name of s outside c; row has members of c and lacks others, and of two names that p has in one colour it has both or none
pub record IsCutBy {C : Type 0} (e : ℕ → ℕ → C) (s c row : NameSet) (p : ℕ) : Type 0 where
  pub inside : Has s p
  pub outside : Lacks c p
  pub alike : (x y : ℕ) → e p x ≡ e p y → contains row x ≡ contains row y
  pub sees : (a : ℕ) × Has c a × Has row a
  pub misses : (a : ℕ) × Has c a × Lacks row a

-- a splitter of a graph cuts by its neighbours
pub cut_by_row : {e : ℕ → ℕ → Bool} (s c row : NameSet) (p : ℕ) → ((y : ℕ) → contains row y ≡ e p y) → IsSplitter e s c p → IsCutBy e s c row p
cut_by_row {e} s c row p rows is = elim (cases_Bool (e p a)) [
  | inl t ↦ cut_by a b is.tells.2 is.tells.3 t (false_from_ne_true _ (λ k. is.tells.4 (t ∙ sym k)))
  | inr f ↦ cut_by b a is.tells.3 is.tells.2 (true_from_ne_false _ (λ k. is.tells.4 (f ∙ sym k))) f
] where
  a : ℕ
  a = is.tells.0

  b : ℕ
  b = is.tells.1

  cut_by : (x y : ℕ) → Has c x → Has c y → e p x ≡ true → e p y ≡ false → IsCutBy e s c row p
  cut_by x y hx hy sees misses = record {
    inside = is.inside;
    outside = is.outside;
    alike = λ u v same. rows u ∙ same ∙ sym (rows v);
    sees = (x, hx, rows x ∙ sees);
    misses = (y, hy, rows y ∙ misses);
  }

-- ---- a name alone, which nothing cuts

module _ {C : Type 0} (e : ℕ → ℕ → C) (s c : NameSet) (v : ℕ) (alone : c ≡ only_name v) where
  is_it : (x : ℕ) → Has c x → x ≡ v
  is_it x h = of_only v x (Has-along c (only_name v) alone x h)

  pub alone_uncut : (p : ℕ) → IsSplitter e s c p → ⊥
  alone_uncut p is = let (a, b, ha, hb, differ) = is.tells in differ (ap (e p) (is_it a ha ∙ sym (is_it b hb)))

  pub alone_module : HasSome c → Within c s → IsModule e s c
  alone_module some inside = record { some = some; inside = inside; alike = λ a b x ha hb _ _. ap (e x) (is_it a ha ∙ sym (is_it b hb)) }

-- ---- the names left, which may cut a class

module _ {C : Type 0} {e : ℕ → ℕ → C} (s c : NameSet) where
  pub left_begins : (left : NameSet) → left ≡ difference s c → HoldsSplitters e s c left
  left_begins left is = subst (HoldsSplitters e s c) (sym is) (record {
    inside = λ x h. (of_minus s c x h).0;
    outside = λ x h. minus_lacks s c x h;
    all = λ p tells. minus_has s c p tells.inside tells.outside;
  })

  splits_left : (left : NameSet) → HoldsSplitters e s c left → (p : ℕ) → IsSplitter e s c p → IsSplitter e left c p
  splits_left left holds p is = record { inside = holds.all p is; outside = is.outside; tells = is.tells }

  splits_all : (left : NameSet) → Within left s → (p : ℕ) → IsSplitter e left c p → IsSplitter e s c p
  splits_all left inside p is = record { inside = inside p is.inside; outside = is.outside; tells = is.tells }

  left_falls : (left new : NameSet) → HoldsSplitters e s c left → Within new left → ((p : ℕ) → IsSplitter e left c p → Has new p) → HoldsSplitters e s c new
  left_falls left new holds less kept = record {
    inside = λ x h. holds.inside x (less x h);
    outside = λ x h. lacks_within new left less x (holds.outside x h);
    all = λ p tells. kept p (splits_left left holds p tells);
  }

  -- a name left that cuts the class, where other names may have gone
  pub told_by_left : (class left new : NameSet) (p : ℕ) → class ≡ c → HoldsSplitters e s c left → Within new left → ((q : ℕ) → IsSplitter e left class q → Has new q) →
      IsSplitter e new class p → HoldsSplitters e s c new × IsSplitter e s c p
  told_by_left class left new p same holds less kept tells =
      let falls : HoldsSplitters e s c new = left_falls left new holds less (λ q h. kept q (subst (λ t. IsSplitter e left t q) (sym same) h)) in
      (falls, splits_all new falls.inside p (subst (λ t. IsSplitter e new t p) same tells))

  -- a class that no name left cuts
  pub module_unless_cut : AreTold C → (class left : NameSet) → class ≡ c → HoldsSplitters e s c left → HasSome c → Within c s → ((p : ℕ) → IsSplitter e left class p → ⊥) → IsModule e s c
  module_unless_cut told class left same holds some inside uncut = record {
    some = some;
    inside = inside;
    alike = λ a b x ha hb hx out.
        alike_or_told told (e x a) (e x b) (λ differ. none x (splits_left left holds x (record { inside = hx; outside = out; tells = (a, b, ha, hb, differ) })));
  } where
    none : (p : ℕ) → IsSplitter e left c p → ⊥
    none p tells = uncut p (subst (λ t. IsSplitter e left t p) (sym same) tells)

  -- one of two parts of a class: the names of the other one may cut it
  pub left_grows : (part left new : NameSet) → HoldsSplitters e s c left → Within c s → new ≡ union left (difference c part) → HoldsSplitters e s (intersection c part) new
  left_grows part left new holds inside is = subst (HoldsSplitters e s (intersection c part)) (sym is) (record {
    inside = λ x h. elim (of_union left (difference c part) x h) [ inl l ↦ holds.inside x l | inr d ↦ inside x (of_minus c part x d).0 ];
    outside = λ x h.
        let two : Has c x × Has part x = of_meet c part x h in
        union_lacks left (difference c part) x (holds.outside x two.0) (minus_lacks c part x two.1);
    all = λ p tells. elim (cases_Bool (contains c p)) [
      | inl t ↦ union_right left (difference c part) p (minus_has c part p t (false_from_ne_true _ (λ h. clash (meet_has c part p t h) tells.outside)))
      | inr f ↦ union_left left (difference c part) p (holds.all p (record {
        inside = tells.inside;
        outside = f;
        tells = let (a, b, ha, hb, differ) = tells.tells in (a, b, (of_meet c part a ha).0, (of_meet c part b hb).0, differ);
      }))
    ];
  })

-- ---- a class cut in two

module _ (b row : NameSet) (cs new : List NameSet) (i : ℕ) (is : IsCutAt cs new i (intersection (class_at cs i) row) (difference (class_at cs i) row)) where
  c : NameSet
  c = class_at cs i

  place : (k x : ℕ) → Has (class_at new k) x → ((k ≡ i) × Has (intersection (class_at cs i) row) x) ⊎ ((k ≡ length cs) × Has (difference (class_at cs i) row) x) ⊎ ((k ≢ i) × (k ≢ length cs) × Has (class_at cs k) x)
  place = place_of cs new i (intersection (class_at cs i) row) (difference (class_at cs i) row) is

  in_here : (k : ℕ) → k ≡ i → Within (intersection (class_at cs i) row) (class_at new k)
  in_here k same x h = subst (λ n. Has (class_at new n) x) (sym same) (Has-along _ _ (sym is.here) x h)

  in_last : (k : ℕ) → k ≡ length cs → Within (difference (class_at cs i) row) (class_at new k)
  in_last k same x h = subst (λ n. Has (class_at new n) x) (sym same) (Has-along _ _ (sym is.last) x h)

  in_other : (k : ℕ) → k ≢ i → k ≢ length cs → Within (class_at cs k) (class_at new k)
  in_other k differ not_last x h = Has-along _ _ (sym (is.others k differ not_last)) x h

  pub cut_partition : IsPartition b cs → HasSome (intersection (class_at cs i) row) → HasSome (difference (class_at cs i) row) → IsPartition b new
  cut_partition old in_some out_some = record {
    are_apart = record { some = each_some; apart = alone };
    inside = λ k x h. elim (place k x h) [
      | inl here ↦ old.inside i x (of_meet (class_at cs i) row x here.1).0
      | inr other ↦ elim other [ inl last ↦ old.inside i x (of_minus (class_at cs i) row x last.1).0 | inr w ↦ old.inside k x w.2 ]
    ];
    cover = λ x h. let r : (k : ℕ) × Has (class_at cs k) x = old.cover x h in elim (same_name r.0 i) [
      | inl same ↦
          let hi : Has (class_at cs i) x = subst (λ n. Has (class_at cs n) x) same r.1 in
          elim (cases_Bool (contains row x)) [
            | inl t ↦ (i, in_here i refl x (meet_has (class_at cs i) row x hi t))
            | inr f ↦ (length cs, in_last (length cs) refl x (minus_has (class_at cs i) row x hi f))
          ]
      | inr differ ↦
          let known : r.0 < length cs = at_known cs r.0 x r.1 in
          let not_last : r.0 ≢ length cs = λ e. omega arith in
          (r.0, in_other r.0 differ not_last x r.1)
    ];
  } where
    each_some : (k : ℕ) → k < length new → HasSome (class_at new k)
    each_some k l = elim (same_name k i) [
      | inl same ↦ (in_some.0, in_here k same in_some.0 in_some.1)
      | inr differ ↦ elim (same_name k (length cs)) [
        | inl same ↦ (out_some.0, in_last k same out_some.0 out_some.1)
        | inr not_last ↦
            let size : length new ≡ length cs + 1 = is.size in
            let r : HasSome (class_at cs k) = old.are_apart.some k (omega arith) in (r.0, in_other k differ not_last r.0 r.1)
      ]
    ]

    known_in : (k x : ℕ) → (k ≢ i) → Has (class_at cs k) x → Has (class_at cs i) x → ⊥
    known_in k x differ h hi = differ (old.are_apart.apart k i x h hi)

    alone : (j k x : ℕ) → Has (class_at new j) x → Has (class_at new k) x → j ≡ k
    alone j k x hj hk = elim (place j x hj) [
      | inl p ↦ elim (place k x hk) [
        | inl q ↦ p.0 ∙ sym q.0
        | inr other ↦ elim other [
          | inl q ↦ clash (of_meet (class_at cs i) row x p.1).1 (of_minus (class_at cs i) row x q.1).1
          | inr q ↦ absurd (known_in k x q.0 q.2 (of_meet (class_at cs i) row x p.1).0)
        ]
      ]
      | inr p_other ↦ elim p_other [
        | inl p ↦ elim (place k x hk) [
          | inl q ↦ clash (of_meet (class_at cs i) row x q.1).1 (of_minus (class_at cs i) row x p.1).1
          | inr other ↦ elim other [
            | inl q ↦ p.0 ∙ sym q.0
            | inr q ↦ absurd (known_in k x q.0 q.2 (of_minus (class_at cs i) row x p.1).0)
          ]
        ]
        | inr p ↦ elim (place k x hk) [
          | inl q ↦ absurd (known_in j x p.0 p.2 (of_meet (class_at cs i) row x q.1).0)
          | inr other ↦ elim other [
            | inl q ↦ absurd (known_in j x p.0 p.2 (of_minus (class_at cs i) row x q.1).0)
            | inr q ↦ old.are_apart.apart j k x p.2 q.2
          ]
        ]
      ]
    ]

-- the classes in front of place i are modules, and each module of s inside b lies in one class
pub record IsCutting {C : Type 0} (e : ℕ → ℕ → C) (s b : NameSet) (cs : List NameSet) (i : ℕ) : Type 0 where
  pub holds : HoldsModules e s b cs
  pub modules : (k : ℕ) → k < i → k < length cs → IsModule e s (class_at cs k)

module _ {C : Type 0} {e : ℕ → ℕ → C} where
  pub one_class_holds : (s b c : NameSet) (cs : List NameSet) → HasSome b → c ≡ b → cs ≡ c ∷ [] → HoldsModules e s b cs
  one_class_holds s b c cs some same is = subst (HoldsModules e s b) (sym (is ∙ ap (λ t. t ∷ []) same)) (record {
    partition = record {
      are_apart = record { some = λ k l. subst HasSome (sym (in_one b k l)) some; apart = λ j k x hj hk. (at_one b j x hj).0 ∙ sym (at_one b k x hk).0 };
      inside = λ k x h. (at_one b k x h).1;
      cover = λ x h. (0, h);
    };
    whole = λ m is w k x h hm y hy.
        let first : k ≡ 0 = (at_one b k x h).0 in subst (λ n. Has (class_at (b ∷ []) n) y) (sym first) (w y hy);
  })

  pub cutting_begins : (s b : NameSet) (cs : List NameSet) → HoldsModules e s b cs → IsCutting e s b cs 0
  cutting_begins s b cs holds = record { holds = holds; modules = λ k l. absurd (omega arith) }

  -- the class at place i is a module
  pub cutting_passes : (s b : NameSet) (cs : List NameSet) (i : ℕ) → IsCutting e s b cs i → IsModule e s (class_at cs i) → IsCutting e s b cs (i + 1)
  cutting_passes s b cs i is here = record {
    holds = is.holds;
    modules = λ k l known. elim (same_name k i) [
      | inl same ↦ subst (λ n. IsModule e s (class_at cs n)) (sym same) here
      | inr differ ↦ is.modules k (omega arith) known
    ];
  }

  -- the classes from place i to j are names alone
  pub cutting_skips : (s b : NameSet) (cs : List NameSet) (i j : ℕ) → Within b s → IsCutting e s b cs i → ((k : ℕ) → i ≤ k → k < j → (v : ℕ) × (class_at cs k ≡ only_name v)) → IsCutting e s b cs j
  cutting_skips s b cs i j part is names = record {
    holds = is.holds;
    modules = λ k l known. from_both (λ n. n ≡ k → IsModule e s (class_at cs n)) i
        (λ n low same. is.modules n low (omega arith))
        (λ n high same.
        let named = names n high (omega arith) in
        let here : n < length cs = omega arith in
        alone_module e s (class_at cs n) named.0 named.1 (is.holds.partition.are_apart.some n here) (λ x h. part x (is.holds.partition.inside n x h))) k refl;
  }

  pub cutting_ends : (s b : NameSet) (cs : List NameSet) (i : ℕ) → IsCutting e s b cs i → length cs ≤ i → AreMaximalInside e s b cs
  cutting_ends s b cs i is end = record { holds = is.holds; modules = λ k l. is.modules k (omega arith) l }

  module _ (s row part : NameSet) (cs : List NameSet) (i p : ℕ) (cut_by : IsCutBy e s (class_at cs i) row p) (side : IsSideOf part (class_at cs i) row) where
    pub sees_some : HasSome (intersection (class_at cs i) part)
    sees_some = elim side [
      | inl is ↦ let (a, ha, h) = cut_by.sees in (a, meet_has (class_at cs i) part a ha (Has-along row part (sym is) a h))
      | inr is ↦ let (a, ha, l) = cut_by.misses in (a, meet_has (class_at cs i) part a ha (Has-along (difference (class_at cs i) row) part (sym is) a (minus_has (class_at cs i) row a ha l)))
    ]

    pub misses_some : HasSome (difference (class_at cs i) part)
    misses_some = elim side [
      | inl is ↦ let (a, ha, l) = cut_by.misses in (a, minus_has (class_at cs i) part a ha (ap (λ t. contains t a) is ∙ l))
      | inr is ↦ let (a, ha, h) = cut_by.sees in (a, minus_has (class_at cs i) part a ha (ap (λ t. contains t a) is ∙ minus_lacks (class_at cs i) row a h))
    ]

    alike_sides : (x y : ℕ) → Has (class_at cs i) x → Has (class_at cs i) y → contains row x ≡ contains row y → contains part x ≡ contains part y
    alike_sides x y hx hy same = elim side [
      | inl is ↦ ap (λ t. contains t x) is ∙ same ∙ sym (ap (λ t. contains t y) is)
      | inr is ↦
          let other : contains (difference (class_at cs i) row) x ≡ contains (difference (class_at cs i) row) y = elim (cases_Bool (contains row x)) [
            | inl t ↦ minus_lacks (class_at cs i) row x t ∙ sym (minus_lacks (class_at cs i) row y (sym same ∙ t))
            | inr f ↦ minus_has (class_at cs i) row x hx f ∙ sym (minus_has (class_at cs i) row y hy (sym same ∙ f))
          ] in
          ap (λ t. contains t x) is ∙ other ∙ sym (ap (λ t. contains t y) is)
    ]

    -- a module inside the class lies in one of its two parts
    stays : (m : NameSet) (x y : ℕ) → IsModule e s m → Within m (class_at cs i) → Has m x → Has m y → contains part y ≡ contains part x
    stays m x y module_is w hx hy =
        alike_sides y x (w y hy) (w x hx) (cut_by.alike y x (module_is.alike y x p hy hx cut_by.inside (false_from_ne_true _ (λ h. clash (w p h) cut_by.outside))))

    -- the class at place i is cut by a name outside it
    pub cutting_cuts : (b : NameSet) (new : List NameSet) → IsCutAt cs new i (intersection (class_at cs i) part) (difference (class_at cs i) part) → i < length cs →
        IsCutting e s b cs i → IsCutting e s b new i
    cutting_cuts b new cut l is = record {
      holds = record {
        partition = cut_partition b part cs new i cut is.holds.partition sees_some misses_some;
        whole = whole;
      };
      modules = λ k before known.
          let differ : k ≢ i = λ q. omega arith in
          let not_last : k ≢ length cs = λ q. omega arith in
          subst (IsModule e s) (sym (cut.others k differ not_last)) (is.modules k before (omega arith));
    } where
      whole : (m : NameSet) → IsModule e s m → Within m b → (k x : ℕ) → Has (class_at new k) x → Has m x → Within m (class_at new k)
      whole m module_is w k x h hm y hy =
          elim (place_of cs new i (intersection (class_at cs i) part) (difference (class_at cs i) part) cut k x h) [
            | inl here ↦
                let two : Has (class_at cs i) x × Has part x = of_meet (class_at cs i) part x here.1 in
                let inside : Within m (class_at cs i) = is.holds.whole m module_is w i x two.0 hm in
                subst (λ n. Has (class_at new n) y) (sym here.0) (Has-along _ _ (sym cut.here) y (meet_has (class_at cs i) part y (inside y hy) (stays m x y module_is inside hm hy ∙ two.1)))
            | inr other ↦ elim other [
              | inl last ↦
                  let two : Has (class_at cs i) x × Lacks part x = of_minus (class_at cs i) part x last.1 in
                  let inside : Within m (class_at cs i) = is.holds.whole m module_is w i x two.0 hm in
                  subst (λ n. Has (class_at new n) y) (sym last.0) (Has-along _ _ (sym cut.last) y (minus_has (class_at cs i) part y (inside y hy) (stays m x y module_is inside hm hy ∙ two.1)))
              | inr q ↦ Has-along _ _ (sym (cut.others k q.0 q.1)) y (is.holds.whole m module_is w k x q.2 hm y hy)
            ]
          ]
