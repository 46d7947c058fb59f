-- Partitions into modules and their quotients; the maximal proper modules of a set that doesn't split, for any colours.
use Rattle.std.proofs.Common.{◌≡◌, ℕ, ◌+◌, ◌<◌, ◌≤◌, Bool, true, nat_eq, ◌≢◌, ◌⊎◌, refl, sym, ◌∙◌, ap, subst, inl, inr, arith, eqb-true, eq-eqb}
use Rattle.std.specs.FinSet.{contains, remove, retain, len}
use Rattle.md_graph.specs.Sets.{NameSet, Has, Lacks, Within, Disjoint, HasSome, HasTwo, only_name}
use Rattle.md_graph.specs.Adjacency.{IsAdjacency}
use Rattle.md_modules.specs.Colours.{IsColouring, AreTold}
use Rattle.md_modules.specs.Modules.{IsModule, IsMaximalModule, HasTrivialModulesAlone}
use Rattle.md_modules.specs.Kinds.{IsSplit, IsPrime, IsUnsplit}
use Rattle.md_modules.specs.Quotients.{IsQuotient, IsModularPartition, class}
use Rattle.md_modules.specs.InducedPaths.{IsInducedPath, HasInducedPath}
use Rattle.md_modules.specs.Laws.{MaximalModules, PrimeHasMaximalModules, UnsplitHasMaximalModules}
use Rattle.std.proofs.lemmas.Bool.{false_from_ne_true}
use Rattle.std.proofs.Math.Nat.{ne_of_lt}
use Rattle.md_graph.proofs.SetLemmas.{clash, same_name, Has-along, same_members, remove_gone, remove_left, of_remove, retain_has, of_retain, retain_lacks, of_retain_lacks}
use Rattle.md_graph.proofs.Search.{Decided, decide_test, decide_both, decide_not, decide_if, decide_same, decide_like, decide_below, decide_some, decide_some_set, decide_all, test_of, test_holds, of_test, larger_or_same, choose, len_single, other_or_alone, two_of_len, len_fewer, len_four, some_len, first_member}
use Rattle.md_modules.proofs.Modules.{undirected, across_modules, least_module, decide_maximal}
use Rattle.md_modules.proofs.Splits.{pair_splits}
use Rattle.md_modules.proofs.Components.{prime_unsplit, unsplit_prime}
use Rattle.md_modules.proofs.Children.{in_maximal, maximal_of, maximal_leaves, maximal_meet, maximal_child, child_maximal, together_if_least_proper, least_proper_if_together}
use Rattle.md_modules.proofs.Paths.{prime_path}

-- the class of p has the names that lead to p
pub class_has : (s : NameSet) (rep : ℕ → ℕ) (p x : ℕ) → Has s x → rep x ≡ p → Has (class s rep p) x
class_has s rep p x h same = retain_has s (λ y. nat_eq (rep y) p) x h (eq-eqb (rep x) p same)

pub of_class : (s : NameSet) (rep : ℕ → ℕ) (p x : ℕ) → Has (class s rep p) x → Has s x × (rep x ≡ p)
of_class s rep p x h =
    let two : Has s x × (nat_eq (rep x) p ≡ true) = of_retain s (λ y. nat_eq (rep y) p) x h in
    (two.0, eqb-true (rep x) p two.1)

-- the names of s whose classes k names
abbrev pub lifted : NameSet → (ℕ → ℕ) → NameSet → NameSet
lifted s rep k = retain s (λ x. contains k (rep x))

pub not_same_in : (k : NameSet) (x y : ℕ) → Has k x → Lacks k y → x ≢ y
not_same_in k x y h l same = clash (subst (Has k) same h) l

module _ {C : Type 0} {reverse : C → C} {e : ℕ → ℕ → C} (col : IsColouring reverse e) (s r : NameSet) (rep : ℕ → ℕ) (part : IsModularPartition e s r rep) where
  own_class : (p : ℕ) → Has r p → Has (class s rep p) p
  own_class p h = class_has s rep p p (part.inside p h) (part.own p h)

  -- between two classes all pairs are alike
  pub across_classes : (a b : ℕ) → Has s a → Has s b → rep a ≢ rep b → e a b ≡ e (rep a) (rep b)
  across_classes a b ha hb differ =
      across_modules col s (class s rep (rep a)) (class s rep (rep b)) (part.modules (rep a) (part.leads a ha)) (part.modules (rep b) (part.leads b hb))
      (λ x h. false_from_ne_true _ (λ k. differ (sym (of_class s rep (rep a) x h).1 ∙ (of_class s rep (rep b) x k).1)))
      a (rep a) b (rep b) (class_has s rep (rep a) a ha refl) (own_class (rep a) (part.leads a ha)) (class_has s rep (rep b) b hb refl) (own_class (rep b) (part.leads b hb))

  -- a class that k names has a name of s
  lifted_some : (k : NameSet) → Within k r → HasSome k → HasSome (lifted s rep k)
  lifted_some k inside some =
      let named : Has r some.0 = inside some.0 some.1 in
      (some.0, retain_has s (λ x. contains k (rep x)) some.0 (part.inside some.0 named) (subst (Has k) (sym (part.own some.0 named)) some.1))

  -- the classes of a module of the quotient are a module
  pub lifted_module : (k : NameSet) → IsModule e r k → IsModule e s (lifted s rep k)
  lifted_module k is = record {
    some = lifted_some k is.inside is.some;
    inside = λ x h. (of_retain s _ x h).0;
    alike = λ a b x ha hb hx l.
        let a_in : Has s a × Has k (rep a) = of_retain s (λ z. contains k (rep z)) a ha in
        let b_in : Has s b × Has k (rep b) = of_retain s (λ z. contains k (rep z)) b hb in
        let out : Lacks k (rep x) = of_retain_lacks s (λ z. contains k (rep z)) x hx l in
        across_classes x a hx a_in.0 (λ same. not_same_in k (rep a) (rep x) a_in.1 out (sym same))
        ∙ is.alike (rep a) (rep b) (rep x) a_in.1 b_in.1 (part.leads x hx) out
        ∙ sym (across_classes x b hx b_in.0 (λ same. not_same_in k (rep b) (rep x) b_in.1 out (sym same)));
  }

  -- a split of the quotient is one of s
  pub lifted_split : (k : NameSet) (v : C) → IsSplit e r k v → IsSplit e s (lifted s rep k) v
  lifted_split k v is = record {
    some = lifted_some k is.inside is.some;
    inside = λ x h. (of_retain s _ x h).0;
    rest = (is.rest.0, part.inside is.rest.0 is.rest.1, retain_lacks s (λ x. contains k (rep x)) is.rest.0 (subst (Lacks k) (sym (part.own is.rest.0 is.rest.1)) is.rest.2));
    across = λ a b ha hb l.
        let a_in : Has s a × Has k (rep a) = of_retain s (λ z. contains k (rep z)) a ha in
        let out : Lacks k (rep b) = of_retain_lacks s (λ z. contains k (rep z)) b hb l in
        across_classes a b a_in.0 hb (not_same_in k (rep a) (rep b) a_in.1 out) ∙ is.across (rep a) (rep b) a_in.1 (part.leads b hb) out;
  }

  -- the names of the classes that m meets
  pub decide_met : (m : NameSet) (p : ℕ) → Decided ((x : ℕ) × Has m x × (rep x ≡ p))
  decide_met m p = decide_some m (λ x. rep x ≡ p) (λ x h. same_name (rep x) p)

  abbrev pub met : NameSet → NameSet
  met m = retain r (λ p. test_of (decide_met m p))

  pub met_has : (m : NameSet) (x : ℕ) → Has s x → Has m x → Has (met m) (rep x)
  met_has m x hs h = retain_has r _ (rep x) (part.leads x hs) (test_holds (decide_met m (rep x)) (x, h, refl))

  pub of_met : (m : NameSet) (p : ℕ) → Has (met m) p → (x : ℕ) × Has m x × (rep x ≡ p)
  of_met m p h = of_test (decide_met m p) (of_retain r _ p h).1

  -- the classes that a module meets are a module of the quotient
  pub met_module : (m : NameSet) → IsModule e s m → IsModule e r (met m)
  met_module m is = record {
    some = (rep is.some.0, met_has m is.some.0 (is.inside is.some.0 is.some.1) is.some.1);
    inside = λ p h. (of_retain r _ p h).0;
    alike = λ p q x hp hq hx l.
        let a : (z : ℕ) × Has m z × (rep z ≡ p) = of_met m p hp in
        let b : (z : ℕ) × Has m z × (rep z ≡ q) = of_met m q hq in
        let xs : Has s x = part.inside x hx in
        let out : Lacks m x = false_from_ne_true _ (λ h. clash (subst (Has (met m)) (part.own x hx) (met_has m x xs h)) l) in
        sees x p a.0 hx (is.inside a.0 a.1) a.2 (λ same. clash (subst (Has (met m)) (sym same) hp) l)
        ∙ is.alike a.0 b.0 x a.1 b.1 xs out
        ∙ sym (sees x q b.0 hx (is.inside b.0 b.1) b.2 (λ same. clash (subst (Has (met m)) (sym same) hq) l));
  } where
    sees : (x p a : ℕ) → Has r x → Has s a → rep a ≡ p → x ≢ p → e x p ≡ e x a
    sees x p a hx ha same differ =
        sym (across_classes x a (part.inside x hx) ha (λ k. differ (sym (part.own x hx) ∙ k ∙ same))
        ∙ ap (λ z. e z (rep a)) (part.own x hx) ∙ ap (e x) same)

  -- in a quotient with three names or more and trivial modules alone, each module is the whole or lies in one class
  rest_module : (m : NameSet) (z : ℕ) → IsModule e s m → 3 ≤ len r → met m ≡ r → Has s z → Lacks m z → IsModule e r (remove r (rep z))
  rest_module m z is many same hz l = record {
    some = some;
    inside = λ x h. (of_remove r (rep z) x h).1;
    alike = λ p q x hp hq hx out. elim (same_name x (rep z)) [
      | inl is_z ↦ ap (λ y. e y p) is_z ∙ sees p hp ∙ sym (sees q hq) ∙ sym (ap (λ y. e y q) is_z)
      | inr differs ↦ clash (remove_left r (rep z) x differs hx) out
    ];
  } where
    some : HasSome (remove r (rep z))
    some =
        let fewer : len (remove r (rep z)) + 1 ≡ len r = len_fewer r (rep z) (part.leads z hz) in
        let two : HasTwo (remove r (rep z)) = two_of_len (remove r (rep z)) (omega arith) in
        (two.0, two.2)

    w : ℕ
    w = is.some.0

    sees : (p : ℕ) → Has (remove r (rep z)) p → e (rep z) p ≡ e z w
    sees p hp =
        let p_in : (p ≢ rep z) × Has r p = of_remove r (rep z) p hp in
        let a : (y : ℕ) × Has m y × (rep y ≡ p) = of_met m p (Has-along r (met m) (sym same) p p_in.1) in
        sym (across_classes z a.0 hz (is.inside a.0 a.1) (λ k. p_in.0 (sym a.2 ∙ sym k)) ∙ ap (e (rep z)) a.2)
        ∙ is.alike a.0 w z a.1 is.some.1 hz l

  pub module_in_class : (m : NameSet) → IsModule e s m → 3 ≤ len r → HasTrivialModulesAlone e r → (m ≡ s) ⊎ ((p : ℕ) × Has r p × Within m (class s rep p))
  module_in_class m is many trivial =
      elim (trivial (met m) (met_module m is)) [
        | inl one ↦
            let w : ℕ = rep is.some.0 in
            inr (
              w,
              part.leads is.some.0 (is.inside is.some.0 is.some.1),
              λ x h. class_has s rep w x (is.inside x h)
                  (one.1 (rep x) (met_has m x (is.inside x h) h) ∙ sym (one.1 w (met_has m is.some.0 (is.inside is.some.0 is.some.1) is.some.1))),
            )
        | inr all ↦ elim (larger_or_same m s is.inside) [
          | inr same ↦ inl same
          | inl z ↦ absurd (no_rest z.0 z.1 (trivial (remove r (rep z.0)) (rest_module m z.0 is many all z.1 z.2)))
        ]
      ]
    where
      no_rest : (z : ℕ) → Has s z → ((x : ℕ) × ((y : ℕ) → Has (remove r (rep z)) y → y ≡ x)) ⊎ (remove r (rep z) ≡ r) → ⊥
      no_rest z hz (inl one) =
          let fewer : len (remove r (rep z)) + 1 ≡ len r = len_fewer r (rep z) (part.leads z hz) in
          let small : len (remove r (rep z)) ≤ 1 = len_single (remove r (rep z)) one.0 one.1 in
          omega arith
      no_rest z hz (inr same) = clash (Has-along r (remove r (rep z)) (sym same) (rep z) (part.leads z hz)) (remove_gone r (rep z))

-- x and y lie in one maximal proper module
abbrev pub Together : {C : Type 0} → (ℕ → ℕ → C) → NameSet → ℕ → ℕ → Type 0
Together e s x y = (m : NameSet) × IsMaximalModule e s m × Has m x × Has m y

module _ {C : Type 0} (told : AreTold C) (e : ℕ → ℕ → C) (s : NameSet) where
  pub decide_together : (x y : ℕ) → Decided (Together e s x y)
  decide_together x y =
      decide_like
      (λ w. (w.0, w.2.0, w.2.1.0, w.2.1.1))
      (λ w. (w.0, w.1.is_module.inside, (w.1, (w.2, w.3))))
      (decide_some_set s (λ m. IsMaximalModule e s m × (Has m x × Has m y))
      (λ m w. decide_both (decide_maximal told s m) (decide_both (decide_test (contains m x) true) (decide_test (contains m y) true))))

  -- x is the first of its maximal proper module
  abbrev pub IsFirst : ℕ → Type 0
  IsFirst x = (y : ℕ) → Has s y → y < x → Together e s x y → ⊥

  pub decide_first : (x : ℕ) → Decided (IsFirst x)
  decide_first x = decide_all s _ (λ y h. decide_if (decide_below y x) (decide_not (decide_together x y)))

  abbrev pub firsts : NameSet
  firsts = retain s (λ x. test_of (decide_first x))

  module _ {reverse : C → C} (col : IsColouring reverse e) (whole : IsUnsplit e s) where
    together_in : (m : NameSet) (x y : ℕ) → IsMaximalModule e s m → Has m x → Together e s x y → Has m y
    together_in m x y max h t = Has-along t.0 m (maximal_meet col s t.0 m x whole t.1 max t.2 h) y t.3

    -- the first names of the maximal proper modules are the names of a quotient
    pub firsts_quotient : IsQuotient e s firsts
    firsts_quotient = record {
      inside = λ x h. (of_retain s _ x h).0;
      one = λ m max.
          let f : (z : ℕ) × Has m z × ((y : ℕ) → Has m y → z ≤ y) = first_member m max.is_module.some.0 max.is_module.some.1 in (
            f.0,
            f.1,
            retain_has s (λ x. test_of (decide_first x)) f.0 (max.is_module.inside f.0 f.1)
                (test_holds (decide_first f.0) (λ y h below t. let le : f.0 ≤ y = f.2 y (together_in m f.0 y max f.1 t) in omega arith)),
            λ y h k. no_smaller y f.0 (of_test (decide_first y) (of_retain s (λ x. test_of (decide_first x)) y k).1)
                (max.is_module.inside f.0 f.1) (f.2 y h) (m, max, h, f.1),
          );
    } where
      no_smaller : (y z : ℕ) → IsFirst y → Has s z → z ≤ y → Together e s y z → y ≡ z
      no_smaller y z first h le t = elim (same_name y z) [
        | inl same ↦ same
        | inr differs ↦ absurd (first z h (omega arith) t)
      ]

    module _ (r : NameSet) (quotient : IsQuotient e s r) where
      one_in_class : (m : NameSet) (p q : ℕ) → IsMaximalModule e s m → Has m p → Has m q → Has r p → Has r q → p ≡ q
      one_in_class m p q max mp mq rp rq =
          let o : (x : ℕ) × Has m x × Has r x × ((y : ℕ) → Has m y → Has r y → y ≡ x) = quotient.one m max in
          o.3 p mp rp ∙ sym (o.3 q mq rq)

      represent : (rep : ℕ → ℕ) × ((x : ℕ) → Has s x → Has r (rep x) × Together e s x (rep x))
      represent = choose s (λ x y. Has r y × Together e s x y) (λ x h.
          let m : (m : NameSet) × IsMaximalModule e s m × Has m x = maximal_of told s x whole.two h in
          let o : (z : ℕ) × Has m.0 z × Has r z × ((y : ℕ) → Has m.0 y → Has r y → y ≡ z) = quotient.one m.0 m.1 in
          (o.0, (o.2, (m.0, m.1, m.2, o.1))))

      module _ (rep : ℕ → ℕ) (fits : (x : ℕ) → Has s x → Has r (rep x) × Together e s x (rep x)) where
        leads_to_own : (p : ℕ) → Has r p → rep p ≡ p
        leads_to_own p h =
            let f : Has r (rep p) × Together e s p (rep p) = fits p (quotient.inside p h) in
            one_in_class f.1.0 (rep p) p f.1.1 f.1.3 f.1.2 f.0 h

        class_same : (p : ℕ) (m : NameSet) → Has r p → IsMaximalModule e s m → Has m p → class s rep p ≡ m
        class_same p m h max mp = same_members (class s rep p) m
            (λ x k.
            let c : Has s x × (rep x ≡ p) = of_class s rep p x k in
            let t : Together e s x (rep x) = (fits x c.0).1 in
            together_in m p x max mp (t.0, t.1, subst (Has t.0) c.1 t.3, t.2))
            (λ x k.
            let hs : Has s x = max.is_module.inside x k in
            class_has s rep p x hs (one_in_class m (rep x) p max (together_in m x (rep x) max k (fits x hs).1) mp (fits x hs).0 h))

        class_maximal : (p : ℕ) → Has r p → IsMaximalModule e s (class s rep p)
        class_maximal p h =
            let m : (m : NameSet) × IsMaximalModule e s m × Has m p = maximal_of told s p whole.two (quotient.inside p h) in
            subst (IsMaximalModule e s) (sym (class_same p m.0 h m.1 m.2)) m.1

        partition : IsModularPartition e s r rep
        partition = record {
          inside = quotient.inside;
          leads = λ x h. (fits x h).0;
          own = leads_to_own;
          modules = λ p h. (class_maximal p h).is_module;
        }

        trivial_from : HasTrivialModulesAlone e r
        trivial_from k is =
            elim (other_or_alone k is.some.0) [
              | inr alone ↦ inl (is.some.0, alone)
              | inl y ↦ elim (decide_same (lifted s rep k) s) [
                | inl same ↦ inr (same_members k r is.inside (λ x h.
                    subst (Has k) (leads_to_own x h) (of_retain s (λ z. contains k (rep z)) x (Has-along s (lifted s rep k) (sym same) x (quotient.inside x h))).1))
                | inr differs ↦ absurd (no_two y (in_maximal told s (lifted s rep k) (lifted_module col s r rep partition k is) differs))
              ]
            ]
          where
            in_lifted : (p : ℕ) → Has k p → Has (lifted s rep k) p
            in_lifted p h = retain_has s (λ z. contains k (rep z)) p (quotient.inside p (is.inside p h)) (subst (Has k) (sym (leads_to_own p (is.inside p h))) h)

            no_two : (y : ℕ) × Has k y × (y ≢ is.some.0) → (x : NameSet) × IsMaximalModule e s x × Within (lifted s rep k) x → ⊥
            no_two y m = y.2 (one_in_class m.0 y.0 is.some.0 m.1 (m.2 y.0 (in_lifted y.0 y.1)) (m.2 is.some.0 (in_lifted is.some.0 is.some.1)) (is.inside y.0 y.1) (is.inside is.some.0 is.some.1))

        unsplit_from : IsUnsplit e r
        unsplit_from = record {
          two = (
            rep x,
            rep y.0,
            (fits x hx).0,
            (fits y.0 y.1).0,
            λ same.
                let tx : Together e s x (rep x) = (fits x hx).1 in
                let ty : Together e s y.0 (rep y.0) = (fits y.0 y.1).1 in
                clash (together_in (class s rep (rep x)) (rep x) y.0 cx own_rep (ty.0, ty.1, subst (Has ty.0) (sym same) ty.3, ty.2)) y.2,
          );
          unsplit = λ v k split. whole.unsplit v (lifted s rep k) (lifted_split col s r rep partition k v split);
        } where
          x : ℕ
          x = whole.two.0

          hx : Has s x
          hx = whole.two.2

          cx : IsMaximalModule e s (class s rep (rep x))
          cx = class_maximal (rep x) (fits x hx).0

          own_rep : Has (class s rep (rep x)) (rep x)
          own_rep = class_has s rep (rep x) (rep x) (quotient.inside (rep x) (fits x hx).0) (leads_to_own (rep x) (fits x hx).0)

          y : (z : ℕ) × Has s z × Lacks (class s rep (rep x)) z
          y = maximal_leaves s (class s rep (rep x)) cx

      pub quotient_trivial : HasTrivialModulesAlone e r
      quotient_trivial = trivial_from represent.0 represent.1

      pub quotient_unsplit : IsUnsplit e r
      quotient_unsplit = unsplit_from represent.0 represent.1

    maximal_disjoint : (m n : NameSet) → IsMaximalModule e s m → IsMaximalModule e s n → m ≢ n → Disjoint m n
    maximal_disjoint m n a b differ x h = false_from_ne_true _ (λ k. differ (maximal_meet col s m n x whole a b h k))

    pub maximal_modules : (few : ℕ) → ((r : NameSet) → IsUnsplit e r → few ≤ len r) → MaximalModules e s few
    maximal_modules few many = record {
      least = least_module told s;
      together = λ u v k is. ((λ w. least_proper_if_together s k w.0 u v is w.1 w.2 w.3), together_if_least_proper told s k u v is);
      covered = λ u h. maximal_of told s u whole.two h;
      disjoint = maximal_disjoint;
      alike = λ m n a b p q mm mn differ ha hp hb hq. across_modules col s m n mm.is_module mn.is_module (maximal_disjoint m n mm mn differ) a p b q ha hp hb hq;
      quotient = (firsts, firsts_quotient);
      trivial = quotient_trivial;
      many = λ r quotient. many r (quotient_unsplit r quotient);
    }

-- a set that doesn't split has three names or more
unsplit_three : {C : Type 0} {e : ℕ → ℕ → C} (r : NameSet) → IsUnsplit e r → 3 ≤ len r
unsplit_three {e = e} r whole = elim (other_or_alone (remove r x) y) [
  | inr alone ↦ absurd (whole.unsplit (e x y) (only_name x) (pair_splits r x y whole.two.2 whole.two.3 y_other alone))
  | inl z ↦
      let one : len (remove r x) + 1 ≡ len r = len_fewer r x whole.two.2 in
      let two : len (remove (remove r x) y) + 1 ≡ len (remove r x) = len_fewer (remove r x) y (remove_left r x y y_other whole.two.3) in
      let more : 1 ≤ len (remove (remove r x) y) = some_len (remove (remove r x) y) z.0 (remove_left (remove r x) y z.0 z.2 z.1) in
      omega arith
] where
  x : ℕ
  x = whole.two.0

  y : ℕ
  y = whole.two.1

  y_other : y ≢ x
  y_other same = whole.two.4 (sym same)

pub unsplit_proof : (C : Type 0) → UnsplitHasMaximalModules C
unsplit_proof C reverse e col told s whole = (
  λ c. (child_maximal col told s c whole, maximal_child col s c whole),
  maximal_modules told e s col whole 3 unsplit_three,
)

-- a set of a graph that is prime has four names or more: those of an induced path
prime_four : {e : ℕ → ℕ → Bool} → IsAdjacency e → (r : NameSet) → IsPrime e r → 4 ≤ len r
prime_four {e} adj r prime =
    let path : HasInducedPath e r = prime_path adj r prime in
    let is : IsInducedPath e r path.0 path.1 path.2 path.3 = path.4 in
    len_four r path.0 path.1 path.2 path.3 is.inside.0 is.inside.1 is.inside.2 is.inside.3
    is.different.0 is.different.1 is.different.2 (ne_of_lt is.ascending) is.different.3 is.different.4

pub maximal_modules_proof : PrimeHasMaximalModules
maximal_modules_proof e adj s prime =
    maximal_modules decide_test e s (undirected adj) (prime_unsplit s prime) 4 (λ r whole. prime_four adj r (unsplit_prime r whole))
