-- Modules of any colouring: the whole, the single names, parts, meets, joins and differences.
use Rattle.std.proofs.Common.{◌≡◌, ℕ, Bool, true, false, ◌≢◌, sym, ◌∙◌, ap, subst, inl, inr}
use Rattle.std.specs.FinSet.{contains, union, intersection, difference}
use Rattle.md_graph.specs.Sets.{NameSet, Has, Lacks, Within, HasSome, only_name}
use Rattle.md_graph.specs.Adjacency.{IsAdjacency}
use Rattle.md_modules.specs.Colours.{IsColouring, AreTold}
use Rattle.md_modules.specs.Modules.{IsModule, Overlap, IsStrong, IsLeastModule, IsMaximalModule}
use Rattle.md_modules.specs.Kinds.{IsSplit}
use Rattle.std.proofs.lemmas.Bool.{cases_Bool, false_from_ne_true}
use Rattle.md_graph.proofs.SetLemmas.{clash, only_has, of_only, Within-refl, Within-trans, meet_has, of_meet, of_meet_lacks, union_left, of_union, of_union_lacks, minus_has, of_minus, of_minus_lacks}
use Rattle.md_graph.proofs.Search.{Decided, decide_test, decide_both, decide_if, decide_not, decide_like, decide_some, decide_all, decide_all_sets, decide_within, decide_same, decide_has_some, least}

-- whether two sets overlap
pub decide_overlap : (a b : NameSet) → Decided (Overlap a b)
decide_overlap a b =
    decide_like
    (λ w. record { meet = w.0; left = w.1.0; right = w.1.1 })
    (λ o. (o.meet, (o.left, o.right)))
    (decide_both (decide_some a (Has b) (λ x h. decide_test (contains b x) true))
    (decide_both (decide_some a (Lacks b) (λ x h. decide_test (contains b x) false)) (decide_some b (Lacks a) (λ x h. decide_test (contains a x) false))))

-- a graph is a colouring whose colours are their own reverses
pub undirected : {e : ℕ → ℕ → Bool} → IsAdjacency e → IsColouring (λ c. c) e
undirected adj = record { reversed = λ a b. adj.symmetric b a }

-- pairs of one colour have one colour the other way round
pub other_way : {C : Type 0} {reverse : C → C} {e : ℕ → ℕ → C} → IsColouring reverse e → (a b c d : ℕ) → e a b ≡ e c d → e b a ≡ e d c
other_way {reverse = reverse} col a b c d same = col.reversed a b ∙ ap reverse same ∙ sym (col.reversed c d)

-- colours that aren't different are equal
pub alike_or_told : {C : Type 0} → AreTold C → (a b : C) → (a ≢ b → ⊥) → a ≡ b
alike_or_told told a b none = elim (told a b) [ inl same ↦ same | inr differ ↦ absurd (none differ) ]

module _ {C : Type 0} {e : ℕ → ℕ → C} where
  -- the whole set
  pub whole_module : (s : NameSet) → HasSome s → IsModule e s s
  whole_module s some = record { some = some; inside = Within-refl s; alike = λ a b x p q h l. clash h l }

  -- one name
  pub single_module : (s : NameSet) (v : ℕ) → Has s v → IsModule e s (only_name v)
  single_module s v h = record {
    some = (v, only_has v);
    inside = λ x m. subst (Has s) (sym (of_only v x m)) h;
    alike = λ a b x p q k l. ap (e x) (of_only v a p ∙ sym (of_only v b q));
  }

  -- a module of s inside t is a module of t
  pub module_inside : (s t n : NameSet) → IsModule e s n → Within t s → Within n t → IsModule e t n
  module_inside s t n module_is w v = record {
    some = module_is.some;
    inside = v;
    alike = λ a b x p q k l. module_is.alike a b x p q (w x k) l;
  }

  -- a module of a module is a module of the whole
  pub module_of_module : (s m n : NameSet) → IsModule e s m → IsModule e m n → IsModule e s n
  module_of_module s m n outer inner = record {
    some = inner.some;
    inside = Within-trans n m s inner.inside outer.inside;
    alike = λ a b x p q k l. elim (cases_Bool (contains m x)) [
      | inl h ↦ inner.alike a b x p q h l
      | inr o ↦ outer.alike a b x (inner.inside a p) (inner.inside b q) k o
    ];
  }

  -- the common part of two modules that meet
  pub meet_module : (s a b : NameSet) → IsModule e s a → IsModule e s b → HasSome (intersection a b) → IsModule e s (intersection a b)
  meet_module s a b ma mb some = record {
    some = some;
    inside = λ x h. ma.inside x (of_meet a b x h).0;
    alike = λ p q x hp hq k l. elim (of_meet_lacks a b x l) [
      | inl o ↦ ma.alike p q x (of_meet a b p hp).0 (of_meet a b q hq).0 k o
      | inr o ↦ mb.alike p q x (of_meet a b p hp).1 (of_meet a b q hq).1 k o
    ];
  }

  -- the union of two modules that meet in c
  pub join_module : (s a b : NameSet) (c : ℕ) → IsModule e s a → IsModule e s b → Has a c → Has b c → IsModule e s (union a b)
  join_module s a b c ma mb ca cb = record {
    some = (c, union_left a b c ca);
    inside = λ x h. elim (of_union a b x h) [ inl i ↦ ma.inside x i | inr i ↦ mb.inside x i ];
    alike = λ p q x hp hq k l. like p x hp k l ∙ sym (like q x hq k l);
  } where
    like : (p x : ℕ) → Has (union a b) p → Has s x → Lacks (union a b) x → e x p ≡ e x c
    like p x hp k l = elim (of_union a b p hp) [
      | inl i ↦ ma.alike p c x i ca k (of_union_lacks a b x l).0
      | inr i ↦ mb.alike p c x i cb k (of_union_lacks a b x l).1
    ]

  module _ {reverse : C → C} (col : IsColouring reverse e) where
    -- the difference of two modules that overlap
    pub minus_module : (s a b : NameSet) → IsModule e s a → IsModule e s b → Overlap a b → IsModule e s (difference a b)
    minus_module s a b ma mb over = record {
      some = (over.left.0, minus_has a b over.left.0 over.left.1 over.left.2);
      inside = λ x h. ma.inside x (of_minus a b x h).0;
      alike = λ p q x hp hq k l. elim (cases_Bool (contains a x)) [
        | inr o ↦ ma.alike p q x (of_minus a b p hp).0 (of_minus a b q hq).0 k o
        | inl i ↦ elim (of_minus_lacks a b x l) [
          | inl o ↦ clash i o
          | inr j ↦ like p x hp j ∙ ma.alike p q over.right.0 (of_minus a b p hp).0 (of_minus a b q hq).0 (mb.inside over.right.0 over.right.1) over.right.2 ∙ sym (like q x hq j)
        ]
      ];
    } where
      like : (p x : ℕ) → Has (difference a b) p → Has b x → e x p ≡ e over.right.0 p
      like p x hp j = other_way col p x p over.right.0 (mb.alike x over.right.0 p j over.right.1 (ma.inside p (of_minus a b p hp).0) (of_minus a b p hp).1)

    -- the pairs from one module to another one that doesn't meet it have one colour
    pub across_modules : (s a b : NameSet) → IsModule e s a → IsModule e s b → ((x : ℕ) → Has a x → Lacks b x) →
        (p p' q q' : ℕ) → Has a p → Has a p' → Has b q → Has b q' → e p q ≡ e p' q'
    across_modules s a b ma mb apart p p' q q' hp hp' hq hq' =
        other_way col q p q p' (ma.alike p p' q hp hp' (mb.inside q hq) (false_from_ne_true _ (λ h. clash hq (apart q h))))
        ∙ mb.alike q q' p' hq hq' (ma.inside p' hp') (apart p' hp')

    -- two modules that overlap and cover s: one of them splits s
    pub cover_split : (s a b : NameSet) → IsModule e s a → IsModule e s b → Overlap a b → Within s (union a b) → (v : C) × IsSplit e s b v
    cover_split s a b ma mb over cover =
        let rest : IsModule e s (difference a b) = minus_module s a b ma mb over in (
          e over.right.0 over.left.0,
          record {
            some = mb.some;
            inside = mb.inside;
            rest = (over.left.0, ma.inside over.left.0 over.left.1, over.left.2);
            across = λ p q hp hq l. across_modules s b (difference a b) mb rest (λ x h. lacks_minus x h) p over.right.0 q over.left.0 hp over.right.1
                (elim (of_union a b q (cover q hq)) [ inl i ↦ minus_has a b q i l | inr j ↦ clash j l ])
                (minus_has a b over.left.0 over.left.1 over.left.2);
          },
        )
      where
        lacks_minus : (x : ℕ) → Has b x → Lacks (difference a b) x
        lacks_minus x h = false_from_ne_true _ (λ i. clash h (of_minus a b x i).1)

  -- decisions
  module _ (told : AreTold C) where
    decide_alike : (s m : NameSet) → Decided ((a : ℕ) → Has m a → (b : ℕ) → Has m b → (x : ℕ) → Has s x → Lacks m x → e x a ≡ e x b)
    decide_alike s m =
        decide_all m _ (λ a ha. decide_all m _ (λ b hb. decide_all s _ (λ x hx. decide_if (decide_test (contains m x) false) (told (e x a) (e x b)))))

    pub decide_module : (s m : NameSet) → Decided (IsModule e s m)
    decide_module s m =
        decide_like
        (λ w. record { some = w.0; inside = w.1.0; alike = λ a b x p q k l. w.1.1 a p b q x k l })
        (λ module_is. (module_is.some, (module_is.inside, λ a p b q x k l. module_is.alike a b x p q k l)))
        (decide_both (decide_has_some m) (decide_both (decide_within m s) (decide_alike s m)))

    pub decide_strong : (s m : NameSet) → Decided (IsStrong e s m)
    decide_strong s m =
        decide_like
        (λ w. record { is_module = w.0; free = λ n module_is. w.1 n module_is.inside module_is })
        (λ st. (st.is_module, λ n w module_is. st.free n module_is))
        (decide_both (decide_module s m) (decide_all_sets s (λ n. IsModule e s n → Overlap m n → ⊥) (λ n w. decide_if (decide_module s n) (decide_not (decide_overlap m n)))))

    pub decide_maximal : (s m : NameSet) → Decided (IsMaximalModule e s m)
    decide_maximal s m =
        decide_like
        (λ w. record { is_module = w.0; proper = w.1.0; maximal = λ n module_is differs v. w.1.1 n module_is.inside module_is differs v })
        (λ max. (max.is_module, (max.proper, λ n w module_is differs v. max.maximal n module_is differs v)))
        (decide_both (decide_module s m) (decide_both (decide_not (decide_same m s))
        (decide_all_sets s (λ n. IsModule e s n → n ≢ s → Within m n → n ≡ m)
        (λ n w. decide_if (decide_module s n) (decide_if (decide_not (decide_same n s)) (decide_if (decide_within m n) (decide_same n m)))))))

    -- the least module that holds two names, and that there is at most one
    pub least_module : (s : NameSet) (u v : ℕ) → Has s u → Has s v → (k : NameSet) × IsLeastModule e s u v k
    least_module s u v hu hv =
        let r : (k : NameSet) × Within k s × (IsModule e s k × Has k u × Has k v) × ((a : NameSet) → (IsModule e s a × Has a u × Has a v) → Within k a) =
        least (λ k. IsModule e s k × Has k u × Has k v) s (whole_module s (u, hu), hu, hv) (λ k w. decide_three k) meets in
        (r.0, record { is_module = r.2.0; has_left = r.2.1; has_right = r.2.2; least = λ m module_is p q. r.3 m (module_is, p, q) })
      where
        decide_three : (k : NameSet) → Decided (IsModule e s k × Has k u × Has k v)
        decide_three k =
            decide_like (λ w. (w.0, w.1.0, w.1.1)) (λ w. (w.0, (w.1, w.2)))
            (decide_both (decide_module s k) (decide_both (decide_test (contains k u) true) (decide_test (contains k v) true)))

        meets : (a b : NameSet) → (IsModule e s a × Has a u × Has a v) → (IsModule e s b × Has b u × Has b v) → IsModule e s (intersection a b) × Has (intersection a b) u × Has (intersection a b) v
        meets a b p q =
            let h : Has (intersection a b) u = meet_has a b u p.1 q.1 in
            (meet_module s a b p.0 q.0 (u, h), h, meet_has a b v p.2 q.2)
