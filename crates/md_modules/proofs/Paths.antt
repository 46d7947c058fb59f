-- Induced paths on four names: each prime set has one, and where a set has one some strong module is prime.
use Rattle.std.proofs.Common.{◌≡◌, ℕ, ◌+◌, ◌<◌, zero, suc, Bool, true, false, not, ◌≢◌, refl, sym, ◌∙◌, ap, subst, inl, inr, arith}
use Rattle.std.specs.FinSet.{contains, difference, remove, len}
use Rattle.md_graph.specs.Sets.{NameSet, Has, Lacks, Within, HasSome, HasTwo, only_name}
use Rattle.md_graph.specs.Adjacency.{IsAdjacency}
use Rattle.md_modules.specs.Modules.{IsStrong}
use Rattle.md_modules.specs.Kinds.{IsSplit, IsPrime}
use Rattle.md_modules.specs.Components.{IsClosed, IsComponent}
use Rattle.md_modules.specs.InducedPaths.{IsInducedPath, HasInducedPath}
use Rattle.md_modules.specs.Laws.{PrimeHasInducedPath, NoInducedPathIfNonePrime}
use Rattle.std.proofs.lemmas.Bool.{false_from_ne_true}
use Rattle.std.proofs.Math.Logic.{⊎_swap}
use mathlib.Mathlib.Data.Bool.Basic.{eq-or-eq-not}
use Rattle.md_graph.proofs.SetLemmas.{clash, same_name, only_has, of_only, only_lacks, remove_gone, remove_left, of_remove, minus_has, of_minus, ascending_or_not}
use Rattle.md_graph.proofs.Search.{Decided, decide_test, decide_both, decide_like, search_members, larger_or_same, smallest, len_proper}
use Rattle.md_modules.proofs.Splits.{closed_rest, decide_split, component_of, pair_splits}
use Rattle.md_modules.proofs.Components.{closed_follow, crossing_pair, component_unsplit, component_strong, prime_unsplit}
use Rattle.md_modules.proofs.Strong.{whole_strong, strong_of_strong}
use Rattle.md_modules.proofs.Modules.{undirected, decide_strong}

-- a test for the other value than v
abbrev is_other : Bool → Bool → Bool
is_other true b = not b
is_other false b = b

other_told : (v b : Bool) → b ≡ not v → is_other v b ≡ true
other_told true b p = ap not p
other_told false b p = p

own_told : (v b : Bool) → b ≡ v → is_other v b ≡ false
own_told true b p = ap not p
own_told false b p = p

tells_other : (v b : Bool) → is_other v b ≡ true → b ≡ not v
tells_other true true p = sym p
tells_other true false p = refl
tells_other false b p = p

tells_own : (v b : Bool) → is_other v b ≡ false → b ≡ v
tells_own true true p = refl
tells_own true false p = sym p
tells_own false b p = p

module _ {e : ℕ → ℕ → Bool} where
  pub path_within : (s t : NameSet) → Within s t → HasInducedPath e s → HasInducedPath e t
  path_within s t w path =
      let is : IsInducedPath e s path.0 path.1 path.2 path.3 = path.4 in (
        path.0,
        path.1,
        path.2,
        path.3,
        record {
          inside = (w path.0 is.inside.0, w path.1 is.inside.1, w path.2 is.inside.2, w path.3 is.inside.3);
          different = is.different;
          edges = is.edges;
          apart = is.apart;
          ascending = is.ascending;
        },
      )

  module _ (adj : IsAdjacency e) where
    pub different_if_adjacent : (a b : ℕ) → e a b ≡ true → a ≢ b
    different_if_adjacent a b p same = clash p (ap (e a) (sym same) ∙ adj.irreflexive a)

    different_if_told : (a b c : ℕ) → e a c ≡ true → e b c ≡ false → a ≢ b
    different_if_told a b c p q same = clash p (ap (λ z. e z c) same ∙ q)

    -- four names with the six values of a path, in the one order or the other
    pub path_of_values : (s : NameSet) (a b c d : ℕ) → (Has s a × Has s b × Has s c × Has s d) → (e a b ≡ true) × (e b c ≡ true) × (e c d ≡ true) →
        (e a c ≡ false) × (e a d ≡ false) × (e b d ≡ false) → HasInducedPath e s
    path_of_values s a b c d inside edges apart =
        elim (ascending_or_not a d a_d) [
          | inl ascending ↦ (
            a,
            b,
            c,
            d,
            record {
              inside = inside;
              different = (different_if_adjacent a b edges.0, a_c, different_if_adjacent b c edges.1, b_d, different_if_adjacent c d edges.2);
              edges = edges;
              apart = apart;
              ascending = ascending;
            },
          )
          | inr descending ↦ (
            d,
            c,
            b,
            a,
            record {
              inside = (inside.3, inside.2, inside.1, inside.0);
              different = ((λ same. different_if_adjacent c d edges.2 (sym same)), (λ same. b_d (sym same)), (λ same. different_if_adjacent b c edges.1 (sym same)), (λ same. a_c (sym same)), (λ same. different_if_adjacent a b edges.0 (sym same)));
              edges = (adj.symmetric d c ∙ edges.2, adj.symmetric c b ∙ edges.1, adj.symmetric b a ∙ edges.0);
              apart = (adj.symmetric d b ∙ apart.2, adj.symmetric d a ∙ apart.1, adj.symmetric c a ∙ apart.0);
              ascending = descending;
            },
          )
        ]
      where
        a_c : a ≢ c
        a_c same = different_if_told c a d edges.2 apart.1 (sym same)

        b_d : b ≢ d
        b_d same = different_if_told b d a (adj.symmetric b a ∙ edges.0) (adj.symmetric d a ∙ apart.1) same

        a_d : a ≢ d
        a_d same = different_if_told d a c (adj.symmetric d c ∙ edges.2) apart.0 (sym same)

    -- a path of the graph or of its complement gives one of the graph
    path_at : (s : NameSet) (v : Bool) (a b c d : ℕ) → (Has s a × Has s b × Has s c × Has s d) → (e a b ≡ not v) × (e b c ≡ not v) × (e c d ≡ not v) →
        (e a c ≡ v) × (e a d ≡ v) × (e b d ≡ v) → HasInducedPath e s
    path_at s false a b c d inside edges apart = path_of_values s a b c d inside edges apart
    path_at s true a b c d inside edges apart =
        path_of_values s c a d b (inside.2, inside.0, inside.3, inside.1)
        (adj.symmetric c a ∙ apart.0, apart.1, adj.symmetric d b ∙ apart.2)
        (edges.2, adj.symmetric c b ∙ edges.1, edges.0)

    -- where s doesn't split, and without x does
    module _ (s : NameSet) (x : ℕ) (v : Bool) (prime : IsPrime e s) (hx : Has s x) (part : NameSet) (split : IsSplit e (remove s x) part v) where
      left_of : (z : ℕ) → Has s z → z ≢ x → Has (remove s x) z
      left_of z h n = remove_left s x z n h

      in_s : (z : ℕ) → Has (remove s x) z → Has s z
      in_s z h = (of_remove s x z h).1

      -- a name that x sees as v says
      seen_as : (z : ℕ) × Has (remove s x) z × (e x z ≡ v)
      seen_as =
          elim (search_members (λ z. e x z ≡ v) (λ z. e x z ≡ not v) (remove s x) (λ z h. eq-or-eq-not (e x z) v)) [
            | inl f ↦ f
            | inr none ↦ absurd ((prime_unsplit s prime).unsplit (not v) (only_name x) (record {
              some = (x, only_has x);
              inside = λ z h. subst (Has s) (sym (of_only x z h)) hx;
              rest = (split.some.0, in_s split.some.0 (split.inside split.some.0 split.some.1), only_lacks x split.some.0 (of_remove s x split.some.0 (split.inside split.some.0 split.some.1)).0);
              across = λ a b ha hb l. ap (λ z. e z b) (of_only x a ha) ∙ none b (left_of b hb (λ same. clash (subst (Has (only_name x)) (sym same) (only_has x)) l));
            }))
          ]

      -- a closed part of the rest has a name that x sees otherwise
      seen_otherwise : (c : NameSet) → IsClosed e (remove s x) c v → HasSome c → (z : ℕ) × Has c z × (e x z ≡ not v)
      seen_otherwise c closed some =
          elim (search_members (λ z. e x z ≡ not v) (λ z. e x z ≡ v) c (λ z h. ⊎_swap (eq-or-eq-not (e x z) v))) [
            | inl f ↦ f
            | inr none ↦ absurd ((prime_unsplit s prime).unsplit v c (record {
              some = some;
              inside = λ z h. in_s z (closed.inside z h);
              rest = (x, hx, false_from_ne_true _ (λ h. (of_remove s x x (closed.inside x h)).0 refl));
              across = λ a b ha hb l. elim (same_name b x) [
                | inl same ↦ ap (e a) same ∙ adj.symmetric a x ∙ none a ha
                | inr differs ↦ closed.across a b ha (left_of b hb differs) l
              ];
            }))
          ]

      path_with : (y : ℕ) → e x y ≡ v → (c : NameSet) → IsComponent e (remove s x) y c v → HasInducedPath e s
      path_with y sees c comp =
          elim (larger_or_same c (remove s x) comp.closed.inside) [
            | inr same ↦ absurd (component_unsplit (undirected adj) (remove s x) c v y refl comp part (subst (λ t. IsSplit e t part v) (sym same) split))
            | inl rest ↦
                let u : (z : ℕ) × Has c z × (e x z ≡ not v) = seen_otherwise c comp.closed (y, comp.holds) in
                let r : (z : ℕ) × Has (difference (remove s x) c) z × (e x z ≡ not v) =
                seen_otherwise (difference (remove s x) c) (closed_rest (undirected adj) (remove s x) c v comp.closed) (rest.0, minus_has (remove s x) c rest.0 rest.1 rest.2) in
                let w : (a : ℕ) × (b : ℕ) × Has c a × Has c b × (is_other v (e x a) ≡ true) × (is_other v (e x b) ≡ false) × (e a b ≡ not v) =
                crossing_pair c v (λ z. is_other v (e x z)) u.0 y (component_unsplit (undirected adj) (remove s x) c v y refl comp) u.1 comp.holds (other_told v (e x u.0) u.2) (own_told v (e x y) sees) in
                let out : Has (remove s x) r.0 × Lacks c r.0 = of_minus (remove s x) c r.0 r.1 in
                path_at s v r.0 x w.0 w.1
                (in_s r.0 out.0, hx, in_s w.0 (comp.closed.inside w.0 w.2), in_s w.1 (comp.closed.inside w.1 w.3))
                (adj.symmetric r.0 x ∙ r.2, tells_other v (e x w.0) w.4, w.6)
                (adj.symmetric r.0 w.0 ∙ comp.closed.across w.0 r.0 w.2 out.0 out.1, adj.symmetric r.0 w.1 ∙ comp.closed.across w.1 r.0 w.3 out.0 out.1, tells_own v (e x w.1) w.5)
          ]

      path_from_split : HasInducedPath e s
      path_from_split =
          let y : (z : ℕ) × Has (remove s x) z × (e x z ≡ v) = seen_as in
          let c : (c : NameSet) × IsComponent e (remove s x) y.0 c v = component_of decide_test (remove s x) v y.0 y.1 in
          path_with y.0 y.2 c.0 c.1

    path_step : (s : NameSet) → IsPrime e s → HasTwo s → ((t : NameSet) → len t < len s → IsPrime e t → HasInducedPath e t) → HasInducedPath e s
    path_step s prime two smaller =
        elim (decide_split {e = e} decide_test (remove s two.0) false) [
          | inl f ↦ path_from_split s two.0 false prime two.2 f.0 f.1
          | inr whole ↦ elim (decide_split {e = e} decide_test (remove s two.0) true) [
            | inl f ↦ path_from_split s two.0 true prime two.2 f.0 f.1
            | inr co_whole ↦ elim (search_members (λ z. z ≢ two.1) (λ z. z ≡ two.1) (remove s two.0) (λ z h. ⊎_swap (same_name z two.1))) [
              | inr alone ↦ absurd ((prime_unsplit s prime).unsplit (e two.0 two.1) (only_name two.0)
                  (pair_splits s two.0 two.1 two.2 two.3 (λ same. two.4 (sym same)) alone))
              | inl f ↦ path_within (remove s two.0) s (λ z h. (of_remove s two.0 z h).1)
                  (smaller (remove s two.0)
                  (len_proper (remove s two.0) s two.0 (λ z h. (of_remove s two.0 z h).1) two.2 (remove_gone s two.0))
                  (record { two = (f.0, two.1, f.1, remove_left s two.0 two.1 (λ same. two.4 (sym same)) two.3, f.2); connected = whole; co_connected = co_whole }))
            ]
          ]
        ]

    path_in : (n : ℕ) (s : NameSet) → len s < n → IsPrime e s → HasInducedPath e s
    path_in zero s b prime = absurd (omega arith)
    path_in (suc n) s b prime = path_step s prime prime.two (λ t l p. path_in n t (omega arith) p)

    -- a prime set has an induced path
    pub prime_path : (s : NameSet) → IsPrime e s → HasInducedPath e s
    prime_path s prime = path_in (len s + 1) s (omega arith) prime

    -- a path of one component of the smallest strong module that holds it
    module _ (s : NameSet) (a b c d : ℕ) (is : IsInducedPath e s a b c d) where
      abbrev HasAll : NameSet → Type 0
      HasAll m = Has m a × Has m b × Has m c × Has m d

      decide_has_all : (m : NameSet) → Decided (HasAll m)
      decide_has_all m =
          decide_like (λ w. (w.0, w.1.0, w.1.1.0, w.1.1.1)) (λ w. (w.0, (w.1, (w.2, w.3))))
          (decide_both (decide_test (contains m a) true) (decide_both (decide_test (contains m b) true) (decide_both (decide_test (contains m c) true) (decide_test (contains m d) true))))

      in_component : (m k : NameSet) (v : Bool) → HasAll m → IsComponent e m a k v → HasAll k
      in_component m k false all comp =
          let hb : Has k b = closed_follow m k false comp.closed a b comp.holds all.1 is.edges.0 in
          let hc : Has k c = closed_follow m k false comp.closed b c hb all.2 is.edges.1 in
          (comp.holds, hb, hc, closed_follow m k false comp.closed c d hc all.3 is.edges.2)
      in_component m k true all comp =
          let hc : Has k c = closed_follow m k true comp.closed a c comp.holds all.2 is.apart.0 in
          let hd : Has k d = closed_follow m k true comp.closed a d comp.holds all.3 is.apart.1 in
          (comp.holds, closed_follow m k true comp.closed d b hd all.1 (adj.symmetric d b ∙ is.apart.2), hc, hd)

      smallest_unsplit : (m : NameSet) → IsStrong e s m → HasAll m → ((k : NameSet) → Within k m → IsStrong e s k × HasAll k → k ≡ m) → (v : Bool) (part : NameSet) → IsSplit e m part v → ⊥
      smallest_unsplit m st all min v part split =
          let r : (k : NameSet) × IsComponent e m a k v = component_of decide_test m v a all.0 in
          let same : r.0 ≡ m = min r.0 r.1.closed.inside (strong_of_strong s m r.0 st (component_strong (undirected adj) m r.0 v a refl r.1), in_component m r.0 v all r.1) in
          component_unsplit (undirected adj) m r.0 v a refl r.1 part (subst (λ t. IsSplit e t part v) (sym same) split)

      prime_of_path : (m : NameSet) × IsStrong e s m × IsPrime e m
      prime_of_path =
          let r : (m : NameSet) × Within m s × (IsStrong e s m × HasAll m) × ((k : NameSet) → Within k m → IsStrong e s k × HasAll k → k ≡ m) =
          smallest (λ m. IsStrong e s m × HasAll m) s (whole_strong s (a, is.inside.0), is.inside) (λ m w. decide_both (decide_strong decide_test s m) (decide_has_all m)) in (
            r.0,
            r.2.0,
            record {
              two = (a, b, r.2.1.0, r.2.1.1, is.different.0);
              connected = λ w. smallest_unsplit r.0 r.2.0 r.2.1 r.3 false w.0 w.1;
              co_connected = λ w. smallest_unsplit r.0 r.2.0 r.2.1 r.3 true w.0 w.1;
            },
          )

    -- where s has an induced path, some strong module is prime
    pub path_in_prime : (s : NameSet) → HasInducedPath e s → (m : NameSet) × IsStrong e s m × IsPrime e m
    path_in_prime s path = prime_of_path s path.0 path.1 path.2 path.3 path.4

pub prime_path_proof : PrimeHasInducedPath
prime_path_proof e adj s prime = prime_path adj s prime

pub no_path_proof : NoInducedPathIfNonePrime
no_path_proof e adj s = (
  (λ none m st prime. none (path_within m s st.is_module.inside (prime_path adj m prime))),
  λ none path. let r : (m : NameSet) × IsStrong e s m × IsPrime e m = path_in_prime adj s path in none r.0 r.1 r.2,
)
