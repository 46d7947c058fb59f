-- Components: the least segments of a colour that is its own reverse, as both colours of a graph are. And the kinds of the sets of a graph.
use Rattle.std.proofs.Common.{◌≡◌, ℕ, Bool, true, false, not, ◌⊎◌, refl, sym, subst, inl, inr}
use Rattle.std.specs.FinSet.{retain}
use Rattle.md_graph.specs.Sets.{NameSet, Has, HasTwo}
use Rattle.md_modules.specs.Colours.{IsColouring, AreTold}
use Rattle.md_modules.specs.Modules.{IsStrong, IsMaximalStrong}
use Rattle.md_modules.specs.Kinds.{IsSplit, IsParallel, IsSeries, IsPrime, IsUnsplit}
use Rattle.md_modules.specs.Components.{IsClosed, IsComponent}
use Rattle.md_modules.specs.Segments.{IsSegment, IsLeastSegment}
use Rattle.md_modules.specs.Laws.{HasOneKind}
use Rattle.md_graph.proofs.SetLemmas.{clash, same_members, retain_has, of_retain, retain_lacks, of_retain_lacks, meet_has, of_meet}
use Rattle.md_graph.proofs.Search.{decide_test, decide_both, decide_some, larger_or_same}
use Rattle.md_modules.proofs.Modules.{undirected}
use Rattle.md_modules.proofs.Splits.{AreReverses, closed_split, closed_meet, closed_leads, decide_split, one_colour, segment_unsplit, segment_strong, segment_child, child_segment}

pub other_value : (a v : Bool) → (a ≡ not v → ⊥) → a ≡ v
other_value true true n = refl
other_value true false n = absurd (n refl)
other_value false true n = absurd (n refl)
other_value false false n = refl

pub not_own : {A : Type 0} (a v : Bool) → a ≡ v → a ≡ not v → A
not_own a true p q = clash p q
not_own a false p q = clash q p

module _ {C : Type 0} {e : ℕ → ℕ → C} where
  closed_segment : (s c : NameSet) (v : C) → IsClosed e s c v → IsSegment e s c v v
  closed_segment s c v closed = record {
    first = c;
    last = c;
    initial = closed;
    final = closed;
    is = same_members _ _ (λ x h. meet_has c c x h h) (λ x h. (of_meet c c x h).0);
  }

  segment_closed : (s c : NameSet) (v : C) → IsSegment e s c v v → IsClosed e s c v
  segment_closed s c v is = subst (λ t. IsClosed e s t v) (sym is.is) (closed_meet s is.first is.last v is.initial is.final)

  pub component_segment : (s c : NameSet) (v : C) (x : ℕ) → IsComponent e s x c v → IsLeastSegment e s x c v v
  component_segment s c v x is = record {
    holds = is.holds;
    segment = closed_segment s c v is.closed;
    least = λ a segment h. is.least a (segment_closed s a v segment) h;
  }

  pub segment_component : (s c : NameSet) (v : C) (x : ℕ) → IsLeastSegment e s x c v v → IsComponent e s x c v
  segment_component s c v x is = record {
    holds = is.holds;
    closed = segment_closed s c v is.segment;
    least = λ a closed h. is.least a (closed_segment s a v closed) h;
  }

  pub one_component : (s c d : NameSet) (v : C) (x : ℕ) → IsComponent e s x c v → IsComponent e s x d v → c ≡ d
  one_component s c d v x a b = same_members c d (a.least d b.closed b.holds) (b.least c a.closed a.holds)

  -- where s doesn't split, its one component is s
  pub unsplit_component : (s c : NameSet) (v : C) (x : ℕ) → ((a : NameSet) → IsSplit e s a v → ⊥) → IsComponent e s x c v → c ≡ s
  unsplit_component s c v x no_split is =
      elim (larger_or_same c s is.closed.inside) [
        | inl rest ↦ absurd (no_split c (closed_split s c v is.closed (x, is.holds) rest))
        | inr same ↦ same
      ]

  module _ {reverse : C → C} (col : IsColouring reverse e) where
    own_reverse : (v : C) → reverse v ≡ v → AreReverses reverse v v
    own_reverse v own = record { there = own; back = own }

    -- a component doesn't split
    pub component_unsplit : (s c : NameSet) (v : C) (x : ℕ) → reverse v ≡ v → IsComponent e s x c v → (a : NameSet) → IsSplit e c a v → ⊥
    component_unsplit s c v x own is = segment_unsplit col s c v v x (own_reverse v own) (component_segment s c v x is)

    -- a component is strong
    pub component_strong : (s c : NameSet) (v : C) (x : ℕ) → reverse v ≡ v → IsComponent e s x c v → IsStrong e s c
    component_strong s c v x own is =
        segment_strong col s c v v (own_reverse v own) (closed_segment s c v is.closed) (x, is.holds) (component_unsplit s c v x own is)

    -- where s splits, a component is a child
    pub component_child : (s c part : NameSet) (v : C) (x : ℕ) → reverse v ≡ v → IsSplit e s part v → IsComponent e s x c v → IsMaximalStrong e s c
    component_child s c part v x own split is = segment_child col s part c v v x (own_reverse v own) split (component_segment s c v x is)

    -- where s splits, a child is the component of each of its members
    pub child_component : AreTold C → (s c part : NameSet) (v : C) (x : ℕ) → reverse v ≡ v → IsSplit e s part v → IsMaximalStrong e s c → Has c x → IsComponent e s x c v
    child_component told s c part v x own split is h =
        segment_component s c v x (child_segment col told s part c v v x (own_reverse v own) split is h)

-- ---- graphs

module _ {e : ℕ → ℕ → Bool} where
  -- where a member leads across a pair of the other value, the other end is a member
  pub closed_follow : (s c : NameSet) (v : Bool) → IsClosed e s c v → (p q : ℕ) → Has c p → Has s q → e p q ≡ not v → Has c q
  closed_follow s c v closed p q hp hq k = closed_leads s c v closed p q hp hq (λ same. not_own (e p q) v same k)

  -- in a set that doesn't split, a test that tells two members apart tells some pair of the other value apart
  pub crossing_pair : (c : NameSet) (v : Bool) (t : ℕ → Bool) (p q : ℕ) → ((a : NameSet) → IsSplit e c a v → ⊥) → Has c p → Has c q → t p ≡ true → t q ≡ false →
      (a : ℕ) × (b : ℕ) × Has c a × Has c b × (t a ≡ true) × (t b ≡ false) × (e a b ≡ not v)
  crossing_pair c v t p q no_split hp hq tp tq =
      elim (decide_some c (λ a. (t a ≡ true) × ((b : ℕ) × Has c b × ((t b ≡ false) × (e a b ≡ not v))))
      (λ a ha. decide_both (decide_test (t a) true) (decide_some c _ (λ b hb. decide_both (decide_test (t b) false) (decide_test (e a b) (not v)))))) [
        | inl f ↦ (f.0, f.2.1.0, f.1, f.2.1.1, f.2.0, f.2.1.2.0, f.2.1.2.1)
        | inr none ↦ absurd (no_split (retain c t) (record {
          some = (p, retain_has c t p hp tp);
          inside = λ x h. (of_retain c t x h).0;
          rest = (q, hq, retain_lacks c t q tq);
          across = λ a b ha hb l. other_value (e a b) v (λ k. none (a, (of_retain c t a ha).0, ((of_retain c t a ha).1, (b, hb, (of_retain_lacks c t b hb l, k)))));
        }))
      ]

  -- a prime set has no split of either value, and the other way round
  pub prime_unsplit : (s : NameSet) → IsPrime e s → IsUnsplit e s
  prime_unsplit s prime = record { two = prime.two; unsplit = unsplit } where
    unsplit : (v : Bool) (part : NameSet) → IsSplit e s part v → ⊥
    unsplit true part split = prime.co_connected (part, split)
    unsplit false part split = prime.connected (part, split)

  pub unsplit_prime : (s : NameSet) → IsUnsplit e s → IsPrime e s
  unsplit_prime s is = record {
    two = is.two;
    connected = λ w. is.unsplit false w.0 w.1;
    co_connected = λ w. is.unsplit true w.0 w.1;
  }

  pub decide_prime : (s : NameSet) → HasTwo s → IsParallel e s ⊎ IsSeries e s ⊎ IsPrime e s
  decide_prime s two =
      elim (decide_split {e = e} decide_test s false) [
        | inl p ↦ inl p
        | inr n ↦ elim (decide_split {e = e} decide_test s true) [
          | inl q ↦ inr (inl q)
          | inr m ↦ inr (inr (record { two = two; connected = n; co_connected = m }))
        ]
      ]

pub one_kind_proof : HasOneKind
one_kind_proof e adj s two = record {
  one = decide_prime s two;
  not_first_two = λ w. not_both (one_colour (undirected adj) s w.0.0 w.1.0 false true w.0.1 w.1.1);
  not_outer = λ w. w.1.connected w.0;
  not_last_two = λ w. w.1.co_connected w.0;
} where
  not_both : (false ≡ true) ⊎ (true ≡ false) → ⊥
  not_both (inl p) = clash p refl
  not_both (inr p) = clash refl p
