-- The kinds of the nodes of directed graphs' trees keep the laws of kinds.
use Rattle.std.proofs.Common.{◌≡◌, ◌≢◌, ℕ, ◌≤◌, Bool, true, List, [], refl, sym, ◌∙◌, ap, subst, inl, inr, true≢false, rules, arith}
use Rattle.std.specs.FinSet.{difference}
use Rattle.md_graph.specs.Sets.{NameSet, Has, Within, HasSome, HasTwo}
use Rattle.md_modules.specs.Modules.{IsMaximalStrong}
use Rattle.md_modules.specs.Kinds.{IsSplit}
use Rattle.md_modules.specs.Components.{IsClosed}
use Rattle.md_graph.proofs.SetLemmas.{clash, of_minus}
use Rattle.md_graph.proofs.Search.{Decided, decide_test, decide_both, decide_like, decide_some, decide_below, first_member}
use Rattle.md_modules.proofs.Splits.{AreReverses, one_colour, decide_split, front_child}
use Rattle.md_modules.proofs.Strong.{child_of}
use Rattle.md_digraph.specs.ArcColours.{ArcColour, between, swapped, no_arc, both_arcs}
use Rattle.md_digraph.proofs.ArcTurns.{arcs_turn, arcs_told}
use Rattle.md_tree.specs.Trees.{names_at, count}
use Rattle.md_tree.specs.StrongTrees.{IsBefore}
use Rattle.md_tree.specs.NodeKinds.{IsLeft, AreKinds}
use Rattle.md_tree.specs.Spellings.{ArePairRules, IsSpelling}
use Rattle.md_tree.proofs.Spelled.{is_spelling}
use Rattle.md_tree.proofs.GraphKinds.{not_both_before}
use Rattle.md_tree.proofs.Nodes.{position_below}
use Rattle.md_tree.proofs.Pairs.{some_list, one_list}
use Rattle.md_dtree.specs.declared.DKind.{DKind}
use Rattle.md_dtree.specs.declared.DKind.TheVariants.{Parallel, Series, Order, Prime}
use Rattle.md_dtree.specs.declared.DPair.{DPair}
use Rattle.md_dtree.specs.DirectedSpelling.{directed_pairs, directed_spelling}
use Rattle.md_dtree.specs.DirectedTrees.{PlainDTrees, arc_forth, SplitsWith, HasDirectedKind, AllArcsTo, StandsBefore, IsArcPair, HasArcPairs}

pub directed_pairs_law : ArePairRules directed_pairs
directed_pairs_law = search rules

pub directed_spelling_law : IsSpelling directed_spelling
directed_spelling_law = is_spelling (search rules) directed_pairs_law

-- ---- pairs

module _ (arc : ℕ → ℕ → Bool) where
  decide_differ : (i j : ℕ) → Decided (i ≢ j)
  decide_differ i j = elim (decide_below i j) [
    | inl low ↦ inl (λ same. omega arith)
    | inr not_low ↦ elim (decide_below j i) [
      | inl high ↦ inl (λ same. omega arith)
      | inr not_high ↦ inr (λ differ. differ (omega arith))
    ]
  ]

  decide_pair : (cs : PlainDTrees) (i j : ℕ) → Decided (IsArcPair arc cs i j)
  decide_pair cs i j =
      decide_like
      (λ w. record { differ = w.0; runs = (w.1.0, w.1.2.0, w.1.1, w.1.2.1, w.1.2.2) })
      (λ is. (is.differ, (is.runs.0, is.runs.2, (is.runs.1, is.runs.3, is.runs.4))))
      (decide_both (decide_differ i j)
      (decide_some (names_at cs i) (λ a. (b : ℕ) × Has (names_at cs j) b × (arc a b ≡ true))
      (λ a ha. decide_some (names_at cs j) (λ b. arc a b ≡ true) (λ b hb. decide_test (arc a b) true))))

  pairs_for : (k : DKind) (cs : PlainDTrees) → (ps : List DPair) × HasArcPairs arc k cs ps
  pairs_for Parallel cs = ([], refl)
  pairs_for Series cs = ([], refl)
  pairs_for Order cs = ([], refl)
  pairs_for Prime cs =
      some_list directed_pairs directed_pairs_law (IsArcPair arc cs) (decide_pair cs) (count cs)
      (λ i j is. (position_below cs i is.runs.0 is.runs.2, position_below cs j is.runs.1 is.runs.3))

  one_pairs : (k : DKind) (cs : PlainDTrees) (ps qs : List DPair) → HasArcPairs arc k cs ps → HasArcPairs arc k cs qs → ps ≡ qs
  one_pairs Parallel cs ps qs a b = a ∙ sym b
  one_pairs Series cs ps qs a b = a ∙ sym b
  one_pairs Order cs ps qs a b = a ∙ sym b
  one_pairs Prime cs ps qs a b = one_list directed_pairs ps qs a b

  -- ---- kinds

  two_of_split : (s part : NameSet) (v : ArcColour) → IsSplit (between arc) s part v → HasTwo s
  two_of_split s part v split =
      (split.some.0, split.rest.0, split.inside split.some.0 split.some.1, split.rest.1, λ same. clash (subst (Has part) same split.some.1) split.rest.2)

  pub two_of_kind : (s : NameSet) (k : DKind) → HasDirectedKind arc s k → HasTwo s
  two_of_kind s Parallel h = two_of_split s h.0 no_arc h.1
  two_of_kind s Series h = two_of_split s h.0 both_arcs h.1
  two_of_kind s Order h = two_of_split s h.0 arc_forth h.1
  two_of_kind s Prime h = h.two

  kind_for : (s : NameSet) → HasTwo s → (k : DKind) × HasDirectedKind arc s k
  kind_for s two = elim (decide_split {e = between arc} arcs_told s no_arc) [
    | inl p ↦ (Parallel, p)
    | inr p ↦ elim (decide_split {e = between arc} arcs_told s both_arcs) [
      | inl q ↦ (Series, q)
      | inr q ↦ elim (decide_split {e = between arc} arcs_told s arc_forth) [
        | inl r ↦ (Order, r)
        | inr r ↦ (Prime, record { two = two; not_parallel = p; not_series = q; not_order = r })
      ]
    ]
  ]

  -- a set doesn't split with two colours that are neither equal nor each the other's reverse
  not_both_splits : (s : NameSet) (v w : ArcColour) → (v ≢ w) → (w ≢ swapped v) → SplitsWith arc s v → SplitsWith arc s w → ⊥
  not_both_splits s v w differ turned a b = elim (one_colour (arcs_turn arc) s a.0 b.0 v w a.1 b.1) [ inl p ↦ differ p | inr p ↦ turned p ]

  parallel_series : (s : NameSet) → SplitsWith arc s no_arc → SplitsWith arc s both_arcs → ⊥
  parallel_series s = not_both_splits s no_arc both_arcs (λ p. true≢false (sym (ap (λ c. c.0) p))) (λ p. true≢false (ap (λ c. c.0) p))

  parallel_order : (s : NameSet) → SplitsWith arc s no_arc → SplitsWith arc s arc_forth → ⊥
  parallel_order s = not_both_splits s no_arc arc_forth (λ p. true≢false (sym (ap (λ c. c.0) p))) (λ p. true≢false (ap (λ c. c.0) p))

  series_order : (s : NameSet) → SplitsWith arc s both_arcs → SplitsWith arc s arc_forth → ⊥
  series_order s = not_both_splits s both_arcs arc_forth (λ p. true≢false (ap (λ c. c.1) p)) (λ p. true≢false (sym (ap (λ c. c.1) p)))

  pub one_kind : (s : NameSet) (k l : DKind) → HasDirectedKind arc s k → HasDirectedKind arc s l → k ≡ l
  one_kind s Parallel Parallel a b = refl
  one_kind s Parallel Series a b = absurd (parallel_series s a b)
  one_kind s Parallel Order a b = absurd (parallel_order s a b)
  one_kind s Parallel Prime a b = absurd (b.not_parallel a)
  one_kind s Series Parallel a b = absurd (parallel_series s b a)
  one_kind s Series Series a b = refl
  one_kind s Series Order a b = absurd (series_order s a b)
  one_kind s Series Prime a b = absurd (b.not_series a)
  one_kind s Order Parallel a b = absurd (parallel_order s b a)
  one_kind s Order Series a b = absurd (series_order s b a)
  one_kind s Order Order a b = refl
  one_kind s Order Prime a b = absurd (b.not_order a)
  one_kind s Prime Parallel a b = absurd (a.not_parallel b)
  one_kind s Prime Series a b = absurd (a.not_series b)
  one_kind s Prime Order a b = absurd (a.not_order b)
  one_kind s Prime Prime a b = refl

  -- ---- the order of children

  abbrev HasNext : (NameSet → NameSet → Type 0) → NameSet → NameSet → Type 0
  HasNext Before s rest = (c : NameSet) × IsMaximalStrong (between arc) s c × Within c rest × Before c (difference rest c)

  -- of the children that are left the one with the least name
  next_least : (s rest : NameSet) → HasTwo s → IsLeft (between arc) IsBefore s rest → HasSome rest → HasNext IsBefore s rest
  next_least s rest two is some =
      let z : (z : ℕ) × Has rest z × ((y : ℕ) → Has rest y → z ≤ y) = first_member rest some.0 some.1 in
      let c : (c : NameSet) × IsMaximalStrong (between arc) s c × Has c z.0 = child_of arcs_told s z.0 two (is.inside z.0 z.1) in (
        c.0,
        c.1,
        is.whole c.0 c.1 z.0 c.2 z.1,
        (
          z.0,
          c.2,
          λ y h.
              let k = of_minus rest c.0 y h in
              let a : z.0 ≤ y = z.2 y k.0 in
              let b : z.0 ≢ y = λ same. clash (subst (Has c.0) same c.2) k.1 in
              omega arith,
        ),
      )

  -- of the children that are left that from which all arcs run to the others
  next_in_order : (s rest : NameSet) → SplitsWith arc s arc_forth → IsLeft (between arc) (AllArcsTo arc) s rest → HasSome rest → HasNext (AllArcsTo arc) s rest
  next_in_order s rest split is some = (
    found.0,
    found.1,
    found.2.inside,
    λ a b ha hb.
        let k = of_minus rest found.0 b hb in
        found.2.across a b ha k.0 k.1,
  ) where
    two : HasTwo s
    two = two_of_split s split.0 arc_forth split.1

    reverses : AreReverses swapped arc_forth (swapped arc_forth)
    reverses = record { there = refl; back = refl }

    last : IsClosed (between arc) s rest (swapped arc_forth)
    last = record {
      inside = is.inside;
      across = λ x y hx hy l.
          let d : (d : NameSet) × IsMaximalStrong (between arc) s d × Has d y = child_of arcs_told s y two hy in
          ap swapped (is.behind d.0 d.1 y d.2 l y x d.2 hx);
    }

    found : (c : NameSet) × IsMaximalStrong (between arc) s c × IsClosed (between arc) rest c arc_forth
    found = front_child (arcs_turn arc) arcs_told s split.0 rest arc_forth (swapped arc_forth) reverses split.1 last some

  next_child : (s rest : NameSet) (k : DKind) → HasDirectedKind arc s k → IsLeft (between arc) (StandsBefore arc k) s rest → HasSome rest → HasNext (StandsBefore arc k) s rest
  next_child s rest Parallel kind is some = next_least s rest (two_of_kind s Parallel kind) is some
  next_child s rest Series kind is some = next_least s rest (two_of_kind s Series kind) is some
  next_child s rest Order kind is some = next_in_order s rest kind is some
  next_child s rest Prime kind is some = next_least s rest (two_of_kind s Prime kind) is some

  before_fewer : (a b c : NameSet) → IsBefore a b → Within c b → IsBefore a c
  before_fewer a b c before w = (before.0, before.1, λ y h. before.2 y (w y h))

  stands_fewer : (k : DKind) (a b c : NameSet) → StandsBefore arc k a b → Within c b → StandsBefore arc k a c
  stands_fewer Parallel a b c before w = before_fewer a b c before w
  stands_fewer Series a b c before w = before_fewer a b c before w
  stands_fewer Order a b c before w = λ x y hx hy. before x y hx (w y hy)
  stands_fewer Prime a b c before w = before_fewer a b c before w

  not_both_stand : (k : DKind) (a b : NameSet) → HasSome a → HasSome b → StandsBefore arc k a b → StandsBefore arc k b a → ⊥
  not_both_stand Parallel a b sa sb p q = not_both_before a b p q
  not_both_stand Series a b sa sb p q = not_both_before a b p q
  not_both_stand Order a b sa sb p q =
      true≢false (sym (ap (λ c. c.0) (p sa.0 sb.0 sa.1 sb.1)) ∙ ap (λ c. c.1) (q sb.0 sa.0 sb.1 sa.1))
  not_both_stand Prime a b sa sb p q = not_both_before a b p q

  pub directed_kinds_law : AreKinds (between arc) (HasDirectedKind arc) (StandsBefore arc) (HasArcPairs arc)
  directed_kinds_law = record {
    two = two_of_kind;
    some_kind = kind_for;
    one_kind = one_kind;
    some_pairs = pairs_for;
    one_pairs = one_pairs;
    next = next_child;
    fewer = stands_fewer;
    not_both = not_both_stand;
  }
