-- The kinds of the nodes of graphs' trees keep the laws of kinds.
use Rattle.std.proofs.Common.{◌≡◌, ◌≢◌, ℕ, ◌<◌, ◌≤◌, Bool, true, false, List, [], refl, sym, ◌∙◌, subst, inl, inr, true≢false, arith}
use Rattle.std.specs.FinSet.{difference}
use Rattle.md_graph.specs.Sets.{NameSet, Has, Within, HasSome, HasTwo}
use Rattle.md_modules.specs.Colours.{IsColouring}
use Rattle.md_modules.specs.Modules.{IsMaximalStrong}
use Rattle.md_modules.specs.Kinds.{IsSplit, IsParallel, IsSeries}
use Rattle.md_graph.proofs.SetLemmas.{clash, of_minus}
use Rattle.md_graph.proofs.Search.{Decided, decide_test, decide_both, decide_like, decide_some, decide_below, first_member}
use Rattle.md_modules.proofs.Splits.{one_colour}
use Rattle.md_modules.proofs.Components.{decide_prime}
use Rattle.md_modules.proofs.Strong.{child_of}
use Rattle.md_tree.specs.declared.Kind.{Kind}
use Rattle.md_tree.specs.declared.Kind.TheVariants.{Parallel, Series, Prime}
use Rattle.md_tree.specs.declared.Pair.{Pair}
use Rattle.md_tree.specs.Trees.{PlainTrees, names_at, count}
use Rattle.md_tree.specs.StrongTrees.{HasKind, IsBefore, AreTreesJoined, HasPairs}
use Rattle.md_tree.specs.NodeKinds.{IsLeft, AreKinds}
use Rattle.md_tree.proofs.Nodes.{position_below}
use Rattle.md_tree.specs.Spellings.{graph_pairs}
use Rattle.md_tree.proofs.Spelled.{graph_pairs_law}
use Rattle.md_tree.proofs.Pairs.{some_list, one_list}

-- ---- pairs

-- the pairs of children that are joined
module _ (e : ℕ → ℕ → Bool) where
  decide_joined : (cs : PlainTrees) (i j : ℕ) → Decided (AreTreesJoined e cs i j)
  decide_joined cs i j =
      decide_like
      (λ w. record { ordered = w.0; edge = (w.1.0, w.1.2.0, w.1.1, w.1.2.1, w.1.2.2) })
      (λ is. (is.ordered, (is.edge.0, is.edge.2, (is.edge.1, is.edge.3, is.edge.4))))
      (decide_both (decide_below i j)
      (decide_some (names_at cs i) (λ a. (b : ℕ) × Has (names_at cs j) b × (e a b ≡ true))
      (λ a ha. decide_some (names_at cs j) (λ b. e a b ≡ true) (λ b hb. decide_test (e a b) true))))

  pairs_for : (k : Kind) (cs : PlainTrees) → (ps : List Pair) × HasPairs e k cs ps
  pairs_for Parallel cs = ([], refl)
  pairs_for Series cs = ([], refl)
  pairs_for Prime cs =
      some_list graph_pairs graph_pairs_law (AreTreesJoined e cs) (decide_joined cs) (count cs)
      (λ i j is. (position_below cs i is.edge.0 is.edge.2, position_below cs j is.edge.1 is.edge.3))

  one_pairs : (k : Kind) (cs : PlainTrees) (ps qs : List Pair) → HasPairs e k cs ps → HasPairs e k cs qs → ps ≡ qs
  one_pairs Parallel cs ps qs a b = a ∙ sym b
  one_pairs Series cs ps qs a b = a ∙ sym b
  one_pairs Prime cs ps qs a b = one_list graph_pairs ps qs a b

-- ---- kinds

-- two names of each set with a kind
two_of_split : {e : ℕ → ℕ → Bool} (s part : NameSet) (v : Bool) → IsSplit e s part v → HasTwo s
two_of_split s part v split =
    (split.some.0, split.rest.0, split.inside split.some.0 split.some.1, split.rest.1, λ same. clash (subst (Has part) same split.some.1) split.rest.2)

pub two_of_kind : (e : ℕ → ℕ → Bool) (s : NameSet) (k : Kind) → HasKind e s k → HasTwo s
two_of_kind e s Parallel h = two_of_split s h.0 false h.1
two_of_kind e s Series h = two_of_split s h.0 true h.1
two_of_kind e s Prime h = h.two

kind_for : (e : ℕ → ℕ → Bool) (s : NameSet) → HasTwo s → (k : Kind) × HasKind e s k
kind_for e s two = elim (decide_prime {e = e} s two) [ inl p ↦ (Parallel, p) | inr r ↦ elim r [ inl p ↦ (Series, p) | inr p ↦ (Prime, p) ] ]

-- each name of a child that is left is below the others where the child has the least name of all
next_least : (e : ℕ → ℕ → Bool) (s rest : NameSet) → HasTwo s → IsLeft e IsBefore s rest → HasSome rest →
    (c : NameSet) × IsMaximalStrong e s c × Within c rest × IsBefore c (difference rest c)
next_least e s rest two is some =
    let z : (z : ℕ) × Has rest z × ((y : ℕ) → Has rest y → z ≤ y) = first_member rest some.0 some.1 in
    let c : (c : NameSet) × IsMaximalStrong e s c × Has c z.0 = child_of decide_test s z.0 two (is.inside z.0 z.1) in (
      c.0,
      c.1,
      is.whole c.0 c.1 z.0 c.2 z.1,
      (
        z.0,
        c.2,
        λ y h.
            let k = of_minus rest c.0 y h in
            let a : z.0 ≤ y = z.2 y k.0 in
            let b : z.0 ≢ y = λ same. clash (subst (Has c.0) same c.2) k.1 in
            omega arith,
      ),
    )

pub not_both_before : (a b : NameSet) → IsBefore a b → IsBefore b a → ⊥
not_both_before a b p q =
    let l : p.0 < q.0 = p.2 q.0 q.1 in
    let m : q.0 < p.0 = q.2 p.0 p.1 in
    omega arith

module _ {e : ℕ → ℕ → Bool} (col : IsColouring (λ c. c) e) where
  not_both_splits : (s : NameSet) → IsParallel e s → IsSeries e s → ⊥
  not_both_splits s a b = elim (one_colour col s a.0 b.0 false true a.1 b.1) [ inl p ↦ true≢false (sym p) | inr p ↦ true≢false p ]

  pub one_kind : (s : NameSet) (k l : Kind) → HasKind e s k → HasKind e s l → k ≡ l
  one_kind s Parallel Parallel a b = refl
  one_kind s Parallel Series a b = absurd (not_both_splits s a b)
  one_kind s Parallel Prime a b = absurd (b.connected a)
  one_kind s Series Parallel a b = absurd (not_both_splits s b a)
  one_kind s Series Series a b = refl
  one_kind s Series Prime a b = absurd (b.co_connected a)
  one_kind s Prime Parallel a b = absurd (a.connected b)
  one_kind s Prime Series a b = absurd (a.co_connected b)
  one_kind s Prime Prime a b = refl

  pub kinds_of_graphs : AreKinds e (HasKind e) (λ k. IsBefore) (HasPairs e)
  kinds_of_graphs = record {
    two = two_of_kind e;
    some_kind = kind_for e;
    one_kind = one_kind;
    some_pairs = pairs_for e;
    one_pairs = one_pairs e;
    next = λ s rest k kind is some. next_least e s rest (two_of_kind e s k kind) is some;
    fewer = λ k a b c before w. (before.0, before.1, λ y h. before.2 y (w y h));
    not_both = λ k a b _ _ p q. not_both_before a b p q;
  }
