-- Two children that are no leaves, below a node that may have one alone, give a bar.
use Rattle.std.proofs.Common.{◌≡◌, ◌≢◌, ℕ, ◌<◌, Bool, not, refl, sym, ◌∙◌, subst, inl, inr}
use Rattle.md_graph.specs.Sets.{NameSet, Has, Within}
use Rattle.md_graph.specs.Adjacency.{IsAdjacency}
use Rattle.md_graph.proofs.SetLemmas.{clash, empty_lacks, union_left, union_right}
use Rattle.md_tree.specs.declared.Kind.{Kind}
use Rattle.md_tree.specs.declared.Kind.TheVariants.{Parallel, Series, Prime}
use Rattle.md_tree.specs.Trees.{PlainTree, leaf, node, PlainTrees, no_tree, one_more, names, names_below, EachNodeBelow}
use Rattle.md_tree.specs.StrongTrees.{IsInOrder}
use Rattle.md_tree.specs.WellFormed.{NoneOfKind, IsCanonicalNode, HaveNoPrimeNode}
use Rattle.md_bar_tree.specs.declared.Class.{Class}
use Rattle.md_bar_tree.specs.declared.Class.TheVariants.{Trivial, Threshold}
use Rattle.md_bar_tree.specs.declared.BarKind.{BarKind}
use Rattle.md_bar_tree.specs.declared.BarKind.TheVariants.{P4, C4, TwoK2}
use Rattle.md_bar_tree.specs.declared.Bar.{Bar}
use Rattle.md_bar_tree.specs.Bars.{AreInside, Bars, IsBarOfKind, IsBar}
use Rattle.md_bar_tree.specs.Inner.{IsNarrow}
use Rattle.md_bar_tree.specs.Following.{across, FollowsRow}
use Rattle.md_tree.specs.Held.{IsLeast}
use Rattle.md_bar_tree.specs.Finding.{LeavesThen, AreLeastTwo, bar_across}
use Rattle.md_bar_tree.proofs.TwoPairs.{AreAscending, cycle_of, edges_of}
use Rattle.md_bar_tree.proofs.Leasts.{least_before, least_of_row}

-- the kinds of a node and of its child, of which neither is prime, join the other way
opposite : (l k : Kind) → l ≢ k → l ≢ Prime → k ≢ Prime → across l ≡ not (across k)
opposite Parallel Parallel differ a b = absurd (differ refl)
opposite Parallel Series differ a b = refl
opposite Series Parallel differ a b = refl
opposite Series Series differ a b = absurd (differ refl)
opposite Prime k differ a b = absurd (a refl)
opposite Parallel Prime differ a b = absurd (b refl)
opposite Series Prime differ a b = absurd (b refl)

-- a bar of a part is one of the whole
kind_within : (kind : BarKind) (e : ℕ → ℕ → Bool) (s t : NameSet) (a b c d : ℕ) → Within s t → IsBarOfKind kind e s a b c d → IsBarOfKind kind e t a b c d
kind_within P4 e s t a b c d w is = record {
  inside = (w a is.inside.0, w b is.inside.1, w c is.inside.2, w d is.inside.3);
  different = is.different;
  edges = is.edges;
  apart = is.apart;
  ascending = is.ascending;
}
kind_within C4 e s t a b c d w is = record {
  inside = (w a is.inside.0, w b is.inside.1, w c is.inside.2, w d is.inside.3);
  different = is.different;
  edges = is.edges;
  apart = is.apart;
  ascending = is.ascending;
}
kind_within TwoK2 e s t a b c d w is = record {
  inside = (w a is.inside.0, w b is.inside.1, w c is.inside.2, w d is.inside.3);
  different = is.different;
  edges = is.edges;
  apart = is.apart;
  ascending = is.ascending;
}

pub bar_within : (class : Class) (e : ℕ → ℕ → Bool) (s t : NameSet) (bar : Bar) → Within s t → IsBar class e s bar → IsBar class e t bar
bar_within class e s t bar w is = record { bars = is.bars; is = kind_within bar.kind e s t bar.a bar.b bar.c bar.d w is.is }

two_bar : (class : Class) → IsNarrow class Parallel → Bars TwoK2 class
two_bar Trivial narrow = narrow
two_bar Threshold narrow = tt

-- what holds of some of the children of a node of kind k, whose names lie in s
pub record IsRow (e : ℕ → ℕ → Bool) (k : Kind) (s : NameSet) (cs : PlainTrees) : Type 0 where
  pub follows : FollowsRow e (across k) cs
  pub order : IsInOrder cs
  pub other_kinds : NoneOfKind cs k
  pub canonical : EachNodeBelow IsCanonicalNode cs
  pub free : HaveNoPrimeNode cs
  pub inside : Within (names_below cs) s

-- the values of the pairs pq and rs below two children of a node of kind k, and across
pub record AreBelowTwo (e : ℕ → ℕ → Bool) (k : Kind) (p q r s : ℕ) : Type 0 where
  pub pairs : (e p q ≡ not (across k)) × (e r s ≡ not (across k))
  pub apart : (e p r ≡ across k) × (e p s ≡ across k) × (e q r ≡ across k) × (e q s ≡ across k)

-- p and q are names of the tree that have this value, of which p is the least of all
record IsPairOf (e : ℕ → ℕ → Bool) (k : Kind) (t : PlainTree) (p q : ℕ) : Type 0 where
  least : IsLeast (names t) p
  second : Has (names t) q
  value : e p q ≡ not (across k)
  ascending : p < q

module _ {e : ℕ → ℕ → Bool} (adj : IsAdjacency e) where
  bar_by_kind : (class : Class) (k : Kind) → k ≢ Prime → IsNarrow class k → (t : NameSet) (p q r s : ℕ) → AreBelowTwo e k p q r s → AreInside t p q r s → AreAscending p q r s →
      IsBar class e t (bar_across k p q r s)
  bar_by_kind class Series plain narrow t p q r s h i up = record {
    bars = tt;
    is = cycle_of adj t p q r s (record { pairs = h.pairs; across = h.apart }) i up;
  }
  bar_by_kind class Parallel plain narrow t p q r s h i up = record {
    bars = two_bar class narrow;
    is = edges_of adj t p q r s (record { pairs = h.pairs; across = h.apart }) i up;
  }
  bar_by_kind class Prime plain narrow t p q r s h i up = absurd (plain refl)

  module _ (k : Kind) (plain : k ≢ Prime) (s : NameSet) where
    row_tail : (t : PlainTree) (ts : PlainTrees) → IsRow e k s (one_more t ts) → IsRow e k s ts
    row_tail t ts is = record {
      follows = is.follows.2;
      order = is.order.1;
      other_kinds = is.other_kinds.1;
      canonical = is.canonical.1;
      free = is.free.1;
      inside = λ x h. is.inside x (union_right (names t) (names_below ts) x h);
    }

    row_then : (cs ds : PlainTrees) → LeavesThen cs ds → IsRow e k s cs → IsRow e k s ds
    row_then no_tree ds same is = subst (IsRow e k s) (sym same) is
    row_then (one_more t ts) ds (inl same) is = subst (IsRow e k s) (sym same) is
    row_then (one_more t ts) ds (inr later) is = row_then ts ds later.1 (row_tail t ts is)

    then_within : (cs ds : PlainTrees) → LeavesThen cs ds → Within (names_below ds) (names_below cs)
    then_within no_tree ds same x h = subst (λ w. Has (names_below w) x) same h
    then_within (one_more t ts) ds (inl same) x h = subst (λ w. Has (names_below w) x) same h
    then_within (one_more t ts) ds (inr later) x h = union_right (names t) (names_below ts) x (then_within ts ds later.1 x h)

    pair_of : (t : PlainTree) (ts : PlainTrees) → IsRow e k s (one_more t ts) → (p q : ℕ) → AreLeastTwo t p q → IsPairOf e k t p q
    pair_of (leaf v) ts is p q two = absurd two
    pair_of (node l no_tree ps) ts is p q two = clash two.0.member (empty_lacks p)
    pair_of (node l (one_more a no_tree) ps) ts is p q two = clash two.1.member (empty_lacks q)
    pair_of (node l (one_more a (one_more b bs)) ps) ts is p q two =
        let inside : Has (names_below (one_more b bs)) q = union_left (names b) (names_below bs) q two.1.member in
        let order : IsInOrder (one_more a (one_more b bs)) = is.canonical.0.0.order in
        record {
          least = least_of_row a (one_more b bs) p order two.0;
          second = union_right (names a) (names_below (one_more b bs)) q inside;
          value = is.follows.0.1 p q two.0.member inside ∙ opposite l k is.other_kinds.0 is.free.0.0 plain;
          ascending = least_before (names a) (names_below (one_more b bs)) p q order.0 two.0 inside;
        }

    pub witness : (class : Class) → IsNarrow class k → (cs : PlainTrees) (x : PlainTree) (xs : PlainTrees) (y : PlainTree) (ys : PlainTrees) → IsRow e k s cs →
        LeavesThen cs (one_more x xs) → LeavesThen xs (one_more y ys) → (p q r u : ℕ) → AreLeastTwo x p q → AreLeastTwo y r u → IsBar class e s (bar_across k p q r u)
    witness class narrow cs x xs y ys is first second p q r u two other =
        let a : IsRow e k s (one_more x xs) = row_then cs (one_more x xs) first is in
        let b : IsRow e k s (one_more y ys) = row_then xs (one_more y ys) second (row_tail x xs a) in
        let c : IsPairOf e k x p q = pair_of x xs a p q two in
        let d : IsPairOf e k y r u = pair_of y ys b r u other in
        let later : Within (names y) (names_below xs) = λ z h. then_within xs (one_more y ys) second z (union_left (names y) (names_below ys) z h) in
        let hr : Has (names_below xs) r = later r d.least.member in
        let hu : Has (names_below xs) u = later u d.second in
        let in_x : Within (names x) s = λ z h. a.inside z (union_left (names x) (names_below xs) z h) in
        let in_y : Within (names y) s = λ z h. b.inside z (union_left (names y) (names_below ys) z h) in
        bar_by_kind class k plain narrow s p q r u
        (record {
          pairs = (c.value, d.value);
          apart = (a.follows.1 p r c.least.member hr, a.follows.1 p u c.least.member hu, a.follows.1 q r c.second hr, a.follows.1 q u c.second hu);
        })
        (in_x p c.least.member, in_x q c.second, in_y r d.least.member, in_y u d.second)
        (c.ascending, d.ascending, least_before (names x) (names_below xs) p r a.order.0 c.least hr)
