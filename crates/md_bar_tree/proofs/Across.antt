-- The adjacency of a tree without prime nodes, taken apart at a node: in the first child, behind it, and between.
use Rattle.std.proofs.Common.{◌≡◌, ◌≢◌, ℕ, suc, cond, Bool, true, false, eqb, eq-eqb, List, refl, sym, ◌∙◌, ap, true≢false}
use Rattle.std.proofs.Math.Dec.{eqb-zero-suc, eqb-suc-suc}
use Rattle.std.specs.FinSet.{contains}
use Rattle.std.proofs.lemmas.Bool.{false_from_ne_true}
use Rattle.md_graph.specs.Sets.{Has, Lacks, Disjoint}
use Rattle.md_graph.proofs.SetLemmas.{clash, union_left, union_right}
use Rattle.md_tree.specs.declared.Kind.{Kind}
use Rattle.md_tree.specs.declared.Kind.TheVariants.{Parallel, Series, Prime}
use Rattle.md_tree.specs.declared.Pair.{Pair}
use Rattle.md_tree.specs.Trees.{PlainTree, leaf, node, PlainTrees, no_tree, one_more, names, names_below, EachNodeBelow}
use Rattle.md_tree.specs.TreeGraph.{position_of, joins, adjacent_in, adjacent_below}
use Rattle.md_tree.specs.WellFormed.{AreDisjoint, IsCanonicalNode, IsCanonicalTree, HasNoPrimeNode, HaveNoPrimeNode}
use Rattle.md_bar_tree.specs.Following.{across, FollowsTree, FollowsRow}

-- the tests of adjacency at a node, by whether each of two names lies in the first child
both_first : (i j : Bool) (m n : ℕ) (inner rest : Bool) (J : ℕ → ℕ → Bool) → i ≡ true → j ≡ true →
    cond (eqb (cond i 0 (suc m)) (cond j 0 (suc n))) (cond i inner rest) (J (cond i 0 (suc m)) (cond j 0 (suc n))) ≡ inner
both_first true true m n inner rest J p q = ap (λ w. cond w inner (J 0 0)) (eq-eqb 0 0 refl)
both_first true false m n inner rest J p q = absurd (true≢false (sym q))
both_first false j m n inner rest J p q = absurd (true≢false (sym p))

first_and_rest : (i j : Bool) (m n : ℕ) (inner rest : Bool) (J : ℕ → ℕ → Bool) → i ≡ true → j ≡ false →
    cond (eqb (cond i 0 (suc m)) (cond j 0 (suc n))) (cond i inner rest) (J (cond i 0 (suc m)) (cond j 0 (suc n))) ≡ J 0 (suc n)
first_and_rest true false m n inner rest J p q = ap (λ w. cond w inner (J 0 (suc n))) (eqb-zero-suc n)
first_and_rest true true m n inner rest J p q = absurd (true≢false q)
first_and_rest false j m n inner rest J p q = absurd (true≢false (sym p))

both_rest : (i j : Bool) (m n : ℕ) (inner rest : Bool) (J : ℕ → ℕ → Bool) → i ≡ false → j ≡ false →
    cond (eqb (cond i 0 (suc m)) (cond j 0 (suc n))) (cond i inner rest) (J (cond i 0 (suc m)) (cond j 0 (suc n))) ≡ cond (eqb m n) rest (J (suc m) (suc n))
both_rest false false m n inner rest J p q = ap (λ w. cond w rest (J (suc m) (suc n))) (eqb-suc-suc m n)
both_rest true j m n inner rest J p q = absurd (true≢false p)
both_rest false true m n inner rest J p q = absurd (true≢false q)

joins_all : (k : Kind) → k ≢ Prime → (ps : List Pair) (i j : ℕ) → joins k ps i j ≡ across k
joins_all Parallel n ps i j = refl
joins_all Series n ps i j = refl
joins_all Prime n ps i j = absurd (n refl)

module _ (e : ℕ → ℕ → Bool) where
  -- e is as the tree says
  abbrev IsTold : PlainTree → Type 0
  IsTold t = (a b : ℕ) → Has (names t) a → Has (names t) b → adjacent_in t a b ≡ e a b

  lacks_of : (t : PlainTree) (ts : PlainTrees) → Disjoint (names t) (names_below ts) → (a : ℕ) → Has (names_below ts) a → Lacks (names t) a
  lacks_of t ts apart a h = false_from_ne_true _ (λ i. clash h (apart a i))

  mutual
    pub follows : (t : PlainTree) → IsCanonicalTree t → HasNoPrimeNode t → IsTold t → FollowsTree e t
    follows (leaf v) canonical free told = tt
    follows (node k cs ps) canonical free told = follows_row k ps free.0 cs canonical.0.apart canonical.1 free.1 told

    follows_row : (k : Kind) (ps : List Pair) → k ≢ Prime → (cs : PlainTrees) → AreDisjoint cs → EachNodeBelow IsCanonicalNode cs → HaveNoPrimeNode cs →
        IsTold (node k cs ps) → FollowsRow e (across k) cs
    follows_row k ps plain no_tree apart canonical free told = tt
    follows_row k ps plain (one_more t ts) apart canonical free told = (
      follows t canonical.0 free.0 (λ a b ha hb.
          sym (both_first (contains (names t) a) (contains (names t) b) (position_of ts a) (position_of ts b) (adjacent_in t a b) (adjacent_below ts a b) (joins k ps) ha hb)
          ∙ told a b (union_left (names t) (names_below ts) a ha) (union_left (names t) (names_below ts) b hb)),
      (λ a b ha hb.
          sym (told a b (union_left (names t) (names_below ts) a ha) (union_right (names t) (names_below ts) b hb))
          ∙ first_and_rest (contains (names t) a) (contains (names t) b) (position_of ts a) (position_of ts b) (adjacent_in t a b) (adjacent_below ts a b) (joins k ps)
          ha (lacks_of t ts apart.0 b hb)
          ∙ joins_all k plain ps 0 (suc (position_of ts b))),
      follows_row k ps plain ts apart.1 canonical.1 free.1 (λ a b ha hb.
          ap (λ w. cond (eqb (position_of ts a) (position_of ts b)) (adjacent_below ts a b) w)
          (joins_all k plain ps (position_of ts a) (position_of ts b) ∙ sym (joins_all k plain ps (suc (position_of ts a)) (suc (position_of ts b))))
          ∙ sym (both_rest (contains (names t) a) (contains (names t) b) (position_of ts a) (position_of ts b) (adjacent_in t a b) (adjacent_below ts a b) (joins k ps)
          (lacks_of t ts apart.0 a ha) (lacks_of t ts apart.0 b hb))
          ∙ told a b (union_right (names t) (names_below ts) a ha) (union_right (names t) (names_below ts) b hb)),
    )
