-- In a tree without prime nodes whose nodes have few inner children there are no two such pairs.
use Rattle.std.proofs.Common.{◌≡◌, ◌≢◌, ℕ, Bool, true, false, not, ◌⊎◌, refl, sym, ◌∙◌, inl, inr}
use Rattle.md_graph.specs.Sets.{Has}
use Rattle.md_graph.specs.Adjacency.{IsAdjacency}
use Rattle.md_graph.proofs.SetLemmas.{clash, of_only, empty_lacks, of_union}
use Rattle.md_tree.specs.declared.Kind.{Kind}
use Rattle.md_tree.specs.declared.Kind.TheVariants.{Prime}
use Rattle.md_tree.specs.Trees.{PlainTree, leaf, node, PlainTrees, no_tree, one_more, names, names_below, EachNode, EachNodeBelow}
use Rattle.md_tree.specs.WellFormed.{HasNoPrimeNode, HaveNoPrimeNode}
use Rattle.md_bar_tree.specs.Bars.{AreInside}
use Rattle.md_bar_tree.specs.Inner.{IsInnerTree, AreLeaves, HasOneInner}
use Rattle.md_bar_tree.specs.Following.{across, FollowsTree, FollowsRow}
use Rattle.md_bar_tree.proofs.TwoPairs.{AreTwoPairs, not_both}

pub same_or_other : (a v : Bool) → (a ≡ v) ⊎ (a ≡ not v)
same_or_other true true = inl refl
same_or_other true false = inr refl
same_or_other false true = inr refl
same_or_other false false = inl refl

inner_of_two : (t : PlainTree) (a b : ℕ) → Has (names t) a → Has (names t) b → a ≢ b → IsInnerTree t
inner_of_two (leaf v) a b ha hb differ = absurd (differ (of_only v a ha ∙ sym (of_only v b hb)))
inner_of_two (node k cs ps) a b ha hb differ = tt

module _ {e : ℕ → ℕ → Bool} (adj : IsAdjacency e) where
  module _ (w : Bool) (t : PlainTree) (ts : PlainTrees) (f : FollowsRow e w (one_more t ts)) (a b : ℕ) where
    -- two names that aren't joined as different children are lie in one child
    stay_first : (e a b ≡ w → ⊥) → Has (names t) a → Has (names_below (one_more t ts)) b → Has (names t) b
    stay_first other ha hb = elim (of_union (names t) (names_below ts) b hb) [ inl i ↦ i | inr j ↦ absurd (other (f.1 a b ha j)) ]

    stay_rest : (e a b ≡ w → ⊥) → Has (names_below ts) a → Has (names_below (one_more t ts)) b → Has (names_below ts) b
    stay_rest other ha hb = elim (of_union (names t) (names_below ts) b hb) [ inl i ↦ absurd (other (adj.symmetric a b ∙ f.1 b a i ha)) | inr j ↦ j ]

  -- different leaves
  leaves_joined : (w : Bool) (ts : PlainTrees) → AreLeaves ts → FollowsRow e w ts → (a b : ℕ) → a ≢ b → Has (names_below ts) a → Has (names_below ts) b → e a b ≡ w
  leaves_joined w no_tree leaves f a b differ ha hb = clash ha (empty_lacks a)
  leaves_joined w (one_more t ts) leaves f a b differ ha hb = elim (of_union (names t) (names_below ts) a ha) [
    | inl i ↦ elim (of_union (names t) (names_below ts) b hb) [
      | inl j ↦ absurd (leaves.0 (inner_of_two t a b i j differ))
      | inr j ↦ f.1 a b i j
    ]
    | inr i ↦ elim (of_union (names t) (names_below ts) b hb) [
      | inl j ↦ adj.symmetric a b ∙ f.1 b a j i
      | inr j ↦ leaves_joined w ts leaves.1 f.2 a b differ i j
    ]
  ]

  module _ (v : Bool) (p q r s : ℕ) (two : AreTwoPairs e v p q r s) (Narrow : Kind → Type 0) (narrow : (k : Kind) → k ≢ Prime → across k ≡ not v → Narrow k) where
    not_across : (w a : Bool) → w ≡ v → a ≡ not v → a ≡ w → ⊥
    not_across w a is other same = not_both v a (same ∙ is) other

    not_paired : (w a : Bool) → w ≡ not v → a ≡ v → a ≡ w → ⊥
    not_paired w a is own same = not_both v a own (same ∙ is)

    mutual
      pub none_in : (t : PlainTree) → HasNoPrimeNode t → FollowsTree e t → EachNode (λ k cs ps. Narrow k → HasOneInner cs) t → AreInside (names t) p q r s → ⊥
      none_in (leaf x) free f few i = two.different.0 (of_only x p i.0 ∙ sym (of_only x q i.1))
      none_in (node k cs ps) free f few i = elim (same_or_other (across k) v) [
        | inl same ↦ none_in_joined (across k) same cs free.1 f few.1 i
        | inr other ↦ none_across (across k) other cs free.1 f few.1 (few.0 (narrow k free.0 other)) i
      ]

      -- at a node that joins as the pairs are, all four lie in one child
      none_in_joined : (w : Bool) → w ≡ v → (cs : PlainTrees) → HaveNoPrimeNode cs → FollowsRow e w cs → EachNodeBelow (λ k cs ps. Narrow k → HasOneInner cs) cs → AreInside (names_below cs) p q r s → ⊥
      none_in_joined w is no_tree free f few i = clash i.0 (empty_lacks p)
      none_in_joined w is (one_more t ts) free f few i = elim (of_union (names t) (names_below ts) p i.0) [
        | inl a ↦ (
            let c : Has (names t) r = stay_first w t ts f p r (not_across w (e p r) is two.values.across.0) a i.2 in
            let d : Has (names t) s = stay_first w t ts f p s (not_across w (e p s) is two.values.across.1) a i.3 in
            let b : Has (names t) q = stay_first w t ts f r q (λ h. not_across w (e q r) is two.values.across.2 (adj.symmetric q r ∙ h)) c i.1 in
            none_in t free.0 f.0 few.0 (a, b, c, d))
        | inr a ↦ (
            let c : Has (names_below ts) r = stay_rest w t ts f p r (not_across w (e p r) is two.values.across.0) a i.2 in
            let d : Has (names_below ts) s = stay_rest w t ts f p s (not_across w (e p s) is two.values.across.1) a i.3 in
            let b : Has (names_below ts) q = stay_rest w t ts f r q (λ h. not_across w (e q r) is two.values.across.2 (adj.symmetric q r ∙ h)) c i.1 in
            none_in_joined w is ts free.1 f.2 few.1 (a, b, c, d))
      ]

      -- at one that joins the other way each pair lies in one child, and only one child has room for a pair
      none_across : (w : Bool) → w ≡ not v → (cs : PlainTrees) → HaveNoPrimeNode cs → FollowsRow e w cs → EachNodeBelow (λ k cs ps. Narrow k → HasOneInner cs) cs → HasOneInner cs → AreInside (names_below cs) p q r s → ⊥
      none_across w is no_tree free f few one i = clash i.0 (empty_lacks p)
      none_across w is (one_more t ts) free f few one i = elim (of_union (names t) (names_below ts) p i.0) [
        | inl a ↦ (
            let b : Has (names t) q = stay_first w t ts f p q (not_paired w (e p q) is two.values.pairs.0) a i.1 in
            elim (of_union (names t) (names_below ts) r i.2) [
              | inl c ↦ none_in t free.0 f.0 few.0 (a, b, c, stay_first w t ts f r s (not_paired w (e r s) is two.values.pairs.1) c i.3)
              | inr c ↦ (
                  let d : Has (names_below ts) s = stay_rest w t ts f r s (not_paired w (e r s) is two.values.pairs.1) c i.3 in
                  not_paired w (e r s) is two.values.pairs.1
                  (leaves_joined w ts (one.0 (inner_of_two t p q a b two.different.0)) f.2 r s two.different.1 c d))
            ])
        | inr a ↦ (
            let b : Has (names_below ts) q = stay_rest w t ts f p q (not_paired w (e p q) is two.values.pairs.0) a i.1 in
            elim (of_union (names t) (names_below ts) r i.2) [
              | inl c ↦ (
                  let d : Has (names t) s = stay_first w t ts f r s (not_paired w (e r s) is two.values.pairs.1) c i.3 in
                  not_paired w (e p q) is two.values.pairs.0
                  (leaves_joined w ts (one.0 (inner_of_two t r s c d two.different.1)) f.2 p q two.different.0 a b))
              | inr c ↦ none_across w is ts free.1 f.2 few.1 one.1 (a, b, c, stay_rest w t ts f r s (not_paired w (e r s) is two.values.pairs.1) c i.3)
            ])
      ]
