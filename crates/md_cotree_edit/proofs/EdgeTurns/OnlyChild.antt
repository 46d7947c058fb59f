-- A loose node of one child gives its child.
use Rattle.std.proofs.Common.{◌≡◌, ◌≢◌, ℕ, zero, suc, ◌<◌, ◌≤◌, Bool, true, false, [], length, Some, None, refl, sym, ◌∙◌, ap, subst, inl, inr, arith}
use Rattle.std.proofs.lemmas.Bool.{cases_eq}
use Rattle.md_graph.specs.Linked.{first_or}
use Rattle.md_lists.specs.Links.{Links, parent_at, children_at, IsLive, IsBare, AreLinks, with_kind, detached, spare_count}
use Rattle.md_lists.proofs.ListLaws.{first_in}
use Rattle.md_lists.proofs.LinkLaws.{live_within}
use Rattle.md_cotree.specs.PlaceTrees.{PlaceTree, inner, PlaceTrees, no_more, then, place_of, row_length}
use Rattle.md_cotree.proofs.Frames.{miss}
use Rattle.md_cotree_edit.specs.Contexts.{AreTreesKept}
use Rattle.md_cotree_edit.specs.Turns.{IsTidied}
use Rattle.md_cotree_edit.proofs.Trees.FreePlaces.{spare_freed}
use Rattle.md_cotree_edit.proofs.Trees.ListCalls.{linked_plug, linked_parent, kept_detached, kept_freed, kept_bare}
use Rattle.md_cotree_edit.proofs.Trees.AdoptedTrees.{node_live, kept_children, kept_count}

abbrev pub Tidied : Links → ℕ → Bool → PlaceTrees → PlaceTrees → ℕ → Type 0
Tidied m q k ys us result = (y : PlaceTree) × AreTreesKept m (then y us) × (place_of y ≡ result) × IsTidied ys k q y

module _ (l : Links) (ok : AreLinks l) (q : ℕ) where
  pub tidied_many : (n : ℕ) → n ≡ length (children_at l q) → n ≢ 1 → (k : Bool) (ys us : PlaceTrees) → AreTreesKept l (then (inner q k ys) us) → 0 < row_length ys → Tidied l q k ys us q
  tidied_many n e many k ys us kept some = (
    inner q k ys,
    kept,
    refl,
    record {
      tips = λ p x. refl;
      named = λ x. refl;
      edges = λ x z. refl;
      leaves = refl;
      alternates = λ none all.
          let long = kept_count l ok [] q k ys us kept in
          (two (row_length ys) some (λ one. many (e ∙ long ∙ one)), none, all);
    },
  )
    where
      two : (n : ℕ) → 0 < n → (n ≡ 1 → ⊥) → 2 ≤ n
      two zero some other = absurd (omega arith)
      two (suc zero) some other = absurd (other refl)
      two (suc (suc n)) some other = omega arith

  module _ (n child : ℕ) (e : n ≡ length (children_at l q)) (one : n ≡ 1) (first : Some child ≡ first_or (children_at l q) None) where
    -- the row is that of the child
    pub alone : (k : Bool) (ys us : PlaceTrees) → AreTreesKept l (then (inner q k ys) us) → (y : PlaceTree) × (ys ≡ then y no_more) × (place_of y ≡ child)
    alone k no_more us kept = absurd (let long = kept_count l ok [] q k no_more us kept in omega arith)
    alone k (then y (then z ys)) us kept = absurd (let long = kept_count l ok [] q k (then y (then z ys)) us kept in omega arith)
    alone k (then y no_more) us kept = (
      y,
      refl,
      elim (cases_eq (place_of y) child) [
        | inl same ↦ same
        | inr other ↦ absurd (
            let some = first_in (children_at l q) child (sym first) in
            let at = kept_children l ok [] q k (then y no_more) us kept child in
            let m = miss (place_of y) child other in
            omega arith)
      ],
    )

    module _ (k : Bool) (ys us : PlaceTrees) (kept : AreTreesKept l (then (inner q k ys) us)) where
      abbrev y : PlaceTree
      y = (alone k ys us kept).0

      front : AreTreesKept l (then (inner q k (then y no_more)) us)
      front = subst (λ r. AreTreesKept l (then (inner q k r) us)) (alone k ys us kept).1 kept

      pub tidy_parent : parent_at l child ≡ Some q
      tidy_parent =
          subst (λ z. parent_at l z ≡ Some q) (alone k ys us kept).2
          (linked_parent l ok q (place_of y) (then (inner q k no_more) (then y us)) (then (inner q k (then y no_more)) us) front (linked_plug [] q k no_more us y))

      module _ (m : Links) (ok_m : AreLinks m) (gone : m ≡ detached l q child) where
        rest_kept : AreTreesKept m (then (inner q k no_more) (then y us))
        rest_kept =
            subst (λ z. AreTreesKept z (then (inner q k no_more) (then y us))) (ap (detached l q) (alone k ys us kept).2 ∙ sym gone)
            (kept_detached l ok q (place_of y) (then (inner q k no_more) (then y us)) (then (inner q k (then y no_more)) us) front (linked_plug [] q k no_more us y))

        pub tidy_live : IsLive m q
        tidy_live = node_live m ok_m [] q k no_more (then y us) rest_kept

        pub tidy_bare : m.marked ≡ [] → IsBare m q
        tidy_bare unmarked = kept_bare m ok_m q k (then y us) unmarked rest_kept

        pub tidy_room : (e : Links) → e ≡ with_kind m q None → spare_count l ≤ spare_count e
        tidy_room e end =
            subst (λ z. spare_count l ≤ spare_count z) (sym end)
            (subst (λ n. n ≤ spare_count (with_kind m q None)) (ap spare_count gone) (spare_freed m ok_m q (live_within m ok_m q tidy_live)))

        pub tidied_one : (e : Links) → e ≡ with_kind m q None → Tidied e q k ys us child
        tidied_one e end = (
          y,
          subst (λ z. AreTreesKept z (then y us)) (sym end) (kept_freed m ok_m q k (then y us) (live_within m ok_m q tidy_live) rest_kept),
          (alone k ys us kept).2,
          subst (λ r. IsTidied r k q y) (sym (alone k ys us kept).1) (only k y),
        )
          where
            only : (k : Bool) (y : PlaceTree) → IsTidied (then y no_more) k q y
            only true y = record { tips = λ p x. omega arith; named = λ x. omega arith; edges = λ x z. omega arith; leaves = omega arith; alternates = λ none all. all.0 }
            only false y = record { tips = λ p x. omega arith; named = λ x. omega arith; edges = λ x z. omega arith; leaves = omega arith; alternates = λ none all. all.0 }
