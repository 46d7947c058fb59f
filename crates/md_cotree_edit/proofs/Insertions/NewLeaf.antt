-- A new leaf in a tree: beside the whole tree, or below its lowest mixed node.
use Rattle.std.proofs.Common.{◌≡◌, ◌≢◌, ◌↔◌, ℕ, zero, suc, ◌+◌, ◌*◌, ◌<◌, ◌≤◌, Bool, true, false, cond, ◌==◌, length, Option, Some, None, refl, sym, ◌∙◌, ap, arith}
use Rattle.std.proofs.lemmas.Bool.{false≢true}
use Rattle.std.specs.Prelude.{IsTrue}
use Rattle.std.proofs.lemmas.Option.{same_Some}
use Rattle.md_lists.specs.declared.kinds.PlaceKind.TheVariants.{Leaf}
use Rattle.md_lists.specs.declared.TheConstants.{PLACES}
use Rattle.md_lists.specs.Links.{Links, kind_at, AreLinks, with_kind}
use Rattle.md_cotree.specs.PlaceTrees.{PlaceTree, tip, no_more, then, place_of, Alternates}
use Rattle.md_cotree_edit.specs.Counts.{name_in, edge_in, crossing}
use Rattle.md_cotree_edit.specs.Contexts.{AreTreesKept}
use Rattle.md_cotree_edit.specs.Turns.{IsBeside}
use Rattle.md_cotree_edit.specs.Marks.{AreNameMarks, hits_in, full_in, none_walked, AreStill, IsInserted, IsLinkedIn, ClimbView, CanTakeIn, CanLinkIn}
use Rattle.md_cotree_edit.proofs.Trees.KeptTrees.{kept_along}
use Rattle.md_cotree_edit.proofs.Trees.SameRows.{SameTree, same_swap, tree_name, tree_edge}
use Rattle.md_cotree_edit.proofs.Marks.OnlyMarksDiffer.{kept_still}
use Rattle.md_cotree_edit.proofs.Marks.FewMarked.{few_marked}
use Rattle.md_cotree_edit.proofs.Insertions.LeafEdges.{full_name, none_name}
use Rattle.md_cotree_edit.proofs.Insertions.Relinked.{kept_leaf}
use Rattle.md_cotree_edit.proofs.Climbs.WalkedPlace.{none_walks}

-- a leaf beside a tree, both below one node of a kind, in the lists from their root on
abbrev pub WholeBeside : Bool → PlaceTree → Links → Option ℕ → ℕ → ℕ → Type 0
WholeBeside k t l r leaf x = (s : PlaceTree) × AreTreesKept l (then s no_more) × (r ≡ Some (place_of s)) × IsBeside k t (tip leaf x) s

module _ (m : ℕ → ℕ) (marks : AreNameMarks m) where
  -- ---- beside the whole tree

  -- a leaf beside a tree below one node of a kind is joined to its marked names: all or none
  pub beside_inserted : (k : Bool) (t : PlaceTree) (leaf x : ℕ) (s : PlaceTree) → ((b : ℕ) → m b * name_in b t ≡ cond k (name_in b t) 0) → IsBeside k t (tip leaf x) s → IsInserted m leaf x t s
  beside_inserted k t leaf x s told is = record {
    tips = is.tips;
    named = is.named;
    edges = λ a b. is.edges a b ∙ pairs a b;
    leaves = is.leaves;
  }
    where
      times_cond : (c : Bool) (n : ℕ) → n * cond c 1 0 ≡ cond c n 0
      times_cond true n = omega arith
      times_cond false n = omega arith

      cond_sum : (k : Bool) (c d : Bool) (n l : ℕ) → ◌≡◌ {A = ℕ} (cond k (cond c n 0 + cond d l 0) 0) (cond c (cond k n 0) 0 + cond d (cond k l 0) 0)
      cond_sum true c d n l = refl
      cond_sum false true true n l = refl
      cond_sum false true false n l = refl
      cond_sum false false true n l = refl
      cond_sum false false false n l = refl

      pairs : (a b : ℕ) → (edge_in a b t + 0) + cond k (crossing t (tip leaf x) a b) 0 ≡ edge_in a b t + (cond (x == a) (m b * name_in b t) 0 + cond (x == b) (m a * name_in a t) 0)
      pairs a b =
          let cross : crossing t (tip leaf x) a b ≡ cond (x == b) (name_in a t) 0 + cond (x == a) (name_in b t) 0 = (λ i. times_cond (x == b) (name_in a t) i + times_cond (x == a) (name_in b t) i) in
          let sum = (λ i. cond k (cross i) 0) ∙ cond_sum k (x == b) (x == a) (name_in a t) (name_in b t) in
          let first : ◌≡◌ {A = ℕ} (cond (x == a) (m b * name_in b t) 0) (cond (x == a) (cond k (name_in b t) 0) 0) = ap (λ z. cond (x == a) z 0) (told b) in
          let second : ◌≡◌ {A = ℕ} (cond (x == b) (m a * name_in a t) 0) (cond (x == b) (cond k (name_in a t) 0) 0) = ap (λ z. cond (x == b) z 0) (told a) in
          add_up (edge_in a b t) (cond k (crossing t (tip leaf x) a b) 0) _ _ _ _ sum first second
        where
          add_up : (e c p q f g : ℕ) → c ≡ q + p → f ≡ p → g ≡ q → (e + 0) + c ≡ e + (f + g)
          add_up e c p q f g h i j = omega arith

  taken_beside : (k : Bool) (t : PlaceTree) → Alternates t → ((b : ℕ) → m b * name_in b t ≡ cond k (name_in b t) 0) → (l : Links) (r : Option ℕ) (leaf x : ℕ) → WholeBeside k t l r leaf x → IsLinkedIn l r m x leaf t
  taken_beside k t alternates told l r leaf x is = record {
    tree = is.0;
    kept = is.1;
    root = is.2;
    alternates = is.3.alternates alternates tt (λ i. i);
    inserted = beside_inserted k t leaf x is.0 told is.3;
  }

  pub taken_none : (t : PlaceTree) → Alternates t → hits_in m t ≡ 0 → (l : Links) (r : Option ℕ) (leaf x : ℕ) → WholeBeside false t l r leaf x → IsLinkedIn l r m x leaf t
  taken_none t alternates none = taken_beside false t alternates (λ b. none_name m b t none)

  pub taken_all : (t : PlaceTree) → Alternates t → full_in m t ≡ 1 → (l : Links) (r : Option ℕ) (leaf x : ℕ) → WholeBeside true t l r leaf x → IsLinkedIn l r m x leaf t
  taken_all t alternates full = taken_beside true t alternates (λ b. full_name m b t full)

  -- ---- the same tree in another order

  pub inserted_same : (t whole s : PlaceTree) (leaf x : ℕ) → SameTree t whole → IsInserted m leaf x whole s → IsInserted m leaf x t s
  inserted_same t whole s leaf x same is = record {
    tips = λ p v. let e = is.tips p v in let f = same.tips p v in omega arith;
    named = λ v. let e = is.named v in let f = tree_name t whole same v in omega arith;
    edges = λ a b.
        is.edges a b
        ∙ (λ i. tree_edge t whole same a b i + (cond (x == a) (m b * tree_name t whole same b i) 0 + cond (x == b) (m a * tree_name t whole same a i) 0));
    leaves = let e = is.leaves in let f = same.leaves in omega arith;
  }

-- ---- a leaf beside a tree

-- a leaf is made beside a tree
pub leaf_beside : (l k m : Links) → AreStill l k → AreLinks k → AreLinks m → (p x : ℕ) → kind_at k p ≡ None → p < PLACES → m ≡ with_kind k p (Some (Leaf x)) → (t : PlaceTree) → AreTreesKept l (then t no_more) → AreTreesKept m (then t (then (tip p x) no_more))
leaf_beside l k m still ok_k ok_m p x free within made t kept =
    kept_along m (then (tip p x) (then t no_more)) (then t (then (tip p x) no_more)) (same_swap (tip p x) t no_more)
    (kept_leaf k ok_k p (Leaf x) free within m made x (then t no_more) refl (kept_still l k (then t no_more) still kept))

-- ---- a leaf in a tree that isn't marked all over

module _ (l : Links) (top : Option ℕ) (x : ℕ) (d : ClimbView) (can : CanTakeIn l top x d) where
  -- few places are marked
  pub few_told : AreLinks l → length l.marked ≤ 4 * hits_in d.marks d.tree
  few_told ok = few_marked l d.marks none_walked d.tree ok can.climb.kept can.climb.told (none_walks d.marks d.tree) can.climb.marks can.climb.alternates (λ p. omega arith)

  pub tree_at : (p : ℕ) → top ≡ Some p → place_of d.tree ≡ p
  tree_at p is = same_Some (place_of d.tree) p (sym can.root ∙ is)

  pub can_settle : (none : Bool) → none ≡ false → (IsTrue none ↔ (hits_in d.marks d.tree ≡ 0)) → CanLinkIn l top x d
  can_settle none some told = record { take = can; some = some_of_none (hits_in d.marks d.tree) (λ e. absurd (false≢true (sym some ∙ told.1 e))) }
    where
      some_of_none : (n : ℕ) → n ≢ 0 → 0 < n
      some_of_none zero e = absurd (e refl)
      some_of_none (suc n) e = omega arith
