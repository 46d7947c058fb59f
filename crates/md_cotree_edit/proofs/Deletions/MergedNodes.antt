-- Two nodes of a kind, one above the other, become one.
use Rattle.std.proofs.Common.{◌≡◌, ℕ, Bool, true, false, not, [], length, Option, Some, None, refl, sym, ◌∙◌, ap, subst, arith}
use Rattle.md_lists.specs.declared.kinds.PlaceKind.{PlaceKind}
use Rattle.md_lists.specs.declared.kinds.PlaceKind.TheVariants.{Leaf}
use Rattle.md_lists.specs.Links.{Links, kind_at, children_at, IsLive, IsBare, AreLinks, with_kind, attached}
use Rattle.md_cotree.specs.PlaceTrees.{PlaceTree, tip, inner, PlaceTrees, no_more, then, place_of, row_length, IsInner}
use Rattle.md_cotree.proofs.Frames.{root_in}
use Rattle.md_cotree.proofs.Kept.{no_leaf}
use Rattle.md_modules.proofs.Components.{other_value}
use Rattle.md_cotree_edit.specs.Contexts.{plug, AreTreesKept}
use Rattle.md_cotree_edit.specs.Deletions.{AreMoved, MoveView, CanMove, AreAllMoved, PlaceView, CanReplace, IsKeptFrom, MergeView, CanMerge, IsMerged, SettleView, CanSettle, TakesChild, IsSettled, below_count}
use Rattle.md_cotree_edit.proofs.Trees.SameRows.{same_swap}
use Rattle.md_cotree_edit.proofs.Trees.KeptTrees.{root_kind, kept_kind, kept_live, kept_along}
use Rattle.md_cotree_edit.proofs.Trees.AdoptedTrees.{CanAttach, node_live, attach_ready, attach_done, kept_count}
use Rattle.md_cotree_edit.proofs.Trees.TurnedPairs.{place_plug}
use Rattle.md_cotree_edit.proofs.Deletions.ReplacedNode.{loose_live, loose_bare, loose_freed}

-- the two rows in the other order
moved_turned : (xs ys zs : PlaceTrees) → AreMoved ys xs no_more zs → AreMoved xs ys no_more zs
moved_turned xs ys zs is = record {
  tips = λ p v. let e = is.tips p v in omega arith;
  named = λ v. let e = is.named v in omega arith;
  pairs = λ a b. let e = is.pairs a b in omega arith;
  edges = λ a b. let e = is.edges a b in omega arith;
  leaves = let e = is.leaves in omega arith;
  long = let e = is.long in omega arith;
  none = λ k nx ny. is.none k ny nx;
  alternates = λ nx ny. is.alternates ny nx;
}

module _ (l : Links) (ok : AreLinks l) (root : Option ℕ) (top c : ℕ) (d : MergeView) (can : CanMerge l root top c d) where
  abbrev low : PlaceTree
  low = inner c d.series d.below

  abbrev high : PlaceTrees → PlaceTree
  high ts = plug d.frames (inner top d.series ts)

  turned : AreTreesKept l (then (high d.others) (then low no_more))
  turned = kept_along l (then low (then (high d.others) no_more)) (then (high d.others) (then low no_more)) (same_swap low (high d.others) no_more) can.kept

  pub low_live : IsLive l c
  low_live = node_live l ok [] c d.series d.below (then (high d.others) no_more) can.kept

  pub high_live : IsLive l top
  high_live = node_live l ok d.frames top d.series d.others (then low no_more) turned

  -- as many children as the trees have
  pub low_count : length (children_at l c) ≡ row_length d.below
  low_count = kept_count l ok [] c d.series d.below (then (high d.others) no_more) can.kept

  pub high_count : length (children_at l top) ≡ row_length d.others
  high_count = kept_count l ok d.frames top d.series d.others (then low no_more) turned

  -- ---- the children of the loose node move

  abbrev pub up_view : MoveView
  up_view = record { around_from = []; around_to = d.frames; series = d.series; moved = d.below; there = d.others }

  pub up_can : CanMove l c top up_view
  up_can = can.kept

  module _ (m : Links) (ok_m : AreLinks m) (moved : AreAllMoved m c top up_view) where
    pub up_live : IsLive m c
    up_live = loose_live m ok_m c d.series (then (high moved.row) no_more) moved.kept

    pub up_bare : m.marked ≡ [] → IsBare m c
    up_bare = loose_bare m ok_m c d.series (then (high moved.row) no_more) moved.kept

    pub up_merged : (n : Links) → n ≡ with_kind m c None → IsMerged n root d
    up_merged n freed = record {
      place = top;
      row = moved.row;
      is = record {
        kept = loose_freed m ok_m c d.series (then (high moved.row) no_more) moved.kept n freed;
        root = can.root ∙ ap Some (place_plug d.frames (inner top d.series moved.row) (inner top d.series d.others) refl);
      };
      counts = moved.counts;
    }

  -- ---- those of the other move

  abbrev pub down_view : MoveView
  down_view = record { around_from = d.frames; around_to = []; series = d.series; moved = d.others; there = d.below }

  pub down_can : CanMove l top c down_view
  down_can = turned

  module _ (m : Links) (moved : AreAllMoved m top c down_view) where
    abbrev pub down_place : PlaceView
    down_place = record { frames = d.frames; series = d.series; child = inner c d.series moved.row }

    pub down_replace : CanReplace m root top c down_place
    down_replace = record {
      kept = moved.kept;
      child = refl;
      root = can.root ∙ ap Some (place_plug d.frames (inner top d.series no_more) (inner top d.series d.others) refl);
    }

    pub down_merged : (n : Links) (r : Option ℕ) → IsKeptFrom n r (plug d.frames (inner c d.series moved.row)) → IsMerged n r d
    down_merged n r is = record { place = c; row = moved.row; is = is; counts = moved_turned d.below d.others moved.row moved.counts }

-- ---- a loose tree comes below a node

pub other_leaf : (o : Option PlaceKind) (k : PlaceKind) → o ≡ Some k → ((v : ℕ) → k ≡ Leaf v → ⊥) → (v : ℕ) → o ≡ Some (Leaf v) → ⊥
other_leaf o k is not_leaf v leaf = not_leaf v cc

taken_tip : (k : Bool) (y : PlaceTree) (ys : PlaceTrees) → (IsInner y k → ⊥) → TakesChild k y ys (then y ys)
taken_tip k y ys other = record {
  tips = λ p v. refl;
  named = λ v. refl;
  edges = λ a b. refl;
  leaves = refl;
  alternates = λ alt some none all. (omega arith, (other, none), (alt, all));
}

taken_merged : (k : Bool) (c : ℕ) (xs ys zs : PlaceTrees) → AreMoved xs ys no_more zs → TakesChild k (inner c k xs) ys zs
taken_merged true c xs ys zs is = record {
  tips = λ p v. let e = is.tips p v in omega arith;
  named = λ v. let e = is.named v in omega arith;
  edges = λ a b. let e = is.pairs a b in let f = is.edges a b in omega arith;
  leaves = let e = is.leaves in omega arith;
  alternates = λ alt some none all. let two = alt.0 in let e = is.long in (omega arith, (is.none true alt.1 none).1, (is.alternates alt.2 all).1);
}
taken_merged false c xs ys zs is = record {
  tips = λ p v. let e = is.tips p v in omega arith;
  named = λ v. let e = is.named v in omega arith;
  edges = λ a b. let f = is.edges a b in omega arith;
  leaves = let e = is.leaves in omega arith;
  alternates = λ alt some none all. let two = alt.0 in let e = is.long in (omega arith, (is.none false alt.1 none).1, (is.alternates alt.2 all).1);
}

module _ (l : Links) (ok : AreLinks l) (root : Option ℕ) (top c : ℕ) (d : SettleView) (can : CanSettle l root top c d) where
  abbrev whole : PlaceTrees → PlaceTree
  whole ts = plug d.frames (inner top d.series ts)

  pub settle_live : IsLive l c
  settle_live = subst (IsLive l) can.child (kept_live l (then d.child (then (whole d.others) no_more)) can.kept (place_of d.child) (let h = root_in d.child in omega arith))

  swapped : AreTreesKept l (then (whole d.others) (then d.child no_more))
  swapped = kept_along l (then d.child (then (whole d.others) no_more)) (then (whole d.others) (then d.child no_more)) (same_swap d.child (whole d.others) no_more) can.kept

  kind_is : kind_at l c ≡ Some (root_kind d.child)
  kind_is = subst (λ z. kind_at l z ≡ Some (root_kind d.child)) can.child (kept_kind l d.child (then (whole d.others) no_more) can.kept)

  pub settle_ready : CanAttach l top c
  settle_ready = subst (CanAttach l top) can.child (attach_ready l ok d.frames top d.series d.others no_more d.child swapped)

  not_node : (v : ℕ) (y : PlaceTree) (k : Bool) → Some (root_kind y) ≡ Some (Leaf v) → IsInner y k → ⊥
  not_node v (tip p w) k is node = node
  not_node v (inner p j ts) k is node = no_leaf v j (sym is)

  pub settled_leaf : (v : ℕ) → kind_at l c ≡ Some (Leaf v) → (n : Links) → n ≡ attached l top c → IsSettled n root d
  settled_leaf v leaf n is = record {
    place = top;
    row = then d.child d.others;
    is = record {
      kept = subst (λ z. AreTreesKept z (then (whole (then d.child d.others)) no_more)) (ap (attached l top) can.child ∙ sym is) (attach_done l ok d.frames top d.series d.others no_more d.child swapped);
      root = can.root ∙ ap Some (place_plug d.frames (inner top d.series (then d.child d.others)) (inner top d.series d.others) refl);
    };
    taken = taken_tip d.series d.child d.others (not_node v d.child d.series (sym kind_is ∙ leaf));
  }

  -- it is a node
  module _ (not_leaf : (v : ℕ) → kind_at l c ≡ Some (Leaf v) → ⊥) where
    pub is_node : (xs : PlaceTrees) × (d.child ≡ inner c d.series xs)
    is_node = go d.child can.child can.kind kind_is
      where
        go : (y : PlaceTree) → place_of y ≡ c → (IsInner y (not d.series) → ⊥) → kind_at l c ≡ Some (root_kind y) → (xs : PlaceTrees) × (y ≡ inner c d.series xs)
        go (tip p v) at other is = absurd (not_leaf v is)
        go (inner p k xs) at other is = (xs, λ i. inner (at i) (other_value k d.series other i) xs)

    abbrev pub merge_view : MergeView
    merge_view = record { frames = d.frames; series = d.series; below = is_node.0; others = d.others }

    pub merge_can : CanMerge l root top c merge_view
    merge_can = record {
      kept = subst (λ y. AreTreesKept l (then y (then (whole d.others) no_more))) is_node.1 can.kept;
      root = can.root;
    }

    pub merge_below : below_count d.child ≡ row_length is_node.0
    merge_below = ap below_count is_node.1

    pub settled_node : (n : Links) (r : Option ℕ) → IsMerged n r merge_view → IsSettled n r d
    settled_node n r merged = record {
      place = merged.place;
      row = merged.row;
      is = merged.is;
      taken = subst (λ y. TakesChild d.series y d.others merged.row) (sym is_node.1) (taken_merged d.series c is_node.0 d.others merged.row merged.counts);
    }
