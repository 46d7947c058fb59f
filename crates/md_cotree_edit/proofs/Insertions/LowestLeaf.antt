-- A new leaf below the lowest mixed node of a tree.
use Rattle.std.proofs.Common.{ℕ, Bool, List, Option, Some, refl, sym, ◌∙◌, ap}
use Rattle.md_lists.specs.Links.{Links, AreLinks}
use Rattle.md_cotree.specs.PlaceTrees.{PlaceTree, inner, PlaceTrees, no_more, then, Alternates}
use Rattle.md_cotree_edit.specs.Contexts.{Frame, plug}
use Rattle.md_cotree_edit.specs.Marks.{CanTake, ClimbView, LowestView, whole, IsLowest, CanRelink, CanLinkIn, IsLinkedIn, TellMarks, AreStill, AreReady, AreHalves, marked_walked}
use Rattle.md_cotree_edit.proofs.Trees.SameRows.{SameTree, tree_name}
use Rattle.md_cotree_edit.proofs.Marks.SameMarks.{SameMarks, told_same}
use Rattle.md_cotree_edit.proofs.Trees.KeptTrees.{same_root, kept_along}
use Rattle.md_cotree_edit.proofs.Marks.OnlyMarksDiffer.{kept_still}
use Rattle.md_cotree_edit.proofs.Climbs.LowestMixed.{find_lowest}
use Rattle.md_cotree_edit.proofs.Insertions.NewLeaf.{inserted_same}

-- the lowest mixed node of a tree in some order
abbrev Found : (ℕ → ℕ) → PlaceTree → Type 0
Found m t =
    (fs : List Frame) × (p : ℕ) × (k : Bool) × (ts : PlaceTrees) × SameTree t (plug fs (inner p k ts))
    × ((w : ℕ → ℕ) → SameMarks m w (then t no_more) (then (plug fs (inner p k ts)) no_more)) × AreReady m fs × AreHalves m ts

module _ (l k : Links) (top : Option ℕ) (x : ℕ) (d : ClimbView) (can : CanLinkIn l top x d) (still : AreStill l k) (ok_k : AreLinks k) (told : TellMarks k d.marks (marked_walked k) d.tree) (takes : CanTake d.marks d.tree) where
  abbrev found : Found d.marks d.tree
  found = find_lowest d.marks d.tree can.take.climb.marks can.take.climb.alternates takes can.some can.take.not_all

  abbrev pub lowest_view : LowestView
  lowest_view = record { marks = d.marks; walked = marked_walked k; frames = found.0; place = found.1; series = found.2; children = found.3 }

  abbrev same : SameTree d.tree (whole lowest_view)
  same = found.4

  pub is_lowest : IsLowest k lowest_view
  is_lowest = record {
    kept = kept_along k (then d.tree no_more) (then (whole lowest_view) no_more) same (kept_still l k (then d.tree no_more) still can.take.climb.kept);
    told = told_same k d.marks (marked_walked k) d.tree (whole lowest_view) told (found.5 (marked_walked k));
    walked = λ p. refl;
    marks = can.take.climb.marks;
    ready = found.6;
    halves = found.7;
  }

  pub lowest_alternates : Alternates (whole lowest_view)
  lowest_alternates = (same.alternates (can.take.climb.alternates, tt)).0

  pub can_relink : CanRelink k top x lowest_view
  can_relink = record {
    lowest = is_lowest;
    root = can.take.root ∙ ap Some (sym (same_root d.tree (whole lowest_view) same));
    alternates = lowest_alternates;
    fresh = tree_name d.tree (whole lowest_view) same x ∙ can.take.fresh;
  }

  pub settled_leaf : (m : Links) (r : Option ℕ) (leaf : ℕ) → IsLinkedIn m r lowest_view.marks x leaf (whole lowest_view) → IsLinkedIn m r d.marks x leaf d.tree
  settled_leaf m r leaf is = record {
    tree = is.tree;
    kept = is.kept;
    root = is.root;
    alternates = is.alternates;
    inserted = inserted_same d.marks can.take.climb.marks d.tree (whole lowest_view) is.tree leaf x same is.inserted;
  }
