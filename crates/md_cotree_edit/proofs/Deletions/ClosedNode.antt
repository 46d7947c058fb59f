-- A node of one child goes.
use Rattle.std.proofs.Common.{◌≡◌, ℕ, ◌+◌, Bool, true, false, not, cond, ◌∷◌, Option, Some, None, refl, sym, ◌∙◌, ap, subst, inl, inr, arith}
use Rattle.std.proofs.lemmas.Bool.{cases_eq}
use Rattle.md_graph.specs.Linked.{first_or}
use Rattle.md_lists.specs.Links.{Links, parent_at, children_at, IsLive, AreLinks, with_kind}
use Rattle.md_lists.proofs.ListLaws.{first_in}
use Rattle.md_cotree.specs.PlaceTrees.{PlaceTree, inner, PlaceTrees, no_more, then, place_of, row_length, IsInner, Alternates}
use Rattle.md_cotree.proofs.Frames.{hit, miss}
use Rattle.md_cotree_edit.specs.Counts.{edge_in}
use Rattle.md_cotree_edit.specs.Contexts.{Frame, plug, AreAround, AreTreesKept}
use Rattle.md_cotree_edit.specs.Turns.{IsTurned}
use Rattle.md_cotree_edit.specs.Deletions.{PlaceView, CanReplace, SettleView, CanSettle, TakesChild, IsSettled, beside_count, CloseView, open_tree, CanClose, no_pairs, IsNodeClosed}
use Rattle.md_cotree_edit.proofs.Trees.KeptTrees.{kept_along}
use Rattle.md_cotree_edit.proofs.Trees.SameRows.{same_swap}
use Rattle.md_cotree_edit.proofs.Trees.AdoptedTrees.{node_live, kept_children}
use Rattle.md_cotree_edit.proofs.EdgeTurns.LiftedLeaves.{off_parent, off_kept, off_marks, Off}
use Rattle.md_cotree_edit.proofs.Trees.TurnedPairs.{place_plug, turned_plug, self_not, alternates_plug}
use Rattle.md_cotree_edit.proofs.Deletions.MovedChildren.{no_first}
use Rattle.md_cotree_edit.proofs.Deletions.ReplacedNode.{replace_alone, root_done, IsFramed, framed, below_root}

-- ---- its child leaves it

module _ (l : Links) (ok : AreLinks l) (above : ℕ) (d : CloseView) (kept : AreTreesKept l (then (open_tree above d) no_more)) where
  pub only_live : IsLive l above
  only_live = node_live l ok d.frames above d.series (then d.child no_more) no_more kept

  pub only_some : None ≡ first_or (children_at l above) None → ⊥
  only_some none =
      let e = kept_children l ok d.frames above d.series (then d.child no_more) no_more kept (place_of d.child) in
      let h = hit (place_of d.child) (place_of d.child) refl in
      let f = no_first (children_at l above) (place_of d.child) none in
      omega arith

  module _ (c : ℕ) (first : Some c ≡ first_or (children_at l above) None) where
    pub only_is : place_of d.child ≡ c
    only_is =
        elim (cases_eq (place_of d.child) c) [
          | inl same ↦ same
          | inr other ↦ absurd (
              let some = first_in (children_at l above) c (sym first) in
              let e = kept_children l ok d.frames above d.series (then d.child no_more) no_more kept c in
              let m = miss (place_of d.child) c other in
              omega arith)
        ]

    pub only_parent : parent_at l c ≡ Some above
    only_parent = subst (λ z. parent_at l z ≡ Some above) only_is (off_parent l ok d.frames above d.series d.child no_more no_more kept)

    module _ (m : Links) (off : Off l c m) where
      off_child : Off l (place_of d.child) m
      off_child = subst (λ z. Off l z m) (sym only_is) off

      pub only_kept : AreTreesKept m (then (plug d.frames (inner above d.series no_more)) (then d.child no_more))
      only_kept = off_kept l ok d.frames above d.series d.child no_more no_more kept m off_child

      pub only_marks : m.marked ≡ l.marked
      only_marks = off_marks l ok d.frames above d.series d.child no_more no_more kept m off_child

-- ---- it goes

turned_only : (k : Bool) (q : ℕ) (y : PlaceTree) → IsTurned false no_pairs (inner q k (then y no_more)) y
turned_only true q y = record { tips = λ p x. omega arith; named = λ x. omega arith; edges = λ x z. omega arith; leaves = omega arith }
turned_only false q y = record { tips = λ p x. omega arith; named = λ x. omega arith; edges = λ x z. omega arith; leaves = omega arith }

turned_taken : (k j : Bool) (q g p : ℕ) (y : PlaceTree) (ys zs : PlaceTrees) → TakesChild j y ys zs →
    IsTurned false no_pairs (inner g j (then (inner q k (then y no_more)) ys)) (inner p j zs)
turned_taken k j q g p y ys zs is = record {
  tips = λ p v. let e = is.tips p v in omega arith;
  named = λ v. let e = is.named v in omega arith;
  edges = λ a b. go k j a b is;
  leaves = let e = is.leaves in omega arith;
}
  where
    go : (k j : Bool) (a b : ℕ) → TakesChild j y ys zs →
        edge_in a b (inner p j zs) + cond false (no_pairs a b) 0 ≡ edge_in a b (inner g j (then (inner q k (then y no_more)) ys)) + cond false 0 (no_pairs a b)
    go true true a b is = let e = is.edges a b in omega arith
    go true false a b is = let e = is.edges a b in omega arith
    go false true a b is = let e = is.edges a b in omega arith
    go false false a b is = let e = is.edges a b in omega arith

flip : (a b : Bool) → a ≡ not b → not a ≡ b
flip true true e = absurd cc
flip true false e = refl
flip false true e = refl
flip false false e = absurd cc

module _ (l : Links) (root : Option ℕ) (above : ℕ) (d : CloseView) (can : CanClose l root above d) (m : Links) (ok : AreLinks m) (c : ℕ)
    (only : AreTreesKept m (then (plug d.frames (inner above d.series no_more)) (then d.child no_more)) × (place_of d.child ≡ c)) where
  abbrev pub close_view : PlaceView
  close_view = record { frames = d.frames; series = d.series; child = d.child }

  pub close_can : CanReplace m root above c close_view
  close_can = record {
    kept = only.0;
    child = only.1;
    root = can.is.root ∙ ap Some (place_plug d.frames (inner above d.series no_more) (inner above d.series (then d.child no_more)) refl);
  }

  -- ---- it is the root

  pub closed_root : None ≡ parent_at m above → (n : Links) → n ≡ with_kind m above None → IsNodeClosed n (Some c) (open_tree above d)
  closed_root none n freed = record {
    tree = plug d.frames d.child;
    is = root_done m ok root above c close_view close_can none n freed;
    alternates = subst (λ fs. Alternates (plug fs d.child)) (sym (replace_alone m ok root above c close_view close_can none)) can.alternates;
    turned = turned_plug false no_pairs d.frames (inner above d.series (then d.child no_more)) d.child (turned_only d.series above d.child);
  }

  -- ---- it is below a node

  module _ (g : ℕ) (is : Some g ≡ parent_at m above) where
    abbrev site : IsFramed d.frames g
    site = framed m ok root above c close_view close_can g is

    abbrev pub settle_view : SettleView
    settle_view = record { frames = site.frames; series = site.series; child = d.child; others = site.others }

    pub close_beside : beside_count d.frames ≡ row_length settle_view.others
    close_beside = ap beside_count site.is

    abbrev f : Frame
    f = record { place = g; series = site.series; others = site.others }

    around : AreAround (f ∷ site.frames) d.series
    around = subst (λ fs. AreAround fs d.series) site.is can.around

    pub settle_can : (n : Links) → AreTreesKept n (then (plug site.frames (inner g site.series site.others)) (then d.child no_more)) → CanSettle n root g c settle_view
    settle_can n kept = record {
      kept = kept_along n (then (plug site.frames (inner g site.series site.others)) (then d.child no_more)) (then d.child (then (plug site.frames (inner g site.series site.others)) no_more))
          (same_swap (plug site.frames (inner g site.series site.others)) d.child no_more) kept;
      child = only.1;
      root = below_root m ok root above c close_view close_can g is (inner g site.series site.others) refl;
      kind = λ i. can.kind (subst (IsInner d.child) (flip site.series d.series around.0) i);
    }

    pub closed_below : (n : Links) (r : Option ℕ) → IsSettled n r settle_view → IsNodeClosed n r (open_tree above d)
    closed_below n r settled = record {
      tree = plug site.frames (inner settled.place site.series settled.row);
      is = settled.is;
      alternates = alternates_plug site.frames site.series (inner settled.place site.series settled.row) around.4 (self_not site.series)
          (settled.taken.alternates can.alternates around.1 around.2 around.3);
      turned = subst (λ fs. IsTurned false no_pairs (plug fs (inner above d.series (then d.child no_more))) (plug site.frames (inner settled.place site.series settled.row))) (sym site.is)
          (turned_plug false no_pairs site.frames (inner g site.series (then (inner above d.series (then d.child no_more)) site.others)) (inner settled.place site.series settled.row)
          (turned_taken d.series site.series above g settled.place d.child site.others settled.row settled.taken));
    }
