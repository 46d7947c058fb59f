-- A node without children leaves a tree, and a loose tree may come in its place.
use Rattle.std.proofs.Common.{◌≡◌, ℕ, Bool, true, List, [], ◌∷◌, Option, Some, None, is_some, refl, sym, ◌∙◌, ap, subst}
use Rattle.std.proofs.lemmas.Option.{none-some, same_Some}
use Rattle.md_lists.specs.Links.{Links, parent_at, IsLive, IsBare, AreLinks, with_kind, attached}
use Rattle.md_lists.proofs.LinkLaws.{live_within}
use Rattle.md_cotree.specs.PlaceTrees.{PlaceTree, inner, PlaceTrees, no_more, then, place_of}
use Rattle.md_cotree_edit.specs.Contexts.{Frame, plug, AreTreesKept}
use Rattle.md_cotree_edit.specs.Deletions.{PlaceView, CanReplace, IsKeptFrom}
use Rattle.md_cotree_edit.proofs.Trees.SameRows.{same_swap}
use Rattle.md_cotree_edit.proofs.Trees.KeptTrees.{kept_loose, kept_along}
use Rattle.md_cotree_edit.proofs.Trees.ListCalls.{kept_freed, kept_bare}
use Rattle.md_cotree_edit.proofs.Trees.AdoptedTrees.{CanAttach, node_live, attach_ready, attach_done}
use Rattle.md_cotree_edit.proofs.EdgeTurns.LiftedLeaves.{off_parent, off_kept, off_marks, Off}
use Rattle.md_cotree_edit.proofs.Trees.TurnedPairs.{place_plug}

-- the innermost node around a hole is at a place
pub record IsFramed (fs : List Frame) (g : ℕ) : Type 0 where
  pub series : Bool
  pub others : PlaceTrees
  pub frames : List Frame
  pub is : fs ≡ record { place = g; series = series; others = others } ∷ frames

module _ (l : Links) (ok : AreLinks l) where
  pub no_frame : (fs : List Frame) (t : PlaceTree) (us : PlaceTrees) → AreTreesKept l (then (plug fs t) us) → None ≡ parent_at l (place_of t) → fs ≡ []
  no_frame [] t us kept none = refl
  no_frame (f ∷ fs) t us kept none = absurd (none-some f.place (none ∙ off_parent l ok fs f.place f.series t f.others us kept))

  pub some_frame : (fs : List Frame) (t : PlaceTree) (us : PlaceTrees) → AreTreesKept l (then (plug fs t) us) → (g : ℕ) → Some g ≡ parent_at l (place_of t) → IsFramed fs g
  some_frame [] t us kept g is = absurd (none-some g (sym (kept_loose l t us kept) ∙ sym is))
  some_frame (f ∷ fs) t us kept g is =
      let e : f.place ≡ g = same_Some f.place g (sym (off_parent l ok fs f.place f.series t f.others us kept) ∙ sym is) in
      record {
        series = f.series;
        others = f.others;
        frames = fs;
        is = λ i. record { place = e i; series = f.series; others = f.others } ∷ fs;
      }

  -- a loose node without children
  module _ (w : ℕ) (k : Bool) (ts : PlaceTrees) (kept : AreTreesKept l (then (inner w k no_more) ts)) where
    pub loose_live : IsLive l w
    loose_live = node_live l ok [] w k no_more ts kept

    pub loose_bare : l.marked ≡ [] → IsBare l w
    loose_bare unmarked = kept_bare l ok w k ts unmarked kept

    pub loose_freed : (n : Links) → n ≡ with_kind l w None → AreTreesKept n ts
    loose_freed n is = subst (λ z. AreTreesKept z ts) (sym is) (kept_freed l ok w k ts (live_within l ok w loose_live) kept)

module _ (l : Links) (ok : AreLinks l) (root : Option ℕ) (old c : ℕ) (d : PlaceView) (can : CanReplace l root old c d) where
  abbrev node : PlaceTree
  node = inner old d.series no_more

  pub replace_live : IsLive l old
  replace_live = node_live l ok d.frames old d.series no_more (then d.child no_more) can.kept

  -- ---- it is the root

  module _ (none : None ≡ parent_at l old) where
    pub replace_alone : d.frames ≡ []
    replace_alone = no_frame l ok d.frames node (then d.child no_more) can.kept none

    root_kept : AreTreesKept l (then node (then d.child no_more))
    root_kept = subst (λ fs. AreTreesKept l (then (plug fs node) (then d.child no_more))) replace_alone can.kept

    pub root_bare : l.marked ≡ [] → IsBare l old
    root_bare = loose_bare l ok old d.series (then d.child no_more) root_kept

    pub root_done : (n : Links) → n ≡ with_kind l old None → IsKeptFrom n (Some c) (plug d.frames d.child)
    root_done n is = subst (λ fs. IsKeptFrom n (Some c) (plug fs d.child)) (sym replace_alone) (record {
      kept = loose_freed l ok old d.series (then d.child no_more) root_kept n is;
      root = ap Some (sym can.child);
    })

  -- ---- it is below a node

  module _ (g : ℕ) (is : Some g ≡ parent_at l old) where
    pub framed : IsFramed d.frames g
    framed = some_frame l ok d.frames node (then d.child no_more) can.kept g is

    abbrev around : List Frame
    around = framed.frames

    -- the node above, with these children
    abbrev pub above_node : PlaceTrees → PlaceTree
    above_node ts = inner g framed.series ts

    below_kept : AreTreesKept l (then (plug around (above_node (then node framed.others))) (then d.child no_more))
    below_kept = subst (λ fs. AreTreesKept l (then (plug fs node) (then d.child no_more))) framed.is can.kept

    pub replace_parent : is_some (parent_at l old) ≡ true
    replace_parent = ap is_some (sym is)

    pub below_root : (s : PlaceTree) → place_of s ≡ g → root ≡ Some (place_of (plug around s))
    below_root s at =
        subst (λ fs. root ≡ Some (place_of (plug fs node))) framed.is can.root
        ∙ sym (ap Some (place_plug around (above_node (then node framed.others)) s at))

    module _ (m : Links) (ok_m : AreLinks m) (off : Off l old m) where
      off_node : AreTreesKept m (then node (then (plug around (above_node framed.others)) (then d.child no_more)))
      off_node =
          kept_along m (then (plug around (above_node framed.others)) (then node (then d.child no_more))) (then node (then (plug around (above_node framed.others)) (then d.child no_more)))
          (same_swap (plug around (above_node framed.others)) node (then d.child no_more))
          (off_kept l ok around g framed.series node framed.others (then d.child no_more) below_kept m off)

      pub off_live : IsLive m old
      off_live = loose_live m ok_m old d.series (then (plug around (above_node framed.others)) (then d.child no_more)) off_node

      pub off_unmarked : l.marked ≡ [] → m.marked ≡ []
      off_unmarked unmarked = off_marks l ok around g framed.series node framed.others (then d.child no_more) below_kept m off ∙ unmarked

      pub off_bare : l.marked ≡ [] → IsBare m old
      off_bare unmarked = loose_bare m ok_m old d.series (then (plug around (above_node framed.others)) (then d.child no_more)) off_node (off_unmarked unmarked)

      module _ (n : Links) (ok_n : AreLinks n) (freed : n ≡ with_kind m old None) where
        pub gone_kept : AreTreesKept n (then (plug around (above_node framed.others)) (then d.child no_more))
        gone_kept = loose_freed m ok_m old d.series (then (plug around (above_node framed.others)) (then d.child no_more)) off_node n freed

        pub gone_unmarked : l.marked ≡ [] → n.marked ≡ []
        gone_unmarked unmarked = ap (λ (z : Links). z.marked) freed ∙ off_unmarked unmarked

        pub replace_ready : CanAttach n g c
        replace_ready = subst (CanAttach n g) can.child (attach_ready n ok_n around g framed.series framed.others no_more d.child gone_kept)

        pub replace_done : (e : Links) → e ≡ attached n g c → IsKeptFrom e root (plug d.frames d.child)
        replace_done e end = subst (λ fs. IsKeptFrom e root (plug fs d.child)) (sym framed.is) (record {
          kept = subst (λ z. AreTreesKept z (then (plug around (above_node (then d.child framed.others))) no_more)) (ap (attached n g) can.child ∙ sym end)
              (attach_done n ok_n around g framed.series framed.others no_more d.child gone_kept);
          root = below_root (above_node (then d.child framed.others)) refl;
        })
