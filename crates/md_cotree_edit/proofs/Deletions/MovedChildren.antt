-- Children that move from one node to another.
use Rattle.std.proofs.Common.{◌≡◌, ℕ, ◌+◌, ◌*◌, List, [], ◌∷◌, length, Option, Some, None, refl, sym, ◌∙◌, ap, subst, arith}
use Rattle.md_graph.specs.Linked.{first_or, times}
use Rattle.md_lists.specs.Links.{Links, parent_at, children_at, IsLive, AreLinks, attached}
use Rattle.md_lists.proofs.ListLaws.{first_in}
use Rattle.md_cotree.specs.PlaceTrees.{PlaceTree, inner, PlaceTrees, no_more, then, place_of, roots, row_length}
use Rattle.md_cotree.proofs.Frames.{hit}
use Rattle.md_cotree_edit.specs.Counts.{name_row, pair_row}
use Rattle.md_cotree_edit.specs.Contexts.{plug, AreTreesKept}
use Rattle.md_cotree_edit.specs.Deletions.{pairs_of, AreMoved, PassView, two_trees, CanPass, MoveView, AreMoving, AreAllMoved}
use Rattle.md_cotree_edit.proofs.Trees.SameRows.{SameRow, same_trans, same_swap, same_rest, same_first, same_inner, same_plug, IsFront, front_root}
use Rattle.md_cotree_edit.proofs.Trees.KeptTrees.{kept_along}
use Rattle.md_cotree_edit.proofs.Trees.AdoptedTrees.{CanAttach, same_turn, node_live, attach_ready, attach_done, kept_children, kept_count}
use Rattle.md_cotree_edit.proofs.EdgeTurns.LiftedLeaves.{off_parent, off_kept, off_marks, Off}

pub same_ends : (a b c : PlaceTree) (ts : PlaceTrees) → SameRow (then a (then b (then c ts))) (then c (then b (then a ts)))
same_ends a b c ts =
    same_trans (then a (then b (then c ts))) (then c (then a (then b ts))) (then c (then b (then a ts)))
    (same_turn a b c ts) (same_rest c (then a (then b ts)) (then b (then a ts)) (same_swap a b ts))

-- ---- one child

module _ (l : Links) (ok : AreLinks l) (from c to : ℕ) (d : PassView) (can : CanPass l from c to d) where
  abbrev source : PlaceTrees → PlaceTree
  source xs = plug d.around_from (inner from d.series xs)

  abbrev target : PlaceTrees → PlaceTree
  target ys = plug d.around_to (inner to d.series ys)

  pub pass_parent : parent_at l c ≡ Some from
  pass_parent = subst (λ z. parent_at l z ≡ Some from) can.child (off_parent l ok d.around_from from d.series d.child d.left (then (target d.there) no_more) can.kept)

  module _ (m : Links) (ok_m : AreLinks m) (off : Off l c m) where
    off_child : Off l (place_of d.child) m
    off_child = subst (λ z. Off l z m) (sym can.child) off

    loose : AreTreesKept m (then (target d.there) (then d.child (then (source d.left) no_more)))
    loose =
        kept_along m (then (source d.left) (then d.child (then (target d.there) no_more))) (then (target d.there) (then d.child (then (source d.left) no_more)))
        (same_ends (source d.left) d.child (target d.there) no_more)
        (off_kept l ok d.around_from from d.series d.child d.left (then (target d.there) no_more) can.kept m off_child)

    pub pass_ready : CanAttach m to c
    pass_ready = subst (CanAttach m to) can.child (attach_ready m ok_m d.around_to to d.series d.there (then (source d.left) no_more) d.child loose)

    pub pass_marks : m.marked ≡ l.marked
    pass_marks = off_marks l ok d.around_from from d.series d.child d.left (then (target d.there) no_more) can.kept m off_child

    pub pass_done : (n : Links) → n ≡ attached m to c → AreTreesKept n (two_trees d.around_from d.around_to d.series from d.left to (then d.child d.there))
    pass_done n is =
        kept_along n (then (target (then d.child d.there)) (then (source d.left) no_more)) (then (source d.left) (then (target (then d.child d.there)) no_more))
        (same_swap (target (then d.child d.there)) (source d.left) no_more)
        (subst (λ z. AreTreesKept z (then (target (then d.child d.there)) (then (source d.left) no_more))) (ap (attached m to) can.child ∙ sym is)
        (attach_done m ok_m d.around_to to d.series d.there (then (source d.left) no_more) d.child loose))

-- ---- all children

-- one more has moved
moved_more : (xs ys us zs : PlaceTrees) (t : PlaceTree) (others : PlaceTrees) → AreMoved xs ys us zs → SameRow us (then t others) → AreMoved xs ys others (then t zs)
moved_more xs ys us zs t others is same = record {
  tips = λ p v. let e = is.tips p v in let f = same.tips p v in omega arith;
  named = λ v. let e = is.named v in let f = same.named v in omega arith;
  pairs = λ a b.
      let e = is.pairs a b in
      let f : pairs_of a b (then t others) zs ≡ pairs_of a b us zs = λ i. (same.pairs a b i + pair_row a b zs) + (same.named a i * name_row b zs + same.named b i * name_row a zs) in
      let g : pairs_of a b others (then t zs) ≡ pairs_of a b (then t others) zs = omega arith in
      g ∙ f ∙ e;
  edges = λ a b. let e = is.edges a b in let f = same.edges a b in omega arith;
  leaves = let e = is.leaves in let f = same.leaves in omega arith;
  long = let e = is.long in let f = same.long in omega arith;
  none = λ k nx ny. let n = is.none k nx ny in let m = same.none k n.0 in (m.1, (m.0, n.1));
  alternates = λ nx ny. let n = is.alternates nx ny in let m = same.alternates n.0 in (m.1, (m.0, n.1));
}

pub no_first : (xs : List ℕ) (c : ℕ) → None ≡ first_or xs None → times c xs ≡ 0
no_first [] c none = refl
no_first (x ∷ xs) c none = absurd cc

pub no_some : (o r : Option ℕ) → o ≡ r → ((x : ℕ) → o ≡ Some x → ⊥) → None ≡ r
no_some None r same not = same
no_some (Some x) r same not = absurd (not x refl)

module _ (l : Links) (ok : AreLinks l) (from to : ℕ) (d : MoveView) (is : AreMoving l from to d) where
  abbrev rest : PlaceTrees
  rest = then (plug d.around_to (inner to d.series is.row)) no_more

  pub move_live : IsLive l from
  move_live = node_live l ok d.around_from from d.series is.left rest is.kept

  pub move_count : length (children_at l from) ≡ row_length is.left
  move_count = kept_count l ok d.around_from from d.series is.left rest is.kept

  pub move_end : None ≡ first_or (children_at l from) None → AreAllMoved l from to d
  move_end none = go is.left (kept_children l ok d.around_from from d.series is.left rest is.kept) is.kept is.counts
    where
      go : (left : PlaceTrees) → ((c : ℕ) → times c (roots left) ≡ times c (children_at l from)) → AreTreesKept l (two_trees d.around_from d.around_to d.series from left to is.row) →
          AreMoved d.moved d.there left is.row → AreAllMoved l from to d
      go no_more same kept counts = record { row = is.row; kept = kept; counts = counts }
      go (then t ts) same kept counts = absurd (
          let h = hit (place_of t) (place_of t) refl in
          let e = same (place_of t) in
          let f = no_first (children_at l from) (place_of t) none in
          omega arith)

  module _ (c : ℕ) (first : Some c ≡ first_or (children_at l from) None) where
    abbrev front : (t : PlaceTree) × (place_of t ≡ c) × IsFront is.left t
    front = front_root is.left c (let e = kept_children l ok d.around_from from d.series is.left rest is.kept c in let some = first_in (children_at l from) c (sym first) in omega arith)

    abbrev pub move_view : PassView
    move_view = record {
      around_from = d.around_from;
      around_to = d.around_to;
      series = d.series;
      child = front.0;
      left = front.2.others;
      there = is.row;
    }

    pub move_can : CanPass l from c to move_view
    move_can = record {
      kept = kept_along l (two_trees d.around_from d.around_to d.series from is.left to is.row) (two_trees d.around_from d.around_to d.series from (then front.0 front.2.others) to is.row)
          (same_first (plug d.around_from (inner from d.series is.left)) (plug d.around_from (inner from d.series (then front.0 front.2.others))) rest
          (same_plug d.around_from (inner from d.series is.left) (inner from d.series (then front.0 front.2.others)) (same_inner from d.series is.left (then front.0 front.2.others) front.2.same)))
          is.kept;
      child = front.1;
    }

    module _ (n : Links) (kept : AreTreesKept n (two_trees d.around_from d.around_to d.series from move_view.left to (then move_view.child move_view.there))) where
      pub move_next : AreMoving n from to d
      move_next = record {
        left = front.2.others;
        row = then front.0 is.row;
        kept = kept;
        counts = moved_more d.moved d.there is.left is.row front.0 front.2.others is.counts front.2.same;
      }

      pub move_less : AreLinks n → length (children_at n from) + 1 ≡ length (children_at l from)
      move_less ok_n =
          let e = kept_count n ok_n d.around_from from d.series front.2.others (then (plug d.around_to (inner to d.series (then front.0 is.row))) no_more) kept in
          let f = move_count in
          let g = front.2.same.long in
          omega arith
