-- Two leaves that come below a node of the other kind.
use Rattle.std.proofs.Common.{◌≡◌, ℕ, ◌+◌, ◌*◌, ◌<◌, Bool, true, false, not, cond, List, ◌∷◌, Some, refl, sym, ◌∙◌, ap, subst, arith}
use Rattle.md_lists.specs.Links.{Links, parent_at, AreLinks, detached, spare_count}
use Rattle.md_cotree.specs.PlaceTrees.{PlaceTree, tip, inner, PlaceTrees, no_more, then, place_of, row_length, leaves_in, leaf_count, IsInner, Alternates}
use Rattle.md_cotree_edit.specs.Counts.{name_in, name_row, pair_row, edge_in, crossing}
use Rattle.md_cotree_edit.specs.Contexts.{Frame, plug, AreTreesKept}
use Rattle.md_cotree_edit.specs.Turns.{IsTurned, LiftView, CanLift, IsLifted, with_both, IsTidied, IsBeside, BothView, both_tree, OneView, one_tree, IsAlternating}
use Rattle.md_cotree_edit.proofs.Trees.KeptTrees.{kept_along}
use Rattle.md_cotree_edit.proofs.Trees.SameRows.{same_trans, same_swap, same_rest}
use Rattle.md_cotree_edit.proofs.Trees.ListCalls.{linked_plug, linked_parent, kept_detached}
use Rattle.md_cotree_edit.proofs.Trees.AdoptedTrees.{same_turn, same_back}
use Rattle.md_cotree_edit.proofs.Trees.TurnedPairs.{shift_tips, shift_names, shift_leaves, shift_edges, place_plug, around_plug, self_not}

-- ---- one child less

module _ (l : Links) (ok : AreLinks l) (fs : List Frame) (q : ℕ) (k : Bool) (t : PlaceTree) (ts us : PlaceTrees) (kept : AreTreesKept l (then (plug fs (inner q k (then t ts))) us)) where
  pub off_parent : parent_at l (place_of t) ≡ Some q
  off_parent = linked_parent l ok q (place_of t) (then (plug fs (inner q k ts)) (then t us)) (then (plug fs (inner q k (then t ts))) us) kept (linked_plug fs q k ts us t)

  pub off_kept : (m : Links) → ((r : ℕ) → parent_at l (place_of t) ≡ Some r → m ≡ detached l r (place_of t)) → AreTreesKept m (then (plug fs (inner q k ts)) (then t us))
  off_kept m gone =
      subst (λ z. AreTreesKept z (then (plug fs (inner q k ts)) (then t us))) (sym (gone q off_parent))
      (kept_detached l ok q (place_of t) (then (plug fs (inner q k ts)) (then t us)) (then (plug fs (inner q k (then t ts))) us) kept (linked_plug fs q k ts us t))

  pub off_kinds : (m : Links) → ((r : ℕ) → parent_at l (place_of t) ≡ Some r → m ≡ detached l r (place_of t)) → spare_count m ≡ spare_count l
  off_kinds m gone = ap spare_count (gone q off_parent)

  pub off_marks : (m : Links) → ((r : ℕ) → parent_at l (place_of t) ≡ Some r → m ≡ detached l r (place_of t)) → m.marked ≡ l.marked
  off_marks m gone = ap (λ (z : Links). z.marked) (gone q off_parent)

-- what one call of detach gives
abbrev pub Off : Links → ℕ → Links → Type 0
Off l c m = (r : ℕ) → parent_at l c ≡ Some r → m ≡ detached l r c

-- ---- both are children of the node

module _ (l : Links) (ok : AreLinks l) (w a b : ℕ) (k : Bool) (d : BothView) (is : IsAlternating l (both_tree w a b k d)) where
  pub both_first : parent_at l a ≡ Some w
  both_first = off_parent l ok d.frames w k (tip a d.left) (then (tip b d.right) d.rest) no_more is.0

  module _ (m : Links) (ok_m : AreLinks m) (off : Off l a m) where
    first_off : AreTreesKept m (then (plug d.frames (inner w k (then (tip b d.right) d.rest))) (then (tip a d.left) no_more))
    first_off = off_kept l ok d.frames w k (tip a d.left) (then (tip b d.right) d.rest) no_more is.0 m off

    pub both_second : parent_at m b ≡ Some w
    both_second = off_parent m ok_m d.frames w k (tip b d.right) d.rest (then (tip a d.left) no_more) first_off

    pub both_spare : (n : Links) → Off m b n → spare_count n ≡ spare_count l
    both_spare n off_n =
        off_kinds m ok_m d.frames w k (tip b d.right) d.rest (then (tip a d.left) no_more) first_off n off_n
        ∙ off_kinds l ok d.frames w k (tip a d.left) (then (tip b d.right) d.rest) no_more is.0 m off

    pub both_marks : (n : Links) → Off m b n → n.marked ≡ l.marked
    both_marks n off_n =
        off_marks m ok_m d.frames w k (tip b d.right) d.rest (then (tip a d.left) no_more) first_off n off_n
        ∙ off_marks l ok d.frames w k (tip a d.left) (then (tip b d.right) d.rest) no_more is.0 m off

    abbrev pub both_lift : LiftView
    both_lift = record { frames = d.frames; rest = d.rest; first = tip a d.left; second = tip b d.right }

    pub both_can : (n : Links) → AreLinks n → Off m b n → CanLift n w a b k both_lift
    both_can n ok_n off_n =
        let whole : PlaceTree = plug d.frames (inner w k d.rest) in
        let around = around_plug d.frames w k (then (tip a d.left) (then (tip b d.right) d.rest)) is.1 in
        record {
          kept = kept_along n (then whole (then (tip b d.right) (then (tip a d.left) no_more))) (then (tip a d.left) (then (tip b d.right) (then whole no_more)))
              (same_trans (then whole (then (tip b d.right) (then (tip a d.left) no_more))) (then whole (then (tip a d.left) (then (tip b d.right) no_more))) (then (tip a d.left) (then (tip b d.right) (then whole no_more)))
              (same_rest whole (then (tip b d.right) (then (tip a d.left) no_more)) (then (tip a d.left) (then (tip b d.right) no_more)) (same_swap (tip b d.right) (tip a d.left) no_more))
              (same_back (tip a d.left) (tip b d.right) whole no_more))
              (off_kept m ok_m d.frames w k (tip b d.right) d.rest (then (tip a d.left) no_more) first_off n off_n);
          first = refl;
          second = refl;
          around = around.0;
          none = around.1.1.1.1;
          rest = around.1.2.1.1;
          first_alternates = tt;
          second_alternates = tt;
          first_other = λ i. i;
          second_other = λ i. i;
        }

-- ---- the one is a child, the other a grandchild

inner_one : (r : PlaceTree) (j k : Bool) → IsInner r j → IsInner r k → j ≡ k
inner_one (tip p v) j k a b = absurd a
inner_one (inner p i ts) j k a b = sym a ∙ b

-- the pairs of the tree where one leaf has changed its place, below the node
module _ (w a q b u v : ℕ) (ys rest : PlaceTrees) (y r : PlaceTree) where
  abbrev pub old_node : Bool → PlaceTree
  old_node k = inner w k (then (tip a u) (then (inner q (not k) (then (tip b v) ys)) rest))

  abbrev pub new_node : Bool → PlaceTree
  new_node k = inner w k (then r (then (tip b v) rest))

  module _ (k : Bool) (tidied : IsTidied ys (not k) q y) (beside : IsBeside k y (tip a u) r) where
    r_name : (x : ℕ) → name_in x r ≡ name_row x ys + name_in x (tip a u)
    r_name x = beside.named x ∙ ap (λ z. z + name_in x (tip a u)) (tidied.named x)

    pub moved_names : (x : ℕ) → name_in x (new_node k) ≡ name_in x (old_node k)
    moved_names x = let e = r_name x in omega arith

    pub moved_tips : (p x : ℕ) → leaves_in p x (new_node k) ≡ leaves_in p x (old_node k)
    moved_tips p x = let e = beside.tips p x in let f = tidied.tips p x in omega arith

    pub moved_leaves : leaf_count (new_node k) ≡ leaf_count (old_node k)
    moved_leaves = let e = beside.leaves in let f = tidied.leaves in omega arith

  moved_edges : (k : Bool) (tidied : IsTidied ys (not k) q y) (beside : IsBeside k y (tip a u) r) → (x z : ℕ) →
      (edge_in x z (new_node k) + cond k 0 (crossing r (tip b v) x z)) + cond k (crossing (tip a u) (tip b v) x z) 0
      ≡ (edge_in x z (old_node k) + cond k 0 (crossing (tip a u) (tip b v) x z)) + cond k (crossing r (tip b v) x z) 0
  moved_edges true tidied beside x z =
      let nx = r_name true tidied beside x in
      let nz = r_name true tidied beside z in
      let pairs : pair_row x z (then r (then (tip b v) rest))
      ≡ ((name_row x ys + name_in x (tip a u)) * name_row z (then (tip b v) rest) + (name_row z ys + name_in z (tip a u)) * name_row x (then (tip b v) rest)) + pair_row x z (then (tip b v) rest) =
      λ i. (nx i * name_row z (then (tip b v) rest) + nz i * name_row x (then (tip b v) rest)) + pair_row x z (then (tip b v) rest) in
      let cross : crossing r (tip b v) x z ≡ (name_row x ys + name_in x (tip a u)) * name_in z (tip b v) + (name_row z ys + name_in z (tip a u)) * name_in x (tip b v) =
      λ i. nx i * name_in z (tip b v) + nz i * name_in x (tip b v) in
      let cross_y : crossing y (tip a u) x z ≡ name_row x ys * name_in z (tip a u) + name_row z ys * name_in x (tip a u) =
      λ i. tidied.named x i * name_in z (tip a u) + tidied.named z i * name_in x (tip a u) in
      let edge_r = beside.edges x z in
      let edge_y = tidied.edges x z in
      omega arith
  moved_edges false tidied beside x z =
      let nx = r_name false tidied beside x in
      let nz = r_name false tidied beside z in
      let cross : crossing r (tip b v) x z ≡ (name_row x ys + name_in x (tip a u)) * name_in z (tip b v) + (name_row z ys + name_in z (tip a u)) * name_in x (tip b v) =
      λ i. nx i * name_in z (tip b v) + nz i * name_in x (tip b v) in
      let edge_r = beside.edges x z in
      let edge_y = tidied.edges x z in
      omega arith

  pub moved_turned : (k : Bool) (tidied : IsTidied ys (not k) q y) (beside : IsBeside k y (tip a u) r) → (fs : List Frame) (t : PlaceTree) →
      IsTurned k (crossing r (tip b v)) (plug fs (new_node k)) t → IsTurned k (crossing (tip a u) (tip b v)) (plug fs (old_node k)) t
  moved_turned k tidied beside fs t is = record {
    tips = λ p x. let e = is.tips p x in let f = shift_tips fs p x (old_node k) (new_node k) in let g = moved_tips k tidied beside p x in omega arith;
    named = λ x. let e = is.named x in let f = shift_names fs x (old_node k) (new_node k) in let g = moved_names k tidied beside x in omega arith;
    edges = λ x z.
        let e = is.edges x z in
        let f = shift_edges fs x z (old_node k) (new_node k) (moved_names k tidied beside x) (moved_names k tidied beside z) in
        let g = moved_edges k tidied beside x z in
        add_up _ _ _ _ _ _ _ _ _ e f g;
    leaves = let e = is.leaves in let f = shift_leaves fs (old_node k) (new_node k) in let g = moved_leaves k tidied beside in omega arith;
  }
    where
      add_up : (t new whole old before c0 c1 d0 d1 : ℕ) → t + c1 ≡ new + c0 → new + old ≡ whole + before → (before + c0) + d1 ≡ (old + d0) + c1 → t + d1 ≡ whole + d0
      add_up t new whole old before c0 c1 d0 d1 e f g = omega arith

-- the node that is tidied, and what stands beside it, and beside the two that are joined
abbrev pub rest_node : ℕ → Bool → OneView → PlaceTree
rest_node q k d = inner q (not k) d.beside

abbrev pub after_tidy : ℕ → ℕ → ℕ → Bool → OneView → PlaceTrees
after_tidy w a b k d = then (plug d.frames (inner w k d.rest)) (then (tip b d.right) (then (tip a d.left) no_more))

abbrev pub after_join : ℕ → ℕ → Bool → OneView → PlaceTrees
after_join w b k d = then (plug d.frames (inner w k d.rest)) (then (tip b d.right) no_more)

abbrev pub one_lift : ℕ → OneView → PlaceTree → LiftView
one_lift b d r = record { frames = d.frames; rest = d.rest; first = r; second = tip b d.right }

module _ (l : Links) (ok : AreLinks l) (w a q b : ℕ) (k : Bool) (d : OneView) (is : IsAlternating l (one_tree w a q b k d)) where
  abbrev child_node : PlaceTree
  child_node = inner q (not k) (then (tip b d.right) d.beside)

  abbrev inside : Frame
  inside = record { place = w; series = k; others = d.rest }

  pub some_beside : 0 < row_length d.beside
  some_beside = let two = (around_plug d.frames w k (then (tip a d.left) (then child_node d.rest)) is.1).1.2.1.0.0 in omega arith

  pub one_first : parent_at l a ≡ Some w
  one_first = off_parent l ok d.frames w k (tip a d.left) (then child_node d.rest) no_more is.0

  module _ (m : Links) (ok_m : AreLinks m) (off : Off l a m) where
    kept_m : AreTreesKept m (then (plug d.frames (inner w k (then child_node d.rest))) (then (tip a d.left) no_more))
    kept_m = off_kept l ok d.frames w k (tip a d.left) (then child_node d.rest) no_more is.0 m off

    pub one_second : parent_at m b ≡ Some q
    one_second = off_parent m ok_m (inside ∷ d.frames) q (not k) (tip b d.right) d.beside (then (tip a d.left) no_more) kept_m

    module _ (n : Links) (ok_n : AreLinks n) (off_n : Off m b n) where
      kept_n : AreTreesKept n (then (plug d.frames (inner w k (then (rest_node q k d) d.rest))) (then (tip b d.right) (then (tip a d.left) no_more)))
      kept_n = off_kept m ok_m (inside ∷ d.frames) q (not k) (tip b d.right) d.beside (then (tip a d.left) no_more) kept_m n off_n

      pub one_third : parent_at n q ≡ Some w
      one_third = off_parent n ok_n d.frames w k (rest_node q k d) d.rest (then (tip b d.right) (then (tip a d.left) no_more)) kept_n

      module _ (e : Links) (ok_e : AreLinks e) (off_e : Off n q e) where
        pub one_spare : spare_count e ≡ spare_count l
        one_spare =
            off_kinds n ok_n d.frames w k (rest_node q k d) d.rest (then (tip b d.right) (then (tip a d.left) no_more)) kept_n e off_e
            ∙ off_kinds m ok_m (inside ∷ d.frames) q (not k) (tip b d.right) d.beside (then (tip a d.left) no_more) kept_m n off_n
            ∙ off_kinds l ok d.frames w k (tip a d.left) (then child_node d.rest) no_more is.0 m off

        pub one_marks : e.marked ≡ l.marked
        one_marks =
            off_marks n ok_n d.frames w k (rest_node q k d) d.rest (then (tip b d.right) (then (tip a d.left) no_more)) kept_n e off_e
            ∙ off_marks m ok_m (inside ∷ d.frames) q (not k) (tip b d.right) d.beside (then (tip a d.left) no_more) kept_m n off_n
            ∙ off_marks l ok d.frames w k (tip a d.left) (then child_node d.rest) no_more is.0 m off

        pub can_tidy : AreTreesKept e (then (rest_node q k d) (after_tidy w a b k d))
        can_tidy =
            kept_along e (then (plug d.frames (inner w k d.rest)) (then (rest_node q k d) (then (tip b d.right) (then (tip a d.left) no_more)))) (then (rest_node q k d) (after_tidy w a b k d))
            (same_swap (plug d.frames (inner w k d.rest)) (rest_node q k d) (then (tip b d.right) (then (tip a d.left) no_more)))
            (off_kept n ok_n d.frames w k (rest_node q k d) d.rest (then (tip b d.right) (then (tip a d.left) no_more)) kept_n e off_e)

pub can_join : (w a b : ℕ) (k : Bool) (d : OneView) (f : Links) → AreLinks f → (y : PlaceTree) → AreTreesKept f (then y (after_tidy w a b k d)) → AreTreesKept f (then y (then (tip a d.left) (after_join w b k d)))
can_join w a b k d f ok y kept =
    kept_along f (then y (after_tidy w a b k d)) (then y (then (tip a d.left) (after_join w b k d)))
    (same_rest y (after_tidy w a b k d) (then (tip a d.left) (after_join w b k d)) (same_turn (plug d.frames (inner w k d.rest)) (tip b d.right) (tip a d.left) no_more)) kept

module _ (w a q b : ℕ) (k : Bool) (d : OneView) (alternates : Alternates (one_tree w a q b k d)) (y r : PlaceTree) (tidied : IsTidied d.beside (not k) q y) (beside : IsBeside k y (tip a d.left) r) where
  pub one_can : (h : Links) → AreLinks h → (node : ℕ) → AreTreesKept h (then r (after_join w b k d)) → place_of r ≡ node → CanLift h w node b k (one_lift b d r)
  one_can h ok node kept at =
      let whole : PlaceTree = plug d.frames (inner w k d.rest) in
      let around = around_plug d.frames w k (then (tip a d.left) (then (inner q (not k) (then (tip b d.right) d.beside)) d.rest)) alternates in
      record {
        kept = kept_along h (then r (after_join w b k d)) (then r (then (tip b d.right) (then whole no_more))) (same_rest r (after_join w b k d) (then (tip b d.right) (then whole no_more)) (same_swap whole (tip b d.right) no_more)) kept;
        first = at;
        second = refl;
        around = around.0;
        none = around.1.1.1.1;
        rest = around.1.2.1.1;
        first_alternates = beside.alternates (tidied.alternates around.1.2.1.0.1.1 around.1.2.1.0.2.1) tt (λ i. i);
        second_alternates = tt;
        first_other = λ i. self_not k (inner_one r k (not k) beside.kind i);
        second_other = λ i. i;
      }

  pub one_lifted : (x : Links) → IsLifted x (with_both w k (one_lift b d r)) k (crossing r (tip b d.right)) → IsLifted x (one_tree w a q b k d) k (crossing (tip a d.left) (tip b d.right))
  one_lifted x lifted = record {
    tree = lifted.tree;
    kept = lifted.kept;
    turned = moved_turned w a q b d.left d.right d.beside d.rest y r k tidied beside d.frames lifted.tree lifted.turned;
    place =
        lifted.place
        ∙ place_plug d.frames (inner w k (then (tip a d.left) (then (inner q (not k) (then (tip b d.right) d.beside)) d.rest))) (inner w k (then r (then (tip b d.right) d.rest))) refl;
    alternates = lifted.alternates;
  }
