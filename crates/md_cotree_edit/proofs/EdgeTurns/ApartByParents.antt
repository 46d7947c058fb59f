-- Leaves whose parents and grandparents say that they are further apart.
use Rattle.std.proofs.Common.{◌≡◌, ◌≢◌, ℕ, ◌<◌, ◌≤◌, min, max, Bool, true, false, not, cond, ◌&&◌, ◌==◌, Some, refl, sym, ◌∙◌, ap, subst, arith}
use Rattle.std.proofs.lemmas.Option.{same_Some}
use Rattle.std.specs.FinSet as set
use Rattle.md_graph.specs.PlainGraph.{PlainGraph, adjacent}
use Rattle.md_graph.proofs.GraphLemmas.{adjacent_sym}
use Rattle.md_modules.specs.InducedPaths.{HasInducedPath}
use Rattle.md_graph.specs.Linked.{times}
use Rattle.md_lists.specs.Links.{Links, parent_at, AreLinks}
use Rattle.md_cotree.specs.PlaceTrees.{PlaceTree, tip, inner, PlaceTrees, no_more, then, place_of, roots, leaves_in, leaves_among, Alternates}
use Rattle.md_cotree.proofs.Frames.{hit, some_of}
use Rattle.md_cotree_edit.specs.Counts.{name_in, name_row, child_in}
use Rattle.md_cotree_edit.specs.Contexts.{plug}
use Rattle.md_cotree_edit.specs.Turns.{turned_graph}
use Rattle.md_cotree_edit.proofs.Trees.SameRows.{SameRow, SameTree, front_name}
use Rattle.md_cotree_edit.proofs.Trees.NameFork.{meeting}
use Rattle.md_cotree_edit.proofs.Trees.LocalCounts.{cond_yes, name_plug}
use Rattle.md_cotree_edit.proofs.Trees.TurnedPairs.{around_plug, other_kind}
use Rattle.md_cotree_edit.proofs.Trees.AdjacencyByCounts.{AreNamed, graph_in}
use Rattle.md_cotree_edit.proofs.EdgeTurns.MeetingNode.{Site, site_turned, Depth, child, below, left_depth, child_parent, side_top, side_parent}
use Rattle.md_cotree_edit.proofs.EdgeTurns.FarApart.{FourNames, four_path, far_both, far_one}
use Rattle.std.proofs.lemmas.Bool.{eqb-true}
use Rattle.std.proofs.Math.Bool.{not-not}

-- the graph with an edge turned doesn't depend on the order of the ends
pub turned_sym : (k : Bool) (g : PlainGraph) (u v : ℕ) → turned_graph k g v u ≡ turned_graph k g u v
turned_sym true g u v = let low : min v u ≡ min u v = omega arith in let high : max v u ≡ max u v = omega arith in λ i. record { vertices = g.vertices; edges = set.remove g.edges (low i, high i) }
turned_sym false g u v = let low : min v u ≡ min u v = omega arith in let high : max v u ≡ max u v = omega arith in λ i. record { vertices = g.vertices; edges = set.insert g.edges (low i, high i) }

mutual
  pub leaf_name : (p x : ℕ) (t : PlaceTree) → leaves_in p x t ≤ name_in x t
  leaf_name p x (tip q w) = go (q == p) (w == x)
    where
      go : (a b : Bool) → cond (a && b) 1 0 ≤ cond b 1 0
      go true true = omega arith
      go true false = omega arith
      go false true = omega arith
      go false false = omega arith
  leaf_name p x (inner q k ts) = leaf_names p x ts

  leaf_names : (p x : ℕ) (ts : PlaceTrees) → leaves_among p x ts ≤ name_row x ts
  leaf_names p x no_more = omega arith
  leaf_names p x (then t ts) = let first = leaf_name p x t in let rest = leaf_names p x ts in omega arith

module _ (l : Links) (ok : AreLinks l) (t : PlaceTree) (named : AreNamed t) (k : Bool) where
  right_name : (v : ℕ) (x : PlaceTree) (j : ℕ) (ts : PlaceTrees) → x ≡ inner j (not k) ts → 0 < name_in v x → 0 < name_row v ts
  right_name v x j ts e some = subst (λ z. 0 < name_in v z) e some

  -- the left leaf is a child of the node
  module _ (u v a b : ℕ) (s : Site l t k u v a b) (differ : u ≢ v) (hu : 0 < name_in u t) (hv : 0 < name_in v t) (is : adjacent (graph_in t) u v ≡ k)
      (p q : ℕ) (up_a : parent_at l a ≡ Some p) (up_b : parent_at l b ≡ Some q) (apart : parent_at l q ≡ Some p → ⊥) where
    abbrev r : Site l t k v u b a
    r = site_turned l t k u v a b s

    whole_is : (j : ℕ) (ts : PlaceTrees) → s.right ≡ inner j (not k) ts →
        plug s.frames (meeting s.place k s.left s.right s.rest) ≡ plug s.frames (meeting s.place k s.left (inner j (not k) ts) s.rest)
    whole_is j ts f = λ i. plug s.frames (meeting s.place k s.left (f i) s.rest)

    pub path_one : s.left ≡ tip a u → (j : ℕ) (ts : PlaceTrees) → s.right ≡ inner j (not k) ts → 0 < leaves_among b v ts → FourNames t k u v
    path_one e j ts f some =
        let front = front_name ts v (right_name v s.right j ts f s.right_name) in
        go front.0 front.1 front.2.others front.2.same
      where
        alternates : Alternates (plug s.frames (meeting s.place k s.left (inner j (not k) ts) s.rest))
        alternates = subst Alternates (whole_is j ts f) s.alternates

        same_whole : SameTree t (plug s.frames (meeting s.place k s.left (inner j (not k) ts) s.rest))
        same_whole = subst (SameTree t) (whole_is j ts f) s.same

        once : (x : ℕ) → name_row x ts ≤ 1
        once x =
            let low = name_plug s.frames x (meeting s.place k s.left (inner j (not k) ts) s.rest) in
            let o = subst (λ z. name_in x z ≤ 1) (whole_is j ts f) (s.named x) in
            omega arith

        go : (x : PlaceTree) → 0 < name_in v x → (os : PlaceTrees) → SameRow ts (then x os) → FourNames t k u v
        go (tip y z) has os row =
            absurd (
            let full = row.named v in
            let o = once v in
            let low = leaf_names b v os in
            let tips = row.tips b v in
            let both = some_of (y == b) (z == v) (omega arith) in
            let h = hit y b (eqb-true y b both.0) in
            let root = row.roots_same b in
            let here = cond_yes j j (times b (roots ts)) refl in
            let up : parent_at l b ≡ Some j = side_parent l ok s.frames s.place k s.right (then s.left s.rest) r.kept j b (subst (λ x. 0 < child_in j b x) (sym f) (omega arith)) in
            let at : j ≡ q = same_Some j q (sym up ∙ up_b) in
            let top : parent_at l j ≡ Some s.place = ap (λ z. parent_at l (place_of z)) (sym f) ∙ side_top l ok s.frames s.place k s.right (then s.left s.rest) r.kept in
            apart (ap (parent_at l) (sym at) ∙ top ∙ ap Some (child_parent l ok t k u v a b s e p up_a)))
        go (inner y i rs) has os row =
            let around = (around_plug s.frames s.place k (then s.left (then (inner j (not k) ts) s.rest)) alternates).1 in
            let none = row.none (not k) around.2.1.0.1 in
            let kind : i ≡ k = other_kind (not k) i (λ e. none.0 (sym e)) ∙ not-not k in
            far_one t named k u v differ hu hv is s.frames s.place s.left j y ts rs os s.rest s.left_name has
            (subst (λ z. SameRow ts (then (inner y z rs) os)) kind row) same_whole alternates

  pub far_path : (u v a b : ℕ) → Site l t k u v a b → u ≢ v → 0 < name_in u t → 0 < name_in v t → adjacent (graph_in t) u v ≡ k → (p q : ℕ) → parent_at l a ≡ Some p → parent_at l b ≡ Some q → p ≢ q →
      (parent_at l q ≡ Some p → ⊥) → (parent_at l p ≡ Some q → ⊥) → HasInducedPath (adjacent (turned_graph k (graph_in t) u v)) (turned_graph k (graph_in t) u v).vertices
  far_path u v a b s differ hu hv is p q up_a up_b p_q apart_q apart_p = go (left_depth l t k u v a b s) (left_depth l t k v u b a r2)
    where
      r2 : Site l t k v u b a
      r2 = site_turned l t k u v a b s

      go : Depth k u a s.left → Depth k v b s.right → HasInducedPath (adjacent (turned_graph k (graph_in t) u v)) (turned_graph k (graph_in t) u v).vertices
      go (child e) (child f) = absurd (p_q (sym (child_parent l ok t k u v a b s e p up_a) ∙ child_parent l ok t k v u b a r2 f q up_b))
      go (child e) (below j ts f some other) =
          four_path t named u v hu hv differ k (path_one u v a b s differ hu hv is p q up_a up_b apart_q e j ts f some)
      go (below j ts e some other) (child f) =
          subst (λ h. HasInducedPath (adjacent h) h.vertices) (turned_sym k (graph_in t) u v)
          (four_path t named v u hv hu (λ z. differ (sym z)) k
          (path_one v u b a r2 (λ z. differ (sym z)) hv hu (adjacent_sym (graph_in t) v u ∙ is) q p up_b up_a apart_p f j ts e some))
      go (below j ts e some other) (below i us f more off) =
          four_path t named u v hu hv differ k
          (far_both t named k u v differ hu hv is s.frames s.place j i ts us s.rest
          (subst (SameTree t) (two_is j ts e i us f) s.same) (subst Alternates (two_is j ts e i us f) s.alternates)
          (right_name u s.left j ts e s.left_name) (right_name v s.right i us f s.right_name))
        where
          two_is : (j : ℕ) (ts : PlaceTrees) → s.left ≡ inner j (not k) ts → (i : ℕ) (us : PlaceTrees) → s.right ≡ inner i (not k) us →
              plug s.frames (meeting s.place k s.left s.right s.rest) ≡ plug s.frames (meeting s.place k (inner j (not k) ts) (inner i (not k) us) s.rest)
          two_is j ts e i us f = λ n. plug s.frames (meeting s.place k (e n) (f n) s.rest)
