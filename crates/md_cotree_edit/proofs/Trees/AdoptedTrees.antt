-- Loose trees that become children of a node.
use Rattle.std.proofs.Common.{◌≡◌, ◌≢◌, ℕ, Bool, List, length, None, refl, sym, ◌∙◌, ap, subst, arith}
use Rattle.md_graph.specs.Linked.{times}
use Rattle.md_lists.specs.Links.{Links, parent_at, children_at, IsLive, AreLinks, attached}
use Rattle.md_cotree.specs.PlaceTrees.{PlaceTree, inner, PlaceTrees, then, place_of, roots, row_length, times_in}
use Rattle.md_cotree.proofs.Rows.{length_roots}
use Rattle.md_cotree.proofs.Frames.{hit, root_in}
use Rattle.md_cotree_edit.specs.Contexts.{Frame, plug, AreTreesKept}
use Rattle.md_cotree_edit.specs.Turns.{AdoptView, CanAdopt, adopted}
use Rattle.md_cotree_edit.proofs.Trees.SameRows.{SameRow, same_trans, same_swap, same_rest, in_order}
use Rattle.md_cotree_edit.proofs.Trees.LocalCounts.{cond_yes, children_none, times_plug, child_plug}
use Rattle.md_cotree_edit.proofs.Trees.KeptTrees.{kept_once, kept_live, kept_loose, kept_along}
use Rattle.md_cotree_edit.proofs.Trees.ListCalls.{linked_plug, kept_attached}

-- what a place that becomes a child meets
pub record CanAttach (l : Links) (q c : ℕ) : Type 0 where
  pub parent : IsLive l q
  pub child : IsLive l c
  pub differ : q ≢ c
  pub loose : parent_at l c ≡ None

pub same_turn : (a b : PlaceTree) (c : PlaceTree) (ts : PlaceTrees) → SameRow (then a (then b (then c ts))) (then c (then a (then b ts)))
same_turn a b c ts =
    same_trans (then a (then b (then c ts))) (then a (then c (then b ts))) (then c (then a (then b ts))) (same_rest a (then b (then c ts)) (then c (then b ts)) (same_swap b c ts)) (same_swap a c (then b ts))

pub same_back : (a b : PlaceTree) (c : PlaceTree) (ts : PlaceTrees) → SameRow (then c (then a (then b ts))) (then a (then b (then c ts)))
same_back a b c ts =
    same_trans (then c (then a (then b ts))) (then a (then c (then b ts))) (then a (then b (then c ts))) (same_swap c a (then b ts)) (same_rest a (then c (then b ts)) (then b (then c ts)) (same_swap c b ts))

module _ (l : Links) (ok : AreLinks l) (fs : List Frame) (q : ℕ) (k : Bool) (ts us : PlaceTrees) where
  pub node_live : AreTreesKept l (then (plug fs (inner q k ts)) us) → IsLive l q
  node_live kept = kept_live l (then (plug fs (inner q k ts)) us) kept q (let low = times_plug fs q (inner q k ts) in let h = hit q q refl in omega arith)

  pub attach_ready : (t : PlaceTree) → AreTreesKept l (then (plug fs (inner q k ts)) (then t us)) → CanAttach l q (place_of t)
  attach_ready t kept =
      let low = times_plug fs q (inner q k ts) in
      let h = hit q q refl in
      let root = root_in t in
      record {
        parent = kept_live l (then (plug fs (inner q k ts)) (then t us)) kept q (omega arith);
        child = kept_live l (then (plug fs (inner q k ts)) (then t us)) kept (place_of t) (omega arith);
        differ = λ e.
            let one = kept_once l (then (plug fs (inner q k ts)) (then t us)) kept q in
            let same = ap (λ z. times_in z t) e in
            omega arith;
        loose = kept_loose l t (then (plug fs (inner q k ts)) us) (kept_along l (then (plug fs (inner q k ts)) (then t us)) (then t (then (plug fs (inner q k ts)) us)) (same_swap (plug fs (inner q k ts)) t us) kept);
      }

  pub attach_done : (t : PlaceTree) → AreTreesKept l (then (plug fs (inner q k ts)) (then t us)) → AreTreesKept (attached l q (place_of t)) (then (plug fs (inner q k (then t ts))) us)
  attach_done t kept =
      let can = attach_ready t kept in
      kept_attached l ok q (place_of t) (then (plug fs (inner q k ts)) (then t us)) (then (plug fs (inner q k (then t ts))) us) kept can.parent can.child can.loose (linked_plug fs q k ts us t)

  -- the children of a node
  pub kept_children : AreTreesKept l (then (plug fs (inner q k ts)) us) → (c : ℕ) → times c (roots ts) ≡ times c (children_at l q)
  kept_children kept c =
      let low = times_plug fs q (inner q k ts) in
      let h = hit q q refl in
      let one = kept_once l (then (plug fs (inner q k ts)) us) kept q in
      let here = child_plug fs q c (inner q k ts) (omega arith) (omega arith) in
      let rest = children_none q c us (omega arith) in
      let below = children_none q c ts (omega arith) in
      let at = cond_yes q q (times c (roots ts)) refl in
      let e = kept.links q c in
      let a = ok.agree q c in
      omega arith

  pub kept_count : AreTreesKept l (then (plug fs (inner q k ts)) us) → length (children_at l q) ≡ row_length ts
  kept_count kept =
      let o = in_order (children_at l q) ts (kept_children kept) in
      let e = length_roots o.row in
      let f = ap length o.at in
      let g = o.same.long in
      omega arith

-- ---- two of them

module _ (l : Links) (ok : AreLinks l) (parent x y : ℕ) (d : AdoptView) (can : CanAdopt l parent x y d) where
  first_kept : AreTreesKept l (then (plug d.frames (inner parent d.series d.children)) (then d.first (then d.second d.others)))
  first_kept =
      kept_along l (then d.first (then d.second (then (plug d.frames (inner parent d.series d.children)) d.others)))
      (then (plug d.frames (inner parent d.series d.children)) (then d.first (then d.second d.others)))
      (same_turn d.first d.second (plug d.frames (inner parent d.series d.children)) d.others) can.kept

  pub adopt_first : CanAttach l parent x
  adopt_first = subst (CanAttach l parent) can.first (attach_ready l ok d.frames parent d.series d.children (then d.second d.others) d.first first_kept)

  module _ (m : Links) (ok_m : AreLinks m) (is : m ≡ attached l parent x) where
    second_kept : AreTreesKept m (then (plug d.frames (inner parent d.series (then d.first d.children))) (then d.second d.others))
    second_kept =
        subst (λ z. AreTreesKept z (then (plug d.frames (inner parent d.series (then d.first d.children))) (then d.second d.others))) (ap (attached l parent) can.first ∙ sym is)
        (attach_done l ok d.frames parent d.series d.children (then d.second d.others) d.first first_kept)

    pub adopt_second : CanAttach m parent y
    adopt_second = subst (CanAttach m parent) can.second (attach_ready m ok_m d.frames parent d.series (then d.first d.children) d.others d.second second_kept)

    pub adopt_end : (n : Links) → n ≡ attached m parent y → AreTreesKept n (adopted parent d)
    adopt_end n end =
        subst (λ z. AreTreesKept z (adopted parent d)) (ap (attached m parent) can.second ∙ sym end)
        (attach_done m ok_m d.frames parent d.series (then d.first d.children) d.others d.second second_kept)
