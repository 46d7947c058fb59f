-- The node where the ways up from two leaves meet, and where the leaves stand below it.
use Rattle.std.proofs.Common.{◌≡◌, ◌≢◌, ◌⊎◌, ℕ, ◌<◌, ◌≤◌, Bool, not, cond, ◌==◌, List, [], ◌∷◌, Some, refl, sym, ◌∙◌, ap, subst, inl, inr, arith}
use Rattle.std.proofs.lemmas.Bool.{cases_eq, cases_lt, eqb-true}
use Rattle.std.proofs.lemmas.Option.{same_Some}
use Rattle.md_lists.specs.Words.{holds_once}
use Rattle.md_graph.specs.Linked.{times}
use Rattle.md_lists.specs.Links.{Links, parent_at, AreLinks}
use Rattle.md_lists.proofs.LinkLaws.{holds-once-same, held}
use Rattle.md_cotree.specs.PlaceTrees.{PlaceTree, tip, inner, PlaceTrees, no_more, then, place_of, roots, times_in, times_among, leaves_in, leaves_among, IsInner, Alternates}
use Rattle.md_cotree.proofs.Frames.{hit, miss, root_in, some_of}
use Rattle.md_cotree_edit.specs.Counts.{name_in, edge_in, child_in, child_row}
use Rattle.md_cotree_edit.specs.Contexts.{Frame, fill, plug, AreTreesKept}
use Rattle.md_cotree_edit.specs.Turns.{both_tree, one_tree, IsAlternating}
use Rattle.md_cotree_edit.proofs.Trees.SameRows.{SameTree, same_trans, same_swap, same_rest, same_first, same_inner, same_plug, tree_name, tree_edge, IsFront, front_root}
use Rattle.md_cotree_edit.proofs.Trees.NameFork.{meeting, met}
use Rattle.md_cotree_edit.proofs.Trees.LocalCounts.{cond_yes, child_none, children_none, child_low, times_plug, name_plug, child_plug, edge_plug, across_front}
use Rattle.md_cotree_edit.proofs.Trees.KeptTrees.{kept_once}
use Rattle.md_cotree_edit.proofs.EdgeTurns.LiftedLeaves.{off_parent}
use Rattle.md_cotree_edit.proofs.Trees.TurnedPairs.{around_plug, other_kind}
use Rattle.md_cotree_edit.proofs.Trees.AdjacencyByCounts.{AreNamed, same_value}
use Rattle.md_cotree_edit.proofs.Trees.KeptNames.{name_tips, tips_low, all_tips_low}

-- ---- a child of a node of a tree

above_of : (p c : ℕ) (t : PlaceTree) → 0 < child_in p c t → 0 < times_in p t
above_of p c t some = elim (cases_lt 0 (times_in p t)) [ inl has ↦ has | inr none ↦ absurd (let e = child_none p c t (omega arith) in omega arith) ]

mutual
  -- a place that isn't the root is a child
  has_above : (c : ℕ) (t : PlaceTree) → 0 < times_in c t → (place_of t ≡ c → ⊥) → (p : ℕ) × (0 < child_in p c t)
  has_above c (tip q v) some other = absurd (other (elim (cases_eq q c) [ inl same ↦ same | inr differ ↦ absurd (let m = miss q c differ in omega arith) ]))
  has_above c (inner q k ts) some other =
      let m = miss q c other in
      elim (have_above c ts (omega arith)) [
        | inl root ↦ (q, let e = cond_yes q q (times c (roots ts)) refl in omega arith)
        | inr below ↦ (below.0, let more = below.1 in omega arith)
      ]

  have_above : (c : ℕ) (ts : PlaceTrees) → 0 < times_among c ts → (0 < times c (roots ts)) ⊎ ((p : ℕ) × (0 < child_row p c ts))
  have_above c no_more some = absurd (omega arith)
  have_above c (then t ts) some =
      elim (cases_lt 0 (times_in c t)) [
        | inl here ↦ elim (cases_eq (place_of t) c) [
          | inl same ↦ inl (let h = hit (place_of t) c same in omega arith)
          | inr other ↦ let at = has_above c t here other in inr (at.0, let more = at.1 in omega arith)
        ]
        | inr none ↦ elim (have_above c ts (omega arith)) [
          | inl root ↦ inl (omega arith)
          | inr below ↦ inr (below.0, let more = below.1 in omega arith)
        ]
      ]

-- a leaf at a place is that tree, or below its root
pub leaf_shape : (a u : ℕ) (t : PlaceTree) → 0 < leaves_in a u t → place_of t ≡ a → (times_in a t ≤ 1) → t ≡ tip a u
leaf_shape a u (tip p v) some at one = let both = some_of (p == a) (v == u) some in λ i. tip (eqb-true p a both.0 i) (eqb-true v u both.1 i)
leaf_shape a u (inner p k ts) some at one = absurd (let h = hit p a at in let low = all_tips_low a u ts in omega arith)

module _ (l : Links) (ok : AreLinks l) where
  -- a tree that is a child of a node, whose other children are a row
  module _ (fs : List Frame) (w : ℕ) (k : Bool) (t : PlaceTree) (others : PlaceTrees) (kept : AreTreesKept l (then (plug fs (inner w k (then t others))) no_more)) where
    abbrev hole : Frame
    hole = record { place = w; series = k; others = others }

    once : (p : ℕ) → times_in p (plug fs (inner w k (then t others))) ≤ 1
    once p = let o = kept_once l (then (plug fs (inner w k (then t others))) no_more) kept p in omega arith

    pub side_top : parent_at l (place_of t) ≡ Some w
    side_top = off_parent l ok fs w k t others no_more kept

    -- what stands there stands nowhere else
    pub side_apart : (p : ℕ) → 0 < times_in p t → times_among p others ≡ 0
    side_apart p some = let low = times_plug fs p (inner w k (then t others)) in let o = once p in omega arith

    pub side_below : (p : ℕ) → 0 < times_in p t → w ≢ p
    side_below p some same = let low = times_plug fs p (inner w k (then t others)) in let o = once p in let h = hit w p same in omega arith

    child_is : (p c : ℕ) → parent_at l c ≡ Some p → child_in p c (plug fs (inner w k (then t others))) ≡ 1
    child_is p c is = let e = kept.links p c ∙ ap (λ o. holds_once o p) is ∙ holds-once-same p in omega arith

    -- a child of a place there is there
    pub side_child : (p c : ℕ) → 0 < times_in p t → parent_at l c ≡ Some p → child_in p c t ≡ 1
    side_child p c some is = sym (child_plug (hole ∷ fs) p c t some (once p)) ∙ child_is p c is

    pub side_down : (p c : ℕ) → 0 < times_in p t → parent_at l c ≡ Some p → 0 < times_in c t
    side_down p c some is = let e = side_child p c some is in let low = child_low p c t in omega arith

    -- and the parent of a place there, but for the root
    pub side_up : (p c : ℕ) → 0 < times_in c t → (place_of t ≡ c → ⊥) → parent_at l c ≡ Some p → 0 < times_in p t
    side_up p c some other is =
        let up = has_above c t some other in
        let at = above_of up.0 c t up.1 in
        let e = child_plug (hole ∷ fs) up.0 c t at (once up.0) in
        let same : up.0 ≡ p = same_Some up.0 p
        (sym (held (parent_at l c) up.0 (let g = kept.links up.0 c in let more = up.1 in omega arith)) ∙ is) in
        subst (λ z. 0 < times_in z t) same at

    pub side_parent : (p c : ℕ) → 0 < child_in p c t → parent_at l c ≡ Some p
    side_parent p c some =
        let e = child_plug (hole ∷ fs) p c t (above_of p c t some) (once p) in
        held (parent_at l c) p (let g = kept.links p c in omega arith)

-- two leaves below the node where their ways up meet
pub record Site (l : Links) (t : PlaceTree) (k : Bool) (u v a b : ℕ) : Type 0 where
  pub frames : List Frame
  pub place : ℕ
  pub left : PlaceTree
  pub right : PlaceTree
  pub rest : PlaceTrees
  pub same : SameTree t (plug frames (meeting place k left right rest))
  pub kept : AreTreesKept l (then (plug frames (meeting place k left right rest)) no_more)
  pub alternates : Alternates (plug frames (meeting place k left right rest))
  pub named : (x : ℕ) → name_in x (plug frames (meeting place k left right rest)) ≤ 1
  pub left_leaf : 0 < leaves_in a u left
  pub right_leaf : 0 < leaves_in b v right
  pub left_name : 0 < name_in u left
  pub right_name : 0 < name_in v right

pub kept_swap : (l : Links) (t s : PlaceTree) → SameTree t s → AreTreesKept l (then t no_more) → AreTreesKept l (then s no_more)
kept_swap l t s same kept = record {
  each = λ p. same.places p ∙ kept.each p;
  kinds = λ p. same.kinds p ∙ kept.kinds p;
  links = λ p c. same.links p c ∙ kept.links p c;
}

-- the other way round
abbrev pub site_turned : (l : Links) (t : PlaceTree) (k : Bool) (u v a b : ℕ) → Site l t k u v a b → Site l t k v u b a
site_turned l t k u v a b s =
    let swap : SameTree (plug s.frames (meeting s.place k s.left s.right s.rest)) (plug s.frames (meeting s.place k s.right s.left s.rest)) =
    same_plug s.frames (meeting s.place k s.left s.right s.rest) (meeting s.place k s.right s.left s.rest)
    (same_inner s.place k (then s.left (then s.right s.rest)) (then s.right (then s.left s.rest)) (same_swap s.left s.right s.rest)) in
    record {
      frames = s.frames;
      place = s.place;
      left = s.right;
      right = s.left;
      rest = s.rest;
      same = same_trans (then t no_more) (then (plug s.frames (meeting s.place k s.left s.right s.rest)) no_more) (then (plug s.frames (meeting s.place k s.right s.left s.rest)) no_more) s.same swap;
      kept = kept_swap l (plug s.frames (meeting s.place k s.left s.right s.rest)) (plug s.frames (meeting s.place k s.right s.left s.rest)) swap s.kept;
      alternates = (swap.alternates (s.alternates, tt)).0;
      named = λ x. let o = s.named x in let e = tree_name (plug s.frames (meeting s.place k s.left s.right s.rest)) (plug s.frames (meeting s.place k s.right s.left s.rest)) swap x in omega arith;
      left_leaf = s.right_leaf;
      right_leaf = s.left_leaf;
      left_name = s.right_name;
      right_name = s.left_name;
    }

-- what is known of the tree and the two leaves
pub record Given (l : Links) (t : PlaceTree) (k : Bool) (u v a b : ℕ) : Type 0 where
  pub links : AreLinks l
  pub kept : AreTreesKept l (then t no_more)
  pub alternates : Alternates t
  pub named : AreNamed t
  pub left : (p : ℕ) → leaves_in p u t ≡ cond (a == p) 1 0
  pub right : (p : ℕ) → leaves_in p v t ≡ cond (b == p) 1 0
  pub differ : u ≢ v
  pub has_left : 0 < name_in u t
  pub has_right : 0 < name_in v t
  pub told : edge_in u v t ≡ cond k 1 0

tips_plug : (fs : List Frame) (p x : ℕ) (t : PlaceTree) → leaves_in p x t ≤ leaves_in p x (plug fs t)
tips_plug [] p x t = omega arith
tips_plug (f ∷ fs) p x t = let rest = tips_plug fs p x (fill f t) in omega arith

pub site : (l : Links) (t : PlaceTree) (k : Bool) (u v a b : ℕ) → Given l t k u v a b → Site l t k u v a b
site l t k u v a b g =
    let m = met t u v g.differ g.has_left g.has_right in
    let whole : PlaceTree = plug m.frames (meeting m.place m.series m.left m.right m.rest) in
    let name_whole : (x : ℕ) → name_in x whole ≡ name_in x t = tree_name t whole m.same in
    let one : (x : ℕ) → name_in x whole ≤ 1 = λ x. (let o = g.named.once x in let e = name_whole x in omega arith) in
    let hu = m.has_left in
    let hv = m.has_right in
    let lu = name_plug m.frames u (meeting m.place m.series m.left m.right m.rest) in
    let lv = name_plug m.frames v (meeting m.place m.series m.left m.right m.rest) in
    let ou = one u in
    let ov = one v in
    let here : edge_in u v (meeting m.place m.series m.left m.right m.rest) ≡ cond m.series 1 0 =
    across_front u v m.place m.series m.left (then m.right m.rest) (omega arith) (omega arith) (omega arith) (omega arith) in
    let up = edge_plug m.frames u v (meeting m.place m.series m.left m.right m.rest) (omega arith) (omega arith) ou ov in
    let kind : m.series ≡ k = same_value m.series k (sym (up ∙ here) ∙ tree_edge t whole m.same u v ∙ g.told) in
    subst (λ z. Site l t z u v a b) kind (record {
      frames = m.frames;
      place = m.place;
      left = m.left;
      right = m.right;
      rest = m.rest;
      same = m.same;
      kept = kept_swap l t whole m.same g.kept;
      alternates = (m.same.alternates (g.alternates, tt)).0;
      named = one;
      left_leaf =
          let low = name_tips a u m.left (λ p.
          let e = g.left p in
          let f = m.same.tips p u in
          let h = tips_plug m.frames p u (meeting m.place m.series m.left m.right m.rest) in
          omega arith) in
          omega arith;
      right_leaf =
          let low = name_tips b v m.right (λ p.
          let e = g.right p in
          let f = m.same.tips p v in
          let h = tips_plug m.frames p v (meeting m.place m.series m.left m.right m.rest) in
          omega arith) in
          omega arith;
      left_name = m.has_left;
      right_name = m.has_right;
    })

-- ---- the left leaf

-- it is a child of the node, or further below
pub data Depth (k : Bool) (u a : ℕ) (t : PlaceTree) : Type 0 where
  child : t ≡ tip a u → Depth k u a t
  below : (j : ℕ) (ts : PlaceTrees) → t ≡ inner j (not k) ts → 0 < leaves_among a u ts → (j ≡ a → ⊥) → Depth k u a t

pub left_depth : (l : Links) (t : PlaceTree) (k : Bool) (u v a b : ℕ) → (s : Site l t k u v a b) → Depth k u a s.left
left_depth l t k u v a b s = go s.left s.left_leaf other once_left
  where
    other : IsInner s.left k → ⊥
    other = (around_plug s.frames s.place k (then s.left (then s.right s.rest)) s.alternates).1.1.0

    once_left : (p : ℕ) → times_in p s.left ≤ 1
    once_left p =
        let low = kept_once l (then (plug s.frames (meeting s.place k s.left s.right s.rest)) no_more) s.kept p in
        let up = times_plug s.frames p (meeting s.place k s.left s.right s.rest) in
        omega arith

    go : (x : PlaceTree) → 0 < leaves_in a u x → (IsInner x k → ⊥) → ((p : ℕ) → times_in p x ≤ 1) → Depth k u a x
    go (tip p y) some not one = let both = some_of (p == a) (y == u) some in child (λ i. tip (eqb-true p a both.0 i) (eqb-true y u both.1 i))
    go (inner j i ts) some not one =
        below j ts (ap (λ z. inner j z ts) (other_kind k i (λ e. not (sym e)))) some
        (λ e. let h = hit j a e in let o = one a in let low = all_tips_low a u ts in omega arith)

-- ---- the cases that are turned

pub record IsBothView (l : Links) (t : PlaceTree) (k : Bool) (u v a b w : ℕ) : Type 0 where
  pub frames : List Frame
  pub rest : PlaceTrees
  pub same : SameTree t (both_tree w a b k (record { frames = frames; left = u; right = v; rest = rest }))
  pub is : IsAlternating l (both_tree w a b k (record { frames = frames; left = u; right = v; rest = rest }))

pub record IsOneView (l : Links) (t : PlaceTree) (k : Bool) (u v a q b w : ℕ) : Type 0 where
  pub frames : List Frame
  pub beside : PlaceTrees
  pub rest : PlaceTrees
  pub same : SameTree t (one_tree w a q b k (record { frames = frames; left = u; right = v; beside = beside; rest = rest }))
  pub is : IsAlternating l (one_tree w a q b k (record { frames = frames; left = u; right = v; beside = beside; rest = rest }))

module _ (l : Links) (ok : AreLinks l) (t : PlaceTree) (k : Bool) where
  -- where the leaf is deeper, its parent is in its tree
  pub deep_parent : (u v a b : ℕ) (s : Site l t k u v a b) (j : ℕ) (ts : PlaceTrees) → s.left ≡ inner j (not k) ts → (j ≡ a → ⊥) → (p : ℕ) → parent_at l a ≡ Some p → 0 < times_in p s.left
  deep_parent u v a b s j ts e other p is =
      side_up l ok s.frames s.place k s.left (then s.right s.rest) s.kept p a (let low = tips_low a u s.left in let some = s.left_leaf in omega arith)
      (λ same. other (sym (ap place_of e) ∙ same)) is

  pub child_parent : (u v a b : ℕ) (s : Site l t k u v a b) → s.left ≡ tip a u → (p : ℕ) → parent_at l a ≡ Some p → s.place ≡ p
  child_parent u v a b s e p is = same_Some s.place p (sym (side_top l ok s.frames s.place k s.left (then s.right s.rest) s.kept) ∙ ap (λ z. parent_at l (place_of z)) e ∙ is)

  pub site_parent : (u v a b : ℕ) → Site l t k u v a b → (p : ℕ) × (parent_at l a ≡ Some p)
  site_parent u v a b s = go (left_depth l t k u v a b s)
    where
      go : Depth k u a s.left → (p : ℕ) × (parent_at l a ≡ Some p)
      go (child e) = (s.place, ap (λ z. parent_at l (place_of z)) (sym e) ∙ side_top l ok s.frames s.place k s.left (then s.right s.rest) s.kept)
      go (below j ts e some other) =
          let up = has_above a s.left (let low = tips_low a u s.left in let more = s.left_leaf in omega arith) (λ same. other (sym (ap place_of e) ∙ same)) in
          (up.0, side_parent l ok s.frames s.place k s.left (then s.right s.rest) s.kept up.0 a up.1)

  pub find_both : (u v a b w : ℕ) → Site l t k u v a b → parent_at l a ≡ Some w → parent_at l b ≡ Some w → IsBothView l t k u v a b w
  find_both u v a b w s up_a up_b = go (left_depth l t k u v a b s) (left_depth l t k v u b a r)
    where
      r : Site l t k v u b a
      r = site_turned l t k u v a b s

      go : Depth k u a s.left → Depth k v b s.right → IsBothView l t k u v a b w
      go (child e) (child f) =
          let same : plug s.frames (meeting s.place k s.left s.right s.rest) ≡ plug s.frames (inner w k (then (tip a u) (then (tip b v) s.rest))) =
          λ i. plug s.frames (inner (child_parent u v a b s e w up_a i) k (then (e i) (then (f i) s.rest))) in
          record {
            frames = s.frames;
            rest = s.rest;
            same = subst (SameTree t) same s.same;
            is = (subst (λ z. AreTreesKept l (then z no_more)) same s.kept, subst Alternates same s.alternates);
          }
      go (child e) (below j ts f some other) =
          absurd (side_below l ok s.frames s.place k s.right (then s.left s.rest) r.kept w (deep_parent v u b a r j ts f other w up_b) (child_parent u v a b s e w up_a))
      go (below j ts e some other) (child f) =
          absurd (side_below l ok s.frames s.place k s.left (then s.right s.rest) s.kept w (deep_parent u v a b s j ts e other w up_a) (child_parent v u b a r f w up_b))
      go (below j ts e some other) (below i us f more differ) =
          absurd (
          let here = side_apart l ok s.frames s.place k s.left (then s.right s.rest) s.kept w (deep_parent u v a b s j ts e other w up_a) in
          let there = deep_parent v u b a r i us f differ w up_b in
          omega arith)

  -- a leaf that is a child of a node stands in front of the others
  front_leaf : (v b : ℕ) (ts : PlaceTrees) → ((p : ℕ) → times_among p ts ≤ 1) → 0 < times b (roots ts) → 0 < leaves_among b v ts → IsFront ts (tip b v)
  front_leaf v b ts one root leaf =
      let front = front_root ts b root in
      let f = front.2 in
      let places = f.same.places b in
      let tips = f.same.tips b v in
      let top = root_in front.0 in
      let at : ◌≡◌ {A = ℕ} (times_in (place_of front.0) front.0) (times_in b front.0) = ap (λ z. times_in z front.0) front.1 in
      let o = one b in
      let none = all_tips_low b v f.others in
      subst (IsFront ts) (leaf_shape b v front.0 (omega arith) front.1 (omega arith)) f

  pub find_one : (u v a q b w : ℕ) → Site l t k u v a b → parent_at l a ≡ Some w → parent_at l b ≡ Some q → parent_at l q ≡ Some w → w ≢ q → IsOneView l t k u v a q b w
  find_one u v a q b w s up_a up_b up_q differ = go (left_depth l t k u v a b s) (left_depth l t k v u b a r)
    where
      r : Site l t k v u b a
      r = site_turned l t k u v a b s

      in_right : 0 < times_in b s.right
      in_right = let low = tips_low b v s.right in let some = s.right_leaf in omega arith

      found : s.left ≡ tip a u → (j : ℕ) (ts : PlaceTrees) → s.right ≡ inner j (not k) ts → 0 < leaves_among b v ts → j ≡ q → IsOneView l t k u v a q b w
      found e j ts f some at =
          let in_q : 0 < times_in q s.right = let h = hit j q at in subst (λ z. 0 < times_in q z) (sym f) (omega arith) in
          let one_child : child_in q b (inner j (not k) ts) ≡ 1 = sym (ap (child_in q b) f) ∙ side_child l ok s.frames s.place k s.right (then s.left s.rest) r.kept q b in_q up_b in
          let one : (p : ℕ) → times_in p (inner j (not k) ts) ≤ 1 = λ p. subst (λ z. times_in p z ≤ 1) f
          (let low = kept_once l (then (plug r.frames (meeting r.place k r.left r.right r.rest)) no_more) r.kept p in let up = times_plug r.frames p (meeting r.place k r.left r.right r.rest) in omega arith) in
          let root : 0 < times b (roots ts) = (
          let o = one q in
          let h = hit j q at in
          let none = children_none q b ts (omega arith) in
          let yes = cond_yes j q (times b (roots ts)) at in
          omega arith) in
          let front = front_leaf v b ts (λ p. (let o = one p in omega arith)) root some in
          let first : plug s.frames (meeting s.place k s.left s.right s.rest) ≡ plug s.frames (inner w k (then (tip a u) (then (inner q (not k) ts) s.rest))) =
          λ i. plug s.frames (inner (child_parent u v a b s e w up_a i) k (then (e i) (then ((f ∙ ap (λ z. inner z (not k) ts) at) i) s.rest))) in
          let second : SameTree (plug s.frames (inner w k (then (tip a u) (then (inner q (not k) ts) s.rest)))) (plug s.frames (inner w k (then (tip a u) (then (inner q (not k) (then (tip b v) front.others)) s.rest)))) =
          same_plug s.frames (inner w k (then (tip a u) (then (inner q (not k) ts) s.rest))) (inner w k (then (tip a u) (then (inner q (not k) (then (tip b v) front.others)) s.rest)))
          (same_inner w k (then (tip a u) (then (inner q (not k) ts) s.rest)) (then (tip a u) (then (inner q (not k) (then (tip b v) front.others)) s.rest))
          (same_rest (tip a u) (then (inner q (not k) ts) s.rest) (then (inner q (not k) (then (tip b v) front.others)) s.rest)
          (same_first (inner q (not k) ts) (inner q (not k) (then (tip b v) front.others)) s.rest (same_inner q (not k) ts (then (tip b v) front.others) front.same)))) in
          let middle : PlaceTree = plug s.frames (inner w k (then (tip a u) (then (inner q (not k) ts) s.rest))) in
          let last : PlaceTree = plug s.frames (inner w k (then (tip a u) (then (inner q (not k) (then (tip b v) front.others)) s.rest))) in
          record {
            frames = s.frames;
            beside = front.others;
            rest = s.rest;
            same = same_trans (then t no_more) (then middle no_more) (then last no_more) (subst (SameTree t) first s.same) second;
            is = (kept_swap l middle last second (subst (λ z. AreTreesKept l (then z no_more)) first s.kept), (second.alternates (subst Alternates first s.alternates, tt)).0);
          }

      go : Depth k u a s.left → Depth k v b s.right → IsOneView l t k u v a q b w
      go (child e) (child f) = absurd (differ (sym (child_parent u v a b s e w up_a) ∙ child_parent v u b a r f q up_b))
      go (child e) (below j ts f some other) =
          elim (cases_eq j q) [
            | inl at ↦ found e j ts f some at
            | inr off ↦ absurd (side_below l ok s.frames s.place k s.right (then s.left s.rest) r.kept w
                (side_up l ok s.frames s.place k s.right (then s.left s.rest) r.kept w q (deep_parent v u b a r j ts f other q up_b) (λ e. off (sym (ap place_of f) ∙ e)) up_q)
                (child_parent u v a b s e w up_a))
          ]
      go (below j ts e some other) d =
          absurd (
          let in_w = deep_parent u v a b s j ts e other w up_a in
          let in_q = side_down l ok s.frames s.place k s.left (then s.right s.rest) s.kept w q in_w up_q in
          let in_b = side_down l ok s.frames s.place k s.left (then s.right s.rest) s.kept q b in_q up_b in
          let none = side_apart l ok s.frames s.place k s.left (then s.right s.rest) s.kept b in_b in
          let some = in_right in
          omega arith)
