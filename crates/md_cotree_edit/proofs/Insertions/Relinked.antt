-- A new leaf comes into a tree: the loose trees between the calls, and what comes of them.
use Rattle.std.proofs.Common.{◌≡◌, ℕ, ◌+◌, ◌<◌, ◌↔◌, Bool, true, false, not, IsTrue, List, [], ◌∷◌, Option, Some, None, refl, sym, ◌∙◌, ap, subst, arith}
use Rattle.std.proofs.lemmas.Option.{none-some, same_Some}
use Rattle.md_lists.specs.declared.kinds.PlaceKind.{PlaceKind}
use Rattle.md_lists.specs.declared.kinds.PlaceKind.TheVariants.{Leaf}
use Rattle.md_lists.specs.declared.TheConstants.{PLACES}
use Rattle.md_graph.specs.Linked.{times}
use Rattle.md_lists.specs.Links.{Links, kind_at, parent_at, note_at, IsLive, AreLinks, with_kind, attached, detached}
use Rattle.md_lists.proofs.LinkLaws.{detached_links}
use Rattle.md_cotree.specs.PlaceTrees.{PlaceTree, tip, inner, PlaceTrees, no_more, then, place_of, place_kind, Alternates}
use Rattle.md_cotree.proofs.Frames.{hit, root_in}
use Rattle.md_cotree.proofs.Kept.{same_kind}
use Rattle.md_cotree_edit.specs.Counts.{kind_code}
use Rattle.md_cotree_edit.specs.Contexts.{Frame, fill, plug, AreTreesKept}
use Rattle.md_cotree_edit.specs.Turns.{IsTidied, IsBeside}
use Rattle.md_cotree_edit.specs.Marks.{AreStill, LowestView, whole, IsLowest, CanRelink, IsInserted, IsLinkedIn}
use Rattle.md_cotree_edit.specs.Relinks.{AreNoted, CanPart, IsParted, PutView, CanPut, IsTreePut, PairView, CanPair, IsPaired}
use Rattle.md_cotree_edit.proofs.Trees.SameRows.{same_swap, same_rest}
use Rattle.md_cotree_edit.proofs.Trees.LocalCounts.{cond_yes, kinds_none, times_plug, kind_plug}
use Rattle.md_cotree_edit.proofs.Trees.KeptTrees.{kind_is, kept_once, kept_live, kept_loose, kept_along}
use Rattle.md_cotree_edit.proofs.Trees.ListCalls.{tip_alone, alone_made, linked_plug, linked_parent, kept_detached, kept_made}
use Rattle.md_cotree_edit.proofs.Trees.AdoptedTrees.{CanAttach, same_back, node_live, attach_ready, attach_done}
use Rattle.md_cotree_edit.proofs.Marks.OnlyMarksDiffer.{kept_still}
use Rattle.md_cotree_edit.proofs.Trees.TurnedPairs.{place_plug, self_not, around_plug, alternates_plug}
use Rattle.md_cotree_edit.proofs.Climbs.NotedChildren.{noted_children}
use Rattle.md_cotree_edit.proofs.Insertions.LeafEdges.{inserted_plug, inserted_parallel, inserted_series, alternates_pair}

-- ---- a new node takes the full children

module _ (l : Links) (ok : AreLinks l) (node : ℕ) (kind : PlaceKind) (free : kind_at l node ≡ None) (within : node < PLACES) (m : Links) (made : m ≡ with_kind l node (Some kind)) where
  pub part_ready : (d : LowestView) → IsLowest l d → Alternates (whole d) → kind ≡ place_kind d.series → CanPart m node d
  part_ready d lowest alternates is = record {
    kept = subst (λ z. AreTreesKept z (then (inner node d.series no_more) (then (whole d) no_more))) (ap (λ z. with_kind l node (Some z)) (sym is) ∙ sym made) (kept_made l ok node d.series (then (whole d) no_more) free within lowest.kept);
    marks = lowest.marks;
    halves = lowest.halves;
    noted = subst (λ z. AreNoted (note_at z) d.marks d.children) (sym made) (noted_children l ok d lowest alternates);
    unmarked = ap (λ (z : Links). times node z.marked) made ∙ (let bare = ok.bare node free in let a = bare.no_tally in let b = bare.no_note in let e = ok.marks node in omega arith);
  }

  -- a leaf more
  pub kept_leaf : (v : ℕ) (ts : PlaceTrees) → kind ≡ Leaf v → AreTreesKept l ts → AreTreesKept m (then (tip node v) ts)
  kept_leaf v ts is kept =
      subst (λ z. AreTreesKept z (then (tip node v) ts)) (ap (λ z. with_kind l node (Some z)) (sym is) ∙ sym made)
      (alone_made l ok node (Leaf v) (tip node v) ts (tip_alone node v) free within kept)

-- nothing else changes where nothing is marked any more
pub part_cleared : (l e : Links) (node : ℕ) (d : LowestView) → AreStill l e → IsParted l node d → IsParted e node d
part_cleared l e node d still parted = record {
  full = parted.full;
  rest = parted.rest;
  kept = kept_still l e (then (inner node d.series parted.full) (then (plug d.frames (inner d.place d.series parted.rest)) no_more)) still parted.kept;
  split = parted.split;
  all_full = parted.all_full;
  none_marked = parted.none_marked;
  some_full = parted.some_full;
  some_rest = parted.some_rest;
}

-- ---- a loose node in the place of another

module _ (l : Links) (ok : AreLinks l) (old new : PlaceTree) (others : PlaceTrees) where
  put_front : (t : PlaceTree) → AreTreesKept l (then new (then t others)) → AreTreesKept l (then t (then new others))
  put_front t kept = kept_along l (then new (then t others)) (then t (then new others)) (same_swap new t others) kept

  put_linked : (f : Frame) (fs : List Frame) → AreTreesKept l (then new (then (plug (f ∷ fs) old) others)) → parent_at l (place_of old) ≡ Some f.place
  put_linked f fs kept =
      linked_parent l ok f.place (place_of old) (then (plug fs (inner f.place f.series f.others)) (then old (then new others))) (then (plug (f ∷ fs) old) (then new others)) (put_front (plug (f ∷ fs) old) kept)
      (linked_plug fs f.place f.series f.others (then new others) old)

  -- where it has no parent, it is the root
  pub put_root : (fs : List Frame) → AreTreesKept l (then new (then (plug fs old) others)) → parent_at l (place_of old) ≡ None →
      AreTreesKept l (then old (then (plug fs new) others)) × (place_of new ≡ place_of (plug fs new))
  put_root [] kept none = (put_front old kept, refl)
  put_root (f ∷ fs) kept none = absurd (none-some f.place (sym none ∙ put_linked f fs kept))

  pub record IsPutBelow (g : ℕ) (fs : List Frame) : Type 0 where
    pub can : CanAttach (detached l g (place_of old)) g (place_of new)
    pub kept : AreTreesKept (attached (detached l g (place_of old)) g (place_of new)) (then old (then (plug fs new) others))
    pub root : place_of (plug fs new) ≡ place_of (plug fs old)

  below_frame : (f : Frame) (fs : List Frame) → AreTreesKept l (then new (then (plug (f ∷ fs) old) others)) → IsPutBelow f.place (f ∷ fs)
  below_frame f fs kept =
      let m = detached l f.place (place_of old) in
      let ok_m = detached_links l ok f.place (place_of old) (put_linked f fs kept) in
      let bare = plug fs (inner f.place f.series f.others) in
      let gone : AreTreesKept (detached l f.place (place_of old)) (then (plug fs (inner f.place f.series f.others)) (then old (then new others))) =
      kept_detached l ok f.place (place_of old) (then (plug fs (inner f.place f.series f.others)) (then old (then new others))) (then (plug (f ∷ fs) old) (then new others)) (put_front (plug (f ∷ fs) old) kept)
      (linked_plug fs f.place f.series f.others (then new others) old) in
      let ready : AreTreesKept (detached l f.place (place_of old)) (then (plug fs (inner f.place f.series f.others)) (then new (then old others))) =
      kept_along (detached l f.place (place_of old)) (then (plug fs (inner f.place f.series f.others)) (then old (then new others))) (then (plug fs (inner f.place f.series f.others)) (then new (then old others)))
      (same_rest (plug fs (inner f.place f.series f.others)) (then old (then new others)) (then new (then old others)) (same_swap old new others)) gone in
      record {
        can = attach_ready (detached l f.place (place_of old)) ok_m fs f.place f.series f.others (then old others) new ready;
        kept = kept_along (attached (detached l f.place (place_of old)) f.place (place_of new)) (then (plug (f ∷ fs) new) (then old others)) (then old (then (plug (f ∷ fs) new) others))
            (same_swap (plug (f ∷ fs) new) old others)
            (attach_done (detached l f.place (place_of old)) ok_m fs f.place f.series f.others (then old others) new ready);
        root = place_plug fs (fill f old) (fill f new) refl;
      }

  -- where it has one, the other comes below it
  pub put_below : (fs : List Frame) (g : ℕ) → AreTreesKept l (then new (then (plug fs old) others)) → parent_at l (place_of old) ≡ Some g → IsPutBelow g fs
  put_below [] g kept is = absurd (none-some g (sym (kept_loose l old (then new others) (put_front old kept)) ∙ is))
  put_below (f ∷ fs) g kept is = subst (λ z. IsPutBelow z (f ∷ fs)) (same_Some f.place g (sym (put_linked f fs kept) ∙ is)) (below_frame f fs kept)

module _ (l : Links) (ok : AreLinks l) (top : Option ℕ) (place node : ℕ) (d : PutView) (can : CanPut l top place node d) where
  pub put_live : IsLive l place
  put_live =
      subst (IsLive l) can.old
      (kept_live l (then d.new (then (plug d.frames d.old) d.others)) can.kept (place_of d.old) (let low = times_plug d.frames (place_of d.old) d.old in let h = root_in d.old in omega arith))

  pub put_none : parent_at l place ≡ None → IsTreePut l (Some node) d
  put_none none =
      let at = put_root l ok d.old d.new d.others d.frames can.kept (ap (parent_at l) can.old ∙ none) in
      record { kept = at.0; root = ap Some (sym can.new ∙ at.1) }

  module _ (g : ℕ) (is : parent_at l place ≡ Some g) where
    put_at : IsPutBelow l ok d.old d.new d.others g d.frames
    put_at = put_below l ok d.old d.new d.others d.frames g can.kept (ap (parent_at l) can.old ∙ is)

    module _ (m : Links) (gone : m ≡ detached l g place) where
      m_is : m ≡ detached l g (place_of d.old)
      m_is = gone ∙ ap (detached l g) (sym can.old)

      pub put_ready : CanAttach m g node
      put_ready = subst (λ z. CanAttach z g node) (sym m_is) (subst (CanAttach (detached l g (place_of d.old)) g) can.new put_at.can)

      pub put_some : (e : Links) → e ≡ attached m g node → IsTreePut e top d
      put_some e end = record {
        kept = subst (λ z. AreTreesKept z (then d.old (then (plug d.frames d.new) d.others))) (sym (end ∙ (λ i. attached (m_is i) g (sym can.new i)))) put_at.kept;
        root = can.root ∙ ap Some (sym put_at.root);
      }

-- ---- a pair below a node

module _ (n : Links) (ok : AreLinks n) (fs : List Frame) (stay : ℕ) (k : Bool) (zs : PlaceTrees) (pair : ℕ) (r : PlaceTree) (kept : AreTreesKept n (then r (then (plug fs (inner stay k zs)) no_more))) (at_pair : place_of r ≡ pair) where
  pair_front : AreTreesKept n (then (plug fs (inner stay k zs)) (then r no_more))
  pair_front = kept_along n (then r (then (plug fs (inner stay k zs)) no_more)) (then (plug fs (inner stay k zs)) (then r no_more)) (same_swap r (plug fs (inner stay k zs)) no_more) kept

  pub pair_ready : CanAttach n stay pair
  pair_ready = subst (CanAttach n stay) at_pair (attach_ready n ok fs stay k zs no_more r pair_front)

  pub pair_done : (e : Links) → e ≡ attached n stay pair → AreTreesKept e (then (plug fs (inner stay k (then r zs))) no_more)
  pair_done e end =
      subst (λ z. AreTreesKept z (then (plug fs (inner stay k (then r zs))) no_more)) (ap (attached n stay) at_pair ∙ sym end) (attach_done n ok fs stay k zs no_more r pair_front)

-- ---- the whole

module _ (l : Links) (top : Option ℕ) (x : ℕ) (d : LowestView) (can : CanRelink l top x d) where
  relink_live : AreLinks l → IsLive l d.place
  relink_live ok = node_live l ok d.frames d.place d.series d.children no_more can.lowest.kept

  relink_kind : kind_at l d.place ≡ Some (place_kind d.series)
  relink_kind =
      let h = hit d.place d.place refl in
      let low = times_plug d.frames d.place (inner d.place d.series d.children) in
      let one = kept_once l (then (whole d) no_more) can.lowest.kept d.place in
      let none = kinds_none d.place d.children (omega arith) in
      kind_is (kind_at l d.place) (place_kind d.series)
      (add_up _ _ _ _ _ (cond_yes d.place d.place (kind_code (Some (place_kind d.series))) refl) none (kind_plug d.frames d.place (inner d.place d.series d.children) (omega arith) (omega arith)) (can.lowest.kept.kinds d.place))
    where
      add_up : (n a b w o : ℕ) → a ≡ n → b ≡ 0 → w ≡ a + b → w + 0 ≡ o → n ≡ o
      add_up n a b w o e f g h = omega arith

  -- what the test of the kind says
  relink_series : (b : Bool) → (IsTrue b ↔ (kind_at l d.place ≡ Some (place_kind true))) → b ≡ d.series
  relink_series b is = go b d.series is relink_kind
    where
      go : (b k : Bool) → (IsTrue b ↔ (kind_at l d.place ≡ Some (place_kind true))) → kind_at l d.place ≡ Some (place_kind k) → b ≡ k
      go true k is at = sym (same_kind k true (sym at ∙ is.0 refl))
      go false true is at = is.1 at
      go false false is at = refl

-- below a parallel node the full children and the leaf come below the old node; below a series node the others do, when the node of the
-- full ones has come in its place
abbrev pub pair_view : ℕ → LowestView → PlaceTrees → PlaceTrees → PairView
pair_view x d loose stay = record { frames = d.frames; kind = d.series; name = x; loose = loose; stay = stay }

-- below a series node the new node comes in the place of the old one
abbrev pub put_view : ℕ → ℕ → ℕ → LowestView → PlaceTrees → PlaceTrees → PutView
put_view x leaf node d full rest = record { frames = d.frames; old = inner d.place d.series rest; new = inner node d.series full; others = then (tip leaf x) no_more }

module _ (l : Links) (leaf x node : ℕ) (d : LowestView) (n m : Links) (parted : IsParted n node d)
    (kept : AreTreesKept m (then (tip leaf x) (then (inner node d.series parted.full) (then (plug d.frames (inner d.place d.series parted.rest)) no_more)))) where
  low_can : CanPair m d.place node leaf (pair_view x d parted.full parted.rest)
  low_can = record {
    kept = kept_along m (then (tip leaf x) (then (inner node d.series parted.full) (then (plug d.frames (inner d.place d.series parted.rest)) no_more)))
        (then (inner node d.series parted.full) (then (tip leaf x) (then (plug d.frames (inner d.place d.series parted.rest)) no_more)))
        (same_swap (tip leaf x) (inner node d.series parted.full) (then (plug d.frames (inner d.place d.series parted.rest)) no_more)) kept;
    some = parted.some_full;
  }

  high_put : (top : Option ℕ) → top ≡ Some (place_of (whole d)) → CanPut m top d.place node (put_view x leaf node d parted.full parted.rest)
  high_put top root = record {
    kept = kept_along m (then (tip leaf x) (then (inner node d.series parted.full) (then (plug d.frames (inner d.place d.series parted.rest)) no_more)))
        (then (inner node d.series parted.full) (then (plug d.frames (inner d.place d.series parted.rest)) (then (tip leaf x) no_more)))
        (same_back (inner node d.series parted.full) (plug d.frames (inner d.place d.series parted.rest)) (tip leaf x) no_more) kept;
    root = root ∙ ap Some (sym (place_plug d.frames (inner d.place d.series d.children) (inner d.place d.series parted.rest) refl));
    old = refl;
    new = refl;
  }

  high_can : (e : Links) (top : Option ℕ) → IsTreePut e top (put_view x leaf node d parted.full parted.rest) → CanPair e node d.place leaf (pair_view x d parted.rest parted.full)
  high_can e top put = record {
    kept = kept_along e (then (inner d.place d.series parted.rest) (then (plug d.frames (inner node d.series parted.full)) (then (tip leaf x) no_more)))
        (then (inner d.place d.series parted.rest) (then (tip leaf x) (then (plug d.frames (inner node d.series parted.full)) no_more)))
        (same_rest (inner d.place d.series parted.rest) (then (plug d.frames (inner node d.series parted.full)) (then (tip leaf x) no_more)) (then (tip leaf x) (then (plug d.frames (inner node d.series parted.full)) no_more))
        (same_swap (plug d.frames (inner node d.series parted.full)) (tip leaf x) no_more)) put.kept;
    some = parted.some_rest;
  }

  module _ (first : Links) (top_old : Option ℕ) (can : CanRelink first top_old x d) where
    relinked_low : (e : Links) (top : Option ℕ) → top ≡ top_old → d.series ≡ false → IsPaired e d.place node leaf true (pair_view x d parted.full parted.rest) → IsLinkedIn e top d.marks x leaf (whole d)
    relinked_low e top root kind pair = record {
      tree = plug d.frames (inner d.place d.series (then pair.pair parted.rest));
      kept = pair.kept;
      root = root ∙ can.root ∙ ap Some (sym (place_plug d.frames (inner d.place d.series d.children) (inner d.place d.series (then pair.pair parted.rest)) refl));
      alternates =
          let around = around_plug d.frames d.place d.series d.children can.alternates in
          let none = parted.split.none d.series around.1.1 in
          let all = parted.split.alternates around.1.2 in
          alternates_plug d.frames d.series (inner d.place d.series (then pair.pair parted.rest)) around.0 (self_not d.series)
          (alternates_pair d.series d.place node parted.full parted.rest leaf x pair.tidy pair.pair none.0 all.0 none.1 all.1 parted.some_rest pair.tidied
          (subst (λ k. IsBeside (not k) pair.tidy (tip leaf x) pair.pair) (sym kind) pair.beside));
      inserted = inserted_plug d.marks leaf x d.frames (inner d.place d.series d.children) (inner d.place d.series (then pair.pair parted.rest)) can.lowest.ready
          (subst (λ k. IsInserted d.marks leaf x (inner d.place k d.children) (inner d.place k (then pair.pair parted.rest))) (sym kind)
          (inserted_parallel d.marks leaf x d.place node d.children parted.full parted.rest parted.split parted.all_full parted.none_marked pair.tidy pair.pair
          (subst (λ k. IsTidied parted.full k node pair.tidy) kind pair.tidied) pair.beside));
    }

    relinked_high : (between : Links) (top : Option ℕ) → IsTreePut between top (put_view x leaf node d parted.full parted.rest) → (e : Links) → d.series ≡ true → IsPaired e node d.place leaf false (pair_view x d parted.rest parted.full) → IsLinkedIn e top d.marks x leaf (whole d)
    relinked_high between top put e kind pair = record {
      tree = plug d.frames (inner node d.series (then pair.pair parted.full));
      kept = pair.kept;
      root = put.root ∙ ap Some (sym (place_plug d.frames (inner node d.series parted.full) (inner node d.series (then pair.pair parted.full)) refl));
      alternates =
          let around = around_plug d.frames d.place d.series d.children can.alternates in
          let none = parted.split.none d.series around.1.1 in
          let all = parted.split.alternates around.1.2 in
          alternates_plug d.frames d.series (inner node d.series (then pair.pair parted.full)) around.0 (self_not d.series)
          (alternates_pair d.series node d.place parted.rest parted.full leaf x pair.tidy pair.pair none.1 all.1 none.0 all.0 parted.some_full pair.tidied
          (subst (λ k. IsBeside (not k) pair.tidy (tip leaf x) pair.pair) (sym kind) pair.beside));
      inserted = inserted_plug d.marks leaf x d.frames (inner d.place d.series d.children) (inner node d.series (then pair.pair parted.full)) can.lowest.ready
          (subst (λ k. IsInserted d.marks leaf x (inner d.place k d.children) (inner node k (then pair.pair parted.full))) (sym kind)
          (inserted_series d.marks leaf x d.place node d.children parted.full parted.rest parted.split parted.all_full parted.none_marked pair.tidy pair.pair
          (subst (λ k. IsTidied parted.rest k d.place pair.tidy) kind pair.tidied) pair.beside));
    }

-- the same, where the node is given by its place
module _ (l : Links) (ok : AreLinks l) (top : Option ℕ) (x place : ℕ) (d : LowestView) (can : CanRelink l top x d) (at : place ≡ d.place) where
  pub start_live : IsLive l place
  start_live = subst (IsLive l) (sym at) (relink_live l top x d can ok)

  pub start_series : (b : Bool) → (IsTrue b ↔ (kind_at l place ≡ Some (place_kind true))) → b ≡ d.series
  start_series b is = relink_series l top x d can b (subst (λ z. IsTrue b ↔ (kind_at l z ≡ Some (place_kind true))) at is)

  module _ (leaf node : ℕ) (n : Links) (ok_n : AreLinks n) (parted : IsParted n node d) (free : kind_at n leaf ≡ None) (within : leaf < PLACES) (m : Links) (made : m ≡ with_kind n leaf (Some (Leaf x))) where
    all_loose : AreTreesKept m (then (tip leaf x) (then (inner node d.series parted.full) (then (plug d.frames (inner d.place d.series parted.rest)) no_more)))
    all_loose =
        kept_leaf n ok_n leaf (Leaf x) free within m made x (then (inner node d.series parted.full) (then (plug d.frames (inner d.place d.series parted.rest)) no_more)) refl parted.kept

    pub low_start : CanPair m place node leaf (pair_view x d parted.full parted.rest)
    low_start = subst (λ z. CanPair m z node leaf (pair_view x d parted.full parted.rest)) (sym at) (low_can l leaf x node d n m parted all_loose)

    pub low_end : (e : Links) → d.series ≡ false → IsPaired e place node leaf true (pair_view x d parted.full parted.rest) → IsLinkedIn e top d.marks x leaf (whole d)
    low_end e kind pair =
        relinked_low l leaf x node d n m parted all_loose l top can e top refl kind (subst (λ z. IsPaired e z node leaf true (pair_view x d parted.full parted.rest)) at pair)

    pub high_start : CanPut m top place node (put_view x leaf node d parted.full parted.rest)
    high_start = subst (λ z. CanPut m top z node (put_view x leaf node d parted.full parted.rest)) (sym at) (high_put l leaf x node d n m parted all_loose top can.root)

    module _ (between : Links) (now : Option ℕ) (put : IsTreePut between now (put_view x leaf node d parted.full parted.rest)) where
      pub high_next : CanPair between node place leaf (pair_view x d parted.rest parted.full)
      high_next = subst (λ z. CanPair between node z leaf (pair_view x d parted.rest parted.full)) (sym at) (high_can l leaf x node d n m parted all_loose between now put)

      pub high_end : (e : Links) → d.series ≡ true → IsPaired e node place leaf false (pair_view x d parted.rest parted.full) → IsLinkedIn e now d.marks x leaf (whole d)
      high_end e kind pair =
          relinked_high l leaf x node d n m parted all_loose l top can between now put e kind (subst (λ z. IsPaired e node z leaf false (pair_view x d parted.rest parted.full)) at pair)
