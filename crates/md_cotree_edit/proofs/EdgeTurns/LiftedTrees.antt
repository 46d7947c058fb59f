-- Two loose trees that come below a node of the other kind.
use Rattle.std.proofs.Common.{◌≡◌, ◌≢◌, ℕ, ◌<◌, ◌≤◌, Bool, true, not, List, [], ◌∷◌, length, Some, None, is_some, refl, sym, ◌∙◌, ap, subst, arith}
use Rattle.std.proofs.lemmas.Option.{none-some, same_Some}
use Rattle.md_lists.specs.declared.kinds.PlaceKind.{PlaceKind}
use Rattle.md_lists.specs.declared.TheConstants.{PLACES}
use Rattle.md_lists.specs.Links.{Links, kind_at, parent_at, children_at, IsLive, IsBare, AreLinks, with_kind, attached, detached}
use Rattle.md_lists.proofs.LinkLaws.{live_within}
use Rattle.md_cotree.specs.PlaceTrees.{PlaceTree, inner, PlaceTrees, no_more, then, place_kind, row_length, IsInner}
use Rattle.md_cotree_edit.specs.Counts.{crossing}
use Rattle.md_cotree_edit.specs.Contexts.{Frame, plug, AreAround, AreTreesKept}
use Rattle.md_cotree_edit.specs.Turns.{AdoptView, CanAdopt, adopted, LiftView, CanLift, IsLifted, with_both}
use Rattle.md_cotree_edit.proofs.Trees.SameRows.{SameRow, same_swap, same_inner, same_plug}
use Rattle.md_cotree_edit.proofs.Trees.KeptTrees.{kept_loose, kept_along}
use Rattle.md_cotree_edit.proofs.Trees.ListCalls.{linked_plug, linked_parent, kept_detached, kept_made, kept_freed, kept_turned, kept_bare}
use Rattle.md_cotree_edit.proofs.Trees.AdoptedTrees.{CanAttach, same_turn, same_back, node_live, attach_ready, attach_done, kept_count}
use Rattle.md_cotree_edit.proofs.Trees.TurnedPairs.{place_plug, turned_plug, self_not, alternates_plug, turned_below, turned_root, turned_merged}

some_trees : (ts : PlaceTrees) (n : ℕ) → n ≡ row_length ts → n ≢ 0 → 1 ≤ row_length ts
some_trees no_more n e some = absurd (some e)
some_trees (then t ts) n e some = omega arith

no_trees : (ts : PlaceTrees) → row_length ts ≡ 0 → ts ≡ no_more
no_trees no_more e = refl
no_trees (then t ts) e = absurd (omega arith)

-- the views of the two, below a new node, below the node itself, and below the node above
abbrev pub below_view : ℕ → ℕ → Bool → LiftView → AdoptView
below_view w r k d = record { frames = []; series = not k; children = no_more; first = d.first; second = d.second; others = then (plug d.frames (inner w k d.rest)) no_more }

abbrev pub root_view : Bool → LiftView → AdoptView
root_view k d = record { frames = []; series = not k; children = no_more; first = d.first; second = d.second; others = no_more }

abbrev pub above_view : ℕ → Bool → List Frame → PlaceTree → PlaceTree → AdoptView
above_view w k [] x y = record { frames = []; series = k; children = no_more; first = x; second = y; others = no_more }
above_view w k (f ∷ fs) x y = record { frames = fs; series = f.series; children = then (inner w k no_more) f.others; first = x; second = y; others = no_more }

module _ (l : Links) (ok : AreLinks l) (w x y : ℕ) (k : Bool) (d : LiftView) (can : CanLift l w x y k d) where
  abbrev whole : PlaceTree
  whole = plug d.frames (inner w k d.rest)

  pub node_kept : AreTreesKept l (then whole (then d.first (then d.second no_more)))
  node_kept = kept_along l (then d.first (then d.second (then whole no_more))) (then whole (then d.first (then d.second no_more))) (same_turn d.first d.second whole no_more) can.kept

  pub lift_live : IsLive l w
  lift_live = node_live l ok d.frames w k d.rest (then d.first (then d.second no_more)) node_kept

  pub lift_some : (n : ℕ) → n ≡ length (children_at l w) → n ≢ 0 → 1 ≤ row_length d.rest
  lift_some n e some = some_trees d.rest n (e ∙ kept_count l ok d.frames w k d.rest (then d.first (then d.second no_more)) node_kept) some

  pub lift_none : (n : ℕ) → n ≡ length (children_at l w) → n ≡ 0 → d.rest ≡ no_more
  lift_none n e none = no_trees d.rest (sym (e ∙ kept_count l ok d.frames w k d.rest (then d.first (then d.second no_more)) node_kept) ∙ none)

  -- ---- a new node

  module _ (r : ℕ) (kind : PlaceKind) (is : kind ≡ place_kind (not k)) (free : kind_at l r ≡ None) (within : r < PLACES) (m : Links) (made : m ≡ with_kind l r (Some kind)) where
    abbrev empty_node : PlaceTree
    empty_node = inner r (not k) no_more

    pub below_can : CanAdopt m r x y (below_view w r k d)
    below_can = record {
      kept = subst (λ z. AreTreesKept z (then d.first (then d.second (then empty_node (then whole no_more))))) (ap (λ z. with_kind l r (Some z)) (sym is) ∙ sym made) kept;
      first = can.first;
      second = can.second;
    }
      where
        kept : AreTreesKept (with_kind l r (Some (place_kind (not k)))) (then d.first (then d.second (then empty_node (then whole no_more))))
        kept = kept_reordered
            (kept_made l ok r (not k) (then d.first (then d.second (then whole no_more))) free within can.kept)
          where
            kept_reordered : AreTreesKept (with_kind l r (Some (place_kind (not k)))) (then empty_node (then d.first (then d.second (then whole no_more)))) →
                AreTreesKept (with_kind l r (Some (place_kind (not k)))) (then d.first (then d.second (then empty_node (then whole no_more))))
            kept_reordered old = record {
              each = λ p. same.places p ∙ old.each p;
              kinds = λ p. same.kinds p ∙ old.kinds p;
              links = λ p c. same.links p c ∙ old.links p c;
            }
              where
                same : SameRow (then empty_node (then d.first (then d.second (then whole no_more)))) (then d.first (then d.second (then empty_node (then whole no_more))))
                same = same_back d.first d.second empty_node (then whole no_more)

    module _ (n : Links) (ok_n : AreLinks n) (kept : AreTreesKept n (adopted r (below_view w r k d))) where
      abbrev full_node : PlaceTree
      full_node = inner r (not k) (then d.second (then d.first no_more))

      swapped : AreTreesKept n (then whole (then full_node no_more))
      swapped = kept_along n (then full_node (then whole no_more)) (then whole (then full_node no_more)) (same_swap full_node whole no_more) kept

      pub below_ready : CanAttach n w r
      below_ready = attach_ready n ok_n d.frames w k d.rest no_more full_node swapped

      pub below_lifted : (e : Links) → e ≡ attached n w r → 1 ≤ row_length d.rest → IsLifted e (with_both w k d) k (crossing d.first d.second)
      below_lifted e end some = record {
        tree = plug d.frames (inner w k (then full_node d.rest));
        kept = subst (λ z. AreTreesKept z (then (plug d.frames (inner w k (then full_node d.rest))) no_more)) (sym end) (attach_done n ok_n d.frames w k d.rest no_more full_node swapped);
        turned = turned_plug k (crossing d.first d.second) d.frames _ _ (turned_below w d.first d.second k r d.rest);
        place = place_plug d.frames (inner w k (then d.first (then d.second d.rest))) (inner w k (then full_node d.rest)) refl;
        alternates = alternates_plug d.frames k (inner w k (then full_node d.rest)) can.around (self_not k)
            (omega arith, ((λ e. self_not k (sym e)), can.none), ((omega arith, (can.second_other, (can.first_other, tt)), (can.second_alternates, (can.first_alternates, tt))), can.rest));
      }

  -- ---- the root turns

  frame_parent : (f : Frame) (fs : List Frame) (rest : PlaceTrees) (us : PlaceTrees) → AreTreesKept l (then (plug (f ∷ fs) (inner w k rest)) us) → parent_at l w ≡ Some f.place
  frame_parent f fs rest us kept =
      linked_parent l ok f.place w (then (plug fs (inner f.place f.series f.others)) (then (inner w k rest) us)) (then (plug fs (inner f.place f.series (then (inner w k rest) f.others))) us) kept
      (linked_plug fs f.place f.series f.others us (inner w k rest))

  pub no_frames : (fs : List Frame) (rest us : PlaceTrees) → AreTreesKept l (then (plug fs (inner w k rest)) us) → parent_at l w ≡ None → fs ≡ []
  no_frames [] rest us kept none = refl
  no_frames (f ∷ fs) rest us kept none = absurd (none-some f.place (sym none ∙ frame_parent f fs rest us kept))

  module _ (none : parent_at l w ≡ None) (no_rest : d.rest ≡ no_more) where
    alone : whole ≡ inner w k no_more
    alone = λ i. plug (no_frames d.frames d.rest (then d.first (then d.second no_more)) node_kept none i) (inner w k (no_rest i))

    pub root_can : (kind : PlaceKind) → kind ≡ place_kind (not k) → (m : Links) → m ≡ with_kind l w (Some kind) → CanAdopt m w x y (root_view k d)
    root_can kind is m made = record {
      kept = subst (λ z. AreTreesKept z (then d.first (then d.second (then (inner w (not k) no_more) no_more)))) (ap (λ z. with_kind l w (Some z)) (sym is) ∙ sym made) (back turned);
      first = can.first;
      second = can.second;
    }
      where
        turned : AreTreesKept (with_kind l w (Some (place_kind (not k)))) (then (inner w (not k) no_more) (then d.first (then d.second no_more)))
        turned = kept_turned l ok w k (not k) no_more (then d.first (then d.second no_more)) (live_within l ok w lift_live)
            (subst (λ t. AreTreesKept l (then t (then d.first (then d.second no_more)))) alone node_kept)

        back : AreTreesKept (with_kind l w (Some (place_kind (not k)))) (then (inner w (not k) no_more) (then d.first (then d.second no_more))) →
            AreTreesKept (with_kind l w (Some (place_kind (not k)))) (then d.first (then d.second (then (inner w (not k) no_more) no_more)))
        back old =
            let same = same_back d.first d.second (inner w (not k) no_more) no_more in
            record {
              each = λ p. same.places p ∙ old.each p;
              kinds = λ p. same.kinds p ∙ old.kinds p;
              links = λ p c. same.links p c ∙ old.links p c;
            }

    pub root_lifted : (n : Links) → AreTreesKept n (adopted w (root_view k d)) → IsLifted n (with_both w k d) k (crossing d.first d.second)
    root_lifted n kept =
        subst (λ t. IsLifted n t k (crossing d.first d.second))
        (λ i. plug (sym (no_frames d.frames d.rest (then d.first (then d.second no_more)) node_kept none) i) (inner w k (then d.first (then d.second (sym no_rest i)))))
        (record {
          tree = inner w (not k) (then d.second (then d.first no_more));
          kept = kept;
          turned = turned_root w d.first d.second k;
          place = refl;
          alternates = (omega arith, (can.second_other, (can.first_other, tt)), (can.second_alternates, (can.first_alternates, tt)));
        })

  -- ---- the node goes

  module _ (g : ℕ) (is : parent_at l w ≡ Some g) where
    pub above_can : (fs : List Frame) (rest : PlaceTrees) → rest ≡ no_more → AreTreesKept l (then (plug fs (inner w k rest)) (then d.first (then d.second no_more))) →
        CanAdopt l g x y (above_view w k fs d.first d.second)
    above_can [] rest none kept = absurd (none-some g (sym (loose kept) ∙ is))
      where
        loose : AreTreesKept l (then (inner w k rest) (then d.first (then d.second no_more))) → parent_at l w ≡ None
        loose kept = kept_loose l (inner w k rest) (then d.first (then d.second no_more)) kept
    above_can (f ∷ fs) rest none kept =
        let same : f.place ≡ g = same_Some f.place g (sym (frame_parent f fs rest (then d.first (then d.second no_more)) kept) ∙ is) in
        record {
          kept = subst (λ z. AreTreesKept l (then d.first (then d.second (then (plug fs (inner z f.series (then (inner w k no_more) f.others))) no_more)))) same
              (subst (λ z. AreTreesKept l (then d.first (then d.second (then (plug fs (inner f.place f.series (then (inner w k z) f.others))) no_more)))) none
              (kept_along l (then (plug (f ∷ fs) (inner w k rest)) (then d.first (then d.second no_more))) (then d.first (then d.second (then (plug (f ∷ fs) (inner w k rest)) no_more)))
              (same_back d.first d.second (plug (f ∷ fs) (inner w k rest)) no_more) kept));
          first = can.first;
          second = can.second;
        }

    module _ (n : Links) (ok_n : AreLinks n) where
      -- the tree when the two are there
      abbrev merged : List Frame → PlaceTree
      merged [] = inner g k (then d.second (then d.first no_more))
      merged (f ∷ fs) = plug fs (inner g f.series (then d.second (then d.first f.others)))

      above_front : (fs : List Frame) (j : Bool) (others : PlaceTrees) → AreTreesKept n (then (plug fs (inner g j (then d.second (then d.first (then (inner w k no_more) others))))) no_more) →
          AreTreesKept n (then (plug fs (inner g j (then (inner w k no_more) (then d.second (then d.first others))))) no_more)
      above_front fs j others kept =
          kept_along n (then (plug fs (inner g j (then d.second (then d.first (then (inner w k no_more) others))))) no_more) (then (plug fs (inner g j (then (inner w k no_more) (then d.second (then d.first others))))) no_more)
          (same_plug fs (inner g j (then d.second (then d.first (then (inner w k no_more) others)))) (inner g j (then (inner w k no_more) (then d.second (then d.first others))))
          (same_inner g j (then d.second (then d.first (then (inner w k no_more) others))) (then (inner w k no_more) (then d.second (then d.first others))) (same_turn d.second d.first (inner w k no_more) others)))
          kept

      -- there is a node above
      pub has_above : (fs : List Frame) (rest : PlaceTrees) → AreTreesKept l (then (plug fs (inner w k rest)) (then d.first (then d.second no_more))) → AreTreesKept n (adopted g (above_view w k fs d.first d.second)) →
          (parent_at n w ≡ Some g) × AreTreesKept (detached n g w) (then (inner w k no_more) (then (merged fs) no_more))
      has_above [] rest old kept = absurd (none-some g (sym (kept_loose l (inner w k rest) (then d.first (then d.second no_more)) old) ∙ is))
      has_above (f ∷ fs) rest old kept =
          let front = above_front fs f.series f.others kept in
          let link = linked_plug fs g f.series (then d.second (then d.first f.others)) no_more (inner w k no_more) in (
            linked_parent n ok_n g w _ _ front link,
            turned_round (kept_detached n ok_n g w _ _ front link),
          )
        where
          turned_round : AreTreesKept (detached n g w) (then (plug fs (inner g f.series (then d.second (then d.first f.others)))) (then (inner w k no_more) no_more)) →
              AreTreesKept (detached n g w) (then (inner w k no_more) (then (plug fs (inner g f.series (then d.second (then d.first f.others)))) no_more))
          turned_round old =
              let same = same_swap (plug fs (inner g f.series (then d.second (then d.first f.others)))) (inner w k no_more) no_more in
              record {
                each = λ p. same.places p ∙ old.each p;
                kinds = λ p. same.kinds p ∙ old.kinds p;
                links = λ p c. same.links p c ∙ old.links p c;
              }

      pub above_lifted : (fs : List Frame) (rest : PlaceTrees) → rest ≡ no_more → AreAround fs k → AreTreesKept l (then (plug fs (inner w k rest)) (then d.first (then d.second no_more))) →
          (e : Links) → AreTreesKept e (then (merged fs) no_more) → IsLifted e (plug fs (inner w k (then d.first (then d.second rest)))) k (crossing d.first d.second)
      above_lifted [] rest none around old e kept = absurd (none-some g (sym (kept_loose l (inner w k rest) (then d.first (then d.second no_more)) old) ∙ is))
      above_lifted (f ∷ fs) rest none around old e kept =
          subst (λ z. IsLifted e (plug fs (inner f.place f.series (then (inner w k (then d.first (then d.second z))) f.others))) k (crossing d.first d.second)) (sym none)
          (record {
            tree = plug fs (inner f.place f.series (then d.second (then d.first f.others)));
            kept = subst (λ z. AreTreesKept e (then (plug fs (inner z f.series (then d.second (then d.first f.others)))) no_more)) (sym same) kept;
            turned = turned_plug k (crossing d.first d.second) fs _ _ (turned_merged w d.first d.second k f.series f.place f.others around.0);
            place = place_plug fs (inner f.place f.series (then (inner w k (then d.first (then d.second no_more))) f.others)) (inner f.place f.series (then d.second (then d.first f.others))) refl;
            alternates = alternates_plug fs f.series (inner f.place f.series (then d.second (then d.first f.others))) around.4 (self_not f.series) (
              omega arith,
              ((λ i. can.second_other (subst (IsInner d.second) around.0 i)), ((λ i. can.first_other (subst (IsInner d.first) around.0 i)), around.2)),
              (can.second_alternates, (can.first_alternates, around.3)),
            );
          })
        where
          same : f.place ≡ g
          same = same_Some f.place g (sym (frame_parent f fs rest (then d.first (then d.second no_more)) old) ∙ is)

pub parent_some : (l : Links) (w g : ℕ) → parent_at l w ≡ Some g → is_some (parent_at l w) ≡ true
parent_some l w g is = ap is_some is

-- the node that is loose and has no children
module _ (w : ℕ) (k : Bool) (g : ℕ) (n m : Links) (ok : AreLinks m) (gone : m ≡ detached n g w) (ts : PlaceTrees) (kept : AreTreesKept (detached n g w) (then (inner w k no_more) ts)) where
  pub free_live : IsLive m w
  free_live = node_live m ok [] w k no_more ts (subst (λ z. AreTreesKept z (then (inner w k no_more) ts)) (sym gone) kept)

  pub free_bare : m.marked ≡ [] → IsBare m w
  free_bare unmarked = kept_bare m ok w k ts unmarked (subst (λ z. AreTreesKept z (then (inner w k no_more) ts)) (sym gone) kept)

  pub free_kept : (e : Links) → e ≡ with_kind m w None → AreTreesKept e ts
  free_kept e end =
      subst (λ z. AreTreesKept z ts) (sym end) (kept_freed m ok w k ts (live_within m ok w free_live) (subst (λ z. AreTreesKept z (then (inner w k no_more) ts)) (sym gone) kept))
