-- One edit of an edge, from the cotree to the cotree.
use Rattle.std.proofs.Common.{◌≡◌, ◌≢◌, ℕ, ◌<◌, Bool, true, false, cond, [], ◌↔◌, Some, is_some, refl, sym, ◌∙◌, ap, subst, arith}
use Rattle.std.proofs.lemmas.Bool.{false≢true}
use Rattle.md_graph.specs.Sets.{Has}
use Rattle.md_graph.specs.PlainGraph.{PlainGraph, adjacent}
use Rattle.md_modules.specs.InducedPaths.{HasInducedPath}
use Rattle.md_lists.specs.Links.{Links, parent_at, AreLinks, spare_count}
use Rattle.md_tree.specs.Trees.{names}
use Rattle.md_cotree.specs.declared.cotree.Cotree.{Cotree}
use Rattle.md_cotree.specs.PlaceTrees.{PlaceTree, tip, shape}
use Rattle.md_cotree.specs.Cotrees.{place_at, IsKeptAs, Denotes}
use Rattle.md_cotree.proofs.Kept.{one_graph}
use Rattle.md_cotree.proofs.NoPaths.{cotree_no_path}
use Rattle.md_cotree_edit.specs.Counts.{crossing}
use Rattle.md_cotree_edit.specs.Turns.{BothView, both_tree, OneView, one_tree, IsLifted, IsMeetingOf, turned_graph}
use Rattle.md_cotree_edit.specs.declared.finding.Meeting.TheVariants.{Both, First, Second, Apart}
use Rattle.md_cotree_edit.proofs.Trees.KeptTrees.{from_fits}
use Rattle.md_cotree_edit.proofs.Trees.AdjacencyByCounts.{graph_in, has_counted, told_graph}
use Rattle.md_cotree_edit.proofs.Trees.KeptNames.{kept_tips, kept_named, kept_room}
use Rattle.md_cotree_edit.proofs.Trees.EditedCotree.{kept_some, settled, place_there}
use Rattle.md_cotree_edit.proofs.EdgeTurns.MeetingNode.{Site, site_turned, site, site_parent, IsBothView, IsOneView, find_both, find_one}
use Rattle.md_cotree_edit.proofs.EdgeTurns.ApartByParents.{turned_sym, far_path}

-- what an edit meets
abbrev pub CanTurn : Cotree → ℕ → ℕ → Bool → Type 0
CanTurn c u v k = (g : PlainGraph) × Denotes c g × Has g.vertices u × Has g.vertices v × (u ≢ v) × (adjacent g u v ≡ k)

-- what it gives
abbrev pub Turns : Cotree → Links → ℕ → ℕ → Bool → Type 0
Turns c m u v k = (g : PlainGraph) → Denotes c g → Denotes (record c { lists = m }) (turned_graph k g u v)

module _ (c : Cotree) (ok : AreLinks c.lists) (u v : ℕ) (k : Bool) (can : CanTurn c u v k) where
  abbrev kept_t : (t : PlaceTree) × IsKeptAs c (Some t) × (graph_in t ≡ can.0)
  kept_t = kept_some c can.0 u can.1 can.2

  abbrev t : PlaceTree
  t = kept_t.0

  abbrev kept : IsKeptAs c (Some t)
  kept = kept_t.1

  has : (x : ℕ) → Has can.0.vertices x → Has (names (shape t)) x
  has x h = subst (λ g. Has g.vertices x) (sym kept_t.2) h

  there : (x : ℕ) → Has can.0.vertices x → is_some (place_at c x) ≡ true
  there x h = place_there c t kept x (has x h)

  pub left_there : is_some (place_at c u) ≡ true
  left_there = there u can.2

  pub right_there : is_some (place_at c v) ≡ true
  right_there = there v can.3

  pub turn_room : 1 < spare_count c.lists
  turn_room = let room = kept_room c t kept ok in omega arith

  module _ (a b : ℕ) (at_a : place_at c u ≡ Some a) (at_b : place_at c v ≡ Some b) where
    pub is_site : Site c.lists t k u v a b
    is_site = site c.lists t k u v a b (record {
      links = ok;
      kept = from_fits c.lists t ok kept.fits;
      alternates = kept.alternates.0;
      named = kept_named c t kept;
      left = kept_tips c t kept a u at_a;
      right = kept_tips c t kept b v at_b;
      differ = can.4;
      has_left = has_counted t u (has u can.2);
      has_right = has_counted t v (has v can.3);
      told = told_graph t (kept_named c t kept) u v (has_counted t u (has u can.2)) (has_counted t v (has v can.3)) ∙ ap (λ z. cond z 1 0) is_k;
    })
      where
        is_k : adjacent (graph_in t) u v ≡ k
        is_k = ap (λ g. adjacent g u v) kept_t.2 ∙ can.5

    pub left_parent : (p : ℕ) × (parent_at c.lists a ≡ Some p)
    left_parent = site_parent c.lists ok t k u v a b is_site

    pub right_parent : (p : ℕ) × (parent_at c.lists b ≡ Some p)
    right_parent = site_parent c.lists ok t k v u b a (site_turned c.lists t k u v a b is_site)

    pub both_is : (w : ℕ) → IsMeetingOf c.lists a b (Both w) → IsBothView c.lists t k u v a b w
    both_is w is = find_both c.lists ok t k u v a b w is_site is.0 is.1

    pub first_is : (w q : ℕ) → IsMeetingOf c.lists a b (First w q) → IsOneView c.lists t k u v a q b w
    first_is w q is = find_one c.lists ok t k u v a q b w is_site is.0 is.1 is.2 is.3

    pub second_is : (w q : ℕ) → IsMeetingOf c.lists a b (Second w q) → IsOneView c.lists t k v u b q a w
    second_is w q is = find_one c.lists ok t k v u b q a w (site_turned c.lists t k u v a b is_site) is.0 is.1 is.2 is.3

    abbrev pub both_view : (w : ℕ) → IsBothView c.lists t k u v a b w → BothView
    both_view w at = record { frames = at.frames; left = u; right = v; rest = at.rest }

    abbrev pub first_view : (w q : ℕ) → IsOneView c.lists t k u v a q b w → OneView
    first_view w q at = record { frames = at.frames; left = u; right = v; beside = at.beside; rest = at.rest }

    abbrev pub second_view : (w q : ℕ) → IsOneView c.lists t k v u b q a w → OneView
    second_view w q at = record { frames = at.frames; left = v; right = u; beside = at.beside; rest = at.rest }

    module _ (m : Links) (ok_m : AreLinks m) (unmarked : m.marked ≡ []) where
      every : Denotes (record c { lists = m }) (turned_graph k can.0 u v) → Turns c m u v k
      every is g den = subst (λ h. Denotes (record c { lists = m }) (turned_graph k h u v)) (one_graph c can.0 g can.1 den) is

      pub both_done : (w : ℕ) → (at : IsBothView c.lists t k u v a b w) → IsLifted m (both_tree w a b k (both_view w at)) k (crossing (tip a u) (tip b v)) → Turns c m u v k
      both_done w at lifted = every (settled c t kept (both_tree w a b k (both_view w at)) at.same m ok_m unmarked k a b u v lifted can.0 kept_t.2 can.2 can.3 can.4)

      pub first_done : (w q : ℕ) → (at : IsOneView c.lists t k u v a q b w) → IsLifted m (one_tree w a q b k (first_view w q at)) k (crossing (tip a u) (tip b v)) → Turns c m u v k
      first_done w q at lifted = every (settled c t kept (one_tree w a q b k (first_view w q at)) at.same m ok_m unmarked k a b u v lifted can.0 kept_t.2 can.2 can.3 can.4)

      pub second_done : (w q : ℕ) → (at : IsOneView c.lists t k v u b q a w) → IsLifted m (one_tree w b q a k (second_view w q at)) k (crossing (tip b v) (tip a u)) → Turns c m u v k
      second_done w q at lifted =
          every (subst (Denotes (record c { lists = m })) (turned_sym k can.0 u v)
          (settled c t kept (one_tree w b q a k (second_view w q at)) at.same m ok_m unmarked k b a v u lifted can.0 kept_t.2 can.3 can.2 (λ e. can.4 (sym e))))

      pub none_refused : Turns c m u v k → (g : PlainGraph) → Denotes c g → (false ≡ true) ↔ HasInducedPath (adjacent (turned_graph k g u v)) (turned_graph k g u v).vertices
      none_refused turns g den = (
        (λ e. absurd (false≢true e)),
        (λ path. absurd (cotree_no_path (record c { lists = m }) (turned_graph k g u v) (turns g den) path)),
      )

    pub refused : IsMeetingOf c.lists a b Apart → (g : PlainGraph) → Denotes c g → (true ≡ true) ↔ HasInducedPath (adjacent (turned_graph k g u v)) (turned_graph k g u v).vertices
    refused is g den = (
      (λ e. subst (λ h. HasInducedPath (adjacent (turned_graph k h u v)) (turned_graph k h u v).vertices) (kept_t.2 ∙ one_graph c can.0 g can.1 den)
          (far_path c.lists ok t (kept_named c t kept) k u v a b is_site can.4 (has_counted t u (has u can.2)) (has_counted t v (has v can.3)) (ap (λ g. adjacent g u v) kept_t.2 ∙ can.5)
          is.0 is.1 is.2 is.3 is.4 is.5 is.6)),
      (λ path. refl),
    )
