-- A vertex leaves the graph of a cotree, from the cotree to the cotree.
use Rattle.std.proofs.Common.{◌≡◌, ◌≢◌, ℕ, ◌+◌, ◌-◌, ◌<◌, true, cond, ◌&&◌, ◌==◌, [], length, get_or, set, Option, Some, None, is_some, refl, sym, ◌∙◌, ap, subst, inl, inr, arith}
use Rattle.std.proofs.lemmas.Bool.{cases_eq, eq-eqb, ne_eqb}
use Rattle.std.specs.FinSet as sets
use Rattle.std.specs.Option.{option_map}
use Rattle.md_graph.specs.Sets.{Has}
use Rattle.md_graph.specs.PlainGraph.{PlainGraph, neighbours, without_vertex}
use Rattle.md_lists.specs.Words.{holds_once}
use Rattle.md_lists.specs.Links.{Links, AreLinks}
use Rattle.md_lists.proofs.LinkLaws.{get_or-set, some_within}
use Rattle.md_tree.specs.Trees.{names}
use Rattle.md_cotree.specs.declared.cotree.Cotree.{Cotree}
use Rattle.md_cotree.specs.PlaceTrees.{PlaceTree, tip, inner, PlaceTrees, no_more, then, place_of, leaves_among, leaf_count, Alternates, shape, FillsLists}
use Rattle.md_cotree.specs.Cotrees.{AreEntries, root_row, place_at, IsKeptAs, Denotes}
use Rattle.md_cotree.proofs.Frames.{hit, test_both, test_none}
use Rattle.md_cotree.proofs.Kept.{one_graph}
use Rattle.md_cotree_edit.specs.Counts.{name_in, name_row, edge_in, edge_row}
use Rattle.md_cotree_edit.specs.Contexts.{AreTreesKept}
use Rattle.md_cotree_edit.specs.Deletions.{PruneView, leaf_tree, CanPrune, IsPruned, HasFew}
use Rattle.md_cotree_edit.proofs.Trees.SameRows.{SameRow, same_refl, tree_name, tree_edge}
use Rattle.md_cotree_edit.proofs.Trees.KeptTrees.{from_fits, to_fits, same_root, kept_along}
use Rattle.md_cotree_edit.proofs.Trees.AdjacencyByCounts.{graph_in, has_counted}
use Rattle.md_cotree_edit.proofs.Trees.KeptNames.{kept_tips, kept_named}
use Rattle.md_cotree_edit.proofs.Trees.EditedCotree.{kept_some, place_there}
use Rattle.md_cotree_edit.proofs.Deletions.PrunedLeaf.{long_low}
use Rattle.md_cotree_edit.proofs.Trees.LeafFrames.{IsLeafAt, leaf_at}
use Rattle.md_cotree_edit.proofs.Trees.GraphWithoutName.{graph_without, has_few}

-- the trees that are kept stand in the lists with their children in some order
record AreFound (n : Links) (o : Option PlaceTree) : Type 0 where
  tree : Option PlaceTree
  fits : FillsLists n (root_row tree)
  same : SameRow (root_row o) (root_row tree)
  root : option_map place_of tree ≡ option_map place_of o

found : (n : Links) → AreLinks n → (o : Option PlaceTree) → AreTreesKept n (root_row o) → AreFound n o
found n ok None kept = record { tree = None; fits = record { stand = tt; each = kept.each }; same = same_refl no_more; root = refl }
found n ok (Some s) kept =
    let f = to_fits n ok s kept in
    record { tree = Some f.0; fits = f.1; same = f.2; root = ap Some (same_root s f.0 f.2) }

some_leaf : (t : PlaceTree) → Alternates t → 0 < leaf_count t
some_leaf (tip p v) is = omega arith
some_leaf (inner p k ts) is = let e = long_low ts is.2 in let two = is.0 in omega arith

-- what the call meets
abbrev pub CanDelete : Cotree → ℕ → Type 0
CanDelete c x = (g : PlainGraph) × Denotes c g × Has g.vertices x

module _ (c : Cotree) (x : ℕ) (can : CanDelete c x) where
  abbrev kept_t : (t : PlaceTree) × IsKeptAs c (Some t) × (graph_in t ≡ can.0)
  kept_t = kept_some c can.0 x can.1 can.2

  abbrev t : PlaceTree
  t = kept_t.0

  abbrev kept : IsKeptAs c (Some t)
  kept = kept_t.1

  has_x : Has (names (shape t)) x
  has_x = subst (λ g. Has g.vertices x) (sym kept_t.2) can.2

  pub delete_there : is_some (place_at c x) ≡ true
  delete_there = place_there c t kept x has_x

  pub delete_unmarked : c.lists.marked ≡ []
  delete_unmarked = kept.unmarked

  module _ (ok : AreLinks c.lists) (a : ℕ) (at_a : place_at c x ≡ Some a) where
    pub site : IsLeafAt t a x
    site = leaf_at t a x (let e = kept_tips c t kept a x at_a a in let h = hit a a refl in omega arith)

    abbrev pub delete_view : PruneView
    delete_view = record { frames = site.frames; name = x }

    abbrev whole : PlaceTree
    whole = leaf_tree a delete_view

    pub delete_can : CanPrune c.lists c.root a delete_view
    delete_can = record {
      is = record {
        kept = kept_along c.lists (then t no_more) (then whole no_more) site.same (from_fits c.lists t ok kept.fits);
        root = kept.root ∙ ap Some (sym (same_root t whole site.same));
      };
      alternates = (site.same.alternates kept.alternates).0;
      once = λ v. let e = tree_name t whole site.same v in let f = (kept_named c t kept).once v in omega arith;
    }

    pub delete_some : 0 < c.leaves
    delete_some = let e = kept.leaves in let f = some_leaf t (kept.alternates).0 in omega arith

    pub delete_few : (g : PlainGraph) → Denotes c g → HasFew (sets.len (neighbours g x)) x whole
    delete_few g den = subst (λ h. HasFew (sets.len (neighbours h x)) x whole) (kept_t.2 ∙ one_graph c can.0 g can.1 den) few
      where
        few : HasFew (sets.len (neighbours (graph_in t) x)) x whole
        few =
            let is = has_few t (kept_named c t kept) x (has_counted t x has_x) in
            record { few = λ zs once joined. is.few zs once (λ y some. (let j = joined y some in let e = tree_edge t whole site.same x y in omega arith)) }

    module _ (n : Links) (ok_n : AreLinks n) (unmarked : n.marked ≡ []) (r : Option ℕ) (pruned : IsPruned n r a delete_view) (e : Cotree)
        (lists : e.lists ≡ n) (root : e.root ≡ r) (places : e.places.items ≡ set c.places.items x None) (entries : AreEntries c.places → AreEntries e.places) (leaves : e.leaves ≡ c.leaves - 1) where
      abbrev spot : AreFound n pruned.tree
      spot = found n ok_n pruned.tree pruned.kept

      abbrev row : PlaceTrees
      row = root_row spot.tree

      without_named : (v : ℕ) → name_row v row + cond (x == v) 1 0 ≡ name_in v t
      without_named v = let e = spot.same.named v in let f = pruned.without.named v in let g = tree_name t whole site.same v in omega arith

      without_edges : (y z : ℕ) → x ≢ y → x ≢ z → edge_row y z row ≡ edge_in y z t
      without_edges y z ny nz = spot.same.edges y z ∙ pruned.without.edges y z ny nz ∙ tree_edge t whole site.same y z

      without_tips : (p v : ℕ) → leaves_among p v row + cond ((a == p) && (x == v)) 1 0 ≡ holds_once (place_at c v) p
      without_tips p v = let e = spot.same.tips p v in let f = pruned.without.tips p v in let g = site.same.tips p v in let h = kept.names v p in omega arith

      within : x < length c.places.items
      within = some_within c.places.items (length c.places.items) x refl delete_there

      new_place : (v : ℕ) → place_at e v ≡ cond (v == x) None (place_at c v)
      new_place v = ap (λ items. get_or items v None) places ∙ get_or-set c.places.items x v None None within

      new_names : (v p : ℕ) → leaves_among p v row ≡ holds_once (place_at e v) p
      new_names v p =
          elim (cases_eq v x) [
            | inl same ↦
                let f : holds_once (place_at e v) p ≡ 0 = ap (λ o. holds_once o p) (new_place v ∙ ap (λ b. cond b None (place_at c v)) (eq-eqb v x same)) in
                let g : holds_once (place_at c v) p ≡ cond (a == p) 1 0 = ap (λ o. holds_once o p) (ap (place_at c) same ∙ at_a) in
                let h = without_tips p v in
                let i = test_both (a == p) (x == v) (eq-eqb x v (sym same)) in
                omega arith
            | inr other ↦
                let f : holds_once (place_at e v) p ≡ holds_once (place_at c v) p = ap (λ o. holds_once o p) (new_place v ∙ ap (λ b. cond b None (place_at c v)) (ne_eqb v x other)) in
                let h = without_tips p v in
                let i = test_none (a == p) (x == v) (ne_eqb x v (λ z. other (sym z))) in
                omega arith
          ]

      new_kept : IsKeptAs e spot.tree
      new_kept = record {
        fits = subst (λ z. FillsLists z row) (sym lists) spot.fits;
        root = root ∙ pruned.root ∙ sym spot.root;
        entries = entries kept.entries;
        names = new_names;
        leaves = let e = spot.same.leaves in let f = pruned.without.leaves in let g = site.same.leaves in let h = kept.leaves in omega arith;
        alternates = spot.same.alternates pruned.alternates;
        unmarked = ap (λ (z : Links). z.marked) lists ∙ unmarked;
      }

      pub deleted : (g : PlainGraph) → Denotes c g → Denotes e (without_vertex g x)
      deleted g den = (
        spot.tree,
        new_kept,
        graph_without t (kept_named c t kept) x spot.tree without_named without_edges ∙ ap (λ h. without_vertex h x) (kept_t.2 ∙ one_graph c can.0 g can.1 den),
      )
