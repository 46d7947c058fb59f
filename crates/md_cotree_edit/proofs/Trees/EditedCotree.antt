-- The cotree after an edit.
use Rattle.std.proofs.Common.{◌≡◌, ◌≢◌, ℕ, ◌+◌, Bool, true, false, cond, [], Option, Some, None, Result, Ok, Err, OnOk, OnErr, sym, ◌∙◌, ap, subst, arith, is_some, refl}
use Rattle.std.specs.Option.{option_map}
use Rattle.md_graph.specs.Sets.{Has}
use Rattle.md_graph.specs.PlainGraph.{PlainGraph}
use Rattle.md_graph.proofs.SetLemmas.{clash, empty_lacks}
use Rattle.md_lists.specs.Links.{Links, AreLinks}
use Rattle.md_tree.specs.Trees.{names}
use Rattle.md_tree.specs.TreeGraph.{graph_of_tree}
use Rattle.md_cotree.specs.declared.cotree.Cotree.{Cotree}
use Rattle.md_cotree.specs.PlaceTrees.{PlaceTree, tip, no_more, then, shape, FillsLists}
use Rattle.md_cotree.specs.Cotrees.{IsKeptAs, IsSoundCotree, Denotes, place_at}
use Rattle.md_cotree_edit.specs.Counts.{name_in, edge_in, crossing}
use Rattle.md_cotree_edit.specs.Turns.{IsLifted, turned_graph}
use Rattle.md_cotree_edit.proofs.Trees.SameRows.{SameTree, tree_name, tree_edge}
use Rattle.md_cotree_edit.proofs.Trees.KeptTrees.{same_root, to_fits}
use Rattle.md_cotree_edit.proofs.Trees.AdjacencyByCounts.{graph_in, graph_joined, graph_parted}
use Rattle.md_cotree_edit.proofs.Trees.KeptNames.{kept_named}
use Rattle.md_cotree.proofs.Leaves.{no_place}

-- a vertex stands in a tree
-- a name of the tree has a place
pub place_there : (c : Cotree) (t : PlaceTree) → IsKeptAs c (Some t) → (v : ℕ) → Has (names (shape t)) v → is_some (place_at c v) ≡ true
place_there c t kept v has = go (place_at c v) refl
  where
    go : (o : Option ℕ) → place_at c v ≡ o → is_some o ≡ true
    go None none = absurd (clash has (no_place c t kept v none))
    go (Some p) is = refl

pub kept_some : (c : Cotree) (g : PlainGraph) (u : ℕ) → Denotes c g → Has g.vertices u → (t : PlaceTree) × IsKeptAs c (Some t) × (graph_in t ≡ g)
kept_some c g u is h = go is.0 is.1 is.2
  where
    go : (o : Option PlaceTree) → IsKeptAs c o → graph_of_tree (option_map shape o) ≡ g → (t : PlaceTree) × IsKeptAs c (Some t) × (graph_in t ≡ g)
    go None kept same = absurd (clash (subst (λ k. Has k.vertices u) (sym same) h) (empty_lacks u))
    go (Some t) kept same = (t, kept, same)

module _ (c : Cotree) (t : PlaceTree) (kept : IsKeptAs c (Some t)) (whole : PlaceTree) (same : SameTree t whole) (m : Links) (ok : AreLinks m) (unmarked : m.marked ≡ [])
    (series : Bool) (a b u v : ℕ) (lifted : IsLifted m whole series (crossing (tip a u) (tip b v))) where
  abbrev found : (s : PlaceTree) × FillsLists m (then s no_more) × SameTree lifted.tree s
  found = to_fits m ok lifted.tree lifted.kept

  abbrev s : PlaceTree
  s = found.0

  settled_names : (x : ℕ) → name_in x s ≡ name_in x t
  settled_names x = tree_name lifted.tree s found.2 x ∙ lifted.turned.named x ∙ tree_name t whole same x

  settled_kept : IsKeptAs (record c { lists = m }) (Some s)
  settled_kept = record {
    fits = found.1;
    root = kept.root ∙ ap Some (sym (same_root lifted.tree s found.2 ∙ lifted.place ∙ same_root t whole same));
    entries = kept.entries;
    names = λ x p. let e = found.2.tips p x in let f = lifted.turned.tips p x in let g = same.tips p x in let h = kept.names x p in omega arith;
    leaves = let e = found.2.leaves in let f = lifted.turned.leaves in let g = same.leaves in let h = kept.leaves in omega arith;
    alternates = found.2.alternates (lifted.alternates, tt);
    unmarked = unmarked;
  }

  settled_edges : (x y : ℕ) → edge_in x y s + cond series (crossing (tip a u) (tip b v) x y) 0 ≡ edge_in x y t + cond series 0 (crossing (tip a u) (tip b v) x y)
  settled_edges x y = add_up _ _ _ _ _ _ (tree_edge lifted.tree s found.2 x y) (lifted.turned.edges x y) (tree_edge t whole same x y)
    where
      add_up : (s tree whole t c d : ℕ) → s ≡ tree → tree + c ≡ whole + d → whole ≡ t → s + c ≡ t + d
      add_up s tree whole t c d e f g = omega arith

  settled_graph : Has (names (shape t)) u → Has (names (shape t)) v → u ≢ v → graph_in s ≡ turned_graph series (graph_in t) u v
  settled_graph hu hv differ = go series settled_edges
    where
      go : (series : Bool) → ((x y : ℕ) → edge_in x y s + cond series (crossing (tip a u) (tip b v) x y) 0 ≡ edge_in x y t + cond series 0 (crossing (tip a u) (tip b v) x y)) →
          graph_in s ≡ turned_graph series (graph_in t) u v
      go true edges = graph_parted t s (kept_named c t kept) settled_names a b u v hu hv differ (λ x y. edges x y ∙ omega arith)
      go false edges = graph_joined t s (kept_named c t kept) settled_names a b u v hu hv differ (λ x y. (let e = edges x y in omega arith))

  pub settled : (g : PlainGraph) → graph_in t ≡ g → Has g.vertices u → Has g.vertices v → u ≢ v → Denotes (record c { lists = m }) (turned_graph series g u v)
  settled g is hu hv differ = (
    Some s,
    settled_kept,
    settled_graph (subst (λ k. Has k.vertices u) (sym is) hu) (subst (λ k. Has k.vertices v) (sym is) hv) differ ∙ ap (λ k. turned_graph series k u v) is,
  )

-- done or refused, a cotree is sound
pub still_sound : {A B : Type 0} (r : Result A B) (old new : Cotree) (g h : PlainGraph) → Denotes old g → OnOk r (Denotes new h) → OnErr r (new ≡ old) → IsSoundCotree new
still_sound (Ok x) old new g h is done same = (done.0, done.1)
still_sound (Err e) old new g h is done same = subst IsSoundCotree (sym same) (is.0, is.1)
