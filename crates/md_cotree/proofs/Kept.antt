-- A cotree keeps one tree, since the lists say of each place what stands there.
use Rattle.std.proofs.Common.{◌≡◌, ℕ, Bool, true, false, List, ◌∷◌, Option, Some, None, refl, sym, ◌∙◌, ap}
use Rattle.std.proofs.lemmas.Option.{none-some, same_Some}
use Rattle.std.specs.Option.{option_map}
use Rattle.md_lists.specs.declared.kinds.PlaceKind.{PlaceKind}
use Rattle.md_lists.specs.declared.kinds.PlaceKind.TheVariants.{Leaf}
use Rattle.md_lists.specs.Links.{Links, kind_at, children_at}
use Rattle.md_tree.specs.TreeGraph.{graph_of_tree}
use Rattle.md_cotree.specs.PlaceTrees.{PlaceTree, tip, inner, PlaceTrees, no_more, then, place_of, roots, place_kind, Stands, StandsBelow, shape}
use Rattle.md_cotree.specs.CotreeLaws.{OneTreeOfACotree, OneGraphOfACotree}

pub same_leaf : (v w : ℕ) → ◌≡◌ {A = Option PlaceKind} (Some (Leaf v)) (Some (Leaf w)) → v ≡ w
same_leaf v w e = cc

pub no_leaf : (v : ℕ) (k : Bool) → ◌≡◌ {A = Option PlaceKind} (Some (Leaf v)) (Some (place_kind k)) → ⊥
no_leaf v true e = cc
no_leaf v false e = cc

pub same_kind : (k j : Bool) → ◌≡◌ {A = Option PlaceKind} (Some (place_kind k)) (Some (place_kind j)) → k ≡ j
same_kind true true e = refl
same_kind true false e = cc
same_kind false true e = cc
same_kind false false e = refl

same_first : (x y : ℕ) (xs ys : List ℕ) → x ∷ xs ≡ y ∷ ys → x ≡ y
same_first x y xs ys e = cc

same_rest : (x y : ℕ) (xs ys : List ℕ) → x ∷ xs ≡ y ∷ ys → xs ≡ ys
same_rest x y xs ys e = cc

module _ (l : Links) where
  mutual
    same_standing : (t u : PlaceTree) → place_of t ≡ place_of u → Stands l t → Stands l u → t ≡ u
    same_standing (tip p v) (tip q w) same a b =
        λ i. tip (same i) (same_leaf v w (sym a.0 ∙ ap (kind_at l) same ∙ b.0) i)
    same_standing (tip p v) (inner q k us) same a b = absurd (no_leaf v k (sym a.0 ∙ ap (kind_at l) same ∙ b.0))
    same_standing (inner p k ts) (tip q w) same a b = absurd (no_leaf w k (sym b.0 ∙ ap (kind_at l) (sym same) ∙ a.0))
    same_standing (inner p k ts) (inner q j us) same a b =
        λ i. inner (same i) (same_kind k j (sym a.0 ∙ ap (kind_at l) same ∙ b.0) i)
        (same_below ts us p q (sym a.1 ∙ ap (children_at l) same ∙ b.1) a.2 b.2 i)

    same_below : (ts us : PlaceTrees) (p q : ℕ) → roots ts ≡ roots us → StandsBelow l p ts → StandsBelow l q us → ts ≡ us
    same_below no_more no_more p q same a b = refl
    same_below no_more (then u us) p q same a b = cc
    same_below (then t ts) no_more p q same a b = cc
    same_below (then t ts) (then u us) p q same a b =
        λ i. then (same_standing t u (same_first (place_of t) (place_of u) (roots ts) (roots us) same) a.1 b.1 i)
        (same_below ts us p q (same_rest (place_of t) (place_of u) (roots ts) (roots us) same) a.2 b.2 i)

pub one_kept : OneTreeOfACotree
one_kept c None None a b = refl
one_kept c None (Some u) a b = absurd (none-some (place_of u) (sym a.root ∙ b.root))
one_kept c (Some t) None a b = absurd (none-some (place_of t) (sym b.root ∙ a.root))
one_kept c (Some t) (Some u) a b =
    ap Some (same_standing c.lists t u (same_Some (place_of t) (place_of u) (sym a.root ∙ b.root)) a.fits.stand.1 b.fits.stand.1)

pub one_graph : OneGraphOfACotree
one_graph c g h a b = sym a.2 ∙ ap (λ o. graph_of_tree (option_map shape o)) (one_kept c a.0 b.0 a.1 b.1) ∙ b.2
