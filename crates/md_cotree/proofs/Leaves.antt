-- The leaves of a kept tree, and the places that are kept for names.
use Rattle.std.proofs.Common.{◌≡◌, ◌≢◌, ℕ, ◌<◌, false, cond, ◌&&◌, ◌==◌, Option, Some, None, is_some, sym, ◌∙◌, ap, subst, inl, inr, arith}
use Rattle.std.proofs.lemmas.Bool.{cases_eq, cases_lt, eqb-true, eq-eqb, false_from_ne_true}
use Rattle.std.proofs.lemmas.Option.{same_Some}
use Rattle.std.specs.Option.{option_map}
use Rattle.md_graph.specs.Sets.{Has, Lacks}
use Rattle.md_graph.specs.PlainGraph.{PlainGraph, adjacent}
use Rattle.md_graph.proofs.SetLemmas.{clash, only_has, union_left, union_right, empty_lacks}
use Rattle.md_graph.proofs.GraphLemmas.{adjacent_sym, adjacent_ends, adjacent_self}
use Rattle.md_lists.specs.declared.kinds.PlaceKind.{PlaceKind}
use Rattle.md_lists.specs.declared.kinds.PlaceKind.TheVariants.{Leaf}
use Rattle.md_lists.specs.Words.{holds_once}
use Rattle.md_lists.specs.Links.{Links, kind_at, alive, IsLive, AreLinks}
use Rattle.md_lists.proofs.LinkLaws.{holds-once-same, held, child_once}
use Rattle.md_tree.specs.Trees.{names, names_below}
use Rattle.md_tree.specs.TreeGraph.{graph_of_tree}
use Rattle.md_cotree.specs.declared.cotree.Cotree.{Cotree}
use Rattle.md_cotree.specs.PlaceTrees.{PlaceTree, tip, inner, PlaceTrees, no_more, then, place_of, leaves_in, leaves_among, times_in, times_among, shape, shapes, Stands, StandsBelow}
use Rattle.md_cotree.specs.Cotrees.{place_at, IsKeptAs, Denotes}
use Rattle.md_cotree.specs.Climbs.{Meets}
use Rattle.md_cotree.proofs.Kept.{same_leaf, no_leaf}
use Rattle.md_cotree.proofs.NoPaths.{name_stands, kept_below, cotree_graph}
use Rattle.md_cotree.proofs.TreeGraphs.{graph_tells}
use Rattle.md_cotree.proofs.Room.{room}
use Rattle.md_cotree.proofs.Frames.{hit, miss, some_of}
use Rattle.md_cotree.proofs.Meeting.{stands_hangs, OneLeaf, meet_in}

-- a leaf of a tree that stands
pub record LeafStands (l : Links) (t : PlaceTree) (p v : ℕ) : Type 0 where
  pub kind : kind_at l p ≡ Some (Leaf v)
  pub has : Has (names (shape t)) v
  pub place : 0 < times_in p t

mutual
  pub leaf_stands : (l : Links) (t : PlaceTree) (p v : ℕ) → Stands l t → 0 < leaves_in p v t → LeafStands l t p v
  leaf_stands l (tip q w) p v is some =
      let both = some_of (q == p) (w == v) some in
      let place : q ≡ p = eqb-true q p both.0 in
      let name : w ≡ v = eqb-true w v both.1 in
      record {
        kind = ap (kind_at l) (sym place) ∙ is.0 ∙ ap (λ z. Some (Leaf z)) name;
        has = subst (λ z. Has (names (shape (tip q w))) z) name (only_has w);
        place = let h = hit q p place in omega arith;
      }
  leaf_stands l (inner q k ts) p v is some =
      let at = leaf_below l ts q p v is.2 some in
      record { kind = at.0; has = at.1; place = let more = at.2 in omega arith }

  leaf_below : (l : Links) (ts : PlaceTrees) (r p v : ℕ) → StandsBelow l r ts → 0 < leaves_among p v ts → (kind_at l p ≡ Some (Leaf v)) × Has (names_below (shapes ts)) v × (0 < times_among p ts)
  leaf_below l no_more r p v is some = absurd (omega arith)
  leaf_below l (then t ts) r p v is some =
      elim (cases_lt 0 (leaves_in p v t)) [
        | inl here ↦
            let at = leaf_stands l t p v is.1 here in
            (at.kind, union_left (names (shape t)) (names_below (shapes ts)) v at.has, let more = at.place in omega arith)
        | inr none ↦
            let at = leaf_below l ts r p v is.2 (omega arith) in
            (at.0, union_right (names (shape t)) (names_below (shapes ts)) v at.1, let more = at.2 in omega arith)
      ]

mutual
  kind_leaf : (l : Links) (t : PlaceTree) (p v : ℕ) → Stands l t → 0 < times_in p t → kind_at l p ≡ Some (Leaf v) → 0 < leaves_in p v t
  kind_leaf l (tip q w) p v is some kind =
      elim (cases_eq q p) [
        | inl same ↦
            let name : w ≡ v = same_leaf w v (sym is.0 ∙ ap (kind_at l) same ∙ kind) in
            subst (λ b. 0 < cond b 1 0) (λ i. sym (eq-eqb q p same) i && sym (eq-eqb w v name) i) (omega arith)
        | inr other ↦ absurd (let m = miss q p other in omega arith)
      ]
  kind_leaf l (inner q k ts) p v is some kind =
      elim (cases_eq q p) [
        | inl same ↦ absurd (no_leaf v k (sym kind ∙ ap (kind_at l) (sym same) ∙ is.0))
        | inr other ↦ kind_below l ts q p v is.2 (let m = miss q p other in omega arith) kind
      ]

  kind_below : (l : Links) (ts : PlaceTrees) (r p v : ℕ) → StandsBelow l r ts → 0 < times_among p ts → kind_at l p ≡ Some (Leaf v) → 0 < leaves_among p v ts
  kind_below l no_more r p v is some kind = absurd (omega arith)
  kind_below l (then t ts) r p v is some kind =
      elim (cases_lt 0 (times_in p t)) [
        | inl here ↦ let low = kind_leaf l t p v is.1 here kind in omega arith
        | inr none ↦ let low = kind_below l ts r p v is.2 (omega arith) kind in omega arith
      ]

module _ (c : Cotree) (t : PlaceTree) (kept : IsKeptAs c (Some t)) where
  -- the leaf at the place that is kept for a name
  pub kept_leaf : (v p : ℕ) → place_at c v ≡ Some p → LeafStands c.lists t p v
  kept_leaf v p is =
      leaf_stands c.lists t p v kept.fits.stand.1
      (let e = kept.names v p ∙ ap (λ o. holds_once o p) is ∙ holds-once-same p in omega arith)

  pub no_place : (v : ℕ) → place_at c v ≡ None → Lacks (names (shape t)) v
  no_place v is = false_from_ne_true _ (λ h.
      let at = name_stands t v h in
      let e = kept.names v at.0 ∙ ap (λ o. holds_once o at.0) is in
      let some = at.1 in
      omega arith)

  pub leaf_place : (v p : ℕ) → kind_at c.lists p ≡ Some (Leaf v) → place_at c v ≡ Some p
  leaf_place v p is =
      held (place_at c v) p
      (let live : alive c.lists p ≡ 1 = ap (λ (o : Option PlaceKind). cond (is_some o) 1 0) is in
      let times = kept.fits.each p in
      let some = kind_leaf c.lists t p v kept.fits.stand.1 (omega arith) is in
      let e = kept.names v p in
      omega arith)

  pub one_leaf : OneLeaf c.lists
  one_leaf v p q a b = same_Some p q (sym (leaf_place v p a) ∙ leaf_place v q b)

  -- the ways up from two leaves meet where the graph says
  pub kept_meets : AreLinks c.lists → (u v p q : ℕ) → u ≢ v → place_at c u ≡ Some p → place_at c v ≡ Some q → Meets c.lists p q (adjacent (graph_of_tree (Some (shape t))) u v)
  kept_meets ok u v p q differ is_u is_v =
      let a = kept_leaf u p is_u in
      let b = kept_leaf v q is_v in
      let m = meet_in c.lists one_leaf (child_once c.lists ok) t (stands_hangs c.lists t kept.fits.stand.1) u v p q differ a.has b.has a.kind b.kind in
      let all = room c.lists (then t no_more) ok kept.fits in
      subst (Meets c.lists p q) (graph_tells (shape t) (kept_below c t kept) u v a.has b.has)
      (record {
        root = place_of t;
        no_parent = kept.fits.stand.0;
        below = record {
          left_steps = m.left_steps;
          right_steps = m.right_steps;
          steps_on = m.steps_on;
          meet = m.meet;
          on = m.on;
          left_few = let few = m.left_few in omega arith;
          right_few = let few = m.right_few in omega arith;
        };
      })

-- ---- for the cotree

-- a place is kept: there is a tree, where the leaf stands
pub place_live : (c : Cotree) (o : Option PlaceTree) (v p : ℕ) → IsKeptAs c o → place_at c v ≡ Some p → IsLive c.lists p
place_live c None v p kept is = absurd (let e = kept.names v p ∙ ap (λ z. holds_once z p) is ∙ holds-once-same p in omega arith)
place_live c (Some t) v p kept is = ap is_some (kept_leaf c t kept v p is).kind

pub place_meets : (c : Cotree) (o : Option PlaceTree) → IsKeptAs c o → AreLinks c.lists → (u v p q : ℕ) → u ≢ v → place_at c u ≡ Some p → place_at c v ≡ Some q →
    Meets c.lists p q (adjacent (graph_of_tree (option_map shape o)) u v)
place_meets c None kept ok u v p q differ is_u is_v = absurd (let e = kept.names u p ∙ ap (λ z. holds_once z p) is_u ∙ holds-once-same p in omega arith)
place_meets c (Some t) kept ok u v p q differ is_u is_v = kept_meets c t kept ok u v p q differ is_u is_v

-- a name without a leaf is adjacent to none
pub no_leaf_left : (c : Cotree) (g : PlainGraph) → Denotes c g → (u v : ℕ) → place_at c u ≡ None → adjacent g u v ≡ false
no_leaf_left c g is u v none = false_from_ne_true _ (λ h. go is.0 is.1 is.2 (adjacent_ends (cotree_graph c g is) u v h).0)
  where
    go : (o : Option PlaceTree) → IsKeptAs c o → graph_of_tree (option_map shape o) ≡ g → Has g.vertices u → ⊥
    go None kept same h = clash (subst (λ k. Has k.vertices u) (sym same) h) (empty_lacks u)
    go (Some t) kept same h = clash (subst (λ k. Has k.vertices u) (sym same) h) (no_place c t kept u none)

pub no_leaf_right : (c : Cotree) (g : PlainGraph) → Denotes c g → (u v : ℕ) → place_at c v ≡ None → adjacent g u v ≡ false
no_leaf_right c g is u v none = adjacent_sym g u v ∙ no_leaf_left c g is v u none

pub no_loop : (c : Cotree) (g : PlainGraph) → Denotes c g → (u v : ℕ) → u ≡ v → adjacent g u v ≡ false
no_loop c g is u v same = ap (λ z. adjacent g u z) (sym same) ∙ adjacent_self (cotree_graph c g is) u
