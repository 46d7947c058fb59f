-- Trees that hang in the lists, with their children in any order: the ways up from two leaves meet where the tree says whether their
-- names are adjacent.
use Rattle.std.proofs.Common.{◌≡◌, ◌≢◌, ℕ, suc, ◌<◌, ◌≤◌, Bool, true, false, cond, [], Some, refl, sym, ◌∙◌, ap, subst, inl, inr, arith}
use Rattle.std.proofs.lemmas.Bool.{cases_Bool, cases_eq, eq-eqb, ne_eqb}
use Rattle.std.specs.FinSet.{contains}
use Rattle.std.specs.Prelude.{⊤}
use Rattle.md_graph.specs.Sets.{Has, Lacks}
use Rattle.md_graph.proofs.SetLemmas.{clash, of_only, empty_lacks, of_union}
use Rattle.md_lists.specs.declared.kinds.PlaceKind.TheVariants.{Leaf}
use Rattle.md_graph.specs.Linked.{times}
use Rattle.md_lists.specs.Links.{Links, kind_at, parent_at, children_at}
use Rattle.md_tree.specs.Trees.{names, names_below}
use Rattle.md_tree.specs.TreeGraph.{position_of, joins, adjacent_in, adjacent_below}
use Rattle.md_tree.proofs.Edges.{here as first_place, later as later_place}
use Rattle.md_cotree.specs.PlaceTrees.{PlaceTree, tip, inner, PlaceTrees, no_more, then, place_of, roots, place_kind, kind_of, node_count, node_counts, shape, shapes, Stands, StandsBelow}
use Rattle.md_cotree.specs.Climbs.{Climbs, MeetBelow}
use Rattle.md_cotree.proofs.Frames.{hit}
use Rattle.md_cotree.proofs.NoPaths.{here_too, there_too, later_same}
use Rattle.md_cotree.proofs.Ways.{climb_more}

abbrev mutual
  -- the tree hangs in the lists: as it stands there, but for the order of children
  pub Hangs : Links → PlaceTree → Type 0
  Hangs l (tip p v) = kind_at l p ≡ Some (Leaf v)
  Hangs l (inner p k ts) = (kind_at l p ≡ Some (place_kind k)) × ((c : ℕ) → times c (roots ts) ≡ times c (children_at l p)) × HangBelow l p ts

  pub HangBelow : Links → ℕ → PlaceTrees → Type 0
  HangBelow l q no_more = ⊤
  HangBelow l q (then t ts) = (parent_at l (place_of t) ≡ Some q) × Hangs l t × HangBelow l q ts

mutual
  pub stands_hangs : (l : Links) (t : PlaceTree) → Stands l t → Hangs l t
  stands_hangs l (tip p v) is = is.0
  stands_hangs l (inner p k ts) is = (is.0, (λ c. ap (times c) (sym is.1)), stand_hang l p ts is.2)

  stand_hang : (l : Links) (q : ℕ) (ts : PlaceTrees) → StandsBelow l q ts → HangBelow l q ts
  stand_hang l q no_more is = tt
  stand_hang l q (then t ts) is = (is.0, stands_hangs l t is.1, stand_hang l q ts is.2)

-- a name of a row that isn't in its first tree is in the others
in_rest : (t : PlaceTree) (ts : PlaceTrees) (x : ℕ) → Has (names_below (shapes (then t ts))) x → Lacks (names (shape t)) x → Has (names_below (shapes ts)) x
in_rest t ts x h j = elim (of_union (names (shape t)) (names_below (shapes ts)) x h) [ inl i ↦ absurd (clash i j) | inr k ↦ k ]

pub joins_kind : (k : Bool) (i j : ℕ) → joins (kind_of k) [] i j ≡ k
joins_kind true i j = refl
joins_kind false i j = refl

-- each name has one leaf
abbrev pub OneLeaf : Links → Type 0
OneLeaf l = (v p q : ℕ) → kind_at l p ≡ Some (Leaf v) → kind_at l q ≡ Some (Leaf v) → p ≡ q

module _ (l : Links) (one : OneLeaf l) (once : (r c : ℕ) → times c (children_at l r) ≤ 1) where
  -- the way up from a leaf to the root of a tree
  pub record Way (p a n : ℕ) : Type 0 where
    pub steps : ℕ
    pub climbs : Climbs l steps p a
    pub few : steps < n

  -- the way up from a leaf to a child of a place
  record ChildWay (r p n : ℕ) (ts : PlaceTrees) : Type 0 where
    child : ℕ
    way : Way p child n
    parent : parent_at l child ≡ Some r
    some : 0 < times child (roots ts)

  mutual
    pub way_up : (t : PlaceTree) → Hangs l t → (v p : ℕ) → Has (names (shape t)) v → kind_at l p ≡ Some (Leaf v) → Way p (place_of t) (node_count t)
    way_up (tip q w) is v p h leaf =
        record { steps = 0; climbs = one v p q leaf (is ∙ ap (λ z. Some (Leaf z)) (sym (of_only w v h))); few = omega arith }
    way_up (inner r k ts) is v p h leaf =
        let up = child_way ts r is.2 v p h leaf in
        record { steps = suc up.way.steps; climbs = climb_more l up.way.steps p up.child r up.way.climbs up.parent; few = let few = up.way.few in omega arith }

    child_way : (ts : PlaceTrees) (r : ℕ) → HangBelow l r ts → (v p : ℕ) → Has (names_below (shapes ts)) v → kind_at l p ≡ Some (Leaf v) → ChildWay r p (node_counts ts) ts
    child_way no_more r is v p h leaf = absurd (clash h (empty_lacks v))
    child_way (then t ts) r is v p h leaf =
        elim (of_union (names (shape t)) (names_below (shapes ts)) v h) [
          | inl here ↦
              let up = way_up t is.1 v p here leaf in
              record {
                child = place_of t;
                way = record { steps = up.steps; climbs = up.climbs; few = let few = up.few in omega arith };
                parent = is.0;
                some = let e = hit (place_of t) (place_of t) refl in omega arith;
              }
          | inr there ↦
              let up = child_way ts r is.2 v p there leaf in
              record {
                child = up.child;
                way = record { steps = up.way.steps; climbs = up.way.climbs; few = let few = up.way.few in omega arith };
                parent = up.parent;
                some = let some = up.some in omega arith;
              }
        ]

  -- the ways up from two leaves lead to different children of a place
  record Apart (r p q n : ℕ) : Type 0 where
    left : ℕ
    right : ℕ
    left_way : Way p left n
    right_way : Way q right n
    differ : left ≢ right
    left_parent : parent_at l left ≡ Some r
    right_parent : parent_at l right ≡ Some r

  two_ways : (r p q n : ℕ) (ts : PlaceTrees) (t : PlaceTree) → parent_at l (place_of t) ≡ Some r → Way p (place_of t) n → ((c : ℕ) → times c (roots (then t ts)) ≤ 1) → ChildWay r q n ts → Apart r p q n
  two_ways r p q n ts t is up few down = record {
    left = place_of t;
    right = down.child;
    left_way = up;
    right_way = down.way;
    differ = λ e. let low = few down.child in let h = hit (place_of t) down.child e in let some = down.some in omega arith;
    left_parent = is;
    right_parent = down.parent;
  }

  turned : (r p q n : ℕ) → Apart r p q n → Apart r q p n
  turned r p q n a = record { left = a.right; right = a.left; left_way = a.right_way; right_way = a.left_way; differ = λ e. a.differ (sym e); left_parent = a.right_parent; right_parent = a.left_parent }

  wider : (p a n m : ℕ) → n ≤ m → Way p a n → Way p a m
  wider p a n m e w = record { steps = w.steps; climbs = w.climbs; few = let few = w.few in omega arith }

  apart : (ts : PlaceTrees) (r : ℕ) → HangBelow l r ts → ((c : ℕ) → times c (roots ts) ≤ 1) → (u v p q : ℕ) → Has (names_below (shapes ts)) u → Has (names_below (shapes ts)) v →
      position_of (shapes ts) u ≢ position_of (shapes ts) v → kind_at l p ≡ Some (Leaf u) → kind_at l q ≡ Some (Leaf v) → Apart r p q (node_counts ts)
  apart no_more r is few u v p q hu hv differ leaf_u leaf_v = absurd (clash hu (empty_lacks u))
  apart (then t ts) r is few u v p q hu hv differ leaf_u leaf_v =
      elim (cases_Bool (contains (names (shape t)) u)) [
        | inl iu ↦ elim (cases_Bool (contains (names (shape t)) v)) [
          | inl iv ↦ absurd (differ (first_place (shape t) (shapes ts) u iu ∙ sym (first_place (shape t) (shapes ts) v iv)))
          | inr jv ↦
              two_ways r p q (node_counts (then t ts)) ts t is.0 (wider p (place_of t) (node_count t) (node_counts (then t ts)) (omega arith) (way_up t is.1 u p iu leaf_u)) few
              (wide (child_way ts r is.2 v q (in_rest t ts v hv jv) leaf_v))
        ]
        | inr ju ↦ elim (cases_Bool (contains (names (shape t)) v)) [
          | inl iv ↦
              turned r q p (node_counts (then t ts))
              (two_ways r q p (node_counts (then t ts)) ts t is.0 (wider q (place_of t) (node_count t) (node_counts (then t ts)) (omega arith) (way_up t is.1 v q iv leaf_v)) few
              (wide (child_way ts r is.2 u p (in_rest t ts u hu ju) leaf_u)))
          | inr jv ↦
              let below = apart ts r is.2 (λ c. let e = few c in omega arith) u v p q (in_rest t ts u hu ju) (in_rest t ts v hv jv)
              (λ e. differ (later_place (shape t) (shapes ts) u ju ∙ ap (λ z. suc z) e ∙ sym (later_place (shape t) (shapes ts) v jv))) leaf_u leaf_v in
              record {
                left = below.left;
                right = below.right;
                left_way = wider p below.left (node_counts ts) (node_counts (then t ts)) (omega arith) below.left_way;
                right_way = wider q below.right (node_counts ts) (node_counts (then t ts)) (omega arith) below.right_way;
                differ = below.differ;
                left_parent = below.left_parent;
                right_parent = below.right_parent;
              }
        ]
      ]
    where
      wide : {x : ℕ} → ChildWay r x (node_counts ts) ts → ChildWay r x (node_counts (then t ts)) ts
      wide w = record { child = w.child; way = wider _ w.child (node_counts ts) (node_counts (then t ts)) (omega arith) w.way; parent = w.parent; some = w.some }

  -- where the ways up from two leaves meet, in a tree
  higher : (t : PlaceTree) (r p q n m : ℕ) (b : Bool) → parent_at l (place_of t) ≡ Some r → n < m → MeetBelow l (place_of t) p q n b → MeetBelow l r p q m b
  higher t r p q n m b is less at = record {
    left_steps = at.left_steps;
    right_steps = at.right_steps;
    steps_on = suc at.steps_on;
    meet = at.meet;
    on = climb_more l at.steps_on at.meet.top (place_of t) r at.on is;
    left_few = let few = at.left_few in omega arith;
    right_few = let few = at.right_few in omega arith;
  }

  mutual
    pub meet_in : (t : PlaceTree) → Hangs l t → (u v p q : ℕ) → u ≢ v → Has (names (shape t)) u → Has (names (shape t)) v → kind_at l p ≡ Some (Leaf u) → kind_at l q ≡ Some (Leaf v) →
        MeetBelow l (place_of t) p q (node_count t) (adjacent_in (shape t) u v)
    meet_in (tip r w) is u v p q differ hu hv leaf_u leaf_v = absurd (differ (of_only w u hu ∙ sym (of_only w v hv)))
    meet_in (inner r k ts) is u v p q differ hu hv leaf_u leaf_v =
        elim (cases_eq (position_of (shapes ts) u) (position_of (shapes ts) v)) [
          | inl same ↦
              subst (MeetBelow l r p q (node_count (inner r k ts)))
              (sym (ap (λ w. cond w (adjacent_below (shapes ts) u v) (joins (kind_of k) [] (position_of (shapes ts) u) (position_of (shapes ts) v))) (eq-eqb _ _ same)))
              (meet_below ts r (node_count (inner r k ts)) (omega arith) is.2 u v p q differ hu hv same leaf_u leaf_v)
          | inr other ↦
              let ways = apart ts r is.2 (λ c. let e = is.1 c in let f = once r c in omega arith) u v p q hu hv other leaf_u leaf_v in
              subst (MeetBelow l r p q (node_count (inner r k ts)))
              (sym (ap (λ w. cond w (adjacent_below (shapes ts) u v) (joins (kind_of k) [] (position_of (shapes ts) u) (position_of (shapes ts) v))) (ne_eqb _ _ other) ∙ joins_kind k _ _))
              (record {
                left_steps = ways.left_way.steps;
                right_steps = ways.right_way.steps;
                steps_on = 0;
                meet = record {
                  left = ways.left;
                  right = ways.right;
                  top = r;
                  from_left = ways.left_way.climbs;
                  from_right = ways.right_way.climbs;
                  differ = ways.differ;
                  left_top = ways.left_parent;
                  right_top = ways.right_parent;
                  kind = is.0;
                };
                on = refl;
                left_few = let few = ways.left_way.few in omega arith;
                right_few = let few = ways.right_way.few in omega arith;
              })
        ]

    meet_below : (ts : PlaceTrees) (r m : ℕ) → node_counts ts < m → HangBelow l r ts → (u v p q : ℕ) → u ≢ v → Has (names_below (shapes ts)) u → Has (names_below (shapes ts)) v →
        position_of (shapes ts) u ≡ position_of (shapes ts) v → kind_at l p ≡ Some (Leaf u) → kind_at l q ≡ Some (Leaf v) → MeetBelow l r p q m (adjacent_below (shapes ts) u v)
    meet_below no_more r m less is u v p q differ hu hv same leaf_u leaf_v = absurd (clash hu (empty_lacks u))
    meet_below (then t ts) r m less is u v p q differ hu hv same leaf_u leaf_v =
        elim (cases_Bool (contains (names (shape t)) u)) [
          | inl iu ↦
              let iv = here_too (shape t) (shapes ts) u v iu same in
              subst (MeetBelow l r p q m) (sym (ap (λ w. cond w (adjacent_in (shape t) u v) (adjacent_below (shapes ts) u v)) iu))
              (higher t r p q (node_count t) m (adjacent_in (shape t) u v) is.0 (omega arith) (meet_in t is.1 u v p q differ iu iv leaf_u leaf_v))
          | inr ju ↦
              let jv = there_too (shape t) (shapes ts) u v ju same in
              subst (MeetBelow l r p q m) (sym (ap (λ w. cond w (adjacent_in (shape t) u v) (adjacent_below (shapes ts) u v)) ju))
              (meet_below ts r m (omega arith) is.2 u v p q differ (in_rest t ts u hu ju) (in_rest t ts v hv jv) (later_same (shape t) (shapes ts) u v ju same) leaf_u leaf_v)
        ]
