-- One part more of a cotree that is put together.
use Rattle.std.proofs.Common.{◌≡◌, ℕ, ◌+◌, ◌-◌, ◌<◌, ◌≤◌, Bool, cond, ◌&&◌, ◌==◌, List, [], ◌∷◌, ◌++◌, length, get_or, take, drop, reverse, Option, Some, None, refl, sym, ◌∙◌, ap, subst, inl, inr, arith, length-append, length-drop}
use Rattle.std.specs.Prelude.{vec_items}
use Rattle.std.proofs.Math.Seq.{take-append_seam, drop-append_seam}
use Rattle.std.proofs.lemmas.Bool.{cases_eq, eq-eqb, ne_eqb}
use Rattle.std.proofs.lemmas.List.{take_all, reverse-append, length-reverse}
use Rattle.md_lists.specs.declared.kinds.PlaceKind.{PlaceKind}
use Rattle.md_lists.specs.declared.kinds.PlaceKind.TheVariants.{Leaf}
use Rattle.md_lists.specs.declared.TheConstants.{PLACES}
use Rattle.md_lists.specs.Words.{holds_once}
use Rattle.md_lists.specs.Links.{Links, kind_at, AreLinks, with_kind, spare_count}
use Rattle.md_tree.specs.declared.Kind.{Kind}
use Rattle.md_tree.specs.Trees.{node, row}
use Rattle.md_outline.specs.declared.outline.OutlinePart.{OutlinePart}
use Rattle.md_outline.specs.declared.outline.OutlinePart.TheVariants.{Name, Node}
use Rattle.md_cotree.specs.declared.cotree.Cotree.{Cotree}
use Rattle.md_cotree.specs.Cotrees.{AreEntries, place_at}
use Rattle.md_cotree.specs.PlaceTrees.{tip, inner, PlaceTrees, no_more, then, roots, row_length, place_kind, kind_of, leaves_among, node_counts, FillsLists}
use Rattle.md_cotree.specs.Forests.{row_append, shape_list, IsForest, with_outline_part, HasTreesFor}
use Rattle.md_cotree.proofs.Rows.{roots-joined, shape_list-joined, leaves-joined, leaf_counts-joined, row_shapes, length_shapes, length_roots, Split, split_row, some_nodes}
use Rattle.md_cotree.proofs.Frames.{test_both, test_none, fits_made}
use Rattle.md_cotree.proofs.Room.{room}

pub forest_spare : (c : Cotree) (stack : List ℕ) (ts : PlaceTrees) → IsForest c stack ts → node_counts ts < PLACES → 0 < spare_count c.lists
forest_spare c stack ts forest few = let all = room c.lists ts forest.links forest.fits in omega arith

pub forest_leaves : (c : Cotree) (stack : List ℕ) (ts : PlaceTrees) → IsForest c stack ts → node_counts ts < PLACES → c.leaves < PLACES
forest_leaves c stack ts forest few = let e = forest.leaves in let low = some_nodes ts in omega arith

-- the leaf of a name that no leaf had
module _ (xs ys : List (Option ℕ)) (v p : ℕ) (put : (w : ℕ) → get_or ys w None ≡ cond (w == v) (Some p) (get_or xs w None)) (absent : get_or xs v None ≡ None) where
  pub leaf_named : (ts : PlaceTrees) → ((w q : ℕ) → leaves_among q w ts ≡ holds_once (get_or xs w None) q) → (w q : ℕ) →
      leaves_among q w (then (tip p v) ts) ≡ holds_once (get_or ys w None) q
  leaf_named ts names w q = elim (cases_eq w v) [ inl same ↦ here same | inr differ ↦ there differ ]
    where
      here : w ≡ v → cond ((p == q) && (v == w)) 1 0 + leaves_among q w ts ≡ holds_once (get_or ys w None) q
      here same =
          let none : leaves_among q w ts ≡ 0 = names w q ∙ ap (λ z. holds_once (get_or xs z None) q) same ∙ ap (λ o. holds_once o q) absent in
          let is : holds_once (get_or ys w None) q ≡ cond (p == q) 1 0 =
          ap (λ o. holds_once o q) (put w ∙ ap (λ b. cond b (Some p) (get_or xs w None)) (eq-eqb w v same)) in
          let one : ◌≡◌ {A = ℕ} (cond ((p == q) && (v == w)) 1 0) (cond (p == q) 1 0) = test_both (p == q) (v == w) (eq-eqb v w (sym same)) in
          omega arith

      there : (w ≡ v → ⊥) → cond ((p == q) && (v == w)) 1 0 + leaves_among q w ts ≡ holds_once (get_or ys w None) q
      there differ =
          let was = names w q in
          let is : holds_once (get_or ys w None) q ≡ holds_once (get_or xs w None) q =
          ap (λ o. holds_once o q) (put w ∙ ap (λ b. cond b (Some p) (get_or xs w None)) (ne_eqb w v differ)) in
          let none : ◌≡◌ {A = ℕ} (cond ((p == q) && (v == w)) 1 0) 0 = test_none (p == q) (v == w) (ne_eqb v w (λ e. differ (sym e))) in
          omega arith

-- a leaf on top of the stack
pub leaf_forest : (c d : Cotree) (stack more : List ℕ) (v p : ℕ) → kind_at c.lists p ≡ None → p < PLACES → d.lists ≡ with_kind c.lists p (Some (Leaf v)) →
    AreLinks d.lists → ((w : ℕ) → place_at d w ≡ cond (w == v) (Some p) (place_at c w)) → AreEntries d.places → d.leaves ≡ c.leaves + 1 → more ≡ stack ++ p ∷ [] → place_at c v ≡ None →
    (ts : PlaceTrees) → IsForest c stack ts → IsForest d more (then (tip p v) ts)
leaf_forest c d stack more v p free within made links placed entries counted pushed absent ts forest = record {
  fits = subst (λ l. FillsLists l (then (tip p v) ts)) (sym made)
      (fits_made c.lists forest.links p free within ts (tip p v) (Leaf v) forest.fits refl (λ q. refl) (λ kind none. (kind, none)));
  links = links;
  on_stack = reverse-append (p ∷ []) (roots ts) ∙ ap (λ xs. xs ++ p ∷ []) forest.on_stack ∙ sym pushed;
  entries = entries;
  names = leaf_named c.places.items d.places.items v p placed absent ts forest.names;
  leaves = let e = forest.leaves in omega arith;
  unmarked = ap (λ (l : Links). l.marked) made ∙ forest.unmarked;
}

-- a node without children beside the trees
pub node_made : (l m : Links) (ts : PlaceTrees) (p : ℕ) (k : Bool) (kind : PlaceKind) → kind ≡ place_kind k → AreLinks l → kind_at l p ≡ None → p < PLACES → m ≡ with_kind l p (Some kind) → FillsLists l ts →
    FillsLists m (then (inner p k no_more) ts)
node_made l m ts p k kind is ok free within made fits =
    subst (λ n. FillsLists n (then (inner p k no_more) ts)) (sym (made ∙ ap (λ z. with_kind l p (Some z)) is))
    (fits_made l ok p free within ts (inner p k no_more) (place_kind k) fits refl (λ q. refl) (λ at none. (at, none, tt)))

-- the stack shows the first trees of the row from a place on
module _ (stack : List ℕ) (count below : ℕ) (at : below ≡ length stack - count) (us ts : PlaceTrees) (on : reverse (roots (row_append us ts)) ≡ stack) (long : row_length us ≡ count) where
  two_parts : reverse (roots ts) ++ reverse (roots us) ≡ stack
  two_parts = sym (reverse-append (roots us) (roots ts)) ∙ ap reverse (sym (roots-joined us ts)) ∙ on

  all_long : length stack ≡ length (reverse (roots ts)) + count
  all_long =
      let all = ap length two_parts in let a = length-append (reverse (roots ts)) (reverse (roots us)) in
      let b = length-reverse (roots us) in let e = length_roots us in
      omega arith

  cut : length (reverse (roots ts)) ≡ below
  cut = let e = all_long in omega arith

  roots_seen : reverse (roots us) ≡ drop below stack
  roots_seen = sym (drop-append_seam (reverse (roots ts)) (reverse (roots us))) ∙ (λ i. drop (cut i) (two_parts i))

  roots_kept : reverse (roots ts) ≡ take below stack
  roots_kept = sym (take-append_seam (reverse (roots ts)) (reverse (roots us))) ∙ (λ i. take (cut i) (two_parts i))

-- a node on top of the stack
pub node_forest : (c d : Cotree) (m : Links) (stack more : List ℕ) (p count below : ℕ) (k : Bool) (kind : PlaceKind) → kind ≡ place_kind k → kind_at c.lists p ≡ None → p < PLACES →
    m ≡ with_kind c.lists p (Some kind) → below ≡ length stack - count →
    (seen : List ℕ) → seen ≡ drop below stack → ((us ts : PlaceTrees) → FillsLists m (then (inner p k no_more) (row_append us ts)) → reverse (roots us) ≡ seen → FillsLists d.lists (then (inner p k us) ts)) →
    AreLinks d.lists → d.lists.marked ≡ m.marked → d.places ≡ c.places → d.leaves ≡ c.leaves → more ≡ take below stack ++ p ∷ [] →
    (us ts : PlaceTrees) → IsForest c stack (row_append us ts) → row_length us ≡ count → IsForest d more (then (inner p k us) ts)
node_forest c d m stack more p count below k kind is free within made at seen shown attached links marked placed counted pushed us ts forest long = record {
  fits = attached us ts (node_made c.lists m (row_append us ts) p k kind is forest.links free within made forest.fits) (roots_seen stack count below at us ts forest.on_stack long ∙ sym shown);
  links = links;
  on_stack = reverse-append (p ∷ []) (roots ts) ∙ ap (λ xs. xs ++ p ∷ []) (roots_kept stack count below at us ts forest.on_stack long) ∙ sym pushed;
  entries = subst AreEntries (sym placed) forest.entries;
  names = λ w q.
      let was = forest.names w q in
      let a = leaves-joined q w us ts in
      let same = ap (λ places. holds_once (get_or (vec_items places) w None) q) placed in
      omega arith;
  leaves = let e = forest.leaves in let a = leaf_counts-joined us ts in omega arith;
  unmarked = marked ∙ ap (λ (l : Links). l.marked) made ∙ forest.unmarked;
}

-- what the stack shows then
node_shown : (us ts : PlaceTrees) (p n : ℕ) (k : Bool) → row_length us ≡ n → shape_list (then (inner p k us) ts) ≡ with_outline_part (Node (kind_of k) n) (shape_list (row_append us ts))
node_shown us ts p n k long =
    sym ((λ i. node (kind_of k) (row (take (counted i) (shape_list-joined us ts i))) [] ∷ drop (counted i) (shape_list-joined us ts i))
    ∙ (λ i. node (kind_of k) (row (take-append_seam (shape_list us) (shape_list ts) i)) [] ∷ drop-append_seam (shape_list us) (shape_list ts) i)
    ∙ ap (λ z. node (kind_of k) z [] ∷ shape_list ts) (row_shapes us))
  where
    counted : n ≡ length (shape_list us)
    counted = sym long ∙ sym (length_shapes us)

-- the stack has as many trees
pub forest_long : (c : Cotree) (stack : List ℕ) (us ts : PlaceTrees) (n : ℕ) → IsForest c stack (row_append us ts) → row_length us ≡ n → n ≤ length stack
forest_long c stack us ts n forest long = let e = all_long stack n (length stack - n) refl us ts forest.on_stack long in omega arith

pub sliced : (xs ys : List ℕ) (i : ℕ) → ys ≡ xs → take (length ys - i) (drop i ys) ≡ drop i xs
sliced xs ys i same = take_all (length ys - i) (drop i ys) (omega (arith, length-drop i ys)) ∙ ap (drop i) same

pub node_seen : (c : Cotree) (m : Links) (stack : List ℕ) (p count below : ℕ) (k : Bool) (kind : PlaceKind) → kind ≡ place_kind k → kind_at c.lists p ≡ None → p < PLACES →
    m ≡ with_kind c.lists p (Some kind) → below ≡ length stack - count → (seen : List ℕ) → seen ≡ drop below stack →
    (us ts : PlaceTrees) → IsForest c stack (row_append us ts) → row_length us ≡ count → FillsLists m (then (inner p k no_more) (row_append us ts)) × (reverse (roots us) ≡ seen)
node_seen c m stack p count below k kind is free within made at seen shown us ts forest long = (
  node_made c.lists m (row_append us ts) p k kind is forest.links free within made forest.fits,
  roots_seen stack count below at us ts forest.on_stack long ∙ sym shown,
)

-- ---- one part

pub leaf_put : (part : OutlinePart Kind) (v p : ℕ) (ts : PlaceTrees) → part ≡ Name v → shape_list (then (tip p v) ts) ≡ with_outline_part part (shape_list ts)
leaf_put part v p ts is = sym (ap (λ q. with_outline_part q (shape_list ts)) is)

module _ (part : OutlinePart Kind) (k : Kind) (n : ℕ) (is : part ≡ Node k n) where
  pub node_split : (ts : PlaceTrees) → HasTreesFor part (shape_list ts) → Split ts n
  node_split ts has =
      let low : n ≤ length (shape_list ts) = subst (λ p. HasTreesFor p (shape_list ts)) is has in
      split_row ts n (let f = length_shapes ts in omega arith)

  pub node_put : (j : Bool) (p : ℕ) (us ts : PlaceTrees) → k ≡ kind_of j → row_length us ≡ n → shape_list (then (inner p j us) ts) ≡ with_outline_part part (shape_list (row_append us ts))
  node_put j p us ts kind long =
      node_shown us ts p n j long
      ∙ sym (ap (λ q. with_outline_part q (shape_list (row_append us ts))) is ∙ (λ i. with_outline_part (Node (kind i) n) (shape_list (row_append us ts))))
