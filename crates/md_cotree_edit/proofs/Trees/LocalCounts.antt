-- What is counted at a place or of two names in a tree is counted where they stand.
use Rattle.std.proofs.Common.{◌≡◌, ℕ, ◌+◌, ◌*◌, ◌<◌, ◌≤◌, Bool, true, false, cond, ◌==◌, List, [], ◌∷◌, Some, refl, ◌∙◌, ap, inl, inr, arith}
use Rattle.std.proofs.lemmas.Bool.{cases_eq, eq-eqb, ne_eqb}
use Rattle.md_lists.specs.declared.kinds.PlaceKind.TheVariants.{Leaf}
use Rattle.md_graph.specs.Linked.{times}
use Rattle.md_cotree.specs.PlaceTrees.{PlaceTree, tip, inner, PlaceTrees, no_more, then, place_of, place_kind, roots, times_in, times_among}
use Rattle.md_cotree.proofs.Frames.{hit}
use Rattle.md_cotree_edit.specs.Counts.{name_in, name_row, pair_row, edge_in, edge_row, kind_code, kind_in, kind_row, child_in, child_row}
use Rattle.md_cotree_edit.specs.Contexts.{Frame, fill, plug}

-- a test that is false, or true
pub cond_no : (q p n : ℕ) → (q ≡ p → ⊥) → ◌≡◌ {A = ℕ} (cond (q == p) n 0) 0
cond_no q p n other = ap (λ b. cond b n 0) (ne_eqb q p other)

pub cond_yes : (q p n : ℕ) → q ≡ p → ◌≡◌ {A = ℕ} (cond (q == p) n 0) n
cond_yes q p n same = ap (λ b. cond b n 0) (eq-eqb q p same)

-- sums of which a part is nothing
pub sum_none : (a b : ℕ) → a ≡ 0 → b ≡ 0 → a + b ≡ 0
sum_none a b e f = omega arith

pub sum_no : (a b m : ℕ) → a ≡ 0 → b ≡ m → a + b ≡ m
sum_no a b m e f = omega arith

pub sum_yes : (a b n m : ℕ) → a ≡ n → b ≡ 0 → m ≡ n → a + b ≡ m
sum_yes a b n m e f g = omega arith

pub not_at : (q p : ℕ) → ◌≡◌ {A = ℕ} (cond (q == p) 1 0) 0 → q ≡ p → ⊥
not_at q p none same = let h = hit q p same in omega arith

mutual
  pub child_none : (p c : ℕ) (t : PlaceTree) → times_in p t ≡ 0 → child_in p c t ≡ 0
  child_none p c (tip q v) none = refl
  child_none p c (inner q k ts) none =
      let here = cond_no q p (times c (roots ts)) (not_at q p (omega arith)) in
      let rest = children_none p c ts (omega arith) in
      omega arith

  pub children_none : (p c : ℕ) (ts : PlaceTrees) → times_among p ts ≡ 0 → child_row p c ts ≡ 0
  children_none p c no_more none = refl
  children_none p c (then t ts) none = let first = child_none p c t (omega arith) in let rest = children_none p c ts (omega arith) in omega arith

mutual
  pub kind_none : (p : ℕ) (t : PlaceTree) → times_in p t ≡ 0 → kind_in p t ≡ 0
  kind_none p (tip q v) none = cond_no q p (kind_code (Some (Leaf v))) (not_at q p none)
  kind_none p (inner q k ts) none =
      let here : cond (q == p) (kind_code (Some (place_kind k))) 0 ≡ 0 = cond_no q p (kind_code (Some (place_kind k))) (not_at q p (omega arith)) in
      let rest = kinds_none p ts (omega arith) in
      λ i. here i + rest i

  pub kinds_none : (p : ℕ) (ts : PlaceTrees) → times_among p ts ≡ 0 → kind_row p ts ≡ 0
  kinds_none p no_more none = refl
  kinds_none p (then t ts) none = let first = kind_none p t (omega arith) in let rest = kinds_none p ts (omega arith) in omega arith

mutual
  -- a child stands in the tree, and not at its root
  pub child_low : (p c : ℕ) (t : PlaceTree) → child_in p c t + cond (place_of t == c) 1 0 ≤ times_in c t
  child_low p c (tip q v) = omega arith
  child_low p c (inner q k ts) =
      let rest = children_low p c ts in
      elim (cases_eq q p) [
        | inl same ↦ let e = cond_yes q p (times c (roots ts)) same in omega arith
        | inr other ↦ let e = cond_no q p (times c (roots ts)) other in omega arith
      ]

  pub children_low : (p c : ℕ) (ts : PlaceTrees) → child_row p c ts + times c (roots ts) ≤ times_among c ts
  children_low p c no_more = omega arith
  children_low p c (then t ts) = let first = child_low p c t in let rest = children_low p c ts in omega arith

pub times_plug : (fs : List Frame) (p : ℕ) (t : PlaceTree) → times_in p t ≤ times_in p (plug fs t)
times_plug [] p t = omega arith
times_plug (f ∷ fs) p t = let rest = times_plug fs p (fill f t) in omega arith

pub name_plug : (fs : List Frame) (x : ℕ) (t : PlaceTree) → name_in x t ≤ name_in x (plug fs t)
name_plug [] x t = omega arith
name_plug (f ∷ fs) x t = let rest = name_plug fs x (fill f t) in omega arith

pub child_plug : (fs : List Frame) (p c : ℕ) (t : PlaceTree) → 0 < times_in p t → times_in p (plug fs t) ≤ 1 → child_in p c (plug fs t) ≡ child_in p c t
child_plug [] p c t some one = refl
child_plug (f ∷ fs) p c t some one =
    let low = times_plug fs p (fill f t) in
    let rest = child_plug fs p c (fill f t) (omega arith) one in
    let here = cond_no f.place p (times c (roots (then t f.others))) (not_at f.place p (omega arith)) in
    let none = children_none p c f.others (omega arith) in
    omega arith

pub kind_plug : (fs : List Frame) (p : ℕ) (t : PlaceTree) → 0 < times_in p t → times_in p (plug fs t) ≤ 1 → kind_in p (plug fs t) ≡ kind_in p t
kind_plug [] p t some one = refl
kind_plug (f ∷ fs) p t some one =
    let low = times_plug fs p (fill f t) in
    let rest = kind_plug fs p (fill f t) (omega arith) one in
    let here : cond (f.place == p) (kind_code (Some (place_kind f.series))) 0 ≡ 0 = cond_no f.place p (kind_code (Some (place_kind f.series))) (not_at f.place p (omega arith)) in
    let none = kinds_none p f.others (omega arith) in
    rest ∙ (λ i. here i + (kind_in p t + none i)) ∙ omega arith

-- a name that isn't there is in no pair
pub pair_none : (x y : ℕ) (ts : PlaceTrees) → name_row x ts ≡ 0 → pair_row x y ts ≡ 0
pair_none x y no_more none = refl
pair_none x y (then t ts) none =
    let a : name_in x t ≡ 0 = omega arith in
    let b : name_row x ts ≡ 0 = omega arith in
    let rest = pair_none x y ts b in
    (λ i. (a i * name_row y ts + name_in y t * b i) + rest i) ∙ omega arith

pub pair_turned : (x y : ℕ) (ts : PlaceTrees) → pair_row x y ts ≡ pair_row y x ts
pair_turned x y no_more = refl
pair_turned x y (then t ts) = let rest = pair_turned x y ts in omega arith

pub cond_zero : (k : Bool) (n : ℕ) → n ≡ 0 → ◌≡◌ {A = ℕ} (cond k n 0) 0
cond_zero true n e = e
cond_zero false n e = refl

mutual
  pub edge_none : (x y : ℕ) (t : PlaceTree) → name_in x t ≡ 0 → edge_in x y t ≡ 0
  edge_none x y (tip p v) none = refl
  edge_none x y (inner p k ts) none =
      let here = cond_zero k (pair_row x y ts) (pair_none x y ts none) in
      let rest = edges_none x y ts none in
      omega arith

  pub edges_none : (x y : ℕ) (ts : PlaceTrees) → name_row x ts ≡ 0 → edge_row x y ts ≡ 0
  edges_none x y no_more none = refl
  edges_none x y (then t ts) none = let first = edge_none x y t (omega arith) in let rest = edges_none x y ts (omega arith) in omega arith

mutual
  pub edge_turned : (x y : ℕ) (t : PlaceTree) → edge_in x y t ≡ edge_in y x t
  edge_turned x y (tip p v) = refl
  edge_turned x y (inner p k ts) = λ i. cond k (pair_turned x y ts i) 0 + edges_turned x y ts i

  pub edges_turned : (x y : ℕ) (ts : PlaceTrees) → edge_row x y ts ≡ edge_row y x ts
  edges_turned x y no_more = refl
  edges_turned x y (then t ts) = λ i. edge_turned x y t i + edges_turned x y ts i

pub edge_plug : (fs : List Frame) (x y : ℕ) (t : PlaceTree) → 0 < name_in x t → 0 < name_in y t → name_in x (plug fs t) ≤ 1 → name_in y (plug fs t) ≤ 1 → edge_in x y (plug fs t) ≡ edge_in x y t
edge_plug [] x y t hx hy one_x one_y = refl
edge_plug (f ∷ fs) x y t hx hy one_x one_y =
    let low_x = name_plug fs x (fill f t) in
    let low_y = name_plug fs y (fill f t) in
    let rest = edge_plug fs x y (fill f t) (omega arith) (omega arith) one_x one_y in
    let no_x : name_row x f.others ≡ 0 = omega arith in
    let no_y : name_row y f.others ≡ 0 = omega arith in
    let pairs = pair_none x y f.others no_x in
    let none = edges_none x y f.others no_x in
    let here : pair_row x y (then t f.others) ≡ 0 = (λ i. (name_in x t * no_y i + name_in y t * no_x i) + pairs i) ∙ omega arith in
    let k = cond_zero f.series (pair_row x y (then t f.others)) here in
    rest ∙ omega arith

-- two names in different trees of a row, before the others
pub across_front : (x y : ℕ) (p : ℕ) (k : Bool) (t : PlaceTree) (ts : PlaceTrees) → name_in x t ≡ 1 → name_row y ts ≡ 1 → name_row x ts ≡ 0 → name_in y t ≡ 0 → edge_in x y (inner p k (then t ts)) ≡ cond k 1 0
across_front x y p k t ts a b c d =
    let pairs = pair_none x y ts c in
    let none = edges_none x y ts c in
    let none_t : edge_in x y t ≡ 0 = edge_turned x y t ∙ edge_none y x t d in
    (λ i. cond k ((a i * b i + d i * c i) + pairs i) 0 + (none_t i + none i)) ∙ last k
  where
    last : (k : Bool) → ◌≡◌ {A = ℕ} (cond k ((1 * 1 + 0 * 0) + 0) 0 + (0 + 0)) (cond k 1 0)
    last true = refl
    last false = refl
