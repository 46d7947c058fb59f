-- Rows of trees that are the same but for the order of trees.
use Rattle.std.proofs.Common.{◌≡◌, ℕ, ◌+◌, ◌*◌, ◌<◌, ◌≤◌, Bool, cond, ◌==◌, List, [], ◌∷◌, ◌++◌, refl, sym, ◌∙◌, ap, subst, inl, inr, arith}
use Rattle.std.proofs.lemmas.Bool.{cases_eq, cases_lt}
use Rattle.md_graph.specs.Linked.{times}
use Rattle.md_lists.specs.Links.{Links}
use Rattle.md_cotree.specs.PlaceTrees.{PlaceTree, inner, PlaceTrees, no_more, then, place_of, roots, times_among, leaves_among, leaf_counts, node_counts, row_length, NoneInner, AllAlternate, StandsBelow}
use Rattle.md_cotree.proofs.Frames.{hit, miss}
use Rattle.md_cotree_edit.specs.Counts.{name_in, name_row, pair_row, edge_in, edge_row, kind_row, child_row}
use Rattle.md_cotree_edit.specs.Contexts.{Frame, fill, plug}

pub record SameRow (ts us : PlaceTrees) : Type 0 where
  pub roots_same : (c : ℕ) → times c (roots us) ≡ times c (roots ts)
  pub places : (p : ℕ) → times_among p us ≡ times_among p ts
  pub kinds : (p : ℕ) → kind_row p us ≡ kind_row p ts
  pub links : (p c : ℕ) → child_row p c us ≡ child_row p c ts
  pub tips : (p v : ℕ) → leaves_among p v us ≡ leaves_among p v ts
  pub named : (x : ℕ) → name_row x us ≡ name_row x ts
  pub pairs : (x y : ℕ) → pair_row x y us ≡ pair_row x y ts
  pub edges : (x y : ℕ) → edge_row x y us ≡ edge_row x y ts
  pub leaves : leaf_counts us ≡ leaf_counts ts
  pub nodes : node_counts us ≡ node_counts ts
  pub long : row_length us ≡ row_length ts
  pub none : (k : Bool) → NoneInner ts k → NoneInner us k
  pub alternates : AllAlternate ts → AllAlternate us

-- one tree in place of another
abbrev pub SameTree : PlaceTree → PlaceTree → Type 0
SameTree t s = SameRow (then t no_more) (then s no_more)

pub same_refl : (ts : PlaceTrees) → SameRow ts ts
same_refl ts = record {
  roots_same = λ c. refl;
  places = λ p. refl;
  kinds = λ p. refl;
  links = λ p c. refl;
  tips = λ p v. refl;
  named = λ x. refl;
  pairs = λ x y. refl;
  edges = λ x y. refl;
  leaves = refl;
  nodes = refl;
  long = refl;
  none = λ k n. n;
  alternates = λ a. a;
}

pub same_trans : (ts us vs : PlaceTrees) → SameRow ts us → SameRow us vs → SameRow ts vs
same_trans ts us vs a b = record {
  roots_same = λ c. b.roots_same c ∙ a.roots_same c;
  places = λ p. b.places p ∙ a.places p;
  kinds = λ p. b.kinds p ∙ a.kinds p;
  links = λ p c. b.links p c ∙ a.links p c;
  tips = λ p v. b.tips p v ∙ a.tips p v;
  named = λ x. b.named x ∙ a.named x;
  pairs = λ x y. b.pairs x y ∙ a.pairs x y;
  edges = λ x y. b.edges x y ∙ a.edges x y;
  leaves = b.leaves ∙ a.leaves;
  nodes = b.nodes ∙ a.nodes;
  long = b.long ∙ a.long;
  none = λ k n. b.none k (a.none k n);
  alternates = λ n. b.alternates (a.alternates n);
}

pub same_swap : (t s : PlaceTree) (ts : PlaceTrees) → SameRow (then t (then s ts)) (then s (then t ts))
same_swap t s ts = record {
  roots_same = λ c. omega arith;
  places = λ p. omega arith;
  kinds = λ p. omega arith;
  links = λ p c. omega arith;
  tips = λ p v. omega arith;
  named = λ x. omega arith;
  pairs = λ x y. omega arith;
  edges = λ x y. omega arith;
  leaves = omega arith;
  nodes = omega arith;
  long = refl;
  none = λ k n. (n.1.0, (n.0, n.1.1));
  alternates = λ n. (n.1.0, (n.0, n.1.1));
}

pub same_rest : (t : PlaceTree) (ts us : PlaceTrees) → SameRow ts us → SameRow (then t ts) (then t us)
same_rest t ts us a = record {
  roots_same = λ c. let e = a.roots_same c in omega arith;
  places = λ p. let e = a.places p in omega arith;
  kinds = λ p. let e = a.kinds p in omega arith;
  links = λ p c. let e = a.links p c in omega arith;
  tips = λ p v. let e = a.tips p v in omega arith;
  named = λ x. let e = a.named x in omega arith;
  pairs = λ x y. λ i. (name_in x t * a.named y i + name_in y t * a.named x i) + a.pairs x y i;
  edges = λ x y. let e = a.edges x y in omega arith;
  leaves = let e = a.leaves in omega arith;
  nodes = let e = a.nodes in omega arith;
  long = let e = a.long in omega arith;
  none = λ k n. (n.0, a.none k n.1);
  alternates = λ n. (n.0, a.alternates n.1);
}

pub plus_none : (m n : ℕ) → m + 0 ≡ n + 0 → m ≡ n
plus_none m n e = omega arith

-- what one tree in place of another has
pub tree_name : (t s : PlaceTree) → SameTree t s → (x : ℕ) → name_in x s ≡ name_in x t
tree_name t s a x = plus_none (name_in x s) (name_in x t) (a.named x)

pub tree_edge : (t s : PlaceTree) → SameTree t s → (x y : ℕ) → edge_in x y s ≡ edge_in x y t
tree_edge t s a x y = plus_none (edge_in x y s) (edge_in x y t) (a.edges x y)

pub same_first : (t s : PlaceTree) (ts : PlaceTrees) → SameTree t s → SameRow (then t ts) (then s ts)
same_first t s ts a = record {
  roots_same = λ c. let e = a.roots_same c in omega arith;
  places = λ p. let e = a.places p in omega arith;
  kinds = λ p. let e = a.kinds p in omega arith;
  links = λ p c. let e = a.links p c in omega arith;
  tips = λ p v. let e = a.tips p v in omega arith;
  named = λ x. let e = a.named x in omega arith;
  pairs = λ x y. λ i. (tree_name t s a x i * name_row y ts + tree_name t s a y i * name_row x ts) + pair_row x y ts;
  edges = λ x y. let e = a.edges x y in omega arith;
  leaves = let e = a.leaves in omega arith;
  nodes = let e = a.nodes in omega arith;
  long = refl;
  none = λ k n. ((a.none k (n.0, tt)).0, n.1);
  alternates = λ n. ((a.alternates (n.0, tt)).0, n.1);
}

pub same_inner : (p : ℕ) (k : Bool) (ts us : PlaceTrees) → SameRow ts us → SameTree (inner p k ts) (inner p k us)
same_inner p k ts us a = record {
  roots_same = λ c. refl;
  places = λ q. let e = a.places q in omega arith;
  kinds = λ q. let e = a.kinds q in omega arith;
  links = λ q c. λ i. (cond (p == q) (a.roots_same c i) 0 + a.links q c i) + 0;
  tips = λ q v. let e = a.tips q v in omega arith;
  named = λ x. let e = a.named x in omega arith;
  pairs = λ x y. λ i. (a.named x i * 0 + a.named y i * 0) + 0;
  edges = λ x y. λ i. (cond k (a.pairs x y i) 0 + a.edges x y i) + 0;
  leaves = let e = a.leaves in omega arith;
  nodes = let e = a.nodes in omega arith;
  long = refl;
  none = λ j n. (n.0, tt);
  alternates = λ n. ((subst (λ m. 2 ≤ m) (sym a.long) n.0.0, a.none k n.0.1, a.alternates n.0.2), tt);
}

pub same_plug : (fs : List Frame) (t s : PlaceTree) → SameTree t s → SameTree (plug fs t) (plug fs s)
same_plug [] t s a = a
same_plug (f ∷ fs) t s a = same_plug fs (fill f t) (fill f s) (same_inner f.place f.series (then t f.others) (then s f.others) (same_first t s f.others a))

-- a tree of a row, in front of the others
pub record IsFront (ts : PlaceTrees) (t : PlaceTree) : Type 0 where
  pub others : PlaceTrees
  pub same : SameRow ts (then t others)
  pub below : (l : Links) (q : ℕ) → StandsBelow l q ts → StandsBelow l q (then t others)

front_more : (u t : PlaceTree) (us : PlaceTrees) → IsFront us t → IsFront (then u us) t
front_more u t us f = record {
  others = then u f.others;
  same = same_trans (then u us) (then u (then t f.others)) (then t (then u f.others)) (same_rest u us (then t f.others) f.same) (same_swap u t f.others);
  below = λ l q is. let rest = f.below l q is.2 in (rest.0, rest.1, (is.0, is.1, rest.2));
}

-- a child that is known by its place comes to the front
pub front_root : (ts : PlaceTrees) (c : ℕ) → 0 < times c (roots ts) → (t : PlaceTree) × (place_of t ≡ c) × IsFront ts t
front_root no_more c some = absurd (omega arith)
front_root (then t ts) c some =
    elim (cases_eq (place_of t) c) [
      | inl same ↦ (t, same, record { others = ts; same = same_refl (then t ts); below = λ l q is. is })
      | inr other ↦
          let rest = front_root ts c (let m = miss (place_of t) c other in omega arith) in
          (rest.0, rest.1, front_more t rest.0 ts rest.2)
    ]

-- a child that has a name comes to the front
pub front_name : (ts : PlaceTrees) (x : ℕ) → 0 < name_row x ts → (t : PlaceTree) × (0 < name_in x t) × IsFront ts t
front_name no_more x some = absurd (omega arith)
front_name (then t ts) x some =
    elim (cases_lt 0 (name_in x t)) [
      | inl here ↦ (t, here, record { others = ts; same = same_refl (then t ts); below = λ l q is. is })
      | inr none ↦
          let rest = front_name ts x (omega arith) in
          (rest.0, rest.1, front_more t rest.0 ts rest.2)
    ]

-- the row with its roots in another order
pub record IsOrder (xs : List ℕ) (ts : PlaceTrees) : Type 0 where
  pub row : PlaceTrees
  pub at : roots row ≡ xs
  pub same : SameRow ts row
  pub below : (l : Links) (q : ℕ) → StandsBelow l q ts → StandsBelow l q row

one_root : (t : PlaceTree) (ts : PlaceTrees) → ((c : ℕ) → times c (roots (then t ts)) ≡ 0) → ⊥
one_root t ts none = let h = hit (place_of t) (place_of t) refl in let e = none (place_of t) in omega arith

pub in_order : (xs : List ℕ) (ts : PlaceTrees) → ((c : ℕ) → times c (roots ts) ≡ times c xs) → IsOrder xs ts
in_order [] no_more same = record { row = no_more; at = refl; same = same_refl no_more; below = λ l q is. is }
in_order [] (then t ts) same = absurd (one_root t ts same)
in_order (x ∷ xs) ts same =
    let front = front_root ts x (let e = same x in let h = hit x x refl in omega arith) in
    let f = front.2 in
    let rest = in_order xs f.others (λ c.
    let e = f.same.roots_same c in
    let g = same c in
    let h : ◌≡◌ {A = ℕ} (cond (place_of front.0 == c) 1 0) (cond (x == c) 1 0) = ap (λ z. cond (z == c) 1 0) front.1 in
    omega arith) in
    record {
      row = then front.0 rest.row;
      at = λ i. front.1 i ∷ rest.at i;
      same = same_trans ts (then front.0 f.others) (then front.0 rest.row) f.same (same_rest front.0 f.others rest.row rest.same);
      below = λ l q is. let b = f.below l q is in (b.0, b.1, rest.below l q b.2);
    }

-- one node more around a tree with a hole
pub plug_last : (fs : List Frame) (f : Frame) (t : PlaceTree) → plug (fs ++ f ∷ []) t ≡ fill f (plug fs t)
plug_last [] f t = refl
plug_last (g ∷ fs) f t = plug_last fs f (fill g t)
