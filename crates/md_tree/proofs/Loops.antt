-- Loops over the children of a node that change a graph: what the trees from a position on have still to add.
use Rattle.std.proofs.Math.Bool.{or-false}
use Rattle.std.proofs.Common.{◌≡◌, ℕ, zero, suc, ◌+◌, ◌<◌, ◌≤◌, Bool, true, false, ◌||◌, List, [], ◌∷◌, length, get_or, drop, map, refl, sym, ◌∙◌, ap, subst, inl, inr, arith}
use Rattle.std.proofs.lemmas.List.{at_drop_more, length-map}
use Rattle.std.proofs.Math.ListN.{drop_of_length-le}
use Rattle.std.specs.FinSet.{empty, insert, union}
use Rattle.md_graph.specs.declared.TheConstants.{NAMES}
use Rattle.md_graph.specs.NameSet.{AllBelow}
use Rattle.md_graph.specs.PlainGraph.{PlainGraph, adjacent}
use Rattle.md_graph.specs.Sets.{NameSet, Has, Lacks, Within, Disjoint, only_name}
use Rattle.std.proofs.lemmas.Bool.{false_from_ne_true}
use Rattle.md_graph.proofs.SetLemmas.{clash, of_insert, insert_old, insert_new, of_only, only_has, empty_lacks, same_members, union_left, union_right, of_union}
use Rattle.md_tree.specs.WellFormed.{AreDisjoint, IsCanonicalNode}
use Rattle.md_tree.specs.declared.Kind.{Kind}
use Rattle.md_tree.specs.declared.Pair.{Pair}
use Rattle.md_tree.specs.declared.TreeOf.{TreeOf}
use Rattle.md_tree.specs.Trees.{PlainTree, PlainTrees, no_tree, one_more, names, names_below, names_at, count, row, EachNode, EachNodeBelow}
use Rattle.md_tree.specs.Plain.{plain}
use Rattle.md_tree.proofs.Folding.{count_row}

-- the trees from a position on
abbrev pub rest : List (TreeOf Kind Pair) → ℕ → PlainTrees
rest xs i = row (map plain (drop i xs))

pub rest_at : (xs : List (TreeOf Kind Pair)) (i : ℕ) (d : TreeOf Kind Pair) → i < length xs → rest xs i ≡ one_more (plain (get_or xs i d)) (rest xs (i + 1))
rest_at xs i d h = at_drop_more (λ l. row (map plain l)) xs i d h

pub rest_end : (xs : List (TreeOf Kind Pair)) (i : ℕ) → length xs ≤ i → rest xs i ≡ no_tree
rest_end xs i h = ap (λ l. row (map plain l)) (drop_of_length-le xs h)

pub first_of_rest : (xs ys : List (TreeOf Kind Pair)) (i : ℕ) (r : TreeOf Kind Pair) → ys ≡ xs → r ≡ get_or ys i r → i < length ys → rest xs i ≡ one_more (plain r) (rest xs (i + 1))
first_of_rest xs ys i r same is less =
    rest_at xs i r (subst (λ l. i < length l) same less) ∙ ap (λ q. one_more (plain q) (rest xs (i + 1))) (sym (is ∙ ap (λ l. get_or l i r) same))

-- a loop that adds the edges F of the trees; P holds of the trees still to come
pub record EdgeLoop (F : PlainTrees → ℕ → ℕ → Bool) (P : PlainTrees → Type 0) (start g : PlainGraph) (xs : List (TreeOf Kind Pair)) (i : ℕ) : Type 0 where
  pub vertices : g.vertices ≡ start.vertices
  pub inside : Within (names_below (rest xs i)) g.vertices
  pub others : P (rest xs i)
  pub edges : (x y : ℕ) → (adjacent g x y || F (rest xs i) x y) ≡ (adjacent start x y || F (row (map plain xs)) x y)

pub or_moved : (a b g f r w : Bool) → b ≡ (a || g) → (a || f) ≡ w → f ≡ (g || r) → (b || r) ≡ w
or_moved true b g f r w p q e = ap (λ z. z || r) p ∙ q
or_moved false b g f r w p q e = ap (λ z. z || r) p ∙ sym e ∙ q

module _ (F : PlainTrees → ℕ → ℕ → Bool) (P : PlainTrees → Type 0) where
  module _ (start g : PlainGraph) (xs : List (TreeOf Kind Pair)) (i : ℕ) (loop : EdgeLoop F P start g xs i) where
    module _ (ys : List (TreeOf Kind Pair)) (same : ys ≡ xs) (r : TreeOf Kind Pair) (is : r ≡ get_or ys i r) (less : i < length ys) where
      cut_rest : rest xs i ≡ one_more (plain r) (rest xs (i + 1))
      cut_rest = first_of_rest xs ys i r same is less

      pub loop_child : Within (names (plain r)) g.vertices
      loop_child x k = loop.inside x (subst (λ ts. Has (names_below ts) x) (sym cut_rest) (union_left (names (plain r)) (names_below (rest xs (i + 1))) x k))

      pub loop_others : P (one_more (plain r) (rest xs (i + 1)))
      loop_others = subst P cut_rest loop.others

      pub loop_later : Within (names_below (rest xs (i + 1))) g.vertices
      loop_later x k = loop.inside x (subst (λ ts. Has (names_below ts) x) (sym cut_rest) (union_right (names (plain r)) (names_below (rest xs (i + 1))) x k))

      pub loop_step : (G : PlainTree → PlainTrees → ℕ → ℕ → Bool) → ((t : PlainTree) (ts : PlainTrees) → P (one_more t ts) → P ts) →
          ((t : PlainTree) (ts : PlainTrees) (x y : ℕ) → F (one_more t ts) x y ≡ (G t ts x y || F ts x y)) → (h : PlainGraph) →
          h.vertices ≡ g.vertices → ((x y : ℕ) → adjacent h x y ≡ (adjacent g x y || G (plain r) (rest xs (i + 1)) x y)) → EdgeLoop F P start h xs (i + 1)
      loop_step G tail cut h kept more = record {
        vertices = kept ∙ loop.vertices;
        inside = λ x k. subst (λ s. Has s x) (sym kept) (loop_later x k);
        others = tail (plain r) (rest xs (i + 1)) loop_others;
        edges = λ x y. or_moved (adjacent g x y) (adjacent h x y) (G (plain r) (rest xs (i + 1)) x y) (F (rest xs i) x y) (F (rest xs (i + 1)) x y)
            (adjacent start x y || F (row (map plain xs)) x y) (more x y) (loop.edges x y)
            (ap (λ ts. F ts x y) cut_rest ∙ cut (plain r) (rest xs (i + 1)) x y);
      }

    pub loop_end : ((x y : ℕ) → F no_tree x y ≡ false) → (ys : List (TreeOf Kind Pair)) → ys ≡ xs → length ys ≤ i → (x y : ℕ) → adjacent g x y ≡ (adjacent start x y || F (row (map plain xs)) x y)
    loop_end none ys same past x y =
        sym (or-false (adjacent g x y)) ∙ sym (ap (λ f. adjacent g x y || f) (ap (λ ts. F ts x y) (rest_end xs i (subst (λ l. length l ≤ i) same past)) ∙ none x y)) ∙ loop.edges x y

-- a loop that adds the names of the trees
pub record NameLoop (start g : PlainGraph) (xs : List (TreeOf Kind Pair)) (i : ℕ) : Type 0 where
  pub names_left : AllBelow (names_below (rest xs i)) NAMES
  pub absent : Disjoint (names_below (rest xs i)) g.vertices
  pub apart : AreDisjoint (rest xs i)
  pub canonical : EachNodeBelow IsCanonicalNode (rest xs i)
  pub vertices : union g.vertices (names_below (rest xs i)) ≡ union start.vertices (names_below (row (map plain xs)))
  pub edges : g.edges ≡ start.edges

union_three : (a b c : NameSet) → union (union a b) c ≡ union a (union b c)
union_three a b c = same_members (union (union a b) c) (union a (union b c))
    (λ x h. elim (of_union (union a b) c x h) [
      | inl i ↦ elim (of_union a b x i) [ inl j ↦ union_left a (union b c) x j | inr j ↦ union_right a (union b c) x (union_left b c x j) ]
      | inr i ↦ union_right a (union b c) x (union_right b c x i)
    ])
    (λ x h. elim (of_union a (union b c) x h) [
      | inl i ↦ union_left (union a b) c x (union_left a b x i)
      | inr i ↦ elim (of_union b c x i) [ inl j ↦ union_left (union a b) c x (union_right a b x j) | inr j ↦ union_right (union a b) c x j ]
    ])

pub union_none : (a : NameSet) → union a empty ≡ a
union_none a = same_members (union a empty) a
    (λ x h. elim (of_union a empty x h) [ inl i ↦ i | inr i ↦ clash i (empty_lacks x) ]) (union_left a empty)

module _ (start g : PlainGraph) (xs : List (TreeOf Kind Pair)) (i : ℕ) (loop : NameLoop start g xs i) (ys : List (TreeOf Kind Pair)) (same : ys ≡ xs) (r : TreeOf Kind Pair) (is : r ≡ get_or ys i r) (less : i < length ys) where
  abbrev c : PlainTree
  c = plain r

  cut_names : rest xs i ≡ one_more (plain r) (rest xs (i + 1))
  cut_names = first_of_rest xs ys i r same is less

  abbrev ts : PlainTrees
  ts = rest xs (i + 1)

  in_rest : (x : ℕ) → Has (union (names c) (names_below ts)) x → Has (names_below (rest xs i)) x
  in_rest x h = subst (λ us. Has (names_below us) x) (sym cut_names) h

  pub names_child_below : AllBelow (names c) NAMES
  names_child_below x h = loop.names_left x (in_rest x (union_left (names c) (names_below ts) x h))

  pub names_child_absent : Disjoint (names c) g.vertices
  names_child_absent x h = loop.absent x (in_rest x (union_left (names c) (names_below ts) x h))

  pub names_child_canonical : EachNode IsCanonicalNode c
  names_child_canonical = (subst (EachNodeBelow IsCanonicalNode) cut_names loop.canonical).0

  pub names_step : (h : PlainGraph) → h.vertices ≡ union g.vertices (names c) → h.edges ≡ g.edges → NameLoop start h xs (i + 1)
  names_step h more kept = record {
    names_left = λ x k. loop.names_left x (in_rest x (union_right (names c) (names_below ts) x k));
    absent = λ x k. false_from_ne_true _ (λ m. elim (of_union g.vertices (names c) x (subst (λ s. Has s x) more m)) [
      | inl j ↦ clash j (loop.absent x (in_rest x (union_right (names c) (names_below ts) x k)))
      | inr j ↦ clash k (apart_now.0 x j)
    ]);
    apart = apart_now.1;
    canonical = (subst (EachNodeBelow IsCanonicalNode) cut_names loop.canonical).1;
    vertices = ap (λ s. union s (names_below ts)) more ∙ union_three g.vertices (names c) (names_below ts)
        ∙ sym (ap (λ us. union g.vertices (names_below us)) cut_names) ∙ loop.vertices;
    edges = kept ∙ loop.edges;
  } where
    apart_now : AreDisjoint (one_more c ts)
    apart_now = subst AreDisjoint cut_names loop.apart

pub names_end : (start g : PlainGraph) (xs : List (TreeOf Kind Pair)) (i : ℕ) → NameLoop start g xs i → (ys : List (TreeOf Kind Pair)) → ys ≡ xs → length ys ≤ i → g.vertices ≡ union start.vertices (names_below (row (map plain xs)))
names_end start g xs i loop ys same past =
    sym (union_none g.vertices) ∙ sym (ap (λ us. union g.vertices (names_below us)) (rest_end xs i (subst (λ l. length l ≤ i) same past))) ∙ loop.vertices

-- what a row and its first tree lack
pub lacks_first : (v : ℕ) (t : PlainTree) (ts : PlainTrees) → Lacks (names_below (one_more t ts)) v → Lacks (names t) v
lacks_first v t ts l = false_from_ne_true _ (λ h. clash (union_left (names t) (names_below ts) v h) l)

pub lacks_rest : (v : ℕ) (t : PlainTree) (ts : PlainTrees) → Lacks (names_below (one_more t ts)) v → Lacks (names_below ts) v
lacks_rest v t ts l = false_from_ne_true _ (λ h. clash (union_right (names t) (names_below ts) v h) l)

pub disjoint_first : (a : NameSet) (t : PlainTree) (ts : PlainTrees) → Disjoint a (names_below (one_more t ts)) → Disjoint a (names t)
disjoint_first a t ts apart x h = lacks_first x t ts (apart x h)

pub disjoint_rest : (a : NameSet) (t : PlainTree) (ts : PlainTrees) → Disjoint a (names_below (one_more t ts)) → Disjoint a (names_below ts)
disjoint_rest a t ts apart x h = lacks_rest x t ts (apart x h)

pub or_chain : (a b c f g : Bool) → b ≡ (a || f) → c ≡ (b || g) → c ≡ (a || (f || g))
or_chain true b c f g p q = q ∙ ap (λ w. w || g) p
or_chain false b c f g p q = q ∙ ap (λ w. w || g) p

pub insert_is_union : (a : NameSet) (v : ℕ) → insert a v ≡ union a (only_name v)
insert_is_union a v = same_members (insert a v) (union a (only_name v))
    (λ x h. elim (of_insert a v x h) [
      | inl e ↦ union_right a (only_name v) x (subst (Has (only_name v)) (sym e) (only_has v))
      | inr i ↦ union_left a (only_name v) x i
    ])
    (λ x h. elim (of_union a (only_name v) x h) [
      | inl i ↦ insert_old a v x i
      | inr i ↦ subst (Has (insert a v)) (sym (of_only v x i)) (insert_new a v)
    ])

-- a position of a list of trees
pub count_plain : (xs : List (TreeOf Kind Pair)) → count (row (map plain xs)) ≡ length xs
count_plain xs = count_row (map plain xs) ∙ length-map xs plain

pub names_at_row : (xs : List (TreeOf Kind Pair)) (i : ℕ) (d : TreeOf Kind Pair) → i < length xs → names_at (row (map plain xs)) i ≡ names (plain (get_or xs i d))
names_at_row [] i d h = let b : i < 0 = h in absurd (omega arith)
names_at_row (x ∷ xs) zero d h = refl
names_at_row (x ∷ xs) (suc i) d h = names_at_row xs i d (let b : suc i < suc (length xs) = h in omega arith)
