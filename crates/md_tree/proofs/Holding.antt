-- What is held while a tree is built: kept well by each name and each node that is closed.
use Rattle.std.proofs.Common.{◌≡◌, ℕ, zero, suc, ◌-◌, ◌<◌, ◌≤◌, ◌⊎◌, Bool, true, false, List, [], ◌∷◌, ◌++◌, length, get_or, take, drop, refl, sym, ap, subst, inl, inr, arith}
use Rattle.std.specs.Prelude.{◌↔◌}
use Rattle.std.specs.FinSet.{empty, insert}
use Rattle.md_graph.specs.Sets.{NameSet, Has, Lacks, only_name}
use Rattle.md_graph.proofs.SetLemmas.{clash, empty_lacks, of_insert, insert_old, insert_new, of_only, only_has, union_left, union_right, of_union}
use Rattle.std.proofs.lemmas.Bool.{false_from_ne_true}
use Rattle.std.proofs.lemmas.List.{length-take-le, length-drop, take-append-drop}
use Rattle.md_tree.specs.Trees.{PlainTreeOf, PlainTreesOf, leaf, node, names, names_below, count, row}
use Rattle.md_tree.specs.StrongTrees.{IsInOrder}
use Rattle.md_tree.specs.Spellings.{Spelling, IsSpelling}
use Rattle.md_tree.specs.WellFormed.{AreDisjoint, IsInOrderIf, IsCanonicalNodeBy, HasShapeIf}
use Rattle.md_tree.specs.Held.{IsLeast, AreLeast, Ascends, AscendsIf, IsMinimum, AreKept, MayHave, HasOthersIf, MayListIf}
use Rattle.md_tree.proofs.Folding.{count_row, each_join, each_parts}

abbrev all_names : {K P : Type 0} → List (PlainTreeOf K P) → NameSet
all_names ts = names_below (row ts)

-- the trees of two lists
pub names_left : {K P : Type 0} (xs ys : List (PlainTreeOf K P)) (x : ℕ) → Has (all_names xs) x → Has (all_names (xs ++ ys)) x
names_left [] ys x h = clash h (empty_lacks x)
names_left (t ∷ xs) ys x h = elim (of_union (names t) (all_names xs) x h) [
  | inl a ↦ union_left (names t) (all_names (xs ++ ys)) x a
  | inr b ↦ union_right (names t) (all_names (xs ++ ys)) x (names_left xs ys x b)
]

pub names_right : {K P : Type 0} (xs ys : List (PlainTreeOf K P)) (x : ℕ) → Has (all_names ys) x → Has (all_names (xs ++ ys)) x
names_right [] ys x h = h
names_right (t ∷ xs) ys x h = union_right (names t) (all_names (xs ++ ys)) x (names_right xs ys x h)

pub names_either : {K P : Type 0} (xs ys : List (PlainTreeOf K P)) (x : ℕ) → Has (all_names (xs ++ ys)) x → Has (all_names xs) x ⊎ Has (all_names ys) x
names_either [] ys x h = inr h
names_either (t ∷ xs) ys x h = elim (of_union (names t) (all_names (xs ++ ys)) x h) [
  | inl a ↦ inl (union_left (names t) (all_names xs) x a)
  | inr b ↦ elim (names_either xs ys x b) [ inl c ↦ inl (union_right (names t) (all_names xs) x c) | inr c ↦ inr c ]
]

pub names_of_one : {K P : Type 0} (t : PlainTreeOf K P) (x : ℕ) → Has (all_names (t ∷ [])) x → Has (names t) x
names_of_one t x h = elim (of_union (names t) empty x h) [ inl a ↦ a | inr b ↦ clash b (empty_lacks x) ]

pub names_to_one : {K P : Type 0} (t : PlainTreeOf K P) (x : ℕ) → Has (names t) x → Has (all_names (t ∷ [])) x
names_to_one t x h = union_left (names t) empty x h

pub lacks_if : (s : NameSet) (x : ℕ) → (Has s x → ⊥) → Lacks s x
lacks_if s x n = false_from_ne_true _ n

apart_left : {K P : Type 0} (xs ys : List (PlainTreeOf K P)) → AreDisjoint (row (xs ++ ys)) → AreDisjoint (row xs)
apart_left [] ys a = tt
apart_left (t ∷ xs) ys a = ((λ x h. lacks_if (all_names xs) x (λ g. clash (names_left xs ys x g) (a.0 x h))), apart_left xs ys a.1)

apart_right : {K P : Type 0} (xs ys : List (PlainTreeOf K P)) → AreDisjoint (row (xs ++ ys)) → AreDisjoint (row ys)
apart_right [] ys a = a
apart_right (t ∷ xs) ys a = apart_right xs ys a.1

apart_across : {K P : Type 0} (xs ys : List (PlainTreeOf K P)) → AreDisjoint (row (xs ++ ys)) → (x : ℕ) → Has (all_names xs) x → Has (all_names ys) x → ⊥
apart_across [] ys a x h g = clash h (empty_lacks x)
apart_across (t ∷ xs) ys a x h g = elim (of_union (names t) (all_names xs) x h) [
  | inl i ↦ clash (names_right xs ys x g) (a.0 x i)
  | inr i ↦ apart_across xs ys a.1 x i g
]

apart_both : {K P : Type 0} (xs ys : List (PlainTreeOf K P)) → AreDisjoint (row xs) → AreDisjoint (row ys) → ((x : ℕ) → Has (all_names xs) x → Has (all_names ys) x → ⊥) → AreDisjoint (row (xs ++ ys))
apart_both [] ys a b n = b
apart_both (t ∷ xs) ys a b n = (
  (λ x h. lacks_if (all_names (xs ++ ys)) x (λ g. elim (names_either xs ys x g) [
    | inl i ↦ clash i (a.0 x h)
    | inr i ↦ n x (union_left (names t) (all_names xs) x h) i
  ])),
  apart_both xs ys a.1 b (λ x h g. n x (union_right (names t) (all_names xs) x h) g),
)

apart_one : {K P : Type 0} (t : PlainTreeOf K P) → AreDisjoint (row (t ∷ []))
apart_one t = ((λ x h. empty_lacks x), tt)

-- least names
pub least_length : {K P : Type 0} (ts : List (PlainTreeOf K P)) (ms : List ℕ) → AreLeast ts ms → length ts ≡ length ms
least_length [] [] l = refl
least_length [] (m ∷ ms) l = absurd l
least_length (t ∷ ts) [] l = absurd l
least_length (t ∷ ts) (m ∷ ms) l = ap (λ n. suc n) (least_length ts ms l.1)

least_take : {K P : Type 0} (xs ys : List (PlainTreeOf K P)) (ms : List ℕ) → AreLeast (xs ++ ys) ms → AreLeast xs (take (length xs) ms)
least_take [] ys ms l = tt
least_take (t ∷ xs) ys [] l = absurd l
least_take (t ∷ xs) ys (m ∷ ms) l = (l.0, least_take xs ys ms l.1)

pub least_drop : {K P : Type 0} (xs ys : List (PlainTreeOf K P)) (ms : List ℕ) → AreLeast (xs ++ ys) ms → AreLeast ys (drop (length xs) ms)
least_drop [] ys ms l = l
least_drop (t ∷ xs) ys [] l = absurd l
least_drop (t ∷ xs) ys (m ∷ ms) l = least_drop xs ys ms l.1

least_both : {K P : Type 0} (xs ys : List (PlainTreeOf K P)) (ms ns : List ℕ) → AreLeast xs ms → AreLeast ys ns → AreLeast (xs ++ ys) (ms ++ ns)
least_both [] ys [] ns a b = b
least_both [] ys (m ∷ ms) ns a b = absurd a
least_both (t ∷ xs) ys [] ns a b = absurd a
least_both (t ∷ xs) ys (m ∷ ms) ns a b = (a.0, least_both xs ys ms ns a.1 b)

ascends_rest : (m : ℕ) (ms : List ℕ) → Ascends (m ∷ ms) → Ascends ms
ascends_rest m ms a k h = a (suc k) (let l : suc (suc k) < suc (length ms) = omega arith in l)

ascends_head : (m n : ℕ) (ms : List ℕ) → Ascends (m ∷ n ∷ ms) → m < n
ascends_head m n ms a = a 0 (let l : 1 < suc (suc (length ms)) = omega arith in l)

ascends_put : (m n : ℕ) (ms : List ℕ) → m < n → Ascends (n ∷ ms) → Ascends (m ∷ n ∷ ms)
ascends_put m n ms l a zero h = l
ascends_put m n ms l a (suc k) h = a k (let g : suc (suc k) < suc (suc (length ms)) = h in let f : suc k < suc (length ms) = omega arith in f)

ascends_one : (m : ℕ) → Ascends (m ∷ [])
ascends_one m k h = let g : suc k < 1 = h in absurd (omega arith)

ascends_on : (ms : List ℕ) (k : ℕ) → k < length ms → Ascends ms → get_or ms 0 0 ≤ get_or ms k 0
ascends_on ms zero h a = omega arith
ascends_on ms (suc k) h a =
    let before : get_or ms 0 0 ≤ get_or ms k 0 = ascends_on ms k (omega arith) a in
    let next : get_or ms k 0 < get_or ms (suc k) 0 = a k h in
    omega arith

all_above : {K P : Type 0} (ts : List (PlainTreeOf K P)) (m : ℕ) (ms : List ℕ) → AreLeast ts ms → Ascends (m ∷ ms) → (x : ℕ) → Has (all_names ts) x → m < x
all_above [] m ms l a x h = clash h (empty_lacks x)
all_above (t ∷ ts) m [] l a x h = absurd l
all_above (t ∷ ts) m (n ∷ ms) l a x h =
    let up : m < n = ascends_head m n ms a in
    elim (of_union (names t) (all_names ts) x h) [
      | inl i ↦ (let f : n ≤ x = l.0.first x i in omega arith)
      | inr i ↦ (let f : n < x = all_above ts n ms l.1 (ascends_rest m (n ∷ ms) a) x i in omega arith)
    ]

to_order : {K P : Type 0} (ts : List (PlainTreeOf K P)) (ms : List ℕ) → AreLeast ts ms → Ascends ms → IsInOrder (row ts)
to_order [] ms l a = tt
to_order (t ∷ ts) [] l a = absurd l
to_order (t ∷ ts) (m ∷ ms) l a = ((m, l.0.member, all_above ts m ms l.1 a), to_order ts ms l.1 (ascends_rest m ms a))

of_order : {K P : Type 0} (ts : List (PlainTreeOf K P)) (ms : List ℕ) → AreLeast ts ms → IsInOrder (row ts) → Ascends ms
of_order [] [] l o = λ k h. let g : suc k < 0 = h in absurd (omega arith)
of_order [] (m ∷ ms) l o = absurd l
of_order (t ∷ ts) [] l o = absurd l
of_order (t ∷ []) (m ∷ []) l o = ascends_one m
of_order (t ∷ []) (m ∷ n ∷ ms) l o = absurd l.1
of_order (t ∷ u ∷ ts) (m ∷ []) l o = absurd l.1
of_order (t ∷ u ∷ ts) (m ∷ n ∷ ms) l o =
    let b = o.0 in
    let first : m ≤ b.0 = l.0.first b.0 b.1 in
    let above : b.0 < n = b.2 n (union_left (names u) (all_names ts) n l.1.0.member) in
    ascends_put m n ms (omega arith) (of_order (u ∷ ts) (n ∷ ms) l.1 o.1)

-- the same where the trees have to stand in order
pub to_order_if : {K P : Type 0} (b : Bool) (ts : List (PlainTreeOf K P)) (ms : List ℕ) → AreLeast ts ms → AscendsIf b ms → IsInOrderIf b (row ts)
to_order_if true ts ms l a = to_order ts ms l a
to_order_if false ts ms l a = tt

pub of_order_if : {K P : Type 0} (b : Bool) (ts : List (PlainTreeOf K P)) (ms : List ℕ) → AreLeast ts ms → IsInOrderIf b (row ts) → AscendsIf b ms
of_order_if true ts ms l o = of_order ts ms l o
of_order_if false ts ms l o = tt

least_at : {K P : Type 0} (ts : List (PlainTreeOf K P)) (ms : List ℕ) → AreLeast ts ms → (i : ℕ) → i < length ms → Has (all_names ts) (get_or ms i 0)
least_at [] [] l i h = let g : i < 0 = h in absurd (omega arith)
least_at [] (m ∷ ms) l i h = absurd l
least_at (t ∷ ts) [] l i h = absurd l
least_at (t ∷ ts) (m ∷ ms) l zero h = union_left (names t) (all_names ts) m l.0.member
least_at (t ∷ ts) (m ∷ ms) l (suc i) h =
    union_right (names t) (all_names ts) (get_or ms i 0) (least_at ts ms l.1 i (let g : suc i < suc (length ms) = h in omega arith))

-- each name is at least one of the least names
least_of : {K P : Type 0} (ts : List (PlainTreeOf K P)) (ms : List ℕ) → AreLeast ts ms → (x : ℕ) → Has (all_names ts) x → (i : ℕ) × (i < length ms) × (get_or ms i 0 ≤ x)
least_of [] ms l x h = clash h (empty_lacks x)
least_of (t ∷ ts) [] l x h = absurd l
least_of (t ∷ ts) (m ∷ ms) l x h = elim (of_union (names t) (all_names ts) x h) [
  | inl i ↦ (0, (let g : 0 < suc (length ms) = omega arith in g), l.0.first x i)
  | inr i ↦ (let p = least_of ts ms l.1 x i in (suc p.0, (let a = p.1 in let g : suc p.0 < suc (length ms) = omega arith in g), p.2))
]

-- of ascending numbers the first is the least
pub first_least : (ms : List ℕ) → 0 < length ms → Ascends ms → IsMinimum ms (get_or ms 0 0)
first_least ms some a = record { place = 0; within = some; there = refl; first = λ k h. ascends_on ms k h a }

-- the least of the least names is the least name of all
minimum_least : {K P : Type 0} (ts : List (PlainTreeOf K P)) (ms : List ℕ) (m : ℕ) → AreLeast ts ms → IsMinimum ms m → IsLeast (all_names ts) m
minimum_least ts ms m l is = record {
  member = subst (Has (all_names ts)) is.there (least_at ts ms l is.place is.within);
  first = λ x h. let p = least_of ts ms l x h in let a : m ≤ get_or ms p.0 0 = is.first p.0 p.1 in let b = p.2 in omega arith;
}

module _ {K P : Type 0} {sp : Spelling K P} (law : IsSpelling sp) where
  abbrev lists : K → Bool
  lists = sp.kinds.lists

  -- nothing is held at the beginning
  pub kept_none : {limit : ℕ} → AreKept sp limit [] [] empty
  kept_none = record {
    canonical = tt;
    apart = tt;
    same = λ x. ((λ h. h), (λ h. h));
    below = λ x h. clash h (empty_lacks x);
    least = tt;
  }

  abbrev name : ℕ → PlainTreeOf K P
  name v = leaf v

  -- a new name
  pub kept_name : {limit : ℕ} (ts : List (PlainTreeOf K P)) (ms : List ℕ) (seen : NameSet) (v : ℕ) → AreKept sp limit ts ms seen → v < limit → Lacks seen v →
      AreKept sp limit (ts ++ leaf v ∷ []) (ms ++ v ∷ []) (insert seen v)
  kept_name ts ms seen v k below lacks = record {
    canonical = each_join (IsCanonicalNodeBy sp) ts (name v ∷ []) k.canonical (tt, tt);
    apart = apart_both ts (name v ∷ []) k.apart (apart_one (name v)) (λ x h g.
        let e : x ≡ v = of_only v x (names_of_one (name v) x g) in
        clash ((k.same x).1 h) (subst (λ y. Lacks seen y) (sym e) lacks));
    same = λ x. (
      (λ h. elim (of_insert seen v x h) [
        | inl e ↦ names_right ts (name v ∷ []) x (names_to_one (name v) x (subst (Has (only_name v)) (sym e) (only_has v)))
        | inr i ↦ names_left ts (name v ∷ []) x ((k.same x).0 i)
      ]),
      (λ h. elim (names_either ts (name v ∷ []) x h) [
        | inl i ↦ insert_old seen v x ((k.same x).1 i)
        | inr i ↦ subst (Has (insert seen v)) (sym (of_only v x (names_of_one (name v) x i))) (insert_new seen v)
      ]),
    );
    below = λ x h. elim (of_insert seen v x h) [ inl e ↦ omega arith | inr i ↦ k.below x i ];
    least = least_both ts (name v ∷ []) ms (v ∷ []) k.least (record { member = only_has v; first = λ x h. let e : x ≡ v = of_only v x h in omega arith }, tt);
  }

  -- a node's shape, by its children and its pairs
  shape_of : (b : Bool) (k : K) (cs : PlainTreesOf K P) (ps : List P) → sp.kinds.least_count k ≤ count cs → HasOthersIf b k cs → MayListIf sp.pairs b (count cs) ps → HasShapeIf sp b k cs ps
  shape_of false k cs ps enough h l = record { enough = enough; other_kinds = h; no_pairs = l }
  shape_of true k cs ps enough h l = record { enough = enough; some_pair = l.0; ascending = l.1; positions = l.2 }

  of_shape : (b : Bool) (k : K) (cs : PlainTreesOf K P) (ps : List P) → HasShapeIf sp b k cs ps → ((sp.kinds.least_count k ≤ count cs) × HasOthersIf b k cs) × MayListIf sp.pairs b (count cs) ps
  of_shape false k cs ps s = ((s.enough, s.other_kinds), s.no_pairs)
  of_shape true k cs ps s = ((s.enough, tt), (s.some_pair, s.ascending, s.positions))

  pub shape_has : (k : K) (cs : PlainTreesOf K P) (ps : List P) → HasShapeIf sp (lists k) k cs ps → MayHave sp.kinds k cs
  shape_has k cs ps s = (of_shape (lists k) k cs ps s).0

  pub shape_lists : (k : K) (cs : PlainTreesOf K P) (ps : List P) → HasShapeIf sp (lists k) k cs ps → MayListIf sp.pairs (lists k) (count cs) ps
  shape_lists k cs ps s = (of_shape (lists k) k cs ps s).1

  -- a node over the last trees
  module _ {limit : ℕ} (xs ys : List (PlainTreeOf K P)) (ms : List ℕ) (seen : NameSet) (kept : AreKept sp limit (xs ++ ys) ms seen) (k : K) (ps : List P)
      (has : MayHave sp.kinds k (row ys)) (list : MayListIf sp.pairs (lists k) (length ys) ps) (up : AscendsIf (sp.kinds.sorts k) (drop (length xs) ms)) where
    node_canonical : IsCanonicalNodeBy sp k (row ys) ps
    node_canonical = record {
      apart = apart_right xs ys kept.apart;
      order = to_order_if (sp.kinds.sorts k) ys (drop (length xs) ms) (least_drop xs ys ms kept.least) up;
      shape = shape_of (lists k) k (row ys) ps has.0 has.1 (subst (λ n. MayListIf sp.pairs (lists k) n ps) (sym (count_row ys)) list);
    }

    abbrev made : PlainTreeOf K P
    made = node k (row ys) ps

    pub kept_node : (m : ℕ) → IsMinimum (drop (length xs) ms) m → AreKept sp limit (xs ++ made ∷ []) (take (length xs) ms ++ m ∷ []) seen
    kept_node m is =
        let l = least_drop xs ys ms kept.least in
        let all : (x : ℕ) → Has (all_names (xs ++ made ∷ [])) x ↔ Has (all_names (xs ++ ys)) x = λ x. (
          (λ h. elim (names_either xs (made ∷ []) x h) [ inl i ↦ names_left xs ys x i | inr i ↦ names_right xs ys x (names_of_one made x i) ]),
          (λ h. elim (names_either xs ys x h) [ inl i ↦ names_left xs (made ∷ []) x i | inr i ↦ names_right xs (made ∷ []) x (names_to_one made x i) ]),
        ) in
        record {
          canonical = each_join (IsCanonicalNodeBy sp) xs (made ∷ []) (each_parts (IsCanonicalNodeBy sp) xs ys kept.canonical).0 ((node_canonical, (each_parts (IsCanonicalNodeBy sp) xs ys kept.canonical).1), tt);
          apart = apart_both xs (made ∷ []) (apart_left xs ys kept.apart) (apart_one made) (λ x h g. apart_across xs ys kept.apart x h (names_of_one made x g));
          same = λ x. ((λ h. (all x).1 ((kept.same x).0 h)), (λ h. (kept.same x).1 ((all x).0 h)));
          below = kept.below;
          least = least_both xs (made ∷ []) (take (length xs) ms) (m ∷ []) (least_take xs ys ms kept.least) (minimum_least ys (drop (length xs) ms) m l is, tt);
        }

  -- the trees from a place on become one node
  pub kept_closed : {limit : ℕ} (ts : List (PlainTreeOf K P)) (ms : List ℕ) (seen : NameSet) (first : ℕ) (k : K) (ps : List P) (m : ℕ) → first < length ts → AreKept sp limit ts ms seen →
      MayHave sp.kinds k (row (drop first ts)) → MayListIf sp.pairs (lists k) (length ts - first) ps → AscendsIf (sp.kinds.sorts k) (drop first ms) → IsMinimum (drop first ms) m →
      AreKept sp limit (take first ts ++ node k (row (drop first ts)) ps ∷ []) (take first ms ++ m ∷ []) seen
  kept_closed {limit} ts ms seen first k ps m inside kept has list up is =
      let size : length (take first ts) ≡ first = length-take-le first ts (omega arith) in
      let rest : length (drop first ts) ≡ length ts - first = length-drop first ts in
      let whole : AreKept sp limit (take first ts ++ drop first ts) ms seen = subst (λ us. AreKept sp limit us ms seen) (sym (take-append-drop first ts)) kept in
      subst (λ n. AreKept sp limit (take first ts ++ node k (row (drop first ts)) ps ∷ []) (take n ms ++ m ∷ []) seen) size
      (kept_node (take first ts) (drop first ts) ms seen whole k ps has (subst (λ n. MayListIf sp.pairs (lists k) n ps) (sym rest) list)
      (subst (λ n. AscendsIf (sp.kinds.sorts k) (drop n ms)) (sym size) up) m (subst (λ n. IsMinimum (drop n ms) m) (sym size) is))
