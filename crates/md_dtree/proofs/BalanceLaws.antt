-- Where a set of names splits as an order, by the arcs from and to its names.
use Rattle.std.proofs.Common.{◌≡◌, ◌≢◌, ℕ, ◌+◌, ◌*◌, ◌<◌, ◌≤◌, Bool, true, false, List, [], ◌∷◌, length, refl, sym, ◌∙◌, ap, ap₂, subst, inl, inr, arith}
use Rattle.std.proofs.Math.Nat.{suc-mul}
use Rattle.std.specs.List.{sum_by}
use Rattle.std.specs.FinSet.{contains, empty, len, len-empty, remove, retain, union, difference}
use Rattle.std.specs.Ordering.{nat_cmp}
use Rattle.std.proofs.lemmas.Bool.{cases_Bool, false_from_ne_true, true_from_ne_false}
use Rattle.std.proofs.lemmas.List.Sums.{sum_by-cons}
use Rattle.md_graph.specs.Sets.{NameSet, Has, Lacks, Within, HasSome}
use Rattle.md_graph.proofs.SetLemmas.{clash, empty_lacks, remove_left, of_remove, retain_has, of_retain, union_left, union_right, minus_has, of_minus, same_members}
use Rattle.md_graph.proofs.Search.{len_within, len_proper, len_fewer, len_union, len_minus, some_len}
use Rattle.md_modules.specs.Kinds.{IsSplit}
use Rattle.md_digraph.specs.ArcColours.{between}
use Rattle.md_text.proofs.Lists.{In, Later, of_contains, to_contains, of_pairs}
use Rattle.md_dtree.specs.DirectedTrees.{arc_forth}
use Rattle.md_dtree.specs.Balance.{arcs_from, arcs_to, ListsMembers}
use Rattle.md_dtree.specs.Laws.{SplitsBalance, BalanceSplits}

-- ---- each name of the first part has the greater balance

there_of : (arc : ℕ → ℕ → Bool) (s part : NameSet) → IsSplit (between arc) s part arc_forth → (x y : ℕ) → Has part x → Has s y → Lacks part y → arc x y ≡ true
there_of arc s part split x y hx hy l = ap (λ c. c.0) (split.across x y hx hy l)

back_of : (arc : ℕ → ℕ → Bool) (s part : NameSet) → IsSplit (between arc) s part arc_forth → (x y : ℕ) → Has part x → Has s y → Lacks part y → arc y x ≡ false
back_of arc s part split x y hx hy l = ap (λ c. c.1) (split.across x y hx hy l)

pub splits_proof : SplitsBalance
splits_proof arc s part split x y hx hy l = elim (cases_Bool (arc y y)) [
  | inl own ↦ (
      let more : len part < arcs_to arc s y = len_proper part (retain s (λ u. arc u y)) y part_in (retain_has s (λ u. arc u y) y hy own) l in
      let few : arcs_from arc s y ≤ len (difference s part) = len_within (retain s (arc y)) (difference s part) out_rest in
      let a = from_x in
      let b = to_x in
      omega arith)
  | inr none ↦ (
      let fewer : arcs_from arc s y < len (difference s part) =
      len_proper (retain s (arc y)) (difference s part) y out_rest (minus_has s part y hy l) (false_from_ne_true _ (λ h. clash (of_retain s (arc y) y h).1 none)) in
      let many : len part ≤ arcs_to arc s y = len_within part (retain s (λ u. arc u y)) part_in in
      let a = from_x in
      let b = to_x in
      omega arith)
] where
  part_in : Within part (retain s (λ u. arc u y))
  part_in u h = retain_has s (λ u. arc u y) u (split.inside u h) (there_of arc s part split u y h hy l)

  out_rest : Within (retain s (arc y)) (difference s part)
  out_rest u h =
      let k = of_retain s (arc y) u h in
      minus_has s part u k.0 (false_from_ne_true _ (λ i. clash k.1 (back_of arc s part split u y i hy l)))

  from_x : len (difference s part) ≤ arcs_from arc s x
  from_x = len_within (difference s part) (retain s (arc x)) (λ u h.
      let k = of_minus s part u h in
      retain_has s (arc x) u k.0 (there_of arc s part split x u hx k.0 k.1))

  to_x : arcs_to arc s x ≤ len part
  to_x = len_within (retain s (λ u. arc u x)) part (λ u h.
      let k = of_retain s (λ u. arc u x) u h in
      true_from_ne_false _ (λ i. clash k.1 (back_of arc s part split x u hx k.0 i)))

-- ---- sums over a list

abbrev total : {X : Type 0} → (X → ℕ) → List X → ℕ
total f [] = 0
total f (x ∷ xs) = f x + total f xs

total_is : {X : Type 0} (f : X → ℕ) (xs : List X) → sum_by f xs ≡ total f xs
total_is f [] = refl
total_is f (x ∷ xs) = sum_by-cons f x xs ∙ ap (λ n. f x + n) (total_is f xs)

total_both : {X : Type 0} (f g : X → ℕ) (xs : List X) → total (λ x. f x + g x) xs ≡ total f xs + total g xs
total_both f g [] = refl
total_both f g (x ∷ xs) = let rest : total (λ x. f x + g x) xs ≡ total f xs + total g xs = total_both f g xs in omega arith

total_along : {X : Type 0} (f g : X → ℕ) (xs : List X) → ((x : X) → In xs x → f x ≡ g x) → total f xs ≡ total g xs
total_along f g [] same = refl
total_along f g (x ∷ xs) same = ap₂ ◌+◌ (same x (inl refl)) (total_along f g xs (λ y i. same y (inr i)))

total_none : {X : Type 0} (xs : List X) → total (λ x. 0) xs ≡ 0
total_none [] = refl
total_none (x ∷ xs) = let rest : total (λ y. 0) xs ≡ 0 = total_none xs in omega arith

total_same : {X : Type 0} (q : ℕ) (xs : List X) → total (λ x. q) xs ≡ length xs * q
total_same q [] = omega arith
total_same q (x ∷ xs) = let rest : total (λ y. q) xs ≡ length xs * q = total_same q xs in omega (arith, suc-mul (length xs) q)

-- sums over two lists, in either order
total_turned : {X Y : Type 0} (g : X → Y → ℕ) (xs : List X) (ys : List Y) → total (λ x. total (g x) ys) xs ≡ total (λ y. total (λ x. g x y) xs) ys
total_turned g [] ys = sym (total_none ys)
total_turned g (x ∷ xs) ys = ap (λ n. total (g x) ys + n) (total_turned g xs ys) ∙ sym (total_both (g x) (λ y. total (λ z. g z y) xs) ys)

-- numbers up to q whose sum is q for each, and more than other ones: each is q, and the other ones
-- are 0
module _ {X : Type 0} (f g : X → ℕ) (q : ℕ) (most : (x : X) → f x ≤ q) where
  total_most : (xs : List X) → total f xs ≤ total (λ x. q) xs
  total_most [] = omega arith
  total_most (x ∷ xs) = let a : f x ≤ q = most x in let b : total f xs ≤ total (λ x. q) xs = total_most xs in omega arith

  each_most : (xs : List X) → total f xs ≡ total g xs + total (λ x. q) xs → (x : X) → In xs x → (f x ≡ q) × (g x ≡ 0)
  each_most [] same x i = absurd i
  each_most (y ∷ ys) same x i =
      let a : f y ≤ q = most y in
      let b : total f ys ≤ total (λ x. q) ys = total_most ys in
      let own : (f y ≡ q) × (g y ≡ 0) = (omega arith, omega arith) in
      let rest : total f ys ≡ total g ys + total (λ x. q) ys = omega arith in
      elim i [
        | inl e ↦ subst (λ z. (f z ≡ q) × (g z ≡ 0)) (sym e) own
        | inr j ↦ each_most ys rest x j
      ]

-- ---- counts of members

abbrev bit : Bool → ℕ
bit true = 1
bit false = 0

-- a member more, which passes or doesn't
len_one_more_counted : (p : ℕ → Bool) (x : ℕ) (xs : List ℕ) (s : NameSet) → Has s x → len (retain (remove s x) p) ≡ total (λ y. bit (p y)) xs →
    len (retain s p) ≡ bit (p x) + total (λ y. bit (p y)) xs
len_one_more_counted p x xs s hx others = elim (cases_Bool (p x)) [
  | inl passes ↦ (
      let same : remove (retain s p) x ≡ retain (remove s x) p = same_members _ _
      (λ y h. let k = of_remove (retain s p) x y h in let r = of_retain s p y k.1 in retain_has (remove s x) p y (remove_left s x y k.0 r.0) r.1)
      (λ y h. let k = of_retain (remove s x) p y h in let r = of_remove s x y k.0 in remove_left (retain s p) x y r.0 (retain_has s p y r.1 k.1)) in
      let more : len (remove (retain s p) x) + 1 ≡ len (retain s p) = len_fewer (retain s p) x (retain_has s p x hx passes) in
      let moved : len (remove (retain s p) x) ≡ len (retain (remove s x) p) = ap len same in
      let one : bit (p x) ≡ 1 = ap bit passes in
      omega arith)
  | inr fails ↦ (
      let same : retain s p ≡ retain (remove s x) p = same_members _ _
      (λ y h. let r = of_retain s p y h in retain_has (remove s x) p y (remove_left s x y (λ e. clash r.1 (ap p e ∙ fails)) r.0) r.1)
      (λ y h. let k = of_retain (remove s x) p y h in retain_has s p y (of_remove s x y k.0).1 k.1) in
      let moved : len (retain s p) ≡ len (retain (remove s x) p) = ap len same in
      let nothing : bit (p x) ≡ 0 = ap bit fails in
      omega arith)
]

-- how many members of a set pass, by a list of the set
len_counts : (p : ℕ → Bool) (xs : List ℕ) (s : NameSet) → Later (λ x y. x ≢ y) xs → ((x : ℕ) → In xs x → Has s x) → ((x : ℕ) → Has s x → In xs x) →
    len (retain s p) ≡ total (λ x. bit (p x)) xs
len_counts p [] s once to of =
    let few : len (retain s p) ≤ len (empty {R = nat_cmp}) = len_within (retain s p) empty (λ x h. absurd (of x (of_retain s p x h).0)) in
    let none : len (empty {R = nat_cmp}) ≡ 0 = len-empty nat_cmp in
    omega arith
len_counts p (x ∷ xs) s once to of = len_one_more_counted p x xs s (to x (inl refl))
    (len_counts p xs (remove s x) once.1
    (λ y i. remove_left s x y (λ e. once.0 y i (sym e)) (to y (inr i)))
    (λ y h. let k = of_remove s x y h in elim (of y k.1) [ inl e ↦ absurd (k.0 e) | inr i ↦ i ]))

-- those of a part and those of the rest
len_parts : (s part : NameSet) (p : ℕ → Bool) → Within part s → len (retain s p) ≡ len (retain part p) + len (retain (difference s part) p)
len_parts s part p inside =
    let up : len (retain s p) ≤ len (union (retain part p) (retain (difference s part) p)) =
    len_within (retain s p) (union (retain part p) (retain (difference s part) p)) (λ y h.
    let k = of_retain s p y h in
    elim (cases_Bool (contains part y)) [
      | inl i ↦ union_left (retain part p) (retain (difference s part) p) y (retain_has part p y i k.1)
      | inr l ↦ union_right (retain part p) (retain (difference s part) p) y (retain_has (difference s part) p y (minus_has s part y k.0 l) k.1)
    ]) in
    let both : len (union (retain part p) (retain (difference s part) p)) ≤ len (retain part p) + len (retain (difference s part) p) = len_union (retain part p) (retain (difference s part) p) in
    let down : len (difference (retain s p) (retain part p)) + len (retain part p) ≤ len (retain s p) =
    len_minus (retain s p) (retain part p) (λ y h. let k = of_retain part p y h in retain_has s p y (inside y k.0) k.1) in
    let rest : len (retain (difference s part) p) ≤ len (difference (retain s p) (retain part p)) =
    len_within (retain (difference s part) p) (difference (retain s p) (retain part p)) (λ y h.
    let k = of_retain (difference s part) p y h in
    let m = of_minus s part y k.0 in
    minus_has (retain s p) (retain part p) y (retain_has s p y m.0 k.1) (false_from_ne_true _ (λ i. clash (of_retain part p y i).0 m.1))) in
    omega arith

-- ---- the sums of a part

module _ (arc : ℕ → ℕ → Bool) (s part : NameSet) (xs : List ℕ) (lists : ListsMembers part xs) (inside : Within part s) where
  abbrev rest : NameSet
  rest = difference s part

  -- the arcs to the rest and from the rest
  abbrev ahead : ℕ → ℕ
  ahead = arcs_from arc rest

  abbrev behind : ℕ → ℕ
  behind = arcs_to arc rest

  once : Later (λ x y. x ≢ y) xs
  once = of_pairs (λ x y. x ≢ y) xs lists.once

  to_part : (x : ℕ) → In xs x → Has part x
  to_part x i = (lists.exactly x).0 (to_contains xs x i)

  of_part : (x : ℕ) → Has part x → In xs x
  of_part x h = of_contains xs x ((lists.exactly x).1 h)

  -- inside the part as many arcs run from its names as to them
  same_inside : total (arcs_from arc part) xs ≡ total (arcs_to arc part) xs
  same_inside =
      total_along (arcs_from arc part) (λ x. total (λ y. bit (arc x y)) xs) xs (λ x i. len_counts (arc x) xs part once to_part of_part)
      ∙ total_turned (λ x y. bit (arc x y)) xs xs
      ∙ sym (total_along (arcs_to arc part) (λ x. total (λ y. bit (arc y x)) xs) xs (λ x i. len_counts (λ u. arc u x) xs part once to_part of_part))

  out_is : sum_by (arcs_from arc s) xs ≡ total (arcs_from arc part) xs + total ahead xs
  out_is = total_is (arcs_from arc s) xs
      ∙ total_along (arcs_from arc s) (λ x. arcs_from arc part x + ahead x) xs (λ x i. len_parts s part (arc x) inside)
      ∙ total_both (arcs_from arc part) ahead xs

  in_is : sum_by (arcs_to arc s) xs ≡ total (arcs_to arc part) xs + total behind xs
  in_is = total_is (arcs_to arc s) xs
      ∙ total_along (arcs_to arc s) (λ x. arcs_to arc part x + behind x) xs (λ x i. len_parts s part (λ u. arc u x) inside)
      ∙ total_both (arcs_to arc part) behind xs

  abbrev IsBalanced : Type 0
  IsBalanced = sum_by (arcs_from arc s) xs ≡ sum_by (arcs_to arc s) xs + length xs * len rest

  to_sums : IsSplit (between arc) s part arc_forth → IsBalanced
  to_sums split =
      let a = out_is in
      let b = in_is in
      let c = same_inside in
      let d : total ahead xs ≡ total (λ x. len rest) xs = total_along ahead (λ x. len rest) xs (λ x i. all_ahead x (to_part x i)) in
      let f : total (λ x. len rest) xs ≡ length xs * len rest = total_same (len rest) xs in
      let g : total behind xs ≡ 0 = total_along behind (λ x. 0) xs (λ x i. none_behind x (to_part x i)) ∙ total_none xs in
      omega arith
    where
      all_ahead : (x : ℕ) → Has part x → ahead x ≡ len rest
      all_ahead x hx = ap len (same_members (retain rest (arc x)) rest (λ y h. (of_retain rest (arc x) y h).0)
          (λ y h. let k = of_minus s part y h in retain_has rest (arc x) y h (there_of arc s part split x y hx k.0 k.1)))

      none_behind : (x : ℕ) → Has part x → behind x ≡ 0
      none_behind x hx = ap len (same_members (retain rest (λ u. arc u x)) empty (λ y h.
          let r = of_retain rest (λ u. arc u x) y h in
          let k = of_minus s part y r.0 in
          clash r.1 (back_of arc s part split x y hx k.0 k.1)) (λ y h. clash h (empty_lacks y))) ∙ len-empty nat_cmp

  of_sums : IsBalanced → HasSome part → ((x : ℕ) × Has s x × Lacks part x) → IsSplit (between arc) s part arc_forth
  of_sums sums some other = record {
    some = some;
    inside = inside;
    rest = other;
    across = λ x y hx hy l.
        let each : (ahead x ≡ len rest) × (behind x ≡ 0) = each_most ahead behind (len rest) (λ z. len_within (retain rest (arc z)) rest (λ y h. (of_retain rest (arc z) y h).0)) xs
        equal x (of_part x hx) in
        let there : arc x y ≡ true = true_from_ne_false _ (λ none.
        let less : ahead x < len rest = len_proper (retain rest (arc x)) rest y (λ z h. (of_retain rest (arc x) z h).0) (minus_has s part y hy l)
        (false_from_ne_true _ (λ h. clash (of_retain rest (arc x) y h).1 none)) in
        let same : ahead x ≡ len rest = each.0 in
        omega arith) in
        let back : arc y x ≡ false = false_from_ne_true _ (λ h.
        let one : 1 ≤ behind x = some_len (retain rest (λ u. arc u x)) y (retain_has rest (λ u. arc u x) y (minus_has s part y hy l) h) in
        let none : behind x ≡ 0 = each.1 in
        omega arith) in
        λ i. (there i, back i);
  } where
    equal : total ahead xs ≡ total behind xs + total (λ x. len rest) xs
    equal =
        let a = out_is in
        let b = in_is in
        let c = same_inside in
        let d : sum_by (arcs_from arc s) xs ≡ sum_by (arcs_to arc s) xs + length xs * len rest = sums in
        let f : total (λ x. len rest) xs ≡ length xs * len rest = total_same (len rest) xs in
        omega arith

pub balance_proof : BalanceSplits
balance_proof arc s part xs lists some inside other = (to_sums arc s part xs lists inside, λ sums. of_sums arc s part xs lists inside sums some other)
