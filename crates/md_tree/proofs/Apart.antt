-- Trees have no name in common exactly where each name is in at most one of them.
use Rattle.std.proofs.Common.{◌≡◌, ℕ, ◌<◌, ◌≤◌, cond, List, [], ◌∷◌, refl, ap, inl, inr, arith}
use Rattle.std.proofs.lemmas.Bool.{cases_Bool, false_from_ne_true}
use Rattle.std.proofs.lemmas.List.Sums.{sum_by-cons}
use Rattle.std.specs.FinSet.{contains}
use Rattle.std.specs.List.{sum_by}
use Rattle.md_graph.specs.Sets.{Has, Lacks}
use Rattle.md_graph.proofs.SetLemmas.{clash, of_union, union_left, union_right, empty_lacks}
use Rattle.md_tree.specs.Trees.{PlainTree, names, names_below, row}
use Rattle.md_tree.specs.WellFormed.{AreDisjoint}

-- 1 where the tree has the name, else 0
abbrev pub one_if : ℕ → PlainTree → ℕ
one_if v t = cond (contains (names t) v) 1 0

pub one_has : (v : ℕ) (t : PlainTree) → Has (names t) v → one_if v t ≡ 1
one_has v t h = ap (λ b. cond b 1 0) h

pub one_lacks : (v : ℕ) (t : PlainTree) → Lacks (names t) v → one_if v t ≡ 0
one_lacks v t h = ap (λ b. cond b 1 0) h

pub row_lacks : (ts : List PlainTree) (v : ℕ) → (Has (names_below (row ts)) v → ⊥) → sum_by (one_if v) ts ≡ 0
row_lacks [] v none = refl
row_lacks (t ∷ ts) v none =
    let all = sum_by-cons (one_if v) t ts in
    let first = one_lacks v t (false_from_ne_true _ (λ h. none (union_left (names t) (names_below (row ts)) v h))) in
    let rest = row_lacks ts v (λ h. none (union_right (names t) (names_below (row ts)) v h)) in
    omega arith

pub row_has : (ts : List PlainTree) (v : ℕ) → Has (names_below (row ts)) v → 0 < sum_by (one_if v) ts
row_has [] v h = absurd (clash h (empty_lacks v))
row_has (t ∷ ts) v h =
    let all = sum_by-cons (one_if v) t ts in
    elim (of_union (names t) (names_below (row ts)) v h) [
      | inl here ↦ let one = one_has v t here in omega arith
      | inr there ↦ let rest = row_has ts v there in omega arith
    ]

pub apart_once : (ts : List PlainTree) → AreDisjoint (row ts) → (v : ℕ) → sum_by (one_if v) ts ≤ 1
apart_once [] apart v = omega arith
apart_once (t ∷ ts) apart v =
    let all = sum_by-cons (one_if v) t ts in
    elim (cases_Bool (contains (names t) v)) [
      | inl h ↦ let one = one_has v t h in let rest = row_lacks ts v (λ k. clash k (apart.0 v h)) in omega arith
      | inr l ↦ let none = one_lacks v t l in let rest = apart_once ts apart.1 v in omega arith
    ]

pub once_apart : (ts : List PlainTree) → ((v : ℕ) → sum_by (one_if v) ts ≤ 1) → AreDisjoint (row ts)
once_apart [] once = tt
once_apart (t ∷ ts) once = (
  λ v h. false_from_ne_true _ (λ k. let all = sum_by-cons (one_if v) t ts in let one = one_has v t h in let some = row_has ts v k in let low = once v in absurd (omega arith)),
  once_apart ts (λ v. let all = sum_by-cons (one_if v) t ts in let low = once v in omega arith),
)
