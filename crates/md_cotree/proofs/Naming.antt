-- The names among the parts of an outline of a canonical tree: each at most once, and more than half of the parts.
use Rattle.std.proofs.Common.{◌≡◌, ℕ, ◌+◌, ◌*◌, ◌<◌, ◌≤◌, cond, ◌==◌, List, [], ◌∷◌, ◌++◌, length, Some, refl, ◌∙◌, ap, subst, inl, inr, arith, length-append}
use Rattle.std.proofs.lemmas.Bool.{cases_eq, cases_lt, cases_Bool, ne_eqb}
use Rattle.md_graph.specs.declared.TheConstants.{NAMES}
use Rattle.md_graph.specs.Sets.{Has, only_name}
use Rattle.md_graph.proofs.SetLemmas.{clash, only_has, union_left, union_right}
use Rattle.md_graph.specs.Linked.{times}
use Rattle.md_lists.proofs.ListLaws.{times-append, few}
use Rattle.md_tree.specs.declared.Kind.{Kind}
use Rattle.md_tree.specs.declared.Kind.TheVariants.{Parallel, Series, Prime}
use Rattle.md_tree.specs.declared.Pair.{Pair}
use Rattle.md_tree.specs.Spellings.{graph_spelling, is_prime}
use Rattle.md_tree.specs.Trees.{PlainTree, leaf, node, PlainTrees, no_tree, one_more, names, names_below, count, EachNodeBelow}
use Rattle.md_tree.specs.WellFormed.{AreDisjoint, HasShapeIf, IsCanonicalNode, IsCanonicalTree, IsWellFormed}
use Rattle.md_outline.specs.declared.outline.OutlinePart.{OutlinePart}
use Rattle.md_outline.specs.declared.outline.OutlinePart.TheVariants.{Name, Node}
use Rattle.md_outline.specs.Outlines.{outline_of, row_outline}

-- the names among the parts
abbrev pub named : List (OutlinePart Kind) → List ℕ
named [] = []
named (Name v ∷ ps) = v ∷ named ps
named (Node k n ∷ ps) = named ps

pub named-append : (ps qs : List (OutlinePart Kind)) → named (ps ++ qs) ≡ named ps ++ named qs
named-append [] qs = refl
named-append (Name v ∷ ps) qs = ap (λ l. v ∷ l) (named-append ps qs)
named-append (Node k n ∷ ps) qs = named-append ps qs

pub times-named : (v : ℕ) (ps qs : List (OutlinePart Kind)) → times v (named (ps ++ qs)) ≡ times v (named ps) + times v (named qs)
times-named v ps qs = ap (times v) (named-append ps qs) ∙ times-append v (named ps) (named qs)

pub length-named : (ps qs : List (OutlinePart Kind)) → length (named (ps ++ qs)) ≡ length (named ps) + length (named qs)
length-named ps qs = ap length (named-append ps qs) ∙ length-append (named ps) (named qs)

mutual
  pub name_has : (t : PlainTree) (v : ℕ) → 0 < times v (named (outline_of t)) → Has (names t) v
  name_has (leaf w) v some =
      elim (cases_eq w v) [
        | inl same ↦ subst (Has (only_name w)) same (only_has w)
        | inr other ↦ absurd (let e : ◌≡◌ {A = ℕ} (cond (w == v) 1 0) 0 = rw (ne_eqb w v other) refl in omega arith)
      ]
  name_has (node k cs ps) v some = names_have cs v some

  pub names_have : (ts : PlainTrees) (v : ℕ) → 0 < times v (named (row_outline ts)) → Has (names_below ts) v
  names_have no_tree v some = absurd (omega arith)
  names_have (one_more t ts) v some =
      let e = times-named v (outline_of t) (row_outline ts) in
      elim (cases_lt 0 (times v (named (outline_of t)))) [
        | inl first ↦ union_left (names t) (names_below ts) v (name_has t v first)
        | inr none ↦ union_right (names t) (names_below ts) v (names_have ts v (omega arith))
      ]

mutual
  pub name_once : (t : PlainTree) → IsCanonicalTree t → (v : ℕ) → times v (named (outline_of t)) ≤ 1
  name_once (leaf w) each v = elim (cases_Bool (w == v)) [ inl e ↦ rw e (omega arith) | inr e ↦ rw e (omega arith) ]
  name_once (node k cs ps) each v = names_once cs each.0.apart each.1 v

  pub names_once : (ts : PlainTrees) → AreDisjoint ts → EachNodeBelow IsCanonicalNode ts → (v : ℕ) → times v (named (row_outline ts)) ≤ 1
  names_once no_tree apart each v = omega arith
  names_once (one_more t ts) apart each v =
      let e = times-named v (outline_of t) (row_outline ts) in
      let one = name_once t each.0 v in
      let rest = names_once ts apart.1 each.1 v in
      elim (cases_lt 0 (times v (named (outline_of t)))) [
        | inl here ↦ elim (cases_lt 0 (times v (named (row_outline ts)))) [
          | inl there ↦ absurd (clash (names_have ts v there) (apart.0 v (name_has t v here)))
          | inr none ↦ omega arith
        ]
        | inr none ↦ omega arith
      ]

-- there are no more names than numbers below the limit
pub few_names : (t : PlainTree) → IsWellFormed (Some t) → length (named (outline_of t)) ≤ NAMES
few_names t is = few NAMES (named (outline_of t)) (name_once t is.1) (λ v high.
    elim (cases_lt 0 (times v (named (outline_of t)))) [
      | inl some ↦ absurd (let low = is.0 v (name_has t v some) in omega arith)
      | inr none ↦ omega arith
    ])

-- a node has two children
two_children : (k : Kind) (cs : PlainTrees) (ps : List Pair) → HasShapeIf graph_spelling (is_prime k) k cs ps → 2 ≤ count cs
two_children Parallel cs ps shape = shape.enough
two_children Series cs ps shape = shape.enough
two_children Prime cs ps shape = let four = shape.enough in omega arith

mutual
  pub few_parts : (t : PlainTree) → IsCanonicalTree t → length (outline_of t) + 1 ≤ 2 * length (named (outline_of t))
  few_parts (leaf v) each = omega arith
  few_parts (node k cs ps) each =
      let rest = few_parts_below cs each.1 in
      let two = two_children k cs ps each.0.shape in
      omega arith

  few_parts_below : (ts : PlainTrees) → EachNodeBelow IsCanonicalNode ts → length (row_outline ts) + count ts ≤ 2 * length (named (row_outline ts))
  few_parts_below no_tree each = omega arith
  few_parts_below (one_more t ts) each =
      let first = few_parts t each.0 in
      let rest = few_parts_below ts each.1 in
      let a = length-append (outline_of t) (row_outline ts) in
      let b = length-named (outline_of t) (row_outline ts) in
      omega arith
