-- Trees that have no name in common and stand in the order of their first leaves are in order.
use Rattle.std.proofs.Common.{◌≡◌, ◌≢◌, ℕ, suc, ◌≤◌, Bool, true, false, ◌||◌, cond, List, [], ◌∷◌, ◌++◌, Contains, refl, sym, ◌∙◌, ap, subst, inl, inr, arith}
use Rattle.std.proofs.lemmas.Bool.{cases_Bool, false≢true}
use Rattle.std.proofs.lemmas.List.Sums.{sum_by-cons, sum_by-append}
use Rattle.std.proofs.lemmas.List.Sorted.{sum_by-IsPermutation, IsNonDecreasingBy-drop}
use Rattle.std.specs.FinSet.{contains, empty}
use Rattle.std.specs.List.{sum_by, list_any}
use Rattle.std.specs.List.Sorted.{IsPermutation, IsNonDecreasingBy}
use Rattle.md_graph.specs.Sets.{Has, Lacks}
use Rattle.md_graph.proofs.SetLemmas.{clash, of_only, only_has, of_union, union_left, empty_lacks}
use Rattle.md_text.proofs.Lists.{In, to_contains}
use Rattle.md_tree.specs.declared.Kind.{Kind}
use Rattle.md_tree.specs.Trees.{PlainTree, leaf, node, no_tree, one_more, names, names_below, row, EachNode}
use Rattle.md_tree.specs.Heads.{head}
use Rattle.md_tree.specs.Held.{IsLeast}
use Rattle.md_tree.specs.Parts.{below_node}
use Rattle.md_tree.specs.StrongTrees.{IsInOrder}
use Rattle.md_tree.specs.WellFormed.{AreDisjoint}
use Rattle.md_tree.proofs.Nodes.{IsChild, child_of_name}
use Rattle.md_tree.proofs.Built.{IsBuilt}
use Rattle.md_tree.proofs.GraphKinds.{two_of_kind}
use Rattle.md_tree.proofs.Apart.{one_if, one_has, one_lacks, row_lacks, apart_once, once_apart}
use Rattle.md_tree.proofs.Folding.{row_listed}
use Rattle.md_local.specs.Growing.{is_merged, in_place_of, all_in_place}

-- ---- the trees of a row

pub child_of_in : (ts : List PlainTree) (c : PlainTree) → In ts c → IsChild (row ts) c
child_of_in [] c i = absurd i
child_of_in (t ∷ ts) c (inl e) = inl e
child_of_in (t ∷ ts) c (inr i) = inr (child_of_in ts c i)

pub in_of_child : (ts : List PlainTree) (c : PlainTree) → IsChild (row ts) c → In ts c
in_of_child [] c i = absurd i
in_of_child (t ∷ ts) c (inl e) = inl e
in_of_child (t ∷ ts) c (inr i) = inr (in_of_child ts c i)

-- ---- the first leaf has the least name

pub head_least : (e : ℕ → ℕ → Bool) (t : PlainTree) → EachNode (IsBuilt e) t → IsLeast (names t) (head t)
head_least e (leaf v) each = record { member = only_has v; first = λ x h. let same = of_only v x h in omega arith }
head_least e (node k no_tree ps) each =
    let two = two_of_kind e (empty) k each.0.node_of.kind in clash two.2 (empty_lacks two.0)
head_least e (node k (one_more t ts) ps) each =
    let least : IsLeast (names t) (head t) = head_least e t each.1.0 in
    let before = each.0.node_of.order.0 in
    record {
      member = union_left (names t) (names_below ts) (head t) least.member;
      first = λ x h. elim (of_union (names t) (names_below ts) x h) [
        | inl i ↦ least.first x i
        | inr j ↦ let a = least.first before.0 before.1 in let b = before.2 x j in omega arith
      ];
    }

-- ---- what stands in place of trees

pub place_merged : (k : Kind) (t : PlainTree) → is_merged k t ≡ true → in_place_of k t ≡ below_node t
place_merged k t e = ap (λ b. cond b (below_node t) (t ∷ [])) e

pub place_kept : (k : Kind) (t : PlainTree) → is_merged k t ≡ false → in_place_of k t ≡ t ∷ []
place_kept k t e = ap (λ b. cond b (below_node t) (t ∷ [])) e

pub none_merged : (k : Kind) (gs : List PlainTree) → list_any (is_merged k) gs ≡ false → all_in_place k gs ≡ gs
none_merged k [] none = refl
none_merged k (g ∷ gs) none = elim (cases_Bool (is_merged k g)) [
  | inl holds ↦ clash (ap (λ b. b || list_any (is_merged k) gs) holds) none
  | inr fails ↦
      let first : in_place_of k g ≡ g ∷ [] = place_kept k g fails in
      let rest : all_in_place k gs ≡ gs = none_merged k gs (ap (λ b. b || list_any (is_merged k) gs) (sym fails) ∙ none) in
      ap (λ l. l ++ all_in_place k gs) first ∙ ap (λ l. g ∷ l) rest
]

-- a tree whose children have no name in common
abbrev pub HasApart : PlainTree → Type 0
HasApart t = AreDisjoint (row (below_node t))

pub names_below_node : (k : Kind) (t : PlainTree) → is_merged k t ≡ true → names_below (row (below_node t)) ≡ names t
names_below_node k (leaf v) e = absurd (false≢true e)
names_below_node k (node l cs ps) e = ap names_below (row_listed cs)

place_once : (v : ℕ) (k : Kind) (t : PlainTree) → HasApart t → sum_by (one_if v) (in_place_of k t) ≤ one_if v t
place_once v k t apart = elim (cases_Bool (is_merged k t)) [
  | inl e ↦
      let there = ap (sum_by (one_if v)) (place_merged k t e) in
      elim (cases_Bool (contains (names t) v)) [
        | inl h ↦ let one = one_has v t h in let low = apart_once (below_node t) apart v in omega arith
        | inr l ↦
            let none = one_lacks v t l in
            let low = row_lacks (below_node t) v (λ h. clash (subst (λ w. Has w v) (names_below_node k t e) h) l) in
            omega arith
      ]
  | inr e ↦
      let there = ap (sum_by (one_if v)) (place_kept k t e) in
      let one = sum_by-cons (one_if v) t [] in
      omega arith
]

places_once : (v : ℕ) (k : Kind) (ts : List PlainTree) → ((t : PlainTree) → In ts t → HasApart t) → sum_by (one_if v) (all_in_place k ts) ≤ sum_by (one_if v) ts
places_once v k [] apart = omega arith
places_once v k (t ∷ ts) apart =
    let a = sum_by-append (one_if v) (in_place_of k t) (all_in_place k ts) in
    let b = sum_by-cons (one_if v) t ts in
    let c = place_once v k t (apart t (inl refl)) in
    let d = places_once v k ts (λ u i. apart u (inr i)) in
    omega arith

pub places_apart : (k : Kind) (ts us : List PlainTree) → AreDisjoint (row ts) → ((t : PlainTree) → In ts t → HasApart t) → IsPermutation (all_in_place k ts) us → AreDisjoint (row us)
places_apart k ts us apart below moved = once_apart us (λ v.
    let a = sum_by-IsPermutation (one_if v) (all_in_place k ts) us moved in
    let b = places_once v k ts below in
    let c = apart_once ts apart v in
    omega arith)

-- ---- order

pub in_order : (ts : List PlainTree) → IsNonDecreasingBy head ts → AreDisjoint (row ts) → ((t : PlainTree) → In ts t → IsLeast (names t) (head t)) → IsInOrder (row ts)
in_order [] rising apart least = tt
in_order (t ∷ ts) rising apart least = (
  (
    head t,
    (least t (inl refl)).member,
    λ x h.
        let c : (c : PlainTree) × IsChild (row ts) c × Has (names c) x = child_of_name (row ts) x h in
        let i : In ts c.0 = in_of_child ts c.0 c.1 in
        let at : Contains ts c.0 = to_contains ts c.0 i in
        let low = at.1 in
        let up = rising 0 (suc at.0) c.0 (omega arith) (omega arith) in
        let same = ap head at.2 in
        let more = (least c.0 (inr i)).first x c.2 in
        let differ : head t ≢ x = λ e. clash h (subst (λ z. Lacks (names_below (row ts)) z) e (apart.0 (head t) (least t (inl refl)).member)) in
        omega arith,
  ),
  in_order ts (IsNonDecreasingBy-drop head 1 (t ∷ ts) rising) apart.1 (λ u i. least u (inr i)),
)
