-- The heads of trees in a row, and the trees at their positions.
use Rattle.std.proofs.Common.{◌≡◌, ℕ, zero, suc, ◌+◌, ◌<◌, ◌≤◌, List, refl, sym, ap, subst, inl, inr, arith}
use Rattle.std.specs.FinSet.{insert, len, len-empty}
use Rattle.std.specs.Ordering.{nat_cmp}
use Rattle.md_graph.specs.Sets.{Has, Lacks}
use Rattle.std.proofs.lemmas.Bool.{false_from_ne_true}
use Rattle.md_graph.proofs.SetLemmas.{clash, only_has, empty_lacks, insert_new, insert_old, of_insert, union_left}
use Rattle.md_graph.proofs.Search.{len_more}
use Rattle.md_tree.specs.Trees.{PlainTreeOf, leaf, node, PlainTreesOf, no_tree, one_more, names, names_below, names_at, count, EachNode, EachNodeBelow}
use Rattle.md_tree.specs.WellFormed.{AreDisjoint}
use Rattle.md_tree.specs.Heads.{head, head_at, heads}
use Rattle.md_tree.proofs.Nodes.{IsChild, at_inside}

-- the tree at a position, and the position of a tree
pub child_here : {K P : Type 0} (cs : PlainTreesOf K P) (i : ℕ) → i < count cs → (c : PlainTreeOf K P) × IsChild cs c × (names_at cs i ≡ names c) × (head_at cs i ≡ head c)
child_here no_tree i l = let b : i < 0 = l in absurd (omega arith)
child_here (one_more t ts) zero l = (t, inl refl, refl, refl)
child_here (one_more t ts) (suc i) l =
    let b : suc i < suc (count ts) = l in
    let c : (c : PlainTreeOf _ _) × IsChild ts c × (names_at ts i ≡ names c) × (head_at ts i ≡ head c) = child_here ts i (omega arith) in
    (c.0, inr c.1, c.2, c.3)

pub place_of_child : {K P : Type 0} (cs : PlainTreesOf K P) (c : PlainTreeOf K P) → IsChild cs c → (i : ℕ) × (i < count cs) × (names_at cs i ≡ names c) × (head_at cs i ≡ head c)
place_of_child no_tree c i = absurd i
place_of_child (one_more t ts) c (inl e) = let b : 0 < suc (count ts) = omega arith in (zero, b, ap names (sym e), ap head (sym e))
place_of_child (one_more t ts) c (inr i) =
    let r : (j : ℕ) × (j < count ts) × (names_at ts j ≡ names c) × (head_at ts j ≡ head c) = place_of_child ts c i in
    let a : r.0 < count ts = r.1 in
    let b : suc r.0 < suc (count ts) = omega arith in
    (suc r.0, b, r.2, r.3)

-- the set of the heads
pub to_heads : {K P : Type 0} (cs : PlainTreesOf K P) (i : ℕ) → i < count cs → Has (heads cs) (head_at cs i)
to_heads no_tree i l = let b : i < 0 = l in absurd (omega arith)
to_heads (one_more t ts) zero l = insert_new (heads ts) (head t)
to_heads (one_more t ts) (suc i) l = let b : suc i < suc (count ts) = l in insert_old (heads ts) (head t) (head_at ts i) (to_heads ts i (omega arith))

pub of_heads : {K P : Type 0} (cs : PlainTreesOf K P) (x : ℕ) → Has (heads cs) x → (i : ℕ) × (i < count cs) × (x ≡ head_at cs i)
of_heads no_tree x h = clash h (empty_lacks x)
of_heads (one_more t ts) x h = elim (of_insert (heads ts) (head t) x h) [
  | inl same ↦ (let b : 0 < suc (count ts) = omega arith in (zero, b, same))
  | inr r ↦ (
      let i : (i : ℕ) × (i < count ts) × (x ≡ head_at ts i) = of_heads ts x r in
      let a : i.0 < count ts = i.1 in
      let b : suc i.0 < suc (count ts) = omega arith in
      (suc i.0, b, i.2))
]

-- there are as many as trees
pub len_heads : {K P : Type 0} (cs : PlainTreesOf K P) → AreDisjoint cs → ((i : ℕ) → i < count cs → Has (names_at cs i) (head_at cs i)) → len (heads cs) ≡ count cs
len_heads no_tree apart own = len-empty nat_cmp
len_heads (one_more t ts) apart own =
    let first : 0 < suc (count ts) = omega arith in
    let others : (i : ℕ) → i < count ts → Has (names_at ts i) (head_at ts i) = λ i l. own (suc i) (let a : i < count ts = l in let b : suc i < suc (count ts) = omega arith in b) in
    let l : Lacks (heads ts) (head t) = false_from_ne_true _ (λ h.
    let i : (i : ℕ) × (i < count ts) × (head t ≡ head_at ts i) = of_heads ts (head t) h in
    clash (at_inside ts i.0 (head t) (subst (Has (names_at ts i.0)) (sym i.2) (others i.0 i.1))) (apart.0 (head t) (own zero first))) in
    let more : len (insert (heads ts) (head t)) ≡ len (heads ts) + 1 = len_more (heads ts) (head t) l in
    let rest : len (heads ts) ≡ count ts = len_heads ts apart.1 others in
    let all : len (insert (heads ts) (head t)) ≡ suc (count ts) = omega arith in
    all

-- where each node has a child, the head of a tree is one of its names
module _ {K P : Type 0} (N : K → PlainTreesOf K P → List P → Type 0) (some_child : (k : K) (cs : PlainTreesOf K P) (ps : List P) → N k cs ps → 1 ≤ count cs) where
  mutual
    pub head_in : (t : PlainTreeOf K P) → EachNode N t → Has (names t) (head t)
    head_in (leaf v) each = only_has v
    head_in (node k cs ps) each = first_in cs (some_child k cs ps each.0) each.1

    first_in : (cs : PlainTreesOf K P) → 1 ≤ count cs → EachNodeBelow N cs → Has (names_below cs) (head_at cs 0)
    first_in no_tree some each = let b : 1 ≤ 0 = some in absurd (omega arith)
    first_in (one_more t ts) some each = union_left (names t) (names_below ts) (head t) (head_in t each.0)

  pub heads_in : (cs : PlainTreesOf K P) → EachNodeBelow N cs → (i : ℕ) → i < count cs → Has (names_at cs i) (head_at cs i)
  heads_in no_tree each i l = let b : i < 0 = l in absurd (omega arith)
  heads_in (one_more t ts) each zero l = head_in t each.0
  heads_in (one_more t ts) each (suc i) l = let b : suc i < suc (count ts) = l in heads_in ts each.1 i (omega arith)
