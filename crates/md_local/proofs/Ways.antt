-- Walks over a tree: the way to the node that a walk is in, and what is still ahead.
use Rattle.std.proofs.Common.{◌≡◌, ℕ, ◌+◌, ◌≤◌, Bool, List, [], ◌∷◌, ◌++◌, map, append_assoc, append-nil, refl, sym, ◌∙◌, ap, subst, inl, arith, Vec, Global}
use Rattle.std.proofs.lemmas.List.Sums.{sum_by-cons, sum_by-append}
use Rattle.std.specs.List.{sum_by}
use Rattle.md_graph.specs.PlainGraph.{PlainGraph}
use Rattle.md_text.proofs.Lists.{In, in_right}
use Rattle.md_tree.specs.declared.Kind.{Kind}
use Rattle.md_tree.specs.declared.Pair.{Pair}
use Rattle.md_tree.specs.declared.ChildrenOf.{ChildrenOf, roll-ChildrenOf}
use Rattle.md_tree.specs.declared.PairsOf.{PairsOf}
use Rattle.md_tree.specs.declared.TreeOf.{TreeOf, Leaf, Node}
use Rattle.md_tree.specs.Trees.{PlainTree, leaf, node, row}
use Rattle.md_local.specs.NodeLists.{nodes_backward, row_nodes_backward}
use Rattle.md_tree.specs.Parts.{listed, below_node}
use Rattle.md_tree.specs.Plain.{plain, trees_of}
use Rattle.md_tree.proofs.Plain.{plain_is_leaf, plain_is_node, plain-node}
use Rattle.md_tree.proofs.Stacking.{map_one_more}
use Rattle.md_tree.proofs.Nodes.{IsChild}
use Rattle.md_tree.proofs.Folding.{row_listed}
use Rattle.md_local.specs.declared.walking.Open.{Open}
use Rattle.md_local.specs.Growing.{IsOld}
use Rattle.md_local.specs.Walks.{IsIn, IsAbove, Leads, IsWay, HasPassed, HasMore, ahead_in, steps_ahead}
use Rattle.md_local.proofs.Nested.{none_there, rows-append, own_nodes}
use Rattle.md_local.proofs.Ordering.{child_of_in}
use Rattle.md_local.proofs.Placing.{node_below}
use Rattle.md_local.proofs.Turns.{old_child}

-- ---- the way

module _ {B : Type 0} (Tells : List PlainTree → B → Type 0) where
  leads_down : (t : PlainTree) (fs : List (Open B)) (p c : PlainTree) (f : Open B) → Leads Tells t fs p → IsAbove Tells p c f → Leads Tells t (fs ++ f ∷ []) c
  leads_down t [] p c f lead above = (c, subst (λ q. IsAbove Tells q c f) (sym lead) above, refl)
  leads_down t (h ∷ fs) p c f lead above = (lead.0, lead.1, leads_down lead.0 fs p c f lead.2 above)

  leads_up : (t : PlainTree) (fs : List (Open B)) (c : PlainTree) (f : Open B) → Leads Tells t (fs ++ f ∷ []) c → (p : PlainTree) × Leads Tells t fs p × IsAbove Tells p c f
  leads_up t [] c f lead = (t, refl, subst (λ d. IsAbove Tells t d f) lead.2 lead.1)
  leads_up t (h ∷ fs) c f lead =
      let up : (p : PlainTree) × Leads Tells lead.0 fs p × IsAbove Tells p c f = leads_up lead.0 fs c f lead.2 in
      (up.0, (lead.0, lead.1, up.1), up.2)

  pub way_begin : (t : PlainTree) (fs : List (Open B)) (f : Open B) → fs ≡ [] → plain f.tree.now ≡ t → map plain f.rest.now ≡ below_node t → Tells [] f.below → IsWay Tells t fs f
  way_begin t fs f none is all told = (t, subst (λ l. Leads Tells t l t) (sym none) refl, ([], is, sym all, told))

  passed_in : (p : PlainTree) (f h : Open B) → HasPassed Tells f h → IsIn Tells p f → IsIn Tells p h
  passed_in p f h passed is = (
    is.0 ++ passed.0,
    ap (λ r. plain r.now) passed.1 ∙ is.1,
    is.2 ∙ ap (λ l. is.0 ++ l) passed.2 ∙ sym (append_assoc is.0 passed.0 (map plain h.rest.now)),
    passed.3 is.0 is.3,
  )

  -- down to the child that comes
  pub way_down : (t : PlainTree) (fs gs : List (Open B)) (f h up next : Open B) (c : TreeOf Kind Pair) → IsWay Tells t fs f → HasPassed Tells f h → up.tree ≡ h.tree → up.below ≡ h.below →
      h.rest.now ≡ c ∷ up.rest.now → gs ≡ fs ++ up ∷ [] → plain next.tree.now ≡ plain c → map plain next.rest.now ≡ below_node (plain c) → Tells [] next.below → IsWay Tells t gs next
  way_down t fs gs f h up next c way passed same kept split push is all told =
      let there : IsIn Tells way.0 h = passed_in way.0 f h passed way.2 in
      let above : IsAbove Tells way.0 (plain c) up =
      (there.0, ap (λ r. plain r.now) same ∙ there.1, there.2 ∙ ap (λ l. there.0 ++ map plain l) split, subst (Tells there.0) (sym kept) there.3) in (
        plain c,
        subst (λ l. Leads Tells t l (plain c)) (sym push) (leads_down t fs way.0 (plain c) up way.1 above),
        ([], is, sym all, told),
      )

  -- all children of the node were looked at
  pub all_told : (p : PlainTree) (f h : Open B) → HasPassed Tells f h → IsIn Tells p f → h.rest.now ≡ [] → Tells (below_node p) h.below
  all_told p f h passed is none =
      let there : IsIn Tells p h = passed_in p f h passed is in
      subst (λ l. Tells l h.below) (sym (there.2 ∙ ap (λ l. there.0 ++ map plain l) none ∙ append-nil there.0)) there.3

  -- up to the node above
  pub way_up : (t : PlainTree) (fs gs : List (Open B)) (f up next : Open B) → IsWay Tells t fs f → fs ≡ gs ++ up ∷ [] → HasMore Tells (plain f.tree.now) up next → IsWay Tells t gs next
  way_up t fs gs f up next way pop more =
      let lead : (p : PlainTree) × Leads Tells t gs p × IsAbove Tells p way.0 up = leads_up t gs way.0 up (subst (λ l. Leads Tells t l way.0) pop way.1) in
      let above = lead.2 in
      let own = plain f.tree.now in (
        lead.0,
        lead.1,
        (
          above.0 ++ own ∷ [],
          ap (λ r. plain r.now) more.0 ∙ above.1,
          above.2 ∙ ap (λ p. above.0 ++ p ∷ map plain up.rest.now) (sym way.2.1) ∙ ap (λ r. above.0 ++ own ∷ map plain r.now) (sym more.1)
              ∙ sym (append_assoc above.0 (own ∷ []) (map plain next.rest.now)),
          more.2 above.0 above.3,
        ),
      )

  pub way_end : (t : PlainTree) (fs : List (Open B)) (f : Open B) → IsWay Tells t fs f → fs ≡ [] → plain f.tree.now ≡ t
  way_end t fs f way none = way.2.1 ∙ sym (subst (λ l. Leads Tells t l way.0) none way.1)

  -- ---- the nodes of the tree of the graph before

  module _ (g : PlainGraph) (u v : ℕ) (e : ℕ → ℕ → Bool) where
    old_next : (t c : PlainTree) (ts us : List PlainTree) → IsOld g u v e t → below_node t ≡ ts ++ c ∷ us → IsOld g u v e c
    old_next (leaf x) c ts us old is = none_there ts c us (sym is)
    old_next (node k cs ps) c ts us old is =
        old_child g u v e k cs ps old c (subst (λ l. IsChild l c) (row_listed cs) (child_of_in (listed cs) c (subst (λ l. In l c) (sym is) (in_right ts (c ∷ us) c (inl refl)))))

    old_along : (t : PlainTree) (fs : List (Open B)) (p : PlainTree) → IsOld g u v e t → Leads Tells t fs p → IsOld g u v e p
    old_along t [] p old lead = subst (IsOld g u v e) lead old
    old_along t (f ∷ fs) p old lead = old_along lead.0 fs p (old_next t lead.0 lead.1.0 (map plain f.rest.now) old lead.1.2) lead.2

    pub old_here : (t : PlainTree) (fs : List (Open B)) (f : Open B) → IsOld g u v e t → IsWay Tells t fs f → IsOld g u v e (plain f.tree.now)
    old_here t fs f old way = subst (IsOld g u v e) (sym way.2.1) (old_along t fs way.0 old way.1)

-- a leaf was looked at
pub pass_more : (all ts : List PlainTree) (xs others : List (TreeOf Kind Pair)) (first : TreeOf Kind Pair) (x : ℕ) → all ≡ ts ++ map plain xs → xs ≡ first ∷ others → first ≡ Leaf x →
    all ≡ (ts ++ leaf x ∷ []) ++ map plain others
pass_more all ts xs others first x so split is =
    so ∙ ap (λ l. ts ++ map plain l) split ∙ ap (λ p. ts ++ p ∷ map plain others) (plain_is_leaf first x is) ∙ sym (append_assoc ts (leaf x ∷ []) (map plain others))

-- ---- copies

pub leaf_copied : (x y : ℕ) (us ts : List PlainTree) (xs ys : List (TreeOf Kind Pair)) → map plain xs ≡ us ++ ts → x ≡ y → ys ≡ xs ++ Leaf x ∷ [] → map plain ys ≡ us ++ (ts ++ leaf y ∷ [])
leaf_copied x y us ts xs ys so same push =
    map_one_more plain ys xs (Leaf x) push ∙ ap (λ p. map plain xs ++ p ∷ []) (plain_is_leaf (Leaf x) x refl ∙ ap leaf same) ∙ ap (λ l. l ++ leaf y ∷ []) so
    ∙ append_assoc us ts (leaf y ∷ [])

pub leaf_copy : (t : TreeOf Kind Pair) (x : ℕ) → t ≡ Leaf x → (copy : TreeOf Kind Pair) → copy ≡ Leaf x → plain copy ≡ plain t
leaf_copy t x is copy same = ap plain (same ∙ sym is)

pub node_copy : (t : TreeOf Kind Pair) (k : Kind) (cs : ChildrenOf Kind Pair) (ps qs : PairsOf Pair) (list : Vec (TreeOf Kind Pair) Global) → t ≡ Node k cs ps → map plain list.items ≡ below_node (plain t) →
    qs.list.items ≡ ps.list.items → plain (Node k (roll-ChildrenOf _ _ (record { list = list })) qs) ≡ plain t
node_copy t k cs ps qs list is all same =
    plain-node k (roll-ChildrenOf _ _ (record { list = list })) qs
    ∙ ap (λ l. node k (row l) qs.list.items) (all ∙ node_below t k cs ps is) ∙ ap (node k (row (map plain (trees_of cs)))) same ∙ sym (plain_is_node t k cs ps is)

-- ---- what is ahead

module _ (own each : PlainTree → ℕ) where
  weights-append : (xs ys : List PlainTree) → sum_by each (row_nodes_backward (row (xs ++ ys))) ≡ sum_by each (row_nodes_backward (row xs)) + sum_by each (row_nodes_backward (row ys))
  weights-append xs ys =
      let a = ap (sum_by each) (rows-append xs ys) in
      let b = sum_by-append each (row_nodes_backward (row ys)) (row_nodes_backward (row xs)) in
      omega arith

  pub weight_nodes : (t : PlainTree) → sum_by each (nodes_backward t) ≡ each t + sum_by each (row_nodes_backward (row (below_node t)))
  weight_nodes t = ap (sum_by each) (own_nodes t) ∙ sum_by-cons each t (row_nodes_backward (row (below_node t)))

  weights-cons : (t : PlainTree) (ts : List PlainTree) → sum_by each (row_nodes_backward (row (t ∷ ts)))
      ≡ (each t + sum_by each (row_nodes_backward (row (below_node t)))) + sum_by each (row_nodes_backward (row ts))
  weights-cons t ts =
      let a = sum_by-append each (row_nodes_backward (row ts)) (nodes_backward t) in
      let b = weight_nodes t in
      omega arith

  module _ {B : Type 0} where
    sums-last : (fs : List (Open B)) (f : Open B) → sum_by (ahead_in own each) (fs ++ f ∷ []) ≡ sum_by (ahead_in own each) fs + ahead_in own each f
    sums-last fs f = let a = sum_by-append (ahead_in own each) fs (f ∷ []) in let b = sum_by-cons (ahead_in own each) f [] in omega arith

    pub begin_ahead : (t : PlainTree) (fs : List (Open B)) (f : Open B) → fs ≡ [] → plain f.tree.now ≡ t → map plain f.rest.now ≡ below_node t →
        steps_ahead own each fs f ≡ own t + sum_by each (row_nodes_backward (row (below_node t)))
    begin_ahead t fs f none is all =
        let a = ap (sum_by (ahead_in own each)) none in
        let b = ap own is in
        let c = ap (λ l. sum_by each (row_nodes_backward (row l))) all in
        omega arith

    pub down_ahead : (fs gs : List (Open B)) (f up next : Open B) (c : TreeOf Kind Pair) (ts : List PlainTree) → up.tree ≡ f.tree → map plain f.rest.now ≡ ts ++ plain c ∷ map plain up.rest.now →
        gs ≡ fs ++ up ∷ [] → plain next.tree.now ≡ plain c → map plain next.rest.now ≡ below_node (plain c) → steps_ahead own each gs next + each (plain c) ≤ steps_ahead own each fs f + own (plain c)
    down_ahead fs gs f up next c ts same split push is all =
        let a = ap (sum_by (ahead_in own each)) push ∙ sums-last fs up in
        let b = ap (λ r. own (plain r.now)) same in
        let d = ap (λ l. sum_by each (row_nodes_backward (row l))) split in
        let e = weights-append ts (plain c ∷ map plain up.rest.now) in
        let h = weights-cons (plain c) (map plain up.rest.now) in
        let i = ap own is in
        let j = ap (λ l. sum_by each (row_nodes_backward (row l))) all in
        omega arith

    pub up_ahead : (fs gs : List (Open B)) (f up next : Open B) → fs ≡ gs ++ up ∷ [] → next.tree ≡ up.tree → next.rest ≡ up.rest → steps_ahead own each gs next + own (plain f.tree.now) ≤ steps_ahead own each fs f
    up_ahead fs gs f up next pop same rest =
        let a = ap (sum_by (ahead_in own each)) pop ∙ sums-last gs up in
        let b = ap (λ r. own (plain r.now)) same in
        let c = ap (λ r. sum_by each (row_nodes_backward (row (map plain r.now)))) rest in
        omega arith

    pub own_ahead : (fs : List (Open B)) (f : Open B) → own (plain f.tree.now) ≤ steps_ahead own each fs f
    own_ahead fs f = omega arith
