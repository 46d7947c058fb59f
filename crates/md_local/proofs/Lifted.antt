-- The sets of names that the names of a quotient stand for, and trees on them.
use Rattle.std.proofs.Common.{◌≡◌, ℕ, zero, suc, ◌≤◌, Bool, List, [], ◌∷◌, refl, sym, ap, subst, arith}
use Rattle.std.proofs.lemmas.Bool.{false_from_ne_true}
use Rattle.std.specs.FinSet.{contains}
use Rattle.md_graph.specs.Sets.{NameSet, Has, Within, only_name}
use Rattle.md_graph.proofs.SetLemmas.{clash, of_only, only_has, empty_lacks, Has-along, same_members, retain_has, of_retain, union_left, union_right}
use Rattle.md_modules.specs.Quotients.{IsModularPartition, class}
use Rattle.md_modules.proofs.Quotients.{class_has, of_class, lifted}
use Rattle.md_tree.specs.Trees.{PlainTree, PlainTrees, no_tree, one_more, names, names_below, names_at, count, row, EachNodeBelow}
use Rattle.md_tree.specs.Heads.{head, heads}
use Rattle.md_tree.specs.Held.{IsLeast}
use Rattle.md_tree.specs.StrongTrees.{IsInOrder}
use Rattle.md_tree.specs.WellFormed.{AreDisjoint}
use Rattle.md_tree.proofs.Nodes.{IsChild, child_inside, child_of_name}
use Rattle.md_tree.proofs.Built.{IsBuilt}
use Rattle.md_local.proofs.Ordering.{child_of_in, in_of_child, head_least}
use Rattle.md_local.proofs.Joining.{AreTreesOver, tree_of_child, child_of_tree}

-- two least members of a set are one
pub one_least : (a b : NameSet) (x y : ℕ) → a ≡ b → IsLeast a x → IsLeast b y → x ≡ y
one_least a b x y same p q =
    let l : x ≤ y = p.first y (Has-along b a (sym same) y q.member) in
    let m : y ≤ x = q.first x (Has-along a b same x p.member) in
    omega arith

module _ (f : ℕ → ℕ → Bool) (s r : NameSet) (rep : ℕ → ℕ) (part : IsModularPartition f s r rep) where
  pub lift_has : (k : NameSet) (x : ℕ) → Has s x → Has k (rep x) → Has (lifted s rep k) x
  lift_has k x hx h = retain_has s (λ y. contains k (rep y)) x hx h

  pub of_lift : (k : NameSet) (x : ℕ) → Has (lifted s rep k) x → Has s x × Has k (rep x)
  of_lift k x h = of_retain s (λ y. contains k (rep y)) x h

  -- names of the quotient stand for themselves too
  pub lift_own : (k : NameSet) → Within k r → Within k (lifted s rep k)
  lift_own k w x h = lift_has k x (part.inside x (w x h)) (subst (Has k) (sym (part.own x (w x h))) h)

  -- all of them stand for all names, and each for those of its class
  pub lift_whole : lifted s rep r ≡ s
  lift_whole = same_members (lifted s rep r) s (λ x h. (of_lift r x h).0) (λ x h. lift_has r x h (part.leads x h))

  pub lift_only : (x : ℕ) → lifted s rep (only_name x) ≡ class s rep x
  lift_only x = same_members (lifted s rep (only_name x)) (class s rep x)
      (λ y h. let o = of_lift (only_name x) y h in class_has s rep x y o.0 (of_only x (rep y) o.1))
      (λ y h. let o = of_class s rep x y h in lift_has (only_name x) y o.0 (subst (Has (only_name x)) (sym o.1) (only_has x)))

  -- ---- trees at the places of others

  pub lifted_below : (cs : PlainTrees) (gs : List PlainTree) → AreTreesOver f (lifted s rep) cs gs → names_below (row gs) ≡ lifted s rep (names_below cs)
  lifted_below cs gs are = same_members (names_below (row gs)) (lifted s rep (names_below cs))
      (λ x h.
      let g : (g : PlainTree) × IsChild (row gs) g × Has (names g) x = child_of_name (row gs) x h in
      let c = child_of_tree f (lifted s rep) cs gs are g.0 (in_of_child gs g.0 g.1) in
      let o = of_lift (names c.0) x (Has-along (names g.0) (lifted s rep (names c.0)) c.2 x g.2) in
      lift_has (names_below cs) x o.0 (child_inside cs c.0 c.1 (rep x) o.1))
      (λ x h.
      let o = of_lift (names_below cs) x h in
      let c : (c : PlainTree) × IsChild cs c × Has (names c) (rep x) = child_of_name cs (rep x) o.1 in
      let g = tree_of_child f (lifted s rep) cs gs are c.0 c.1 in
      child_inside (row gs) g.0 (child_of_in gs g.0 g.1) x (Has-along (lifted s rep (names c.0)) (names g.0) (sym g.2) x (lift_has (names c.0) x o.0 c.2)))

  pub lifted_apart : (cs : PlainTrees) (gs : List PlainTree) → AreTreesOver f (lifted s rep) cs gs → AreDisjoint cs → AreDisjoint (row gs)
  lifted_apart no_tree [] are apart = tt
  lifted_apart no_tree (g ∷ gs) are apart = absurd are
  lifted_apart (one_more t cs) [] are apart = absurd are
  lifted_apart (one_more t cs) (g ∷ gs) are apart = (
    λ x h. false_from_ne_true _ (λ k.
        let a = of_lift (names t) x (Has-along (names g) (lifted s rep (names t)) are.0.0 x h) in
        let b = of_lift (names_below cs) x (Has-along (names_below (row gs)) (lifted s rep (names_below cs)) (lifted_below cs gs are.1) x k) in
        clash b.1 (apart.0 (rep x) a.1)),
    lifted_apart cs gs are.1 apart.1,
  )

  pub lifted_count : (cs : PlainTrees) (gs : List PlainTree) → AreTreesOver f (lifted s rep) cs gs → count (row gs) ≡ count cs
  lifted_count no_tree [] are = refl
  lifted_count no_tree (g ∷ gs) are = absurd are
  lifted_count (one_more t cs) [] are = absurd are
  lifted_count (one_more t cs) (g ∷ gs) are = ap (λ n. suc n) (lifted_count cs gs are.1)

  pub lifted_at : (cs : PlainTrees) (gs : List PlainTree) → AreTreesOver f (lifted s rep) cs gs → (i x : ℕ) → Has (names_at (row gs) i) x → Has s x × Has (names_at cs i) (rep x)
  lifted_at no_tree [] are i x h = absurd (clash h (empty_lacks x))
  lifted_at no_tree (g ∷ gs) are i x h = absurd are
  lifted_at (one_more t cs) [] are i x h = absurd are
  lifted_at (one_more t cs) (g ∷ gs) are zero x h = of_lift (names t) x (Has-along (names g) (lifted s rep (names t)) are.0.0 x h)
  lifted_at (one_more t cs) (g ∷ gs) are (suc i) x h = lifted_at cs gs are.1 i x h

  pub own_at : (cs : PlainTrees) (gs : List PlainTree) → AreTreesOver f (lifted s rep) cs gs → Within (names_below cs) r → (i x : ℕ) → Has (names_at cs i) x → Has (names_at (row gs) i) x
  own_at no_tree [] are w i x h = h
  own_at no_tree (g ∷ gs) are w i x h = absurd are
  own_at (one_more t cs) [] are w i x h = absurd are
  own_at (one_more t cs) (g ∷ gs) are w zero x h =
      Has-along (lifted s rep (names t)) (names g) (sym are.0.0) x (lift_own (names t) (λ y k. w y (union_left (names t) (names_below cs) y k)) x h)
  own_at (one_more t cs) (g ∷ gs) are w (suc i) x h = own_at cs gs are.1 (λ y k. w y (union_right (names t) (names_below cs) y k)) i x h

  -- ---- where each name of the quotient is the least of its class

  module _ (least : (x : ℕ) → Has r x → IsLeast (class s rep x) x) where
    lift_least : (k : NameSet) (x : ℕ) → Within k r → IsLeast k x → IsLeast (lifted s rep k) x
    lift_least k x w is = record {
      member = lift_own k w x is.member;
      first = λ y h.
          let o = of_lift k y h in
          let a : x ≤ rep y = is.first (rep y) o.1 in
          let b : rep y ≤ y = (least (rep y) (w (rep y) o.1)).first y (class_has s rep (rep y) y o.0 refl) in
          omega arith;
    }

    pub lifted_order : (cs : PlainTrees) (gs : List PlainTree) → AreTreesOver f (lifted s rep) cs gs → Within (names_below cs) r → IsInOrder cs → IsInOrder (row gs)
    lifted_order no_tree [] are w order = tt
    lifted_order no_tree (g ∷ gs) are w order = absurd are
    lifted_order (one_more t cs) [] are w order = absurd are
    lifted_order (one_more t cs) (g ∷ gs) are w order =
        let inside : Within (names_below cs) r = λ y k. w y (union_right (names t) (names_below cs) y k) in (
          (
            order.0.0,
            Has-along (lifted s rep (names t)) (names g) (sym are.0.0) order.0.0 (lift_own (names t) (λ y k. w y (union_left (names t) (names_below cs) y k)) order.0.0 order.0.1),
            λ y h.
                let o = of_lift (names_below cs) y (Has-along (names_below (row gs)) (lifted s rep (names_below cs)) (lifted_below cs gs are.1) y h) in
                let a = order.0.2 (rep y) o.1 in
                let b : rep y ≤ y = (least (rep y) (inside (rep y) o.1)).first y (class_has s rep (rep y) y o.0 refl) in
                omega arith,
          ),
          lifted_order cs gs are.1 inside order.1,
        )

    pub lifted_heads : (cs : PlainTrees) (gs : List PlainTree) → AreTreesOver f (lifted s rep) cs gs → Within (names_below cs) r → EachNodeBelow (IsBuilt f) cs → heads (row gs) ≡ heads cs
    lifted_heads no_tree [] are w each = refl
    lifted_heads no_tree (g ∷ gs) are w each = absurd are
    lifted_heads (one_more t cs) [] are w each = absurd are
    lifted_heads (one_more t cs) (g ∷ gs) are w each =
        let here : head g ≡ head t =
        one_least (names g) (lifted s rep (names t)) (head g) (head t) are.0.0 (head_least f g are.0.1)
        (lift_least (names t) (head t) (λ y k. w y (union_left (names t) (names_below cs) y k)) (head_least f t each.0)) in
        let rest : heads (row gs) ≡ heads cs = lifted_heads cs gs are.1 (λ y k. w y (union_right (names t) (names_below cs) y k)) each.1 in
        cc
