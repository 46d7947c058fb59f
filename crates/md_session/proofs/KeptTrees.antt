-- A tree that is kept while an edge comes or goes.
use Rattle.std.proofs.Common.{◌≡◌, ◌≢◌, ℕ, ◌<◌, List, [], ◌∷◌, length, slice_get, true, false, Option, Some, None, IfSome, refl, sym, ◌∙◌, ap, subst, arith}
use Rattle.std.specs.FinSet.{empty}
use Rattle.md_graph.specs.Sets.{Has, Lacks}
use Rattle.md_graph.proofs.SetLemmas.{empty_if}
use Rattle.md_graph.specs.PlainGraph.{PlainGraph, IsGraph, adjacent}
use Rattle.md_tree.specs.Trees.{PlainTree}
use Rattle.md_tree.specs.StrongTrees.{IsTree}
use Rattle.md_script.specs.declared.edit.Edit.{Edit}
use Rattle.md_script.specs.declared.edit.Edit.TheVariants.{AddEdge, DelEdge, AddVertex, DelVertex}
use Rattle.md_script.specs.declared.item.Item.TheVariants.{One}
use Rattle.md_script.specs.Edit.{reason_of, after}
use Rattle.md_script.specs.Pasts.{taken_back, MayBack, AnyGraph}
use Rattle.md_local.specs.Edits.{IsEdited}
use Rattle.md_local.proofs.Edited.{edge_comes, edge_goes}
use Rattle.md_session.specs.LocalSteps.{edge_ends, TakesFew, IsLastEdge, MayRebuild, HasFewSteps}
use Rattle.md_cograph.proofs.Changed.{edge_may_come, edge_may_go}

-- the two ends that an edit of an edge tells, and the graph behind it
record IsBetween (g h : PlainGraph) (u v : ℕ) : Type 0 where
  differ : u ≢ v
  left : Has h.vertices u
  right : Has h.vertices v
  edited : IsEdited g h u v

between : (g h : PlainGraph) (edit : Edit) (u v : ℕ) → IsGraph g → reason_of g edit ≡ None → h ≡ after g edit → edge_ends edit ≡ Some (u, v) → IsBetween g h u v
between g h (AddEdge a b) u v is none next ends =
    let pair : ◌≡◌ {A = ℕ × ℕ} (a, b) (u, v) = cc in
    let first : a ≡ u = ap (λ (p : ℕ × ℕ). p.0) pair in
    let second : b ≡ v = ap (λ (p : ℕ × ℕ). p.1) pair in
    let may = edge_may_come g a b none in
    subst (λ (k : PlainGraph). IsBetween g k u v) (sym next) (subst (λ x. IsBetween g (after g (AddEdge a b)) x v) first (subst (λ y. IsBetween g (after g (AddEdge a b)) a y) second
    (record { differ = may.2; left = may.0; right = may.1; edited = edge_comes g a b is })))
between g h (DelEdge a b) u v is none next ends =
    let pair : ◌≡◌ {A = ℕ × ℕ} (a, b) (u, v) = cc in
    let first : a ≡ u = ap (λ (p : ℕ × ℕ). p.0) pair in
    let second : b ≡ v = ap (λ (p : ℕ × ℕ). p.1) pair in
    let may = edge_may_go g a b none in
    subst (λ (k : PlainGraph). IsBetween g k u v) (sym next) (subst (λ x. IsBetween g (after g (DelEdge a b)) x v) first (subst (λ y. IsBetween g (after g (DelEdge a b)) a y) second
    (record { differ = may.2; left = may.0; right = may.1; edited = edge_goes g a b is })))
between g h (AddVertex x list) u v is none next ends = absurd (cc)
between g h (DelVertex x) u v is none next ends = absurd (cc)

module _ (g h : PlainGraph) (edit : Edit) (t : Option PlainTree) (is : IsGraph g) (none : reason_of g edit ≡ None) (next : h ≡ after g edit) (tree : IsTree (adjacent g) g.vertices t) where
  pub may_rebuild : (u v : ℕ) → edge_ends edit ≡ Some (u, v) → MayRebuild h t u v
  may_rebuild u v ends =
      let so = between g h edit u v is none next ends in
      record { differ = so.differ; left = so.left; right = so.right; before = g; edited = so.edited; tree = tree }

  pub if_ends : (ends : Option (ℕ × ℕ)) → ends ≡ edge_ends edit → IfSome ends (λ pair. MayRebuild h t pair.0 pair.1)
  if_ends None are = tt
  if_ends (Some pair) are = may_rebuild pair.0 pair.1 (sym are)

  pub few_steps : (ends : Option (ℕ × ℕ)) (before now : ℕ) → ends ≡ edge_ends edit → IfSome ends (λ pair. HasFewSteps h t pair.0 pair.1 before now) → TakesFew g (One edit) before now
  few_steps ends before now are told = λ other u v w same is_edge least.
      let e : edit ≡ other = cc in
      let own : edge_ends edit ≡ Some (u, v) = ap edge_ends e ∙ is_edge in
      let few : HasFewSteps h t u v before now = subst (λ o. IfSome o (λ pair. HasFewSteps h t pair.0 pair.1 before now)) (are ∙ own) told in
      few g w (between g h edit u v is none next own).edited tree least

-- a graph with an edge has a tree
pub some_tree : (g : PlainGraph) (t : Option PlainTree) (u v : ℕ) → MayRebuild g t u v → t ≡ None → ⊥
some_tree g t u v may none =
    let bare : may.before.vertices ≡ empty = subst (IsTree (adjacent may.before) may.before.vertices) none may.tree in
    let lacks : Lacks g.vertices u = empty_if g.vertices (may.edited.vertices ∙ bare) u in
    let has : Has g.vertices u = may.left in
    let e : true ≡ false = sym has ∙ lacks in
    absurd (cc)

-- ---- the last item, where it is one edit of an edge

pub one_last : (items : List (List Edit)) (n : ℕ) → 0 < length items → ((last : List Edit) (others : List (List Edit)) → items ≡ last ∷ others → n ≡ length last) → n ≡ 1
    → (last : List Edit) × (others : List (List Edit)) × (items ≡ last ∷ others) × (0 < length last)
one_last [] n some len one = let e : ◌≡◌ {A = ℕ} 0 1 = omega (arith, some) in absurd (cc)
one_last (last ∷ others) n some len one = let here = len last others refl in (last, others, refl, omega (arith, here, one))

single : (last : List Edit) (e : Edit) → length last ≡ 1 → slice_get last 0 ≡ Some e → last ≡ e ∷ []
single [] e len at = absurd (cc)
single (x ∷ []) e len at = let same : x ≡ e = cc in ap (λ (y : Edit). y ∷ []) same
single (x ∷ y ∷ rest) e len at = let d : ◌≡◌ {A = ℕ} 0 1 = omega (arith, len) in absurd (cc)

pub only_edit : (items : List (List Edit)) (n : ℕ) (e : Edit) (u v : ℕ) → ((last : List Edit) (others : List (List Edit)) → items ≡ last ∷ others → n ≡ length last) → n ≡ 1
    → ((last : List Edit) (others : List (List Edit)) → items ≡ last ∷ others → slice_get last 0 ≡ Some e) → edge_ends e ≡ Some (u, v) → IsLastEdge items u v
only_edit items n e u v len one at ends = λ last others is. (e, single last e (sym (len last others is) ∙ one) (at last others is), ends)

-- it is taken back by rebuilding the tree
pub back_ends : (limit : ℕ) (g h : PlainGraph) (items : List (List Edit)) (last : List Edit) (others : List (List Edit)) (t : Option PlainTree) (ends : Option (ℕ × ℕ)) → IsGraph g → items ≡ last ∷ others → MayBack limit AnyGraph g last
    → h ≡ taken_back g last → IsTree (adjacent g) g.vertices t → IfSome ends (λ pair. IsLastEdge items pair.0 pair.1) → IfSome ends (λ pair. MayRebuild h t pair.0 pair.1)
back_ends limit g h items last others t None graph is may next tree told = tt
back_ends limit g h items last others t (Some pair) graph is may next tree told =
    let one = told last others is in
    let back : MayBack limit AnyGraph g (one.0 ∷ []) = subst (MayBack limit AnyGraph g) one.1 may in
    may_rebuild g h one.0 t graph back.1.0 (next ∙ ap (taken_back g) one.1) tree pair.0 pair.1 one.2
