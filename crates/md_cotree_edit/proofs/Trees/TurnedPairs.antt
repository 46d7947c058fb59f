-- Trees of a turned pair, in their place and as they alternate.
use Rattle.std.proofs.Common.{◌≡◌, ℕ, ◌+◌, ◌*◌, Bool, true, false, not, cond, List, [], ◌∷◌, refl, sym, subst, arith}
use Rattle.md_cotree.specs.PlaceTrees.{PlaceTree, inner, PlaceTrees, no_more, then, place_of, leaves_in, leaf_count, IsInner, Alternates}
use Rattle.md_cotree_edit.specs.Counts.{name_in, name_row, pair_row, edge_in, crossing}
use Rattle.md_cotree_edit.specs.Contexts.{Frame, fill, plug, AreAround}
use Rattle.md_cotree_edit.specs.Turns.{IsTurned}

pub shift_names : (fs : List Frame) (x : ℕ) (t s : PlaceTree) → name_in x (plug fs s) + name_in x t ≡ name_in x (plug fs t) + name_in x s
shift_names [] x t s = omega arith
shift_names (f ∷ fs) x t s = let rest = shift_names fs x (fill f t) (fill f s) in omega arith

pub shift_tips : (fs : List Frame) (p x : ℕ) (t s : PlaceTree) → leaves_in p x (plug fs s) + leaves_in p x t ≡ leaves_in p x (plug fs t) + leaves_in p x s
shift_tips [] p x t s = omega arith
shift_tips (f ∷ fs) p x t s = let rest = shift_tips fs p x (fill f t) (fill f s) in omega arith

pub shift_leaves : (fs : List Frame) (t s : PlaceTree) → leaf_count (plug fs s) + leaf_count t ≡ leaf_count (plug fs t) + leaf_count s
shift_leaves [] t s = omega arith
shift_leaves (f ∷ fs) t s = let rest = shift_leaves fs (fill f t) (fill f s) in omega arith

pub shift_edges : (fs : List Frame) (x y : ℕ) (t s : PlaceTree) → name_in x s ≡ name_in x t → name_in y s ≡ name_in y t →
    edge_in x y (plug fs s) + edge_in x y t ≡ edge_in x y (plug fs t) + edge_in x y s
shift_edges [] x y t s hx hy = omega arith
shift_edges (f ∷ fs) x y t s hx hy =
    let rest = shift_edges fs x y (fill f t) (fill f s) (omega arith) (omega arith) in
    let here : cond f.series (pair_row x y (then s f.others)) 0 ≡ cond f.series (pair_row x y (then t f.others)) 0 =
    λ i. cond f.series ((hx i * name_row y f.others + hy i * name_row x f.others) + pair_row x y f.others) 0 in
    omega arith

pub place_plug : (fs : List Frame) (t s : PlaceTree) → place_of s ≡ place_of t → place_of (plug fs s) ≡ place_of (plug fs t)
place_plug [] t s same = same
place_plug (f ∷ fs) t s same = place_plug fs (fill f t) (fill f s) refl

pub turned_plug : (k : Bool) (crossed : ℕ → ℕ → ℕ) (fs : List Frame) (t s : PlaceTree) → IsTurned k crossed t s → IsTurned k crossed (plug fs t) (plug fs s)
turned_plug k crossed fs t s is = record {
  tips = λ p x. let e = shift_tips fs p x t s in let f = is.tips p x in omega arith;
  named = λ x. let e = shift_names fs x t s in let f = is.named x in omega arith;
  edges = λ x y. let e = shift_edges fs x y t s (is.named x) (is.named y) in let f = is.edges x y in omega arith;
  leaves = let e = shift_leaves fs t s in let f = is.leaves in omega arith;
}

-- ---- kinds that alternate

pub not_self : (k : Bool) → not k ≡ k → ⊥
not_self true e = absurd cc
not_self false e = absurd cc

pub self_not : (k : Bool) → k ≡ not k → ⊥
self_not k e = not_self k (sym e)

pub other_kind : (a b : Bool) → (a ≡ b → ⊥) → b ≡ not a
other_kind true true differ = absurd (differ refl)
other_kind true false differ = refl
other_kind false true differ = refl
other_kind false false differ = absurd (differ refl)

pub alternates_plug : (fs : List Frame) (k : Bool) (t : PlaceTree) → AreAround fs k → (IsInner t (not k) → ⊥) → Alternates t → Alternates (plug fs t)
alternates_plug [] k t around other is = is
alternates_plug (f ∷ fs) k t around other is =
    alternates_plug fs f.series (fill f t) around.4 (self_not f.series)
    ((let few = around.1 in omega arith), ((λ e. other (subst (IsInner t) around.0 e)), around.2), (is, around.3))

pub around_plug : (fs : List Frame) (p : ℕ) (k : Bool) (ts : PlaceTrees) → Alternates (plug fs (inner p k ts)) → AreAround fs k × Alternates (inner p k ts)
around_plug [] p k ts is = (tt, is)
around_plug (f ∷ fs) p k ts is =
    let rest = around_plug fs f.place f.series (then (inner p k ts) f.others) is in
    let two = rest.1.0 in (
      (other_kind k f.series rest.1.1.0, omega arith, rest.1.1.1, rest.1.2.1, rest.0),
      rest.1.2.0,
    )

-- ---- two trees below a node of the other kind

module _ (w : ℕ) (x y : PlaceTree) where
  -- beside other children
  pub turned_below : (k : Bool) (r : ℕ) (rest : PlaceTrees) → IsTurned k (crossing x y) (inner w k (then x (then y rest))) (inner w k (then (inner r (not k) (then y (then x no_more))) rest))
  turned_below true r rest = record {
    tips = λ p v. omega arith;
    named = λ v. omega arith;
    edges = λ u v. omega arith;
    leaves = omega arith;
  }
  turned_below false r rest = record {
    tips = λ p v. omega arith;
    named = λ v. omega arith;
    edges = λ u v. omega arith;
    leaves = omega arith;
  }

  -- where there are no others
  pub turned_root : (k : Bool) → IsTurned k (crossing x y) (inner w k (then x (then y no_more))) (inner w (not k) (then y (then x no_more)))
  turned_root true = record {
    tips = λ p v. omega arith;
    named = λ v. omega arith;
    edges = λ u v. omega arith;
    leaves = omega arith;
  }
  turned_root false = record {
    tips = λ p v. omega arith;
    named = λ v. omega arith;
    edges = λ u v. omega arith;
    leaves = omega arith;
  }

  turned_above : (k : Bool) (g : ℕ) (others : PlaceTrees) → IsTurned k (crossing x y) (inner g (not k) (then (inner w k (then x (then y no_more))) others)) (inner g (not k) (then y (then x others)))
  turned_above true g others = record {
    tips = λ p v. omega arith;
    named = λ v. omega arith;
    edges = λ u v. omega arith;
    leaves = omega arith;
  }
  turned_above false g others = record {
    tips = λ p v. omega arith;
    named = λ v. omega arith;
    edges = λ u v. omega arith;
    leaves = omega arith;
  }

  -- below the node above, where there are no others
  pub turned_merged : (k j : Bool) (g : ℕ) (others : PlaceTrees) → j ≡ not k →
      IsTurned k (crossing x y) (inner g j (then (inner w k (then x (then y no_more))) others)) (inner g j (then y (then x others)))
  turned_merged k j g others e =
      subst (λ j. IsTurned k (crossing x y) (inner g j (then (inner w k (then x (then y no_more))) others)) (inner g j (then y (then x others)))) (sym e) (turned_above k g others)
