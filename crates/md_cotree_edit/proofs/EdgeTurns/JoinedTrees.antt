-- Two loose trees below one node of a kind.
use Rattle.std.proofs.Common.{◌≡◌, ℕ, ◌+◌, ◌<◌, Bool, true, false, cond, [], Some, None, refl, sym, ◌∙◌, ap, subst, arith}
use Rattle.md_lists.specs.declared.kinds.PlaceKind.{PlaceKind}
use Rattle.md_lists.specs.declared.TheConstants.{PLACES}
use Rattle.md_lists.specs.Links.{Links, kind_at, AreLinks, with_kind, attached}
use Rattle.md_cotree.specs.PlaceTrees.{PlaceTree, tip, inner, PlaceTrees, no_more, then, place_of, place_kind, IsInner}
use Rattle.md_cotree.proofs.Kept.{no_leaf, same_kind}
use Rattle.md_cotree_edit.specs.Contexts.{AreTreesKept}
use Rattle.md_cotree_edit.specs.Turns.{AdoptView, CanAdopt, adopted, IsBeside}
use Rattle.md_cotree_edit.proofs.Trees.KeptTrees.{root_kind, kept_kind}
use Rattle.md_cotree_edit.proofs.Trees.ListCalls.{kept_made}
use Rattle.md_cotree_edit.proofs.Trees.AdoptedTrees.{CanAttach, same_back, attach_ready, attach_done}
use Rattle.md_cotree_edit.specs.Counts.{edge_in, crossing}

abbrev pub Joined : Links → Bool → PlaceTree → PlaceTree → PlaceTrees → ℕ → Type 0
Joined m k y a us result = (r : PlaceTree) × AreTreesKept m (then r us) × (place_of r ≡ result) × IsBeside k y a r

-- a node of the kind takes the other in
beside_in : (k : Bool) (p : ℕ) (ts : PlaceTrees) (a : PlaceTree) → IsBeside k (inner p k ts) a (inner p k (then a ts))
beside_in k p ts a = record {
  tips = λ q x. omega arith;
  named = λ x. omega arith;
  edges = edges k;
  leaves = omega arith;
  alternates = λ y b other. ((let two = y.0 in omega arith), (other, y.1), (b, y.2));
  kind = refl;
}
  where
    edges : (k : Bool) (x z : ℕ) → edge_in x z (inner p k (then a ts)) ≡ (edge_in x z (inner p k ts) + edge_in x z a) + cond k (crossing (inner p k ts) a x z) 0
    edges true x z = omega arith
    edges false x z = omega arith

-- a new node has both
beside_new : (k : Bool) (p : ℕ) (y a : PlaceTree) → (IsInner y k → ⊥) → IsBeside k y a (inner p k (then a (then y no_more)))
beside_new k p y a other_y = record {
  tips = λ q x. omega arith;
  named = λ x. omega arith;
  edges = edges k;
  leaves = omega arith;
  alternates = λ alt_y alt_a other. (omega arith, (other, (other_y, tt)), (alt_a, (alt_y, tt)));
  kind = refl;
}
  where
    edges : (k : Bool) (x z : ℕ) → edge_in x z (inner p k (then a (then y no_more))) ≡ (edge_in x z y + edge_in x z a) + cond k (crossing y a x z) 0
    edges true x z = omega arith
    edges false x z = omega arith

module _ (l : Links) (ok : AreLinks l) (first second : ℕ) (k : Bool) (y a : PlaceTree) (us : PlaceTrees) (kept : AreTreesKept l (then y (then a us))) (at_y : place_of y ≡ first) (at_a : place_of a ≡ second) where
  -- the first is a node of the kind
  node_of : (y : PlaceTree) → AreTreesKept l (then y (then a us)) → kind_at l (place_of y) ≡ Some (place_kind k) → (ts : PlaceTrees) × (y ≡ inner (place_of y) k ts)
  node_of (tip p v) kept is = absurd (no_leaf v k (sym (kept_kind l (tip p v) (then a us) kept) ∙ is))
  node_of (inner p j ts) kept is = (ts, ap (λ z. inner p z ts) (same_kind j k (sym (kept_kind l (inner p j ts) (then a us) kept) ∙ is)))

  module _ (is : kind_at l first ≡ Some (place_kind k)) where
    abbrev node : (ts : PlaceTrees) × (y ≡ inner (place_of y) k ts)
    node = node_of y kept (ap (kind_at l) at_y ∙ is)

    node_is : y ≡ inner first k node.0
    node_is = node.1 ∙ ap (λ z. inner z k node.0) at_y

    node_kept : AreTreesKept l (then (inner first k node.0) (then a us))
    node_kept = subst (λ t. AreTreesKept l (then t (then a us))) node_is kept

    pub join_ready : CanAttach l first second
    join_ready = subst (CanAttach l first) at_a (attach_ready l ok [] first k node.0 us a node_kept)

    pub joined_in : (m : Links) → m ≡ attached l first second → Joined m k y a us first
    joined_in m made = (
      inner first k (then a node.0),
      subst (λ z. AreTreesKept z (then (inner first k (then a node.0)) us)) (ap (attached l first) at_a ∙ sym made) (attach_done l ok [] first k node.0 us a node_kept),
      refl,
      subst (λ t. IsBeside k t a (inner first k (then a node.0))) (sym node_is) (beside_in k first node.0 a),
    )

  -- it isn't
  module _ (r : ℕ) (kind : PlaceKind) (is : kind ≡ place_kind k) (free : kind_at l r ≡ None) (within : r < PLACES) (m : Links) (made : m ≡ with_kind l r (Some kind)) where
    abbrev pub join_view : AdoptView
    join_view = record { frames = []; series = k; children = no_more; first = y; second = a; others = us }

    pub join_can : CanAdopt m r first second join_view
    join_can = record {
      kept = subst (λ z. AreTreesKept z (then y (then a (then (inner r k no_more) us)))) (ap (λ z. with_kind l r (Some z)) (sym is) ∙ sym made)
          (turned (kept_made l ok r k (then y (then a us)) free within kept));
      first = at_y;
      second = at_a;
    }
      where
        turned : AreTreesKept (with_kind l r (Some (place_kind k))) (then (inner r k no_more) (then y (then a us))) → AreTreesKept (with_kind l r (Some (place_kind k))) (then y (then a (then (inner r k no_more) us)))
        turned old =
            let same = same_back y a (inner r k no_more) us in
            record {
              each = λ p. same.places p ∙ old.each p;
              kinds = λ p. same.kinds p ∙ old.kinds p;
              links = λ p c. same.links p c ∙ old.links p c;
            }

    pub joined_new : (kind_at l first ≡ Some (place_kind k) → ⊥) → (n : Links) → AreTreesKept n (adopted r join_view) → Joined n k y a us r
    joined_new other n all = (
      inner r k (then a (then y no_more)),
      all,
      refl,
      beside_new k r y a (λ i. other (sym (ap (kind_at l) at_y) ∙ kept_kind l y (then a us) kept ∙ ap Some (kind_of_inner y k i))),
    )
      where
        kind_of_inner : (y : PlaceTree) (k : Bool) → IsInner y k → root_kind y ≡ place_kind k
        kind_of_inner (tip p v) k i = absurd i
        kind_of_inner (inner p j ts) k i = ap place_kind i
