-- Reaching is an equivalence that reversal keeps; and both sides of a graph meet what the laws ask.
use Rattle.std.proofs.Common.{◌≡◌, ◌↔◌, ◌&&◌, not, ℕ, Bool, true, false, refl}
use Rattle.std.proofs.lemmas.Bool.{false_from_ne_true, ne_eqb}
use Rattle.md_graph.specs.PlainGraph.{PlainGraph, IsGraph}
use Rattle.md_graph.proofs.SetLemmas.{clash}
use Rattle.md_graph.proofs.GraphLemmas.{adjacent-complement}
use Rattle.md_graph.specs.Adjacency.{IsAdjacency}
use Rattle.md_forcing.specs.declared.arc.Arc.{Arc}
use Rattle.md_forcing.specs.declared.arc_set.Side.{Side}
use Rattle.md_forcing.specs.declared.arc_set.Side.TheVariants.{Edges, NonEdges}
use Rattle.md_forcing.specs.Forcing.{reverse, Reaches}
use Rattle.md_forcing.specs.Sides.{adjacent_on}
use Rattle.md_forcing.proofs.OneSide.{side_ends, side_symmetric, side_names}
use Rattle.md_forcing.proofs.Reaching.{forces_back, forces_turned, arc_turned, reaches_itself, reaches_step, reaches_on, over_reached}
use Rattle.md_comparability.specs.Laws.{MeetsPremises, SidesMeetPremises}

module _ (e : ℕ → ℕ → Bool) (is : IsAdjacency e) where
  pub reaches_back : (a b : Arc) → Reaches e a b → Reaches e b a
  reaches_back a b r =
      over_reached e (λ x. Reaches e x a) (λ x y x_is here y_is f. reaches_on e y x a (reaches_step e y y x (reaches_itself e y y_is) x_is (forces_back e is.symmetric x y f)) here) a b (reaches_itself e a r.0) r

  pub reaches_turned : (a b : Arc) → Reaches e a b → Reaches e (reverse a) (reverse b)
  reaches_turned a b r =
      over_reached e (λ x. Reaches e (reverse a) (reverse x)) (λ x y x_is here y_is f. reaches_step e (reverse a) (reverse x) (reverse y) here (arc_turned e is.symmetric y y_is) (forces_turned e is.symmetric x y f)) a b (reaches_itself e (reverse a) (arc_turned e is.symmetric a r.0)) r

  -- a class that holds an arc and its reverse holds the reverse of each
  pub both_turned : (a x : Arc) → Reaches e a x → Reaches e a (reverse x) → Reaches e a (reverse a)
  both_turned a x r s = reaches_on e a (reverse x) (reverse a) s (reaches_back (reverse a) (reverse x) (reaches_turned a x r))

pub side_premises : {g : PlainGraph} → IsGraph g → (side : Side) → MeetsPremises (adjacent_on side g)
side_premises {g} is side = record {
  adjacency = record {
    symmetric = side_symmetric side g;
    irreflexive = λ a. false_from_ne_true _ (λ h. (side_ends is side a a h).2 refl);
  };
  below = side_names is side;
}

co_true : (x y z b c : Bool) → c ≡ ((x && y) && (not z && not b)) → x ≡ true → y ≡ true → z ≡ false → (c ≡ true) ↔ (b ≡ false)
co_true true true false true c is p q r = (λ h. clash h is, λ h. cc)
co_true true true false false c is p q r = (λ h. refl, λ h. is)
co_true true true true b c is p q r = absurd (cc)
co_true true false z b c is p q r = absurd (cc)
co_true false y z b c is p q r = absurd (cc)

pub sides_proof : SidesMeetPremises
sides_proof g is = record {
  side = side_premises is;
  complement = record {
    apart = λ u v in_u in_v differ. co_true _ _ _ _ _ (adjacent-complement is u v) in_u in_v (ne_eqb u v differ);
    ends = λ u v h. let w = side_ends is Edges u v h in (w.0, w.1);
    other_ends = λ u v h. let w = side_ends is NonEdges u v h in (w.0, w.1);
  };
}
