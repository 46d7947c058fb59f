-- A turn of the walk through the edges, its row, and its end.
use Rattle.std.proofs.Common.{◌≡◌, ◌⊎◌, ℕ, ◌<◌, Bool, true, false, List, sym, ◌∙◌, subst, inl, inr, arith}
use Rattle.std.specs.FinSet as set
use Rattle.std.specs.Map.{keys_of}
use Rattle.md_graph.specs.Sets.{NameSet}
use Rattle.md_graph.specs.Rows.{row_of}
use Rattle.md_graph.proofs.SetLemmas.{clash}
use Rattle.md_graph.specs.Adjacency.{IsAdjacency}
use Rattle.md_forcing.specs.declared.arc.Arc.{Arc}
use Rattle.md_forcing.specs.Lists.{Holds}
use Rattle.md_forcing.specs.Forcing.{arc, reverse, IsArc, Reaches}
use Rattle.md_forcing.specs.ArcSet.{HasArc, IsForcingClosed}
use Rattle.md_forcing.specs.Classes.{IsClass, TakesClass}
use Rattle.md_forcing.proofs.Reaching.{reaches_itself, reaches_on, reached_arc, over_reached}
use Rattle.md_comparability.specs.Chains.{Precedes}
use Rattle.md_comparability.specs.Orientations.{ReachesEdge, IsChosen}
use Rattle.md_comparability.specs.Walking.{HasArcOf, JoinsAlso, IsWalked, IsStopped, IsWholeOrientation}
use Rattle.md_comparability.proofs.Reached.{reaches_back, reaches_turned, both_turned}
use Rattle.md_comparability.proofs.Chosen.{ends_apart, chosen_arc, chosen_along, chosen_one_way}

pub walked_start : (e : ℕ → ℕ → Bool) (chosen : List NameSet) → ((a : Arc) → HasArc chosen a → ⊥) → IsWalked e 0 chosen
walked_start e chosen none = record {
  kept = λ a h. absurd (none a h);
  closed = λ a b h _ _. absurd (none a h);
  free = λ a h. absurd (none a h);
  done = λ x y _ _ less. absurd (omega arith);
}

-- an edge has an arc whichever end is named first
joined_turned : (chosen : List NameSet) (x y : ℕ) → HasArcOf chosen x y → HasArcOf chosen y x
joined_turned chosen x y (inl h) = inr h
joined_turned chosen x y (inr h) = inl h

-- and none where neither of its two arcs is there
pub apart_if : (chosen : List NameSet) (x y : ℕ) → set.contains (row_of chosen x) y ≡ false → set.contains (row_of chosen y) x ≡ false → HasArcOf chosen x y → ⊥
apart_if chosen x y none no_back (inl h) = clash h none
apart_if chosen x y none no_back (inr h) = clash h no_back

module _ (e : ℕ → ℕ → Bool) (is : IsAdjacency e) (u : ℕ) (chosen : List NameSet) (walked : IsWalked e u chosen) where
  -- a new arc goes up
  pub goes_up : (v : ℕ) → e u v ≡ true → (HasArcOf chosen u v → ⊥) → u < v
  goes_up v there new =
      elim (ends_apart e is u v there) [
        | inl up ↦ up
        | inr down ↦ absurd (new (joined_turned chosen v u (walked.done v u down (is.symmetric v u ∙ there) down)))
      ]

  -- all edges have an arc
  pub walked_whole : ((x y : ℕ) → e x y ≡ true → x < u) → IsWholeOrientation e chosen
  walked_whole all =
      let joined_all : (a : Arc) → IsArc e a → HasArc chosen a ⊎ HasArc chosen (reverse a) = λ a h. elim (ends_apart e is a.tail a.head h) [
        | inl up ↦ walked.done a.tail a.head up h (all a.tail a.head h)
        | inr down ↦
            let back = is.symmetric a.head a.tail ∙ h in
            joined_turned chosen a.head a.tail (walked.done a.head a.tail down back (all a.head a.tail back))
      ] in
      let free : (a : Arc) → Reaches e a (reverse a) → ⊥ = λ a r. elim (joined_all a r.0) [
        | inl h ↦ walked.free a h r
        | inr h ↦ walked.free (reverse a) h (reaches_turned e is a (reverse a) r)
      ] in
      record {
        free = free;
        all = λ a. (
          walked.kept a,
          λ c. elim (joined_all a (chosen_arc e is a c)) [
            | inl h ↦ h
            | inr h ↦ absurd (free a (chosen_one_way e is a c (walked.kept (reverse a) h)))
          ],
        );
      }

  module _ (v : ℕ) (there : e u v ≡ true) (new : HasArcOf chosen u v → ⊥) (passed : (y : ℕ) → e u y ≡ true → y < v → HasArcOf chosen u y)
      (class : List (Arc × ℕ)) (its : IsClass e (arc u v) class) (mid : List NameSet) (takes : TakesClass chosen class mid) where
    -- each lesser edge has an arc
    lesser_joined : (x y : ℕ) → x < y → e x y ≡ true → Precedes x y u v → HasArcOf chosen x y
    lesser_joined x y up there_too (inl less) = walked.done x y up there_too less
    lesser_joined x y up there_too (inr p) = subst (λ k. HasArcOf chosen k y) (sym p.0) (passed y (subst (λ k. e k y ≡ true) p.0 there_too) p.1)

    pub walk_stops : HasArc mid (arc v u) → IsStopped e class
    walk_stops back = record {
      u = u;
      v = v;
      ascending = goes_up v there new;
      is = its;
      turns = elim ((takes (arc v u)).0 back) [
        | inl old ↦ absurd (new (inr old))
        | inr h ↦ h
      ];
      least = λ x y up r before. elim (lesser_joined x y up r.0 before) [
        | inl h ↦ walked.free (arc x y) h r
        | inr h ↦ walked.free (arc y x) h (reaches_turned e is (arc x y) (arc y x) r)
      ];
    }

    module _ (no_turn : HasArc mid (arc v u) → ⊥) where
      key_reached : (a : Arc) → Holds (keys_of class) a → Reaches e (arc u v) a
      key_reached a h = (its.reached a).0 h

      no_return : Reaches e (arc u v) (arc v u) → ⊥
      no_return r = no_turn ((takes (arc v u)).1 (inr ((its.reached (arc v u)).1 r)))

      not_turned : (a : Arc) → Reaches e (arc u v) a → Reaches e a (reverse a) → ⊥
      not_turned a r s = no_return (both_turned e is (arc u v) a r (reaches_on e (arc u v) a (reverse a) r s))

      -- what reaches from a chosen arc is chosen
      chosen_on : (z b : Arc) → HasArc chosen z → Reaches e z b → HasArc chosen b
      chosen_on z b h r = over_reached e (HasArc chosen) (λ x y _ here is_arc f. walked.closed x y here is_arc f) z b h r

      -- no chosen arc is reached, nor is the reverse of one
      unseen : (z : Arc) → HasArc chosen z → Reaches e (arc u v) z → ⊥
      unseen z h r = new (inl (chosen_on z (arc u v) h (reaches_back e is (arc u v) z r)))

      unseen_turned : (z : Arc) → HasArc chosen (reverse z) → Reaches e (arc u v) z → ⊥
      unseen_turned z h r = new (inr (chosen_on (reverse z) (arc v u) h (reaches_back e is (arc v u) (reverse z) (reaches_turned e is (arc u v) z r))))

      edge_unseen : (x y : ℕ) → x < y → ReachesEdge e (arc u v) x y → Precedes x y u v → ⊥
      edge_unseen x y up (inl r) before =
          elim (lesser_joined x y up (reached_arc e (arc u v) (arc x y) r) before) [
            | inl h ↦ unseen (arc x y) h r
            | inr h ↦ unseen_turned (arc x y) h r
          ]
      edge_unseen x y up (inr r) before =
          elim (lesser_joined x y up (is.symmetric x y ∙ reached_arc e (arc u v) (arc y x) r) before) [
            | inl h ↦ unseen_turned (arc y x) h r
            | inr h ↦ unseen (arc y x) h r
          ]

      first_chosen : IsChosen e (arc u v)
      first_chosen = (u, v, record { ascending = goes_up v there new; reached = inl (reaches_itself e (arc u v) there); least = edge_unseen }, reaches_itself e (arc u v) there)

      key_chosen : (a : Arc) → Reaches e (arc u v) a → IsChosen e a
      key_chosen a r = chosen_along e is (arc u v) a r first_chosen

      in_mid : (a : Arc) → HasArc chosen a → HasArc mid a
      in_mid a h = (takes a).1 (inl h)

      still_joined : (x y : ℕ) → HasArcOf chosen x y → HasArcOf mid x y
      still_joined x y (inl h) = inl (in_mid (arc x y) h)
      still_joined x y (inr h) = inr (in_mid (arc y x) h)

      pub walked_on : IsForcingClosed e mid → IsWalked e u mid
      walked_on closed = record {
        kept = λ a h. elim ((takes a).0 h) [ inl old ↦ walked.kept a old | inr k ↦ key_chosen a (key_reached a k) ];
        closed = closed;
        free = λ a h r. elim ((takes a).0 h) [ inl old ↦ walked.free a old r | inr k ↦ not_turned a (key_reached a k) r ];
        done = λ x y up there_too less. still_joined x y (walked.done x y up there_too less);
      }

      pub joins_also : JoinsAlso u v chosen mid
      joins_also y (inl old) = still_joined u y old
      joins_also y (inr same) = subst (HasArcOf mid u) (sym same) (inl ((takes (arc u v)).1 (inr ((its.reached (arc u v)).1 (reaches_itself e (arc u v) there)))))
