-- The list of the arcs of the least-edge orientation.
use Rattle.std.proofs.Common.{◌≡◌, List, [], ◌∷◌, refl, sym, ◌∙◌, subst, inl, inr}
use Rattle.md_forcing.specs.declared.arc.Arc.{Arc}
use Rattle.md_forcing.specs.Lists.{Holds}
use Rattle.md_comparability.specs.Orientations.{IsChosen, AreAscending}
use Rattle.md_comparability.specs.Laws.{OneLeastEdgeOrientation}
use Rattle.md_comparability.proofs.ArcLists.{Comes, has_list}
use Rattle.md_comparability.proofs.Least.{precedes_itself, precedes_one_way}
use Rattle.md_comparability.proofs.Chosen.{chosen_arc, decide_chosen}

-- ---- two ascending lists of the same arcs are equal

module _ (a b : Arc) (l k : List Arc) (up : AreAscending (a ∷ l)) (up_too : AreAscending (b ∷ k)) where
  first_same : Holds (b ∷ k) a → Holds (a ∷ l) b → a ≡ b
  first_same (inl same) h = same
  first_same (inr h) (inl same) = sym same
  first_same (inr h) (inr i) = absurd (precedes_one_way _ _ _ _ (up.0 b i) (up_too.0 a h))

  rest_same : a ≡ b → (x : Arc) → Holds l x → Holds (b ∷ k) x → Holds k x
  rest_same same x h (inr i) = i
  rest_same same x h (inl first) =
      absurd (precedes_itself _ _ (subst (Comes a) (first ∙ sym same) (up.0 x h)))

pub same_list : (l k : List Arc) → AreAscending l → AreAscending k → ((a : Arc) → Holds l a → Holds k a) → ((a : Arc) → Holds k a → Holds l a) → l ≡ k
same_list [] [] up up_too to back = refl
same_list [] (b ∷ k) up up_too to back = absurd (back b (inl refl))
same_list (a ∷ l) [] up up_too to back = absurd (to a (inl refl))
same_list (a ∷ l) (b ∷ k) up up_too to back =
    let same = first_same a b l k up up_too (to a (inl refl)) (back b (inl refl)) in
    let rest = same_list l k up.1 up_too.1
    (λ x h. rest_same a b l k up up_too same x h (to x (inr h)))
    (λ x h. rest_same b a k l up_too up (sym same) x h (back x (inr h))) in
    λ i. same i ∷ rest i

pub one_list_proof : OneLeastEdgeOrientation
one_list_proof e is n below = record {
  some = (let w = has_list (IsChosen e) (decide_chosen e is n below) n (λ a c. below a.tail a.head (chosen_arc e is a c)) in (w.0, record { arcs = w.1; ascending = w.2 }));
  one = λ list other l k. same_list list other l.ascending k.ascending (λ a h. (k.arcs a).1 ((l.arcs a).0 h)) (λ a h. (l.arcs a).1 ((k.arcs a).0 h));
}
