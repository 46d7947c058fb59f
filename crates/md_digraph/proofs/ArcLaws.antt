-- The laws of modules of directed graphs.
use Rattle.std.specs.Prelude.{◌≡◌, ◌⊎◌, ℕ, Bool, true, false, refl}
use Rattle.std.proofs.Common.{ap, sym, ◌∙◌, inl, inr}
use Rattle.std.proofs.lemmas.Bool.{cases_Bool}
use Rattle.md_graph.specs.Sets.{NameSet, Has, HasSome}
use Rattle.md_modules.proofs.Components.{component_child, child_component}
use Rattle.md_digraph.specs.ArcColours.{ArcColour, swapped, no_arc, both_arcs}
use Rattle.md_digraph.specs.Laws.{SeesAlike, DirectedModulesAreSeenAlike, ComponentsAreChildren, DirectedChildrenAreComponents}
use Rattle.md_digraph.proofs.ArcTurns.{arcs_turn, arcs_told}

all_or_none : (m : NameSet) (p : ℕ → Bool) (b : ℕ) → Has m b → ((a : ℕ) → Has m a → p a ≡ p b) → ((a : ℕ) → Has m a → p a ≡ true) ⊎ ((a : ℕ) → Has m a → p a ≡ false)
all_or_none m p b h same = elim (cases_Bool (p b)) [
  | inl t ↦ inl (λ a k. same a k ∙ t)
  | inr f ↦ inr (λ a k. same a k ∙ f)
]

one_value : (m : NameSet) (p : ℕ → Bool) → ((a : ℕ) → Has m a → p a ≡ true) ⊎ ((a : ℕ) → Has m a → p a ≡ false) → (a b : ℕ) → Has m a → Has m b → p a ≡ p b
one_value m p (inl all) a b ha hb = all a ha ∙ sym (all b hb)
one_value m p (inr none) a b ha hb = none a ha ∙ sym (none b hb)

pub seen_alike_proof : DirectedModulesAreSeenAlike
seen_alike_proof arc s m = (
  λ is. (
    is.some,
    is.inside,
    λ x hx l. record {
      out = all_or_none m (arc x) is.some.0 is.some.1 (λ a h. ap (λ c. c.0) (is.alike a is.some.0 x h is.some.1 hx l));
      into = all_or_none m (λ a. arc a x) is.some.0 is.some.1 (λ a h. ap (λ c. c.1) (is.alike a is.some.0 x h is.some.1 hx l));
    },
  ),
  λ three. record {
    some = three.0;
    inside = three.1;
    alike = λ a b x ha hb hx l.
        let sees : SeesAlike arc m x = three.2 x hx l in
        let there = one_value m (arc x) sees.out a b ha hb in
        let back = one_value m (λ y. arc y x) sees.into a b ha hb in
        λ i. (there i, back i);
  },
)

-- the children of a set that splits with a colour that is its own reverse
split_children : (arc : ℕ → ℕ → Bool) (s : NameSet) (colour : ArcColour) → swapped colour ≡ colour → ComponentsAreChildren arc s colour
split_children arc s colour own part split c = (
  λ is.
      let some : HasSome c = is.is_strong.is_module.some in
      (some.0, child_component (arcs_turn arc) arcs_told s c part colour some.0 own split is some.1),
  λ found. component_child (arcs_turn arc) s c part colour found.0 own split found.1,
)

pub children_proof : DirectedChildrenAreComponents
children_proof arc s = (split_children arc s no_arc refl, split_children arc s both_arcs refl)
