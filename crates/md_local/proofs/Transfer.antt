-- Modules of two colourings that agree but inside one set.
use Rattle.std.proofs.Common.{◌≡◌, ℕ, ◌⊎◌, sym, ◌∙◌, ap, inl, inr}
use Rattle.md_graph.specs.Sets.{NameSet, Has, Lacks, Within, Disjoint}
use Rattle.md_graph.proofs.SetLemmas.{Within-refl, lacks_within}
use Rattle.md_modules.specs.Colours.{IsColouring}
use Rattle.md_modules.specs.Modules.{IsModule}
use Rattle.md_local.specs.Changes.{AgreeOff}

module _ {C : Type 0} {e f : ℕ → ℕ → C} where
  -- the other way round
  pub agree_back : (s c : NameSet) → AgreeOff e f s c → AgreeOff f e s c
  agree_back s c agree a b ha hb l = sym (agree a b ha hb l)

  -- on a part of s
  pub agree_within : (s t c : NameSet) → Within t s → AgreeOff e f s c → AgreeOff e f t c
  agree_within s t c w agree a b ha hb l = agree a b (w a ha) (w b hb) l

  module _ {reverse : C → C} (ce : IsColouring reverse e) (cf : IsColouring reverse f) where
    -- pairs whose second name lies outside c agree too
    pub agree_right : (s c : NameSet) → AgreeOff e f s c → (a b : ℕ) → Has s a → Has s b → Lacks c b → e a b ≡ f a b
    agree_right s c agree a b ha hb l = ce.reversed b a ∙ ap reverse (agree b a hb ha l) ∙ sym (cf.reversed b a)

    -- a module that doesn't meet c, or holds it, stays one
    pub transfer : (s c m : NameSet) → AgreeOff e f s c → Disjoint m c ⊎ Within c m → IsModule e s m → IsModule f s m
    transfer s c m agree place is = record {
      some = is.some;
      inside = is.inside;
      alike = λ a b x p q h l. sym (same a x p h l place) ∙ is.alike a b x p q h l ∙ same b x q h l place;
    } where
      same : (a x : ℕ) → Has m a → Has s x → Lacks m x → Disjoint m c ⊎ Within c m → e x a ≡ f x a
      same a x p h l (inl apart) = agree_right s c agree x a h (is.inside a p) (apart a p)
      same a x p h l (inr holds) = agree x a h (is.inside a p) (lacks_within c m holds x l)

    -- c itself
    pub transfer_itself : (s c : NameSet) → AgreeOff e f s c → IsModule e s c → IsModule f s c
    transfer_itself s c agree is = transfer s c c agree (inr (Within-refl c)) is
