-- What a change of a graph inside one strong module does to the strong modules; for any colours of
-- the ordered pairs of names.
-- Source: the strong modules of a graph as in Gallai, Transitiv orientierbare Graphen, and in Habib
-- and Paul, A survey of the algorithmic aspects of modular decomposition; the law is our own.
use Rattle.std.specs.Prelude.{◌≡◌, ◌⊎◌, ◌↔◌, ℕ}
use Rattle.md_graph.specs.Sets.{NameSet, Has, Lacks, Within, Proper}
use Rattle.md_modules.specs.Colours.{IsColouring, AreTold}
use Rattle.md_modules.specs.Modules.{IsStrong, IsParent}
use Rattle.md_modules.specs.Kinds.{IsSplit}

-- e and f are the same on the pairs of s that begin outside c; so, since pairs have reverses, on all
-- that don't lie in c
abbrev pub AgreeOff : {C : Type 0} → (ℕ → ℕ → C) → (ℕ → ℕ → C) → NameSet → NameSet → Type 0
AgreeOff e f s c = (a b : ℕ) → Has s a → Has s b → Lacks c a → e a b ≡ f a b

-- e and f are the same on all pairs but that of u and v
abbrev pub AgreeBut : {C : Type 0} → (ℕ → ℕ → C) → (ℕ → ℕ → C) → ℕ → ℕ → Type 0
AgreeBut e f u v =
    (a b : ℕ) → ¬ ((a ≡ u) × (b ≡ v)) → ¬ ((a ≡ v) × (b ≡ u)) → e a b ≡ f a b

-- w is the least strong module of s that holds u and v
pub record IsLeastStrong {C : Type 0} (e : ℕ → ℕ → C) (s : NameSet) (u v : ℕ) (w : NameSet)
    : Type 0 where
  pub is_strong : IsStrong e s w
  pub has_left : Has w u
  pub has_right : Has w v
  pub least : (m : NameSet) → IsStrong e s m → Has m u → Has m v → Within w m

-- the exception: c splits with f in the colour in which its parent splits with e, as where both are
-- parallel, or both series; so c is merged into its parent
abbrev pub MergesIntoParent : {C : Type 0} → (ℕ → ℕ → C) → (ℕ → ℕ → C) → NameSet → NameSet → Type 0
MergesIntoParent {C} e f s c =
    (q : NameSet) × (v : C) × (a : NameSet) × (b : NameSet) × IsParent e s c q × IsSplit e q a v ×
    IsSplit f c b v

-- the strong modules of f on s, told by those of e on s and those of f on c
pub record IsLocalChange {C : Type 0} (e f : ℕ → ℕ → C) (s c : NameSet) : Type 0 where
  -- those with a name outside c are the same
  pub outside : (m : NameSet) (x : ℕ) → Has m x → Lacks c x →
      IsStrong f s m ↔ IsStrong e s m
  -- those properly inside c are those of c
  pub inside : (m : NameSet) → Proper m c → IsStrong f s m ↔ IsStrong f c m
  -- c itself is one, but for the exception
  pub itself : IsStrong f s c ↔ (¬ (MergesIntoParent e f s c))

-- a change inside a strong module c leaves the strong modules with a name outside c as they were
abbrev pub ChangesStayLocal : Type 0 → Type 0
ChangesStayLocal C =
    (reverse : C → C) (e f : ℕ → ℕ → C) → IsColouring reverse e → IsColouring reverse f →
    AreTold C → (s c : NameSet) → IsStrong e s c → AgreeOff e f s c → IsLocalChange e f s c

-- where the pair of u and v changes alone, and w is the least strong module that holds both: the
-- strong modules are the earlier ones that aren't properly inside w, and those of w; but w isn't
-- one where it is merged
abbrev pub EdgeEditsStayLocal : Type 0 → Type 0
EdgeEditsStayLocal C =
    (reverse : C → C) (e f : ℕ → ℕ → C) → IsColouring reverse e → IsColouring reverse f →
    AreTold C → (s : NameSet) (u v : ℕ) → AgreeBut e f u v → (w : NameSet) →
    IsLeastStrong e s u v w → (m : NameSet) → IsStrong f s m
    ↔ (((IsStrong e s m × (¬ (Proper m w))) ⊎ IsStrong f w m) × (¬ ((m ≡ w) × MergesIntoParent e f s w)))
