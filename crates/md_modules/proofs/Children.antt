-- The children of a set of each kind: its components, those of its complement, or its maximal proper modules.
use Rattle.std.proofs.Common.{◌≡◌, ◌↔◌, ℕ, Bool, true, false, ◌≢◌, refl, sym, subst, inl, inr}
use Rattle.std.specs.FinSet.{union}
use Rattle.md_graph.specs.Sets.{NameSet, Has, Lacks, Within, HasTwo, only_name}
use Rattle.md_graph.specs.Adjacency.{IsAdjacency}
use Rattle.md_modules.specs.Colours.{IsColouring, AreTold}
use Rattle.md_modules.specs.Modules.{IsModule, Overlap, IsStrong, IsLeastModule, IsMaximalModule, IsMaximalStrong}
use Rattle.md_modules.specs.Kinds.{IsSplit, IsUnsplit}
use Rattle.md_modules.specs.Components.{IsComponent}
use Rattle.md_modules.specs.Laws.{ChildrenByKind}
use Rattle.md_graph.proofs.SetLemmas.{clash, only_has, Has-along, same_members, union_left, union_right}
use Rattle.md_graph.proofs.Search.{decide_test, decide_both, decide_not, decide_same, larger_or_same, largest}
use Rattle.md_modules.proofs.Modules.{undirected, single_module, join_module, cover_split, decide_module}
use Rattle.md_modules.proofs.Components.{component_child, child_component, prime_unsplit}
use Rattle.md_modules.proofs.Strong.{larger_than_single, strong_nested}

module _ {C : Type 0} {e : ℕ → ℕ → C} where
  -- each proper module lies in a maximal one
  pub in_maximal : AreTold C → (s m : NameSet) → IsModule e s m → m ≢ s → (x : NameSet) × IsMaximalModule e s x × Within m x
  in_maximal told s m is differs =
      let r : (x : NameSet) × Within m x × Within x s × (IsModule e s x × (x ≢ s)) × ((b : NameSet) → Within x b → Within b s → IsModule e s b × (b ≢ s) → b ≡ x) =
      largest (λ x. IsModule e s x × (x ≢ s)) s m is.inside (is, differs) (λ x w. decide_both (decide_module told s x) (decide_not (decide_same x s))) in
      (r.0, record { is_module = r.3.0; proper = r.3.1; maximal = λ n module_is d w. r.4 n w module_is.inside (module_is, d) }, r.1)

  pub maximal_of : AreTold C → (s : NameSet) (x : ℕ) → HasTwo s → Has s x → (m : NameSet) × IsMaximalModule e s m × Has m x
  maximal_of told s x two h =
      let r : (m : NameSet) × IsMaximalModule e s m × Within (only_name x) m = in_maximal told s (only_name x) (single_module s x h) (larger_than_single s x two) in
      (r.0, r.1, r.2 x (only_has x))

  pub maximal_leaves : (s m : NameSet) → IsMaximalModule e s m → (x : ℕ) × Has s x × Lacks m x
  maximal_leaves s m is = elim (larger_or_same m s is.is_module.inside) [ inl rest ↦ rest | inr same ↦ absurd (is.proper same) ]

  module _ {reverse : C → C} (col : IsColouring reverse e) where
    -- modules that overlap don't cover a set that doesn't split
    unsplit_uncovered : (s a b : NameSet) → IsUnsplit e s → IsModule e s a → IsModule e s b → Overlap a b → Within s (union a b) → ⊥
    unsplit_uncovered s a b whole ma mb over cover =
        let r : (v : C) × IsSplit e s b v = cover_split col s a b ma mb over cover in
        whole.unsplit r.0 b r.1

    -- in a set that doesn't split the maximal proper modules are strong
    maximal_strong : (s m : NameSet) → IsUnsplit e s → IsMaximalModule e s m → IsStrong e s m
    maximal_strong s m whole is = record {
      is_module = is.is_module;
      free = λ k module_is over. elim (decide_same (union m k) s) [
        | inl same ↦ unsplit_uncovered s m k whole is.is_module module_is over (Has-along s (union m k) (sym same))
        | inr differs ↦
            let same : union m k ≡ m = is.maximal (union m k) (join_module s m k over.meet.0 is.is_module module_is over.meet.1 over.meet.2) differs (union_left m k) in
            clash (Has-along (union m k) m same over.right.0 (union_right m k over.right.0 over.right.1)) over.right.2
      ];
    }

    -- two of them that meet are one
    pub maximal_meet : (s m n : NameSet) (x : ℕ) → IsUnsplit e s → IsMaximalModule e s m → IsMaximalModule e s n → Has m x → Has n x → m ≡ n
    maximal_meet s m n x whole a b p q =
        elim (strong_nested s m n x (maximal_strong s m whole a) (maximal_strong s n whole b) p q) [
          | inl w ↦ sym (a.maximal n b.is_module b.proper w)
          | inr w ↦ b.maximal m a.is_module a.proper w
        ]

    -- they are the children
    pub maximal_child : (s m : NameSet) → IsUnsplit e s → IsMaximalModule e s m → IsMaximalStrong e s m
    maximal_child s m whole is = record {
      is_strong = maximal_strong s m whole is;
      proper = is.proper;
      maximal = λ n st differs w. is.maximal n st.is_module differs w;
    }

    pub child_maximal : AreTold C → (s m : NameSet) → IsUnsplit e s → IsMaximalStrong e s m → IsMaximalModule e s m
    child_maximal told s m whole is =
        let r : (x : NameSet) × IsMaximalModule e s x × Within m x = in_maximal told s m is.is_strong.is_module is.proper in
        let same : r.0 ≡ m = is.maximal r.0 (maximal_strong s r.0 whole r.1) r.1.proper r.2 in
        subst (IsMaximalModule e s) same r.1

  -- two names lie in one maximal proper module exactly where their least module isn't the whole
  pub together_if_least_proper : AreTold C → (s k : NameSet) (u v : ℕ) → IsLeastModule e s u v k → k ≢ s → (m : NameSet) × IsMaximalModule e s m × Has m u × Has m v
  together_if_least_proper told s k u v is differs =
      let r : (x : NameSet) × IsMaximalModule e s x × Within k x = in_maximal told s k is.is_module differs in
      (r.0, r.1, r.2 u is.has_left, r.2 v is.has_right)

  pub least_proper_if_together : (s k m : NameSet) (u v : ℕ) → IsLeastModule e s u v k → IsMaximalModule e s m → Has m u → Has m v → k ≢ s
  least_proper_if_together s k m u v is max p q same =
      max.proper (same_members m s max.is_module.inside (λ x h. is.least m max.is_module p q x (Has-along s k (sym same) x h)))

-- a child of a set that splits is a component, and a component is a child
split_components : {e : ℕ → ℕ → Bool} → IsAdjacency e → (s part c : NameSet) (v : Bool) → IsSplit e s part v → IsMaximalStrong e s c ↔ ((x : ℕ) × IsComponent e s x c v)
split_components adj s part c v split = (
  λ child.
      let member : (x : ℕ) × Has c x = child.is_strong.is_module.some in
      (member.0, child_component (undirected adj) decide_test s c part v member.0 refl split child member.1),
  λ found. component_child (undirected adj) s c part v found.0 refl split found.1,
)

pub children_of_kinds : {e : ℕ → ℕ → Bool} → IsAdjacency e → (s : NameSet) → ChildrenByKind e s
children_of_kinds adj s = record {
  parallel = λ split c. split_components adj s split.0 c false split.1;
  series = λ split c. split_components adj s split.0 c true split.1;
  prime = λ prime c. (child_maximal (undirected adj) decide_test s c (prime_unsplit s prime), maximal_child (undirected adj) s c (prime_unsplit s prime));
}
