-- Sets that are split down: an induced path of a set that splits is one of a part or of the rest, so one of the sets that are left has one where the whole has.
use Rattle.std.proofs.Common.{◌≡◌, ◌≢◌, ◌⊎◌, ℕ, ◌+◌, ◌-◌, ◌*◌, ◌<◌, ◌≤◌, Bool, true, false, List, [], ◌∷◌, ◌++◌, Contains, refl, sym, ◌∙◌, ap, subst, inl, inr, arith}
use Rattle.std.specs.List.{sum_by}
use Rattle.std.proofs.lemmas.Bool.{cases_Bool}
use Rattle.std.proofs.lemmas.List.Elements.{Contains-append_left, Contains-append_right, Contains-append_cases, Contains-push, Contains-push_cases}
use Rattle.std.proofs.lemmas.List.Sums.{sum_by-append}
use Rattle.std.specs.FinSet.{contains, difference, len}
use Rattle.md_graph.specs.Sets.{NameSet, Has, Within}
use Rattle.md_graph.specs.Adjacency.{IsAdjacency}
use Rattle.md_graph.proofs.SetLemmas.{Within-refl, minus_has, of_minus}
use Rattle.md_graph.proofs.Search.{larger_or_same, len_minus, len_four, some_len, two_of_len}
use Rattle.md_modules.specs.Kinds.{IsSplit}
use Rattle.md_modules.specs.Components.{IsClosed, IsComponent}
use Rattle.md_modules.specs.InducedPaths.{IsInducedPath, HasInducedPath}
use Rattle.md_modules.proofs.Modules.{undirected}
use Rattle.md_modules.proofs.Splits.{closed_split, split_closed, closed_rest}
use Rattle.md_modules.proofs.Components.{closed_follow, component_unsplit, unsplit_prime}
use Rattle.md_modules.proofs.Paths.{prime_path, path_within}
use Rattle.md_checker.specs.declared.cograph_test.Unsplit.{Unsplit}
use Rattle.md_checker.specs.Splitting.{IsSplitUp}

-- the sets that are left of s lie in s, and one has an induced path where s has one
pub record IsSplitDown {w : ℕ} (e : ℕ → ℕ → Bool) (s : NameSet) (left : List (Unsplit w)) : Type 0 where
  pub inside : (u : Unsplit w) → Contains left u → Within u.names s
  pub path : HasInducedPath e s → (u : Unsplit w) × Contains left u × HasInducedPath e u.names

-- how many turns a set takes at most
abbrev pub turns : {w : ℕ} → Unsplit w → ℕ
turns u = 1 + (2 * len u.names - 2)

among : {w : ℕ} {us vs : List (Unsplit w)} {q : Unsplit w} → us ≡ vs → Contains us q → Contains vs q
among {w} {us} {vs} {q} same h = subst (λ (ts : List (Unsplit w)). Contains ts q) same h

module _ {e : ℕ → ℕ → Bool} where
  -- ---- one split

  pub component_told : {s part into : NameSet} {x : ℕ} {joined v : Bool} → joined ≡ v → part ≡ into → IsComponent e s x into v → IsComponent e s x part joined
  component_told {s} {part} {into} {x} {joined} {v} told same is = subst (IsComponent e s x part) (sym told) (subst (λ t. IsComponent e s x t v) (sym same) is)

  -- a component that isn't the whole set splits it
  pub component_splits : (s c : NameSet) (v : Bool) (x : ℕ) → IsComponent e s x c v → c ≢ s → IsSplit e s c v
  component_splits s c v x comp differs = elim (larger_or_same c s comp.closed.inside) [
    | inl rest ↦ closed_split s c v comp.closed (x, comp.holds) rest
    | inr same ↦ absurd (differs same)
  ]

  -- a set of fewer than four names has no induced path
  no_path_of_few : (s : NameSet) → len s < 4 → HasInducedPath e s → ⊥
  no_path_of_few s few path =
      let is : IsInducedPath e s path.0 path.1 path.2 path.3 = path.4 in
      let ends : path.0 ≢ path.3 = λ same. let up = is.ascending in absurd (omega arith) in
      let many : 4 ≤ len s =
      len_four s path.0 path.1 path.2 path.3 is.inside.0 is.inside.1 is.inside.2 is.inside.3 is.different.0 is.different.1 is.different.2 ends is.different.3 is.different.4 in
      omega arith

  module _ (adj : IsAdjacency e) where
    -- where a component is the whole set, the set doesn't split so
    pub component_whole : (s c : NameSet) (v : Bool) (x : ℕ) → IsComponent e s x c v → c ≡ s → (other : NameSet) → IsSplit e s other v → ⊥
    component_whole s c v x comp same other split =
        component_unsplit (undirected adj) s c v x refl comp other (subst (λ t. IsSplit e t other v) (sym same) split)

    -- a set of four names or more that splits in neither way has an induced path
    pub unsplit_path : (s : NameSet) → 4 ≤ len s → ((v : Bool) (part : NameSet) → IsSplit e s part v → ⊥) → HasInducedPath e s
    unsplit_path s many none = prime_path adj s (unsplit_prime s (record { two = two_of_len s (omega arith); unsplit = none }))

    -- an induced path lies in each closed part that has its first end
    path_follows : (s p : NameSet) (v : Bool) (a b c d : ℕ) → IsInducedPath e s a b c d → IsClosed e s p v → Has p a → Has p b × Has p c × Has p d
    path_follows s p false a b c d is closed ha =
        let hb : Has p b = closed_follow s p false closed a b ha is.inside.1 is.edges.0 in
        let hc : Has p c = closed_follow s p false closed b c hb is.inside.2 is.edges.1 in
        (hb, hc, closed_follow s p false closed c d hc is.inside.3 is.edges.2)
    path_follows s p true a b c d is closed ha =
        let hc : Has p c = closed_follow s p true closed a c ha is.inside.2 is.apart.0 in
        let hd : Has p d = closed_follow s p true closed a d ha is.inside.3 is.apart.1 in
        (closed_follow s p true closed d b hd is.inside.1 (adj.symmetric d b ∙ is.apart.2), hc, hd)

    path_inside : (s p : NameSet) (v : Bool) → (path : HasInducedPath e s) → IsClosed e s p v → Has p path.0 → HasInducedPath e p
    path_inside s p v path closed ha =
        let is : IsInducedPath e s path.0 path.1 path.2 path.3 = path.4 in
        let others : Has p path.1 × Has p path.2 × Has p path.3 = path_follows s p v path.0 path.1 path.2 path.3 is closed ha in (
          path.0,
          path.1,
          path.2,
          path.3,
          record {
            inside = (ha, others.0, others.1, others.2);
            different = is.different;
            edges = is.edges;
            apart = is.apart;
            ascending = is.ascending;
          },
        )

    -- an induced path of a set that splits is one of the part or of the rest
    split_path : (s p : NameSet) (v : Bool) → IsSplit e s p v → HasInducedPath e s → HasInducedPath e p ⊎ HasInducedPath e (difference s p)
    split_path s p v split path =
        let closed : IsClosed e s p v = split_closed s p v split in
        elim (cases_Bool (contains p path.0)) [
          | inl h ↦ inl (path_inside s p v path closed h)
          | inr o ↦ inr (path_inside s (difference s p) v path (closed_rest (undirected adj) s p v closed) (minus_has s p path.0 path.4.inside.0 o))
        ]

  -- ---- the sets that are left

  module _ {w : ℕ} where
    pub down_begin : (s : NameSet) (u : Unsplit w) (none left : List (Unsplit w)) → u.names ≡ s → none ≡ [] → left ≡ none ++ u ∷ [] → IsSplitDown e s left
    down_begin s u none left same begun now = record {
      inside = λ q h. elim (Contains-push_cases [] u q (among is h)) [
        | inl i ↦ absurd (omega (arith, i.1))
        | inr one ↦ subst (λ (t : Unsplit w). Within t.names s) one (subst (λ t. Within t s) (sym same) (Within-refl s))
      ];
      path = λ path. (u, among (sym is) (Contains-push [] u), subst (HasInducedPath e) (sym same) path);
    } where
      is : left ≡ u ∷ []
      is = now ∙ ap (λ (us : List (Unsplit w)). us ++ u ∷ []) begun

    -- the sets that come of one set lie in it
    parts_inside : (s : NameSet) (sets : List (Unsplit w)) → IsSplitUp e s sets → (q : Unsplit w) → Contains sets q → Within q.names s
    parts_inside s sets (inl few) q h = absurd (omega (arith, (among few.1 h).1))
    parts_inside s sets (inr r) q h = elim (Contains-push_cases (r.0 ∷ []) r.1 q (among r.3 h)) [
      | inr one ↦ subst (λ (t : Unsplit w). Within t.names s) one r.4.inside
      | inl i ↦ elim (Contains-push_cases [] r.0 q i) [
        | inl none ↦ absurd (omega (arith, none.1))
        | inr one ↦ subst (λ (t : Unsplit w). Within t.names s) one (λ x k. (of_minus s r.1.names x (subst (λ t. Has t x) r.5 k)).0)
      ]
    ]

    -- and take fewer turns
    fewer_turns : (s : NameSet) (sets : List (Unsplit w)) → IsSplitUp e s sets → sum_by turns sets < 1 + (2 * len s - 2)
    fewer_turns s sets (inl few) = let none : sum_by turns sets ≡ 0 = ap (sum_by turns) few.1 in omega arith
    fewer_turns s sets (inr r) =
        let split = r.4 in
        let part : 1 ≤ len r.1.names = some_len r.1.names split.some.0 split.some.1 in
        let rest : 1 ≤ len (difference s r.1.names) = some_len (difference s r.1.names) split.rest.0 (minus_has s r.1.names split.rest.0 split.rest.1 split.rest.2) in
        let both : len (difference s r.1.names) + len r.1.names ≤ len s = len_minus s r.1.names split.inside in
        let same : len r.0.names ≡ len (difference s r.1.names) = ap len r.5 in
        let two : sum_by turns sets ≡ 0 + turns r.0 + turns r.1 = ap (sum_by turns) r.3 in
        omega arith

    -- what is left behind a turn, by what was left before it
    module _ (s : NameSet) (left front : List (Unsplit w)) (u : Unsplit w) (down : IsSplitDown e s left) (is : left ≡ front ++ u ∷ []) where
      down_last : Within u.names s
      down_last = down.inside u (among (sym is) (Contains-push front u))

      pub down_found : HasInducedPath e u.names → HasInducedPath e s
      down_found path = path_within u.names s down_last path

      pub down_falls : (sets left' : List (Unsplit w)) → left' ≡ front ++ sets → IsSplitUp e u.names sets → sum_by turns left' < sum_by turns left
      down_falls sets left' now apart =
          let fewer : sum_by turns sets < turns u = fewer_turns u.names sets apart in
          let new : sum_by turns left' ≡ sum_by turns front + sum_by turns sets = ap (sum_by turns) now ∙ sum_by-append turns front sets in
          let old : sum_by turns left ≡ sum_by turns front + sum_by turns (u ∷ []) = ap (sum_by turns) is ∙ sum_by-append turns front (u ∷ []) in
          let one : sum_by turns (u ∷ []) ≡ 0 + turns u = refl in
          omega arith

      pub down_more : IsAdjacency e → (sets left' : List (Unsplit w)) → left' ≡ front ++ sets → IsSplitUp e u.names sets → IsSplitDown e s left'
      down_more adj sets left' now apart = record {
        inside = λ q h. elim (Contains-append_cases front sets q (among now h)) [
          | inl i ↦ down.inside q (among (sym is) (Contains-append_left front (u ∷ []) q i))
          | inr i ↦ λ x k. down_last x (parts_inside u.names sets apart q i x k)
        ];
        path = λ path. behind (down.path path);
      } where
        one_has : IsSplitUp e u.names sets → HasInducedPath e u.names → (q : Unsplit w) × Contains sets q × HasInducedPath e q.names
        one_has (inl few) path = absurd (no_path_of_few u.names few.0 path)
        one_has (inr r) path = elim (split_path adj u.names r.1.names r.2 r.4 path) [
          | inl p ↦ (r.1, among (sym r.3) (Contains-push (r.0 ∷ []) r.1), p)
          | inr p ↦ (r.0, among (sym r.3) (Contains-append_left (r.0 ∷ []) (r.1 ∷ []) r.0 (Contains-push [] r.0)), subst (HasInducedPath e) (sym r.5) p)
        ]

        behind : (q : Unsplit w) × Contains left q × HasInducedPath e q.names → (q : Unsplit w) × Contains left' q × HasInducedPath e q.names
        behind found = elim (Contains-push_cases front u found.0 (among is found.1)) [
          | inl i ↦ (found.0, among (sym now) (Contains-append_left front sets found.0 i), found.2)
          | inr one ↦
              let r : (q : Unsplit w) × Contains sets q × HasInducedPath e q.names =
              one_has apart (subst (λ (t : Unsplit w). HasInducedPath e t.names) (sym one) found.2) in
              (r.0, among (sym now) (Contains-append_right front sets r.0 r.1), r.2)
        ]
