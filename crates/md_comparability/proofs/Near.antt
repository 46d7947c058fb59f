-- The edges at a vertex in a walk: those that have no chosen arc yet.
use Rattle.std.proofs.Common.{◌≡◌, ◌⊎◌, ◌↔◌, ℕ, zero, suc, ◌<◌, Bool, true, false, ◌&&◌, nat_le, if◌then◌else◌, List, [], ◌∷◌, ◌++◌, append-nil, refl, sym, ◌∙◌, ap, subst, inl, inr, arith}
use Rattle.std.proofs.lemmas.Bool.{cases_Bool}
use Rattle.std.specs.FinSet as set
use Rattle.md_graph.specs.declared.TheConstants.{NAMES}
use Rattle.md_graph.specs.Sets.{NameSet, Has, Lacks}
use Rattle.md_graph.specs.NameSet.{ascending, ascending_between}
use Rattle.md_graph.specs.Rows.{row_of}
use Rattle.md_graph.specs.PlainGraph.{PlainGraph, IsGraph, neighbours, complement}
use Rattle.md_graph.proofs.SetLemmas.{clash, union_left, union_right, of_union, minus_has, of_minus}
use Rattle.md_graph.proofs.GraphLemmas.{contains-neighbours, IsGraph-complement}
use Rattle.md_forcing.specs.declared.arc_set.Side.{Side}
use Rattle.md_forcing.specs.declared.arc_set.Side.TheVariants.{Edges, NonEdges}
use Rattle.md_forcing.specs.Lists.{Holds}
use Rattle.md_forcing.specs.Sides.{adjacent_on}
use Rattle.md_forcing.proofs.ListLemmas.{of_append}
use Rattle.md_forcing.proofs.NameLists.{of_ascending, in_ascending}
use Rattle.md_comparability.specs.Walking.{HasArcOf, JoinsAlso, IsWalked}
use Rattle.md_comparability.proofs.WalkLemmas.{apart_if}

-- numbers in ascending order
abbrev pub AreUp : List ℕ → Type 0
AreUp [] = Unit {0}
AreUp (x ∷ xs) = ((y : ℕ) → Holds xs y → x < y) × AreUp xs

up_append : (xs ys : List ℕ) → AreUp xs → AreUp ys → ((a b : ℕ) → Holds xs a → Holds ys b → a < b) → AreUp (xs ++ ys)
up_append [] ys a b apart = b
up_append (x ∷ xs) ys a b apart = (
  λ y h. elim (of_append xs ys y h) [ inl l ↦ a.0 y l | inr r ↦ apart x y (inl refl) r ],
  up_append xs ys a.1 b (λ p q l r. apart p q (inr l) r),
)

last_up : (s : NameSet) (n a b : ℕ) → Holds (ascending_between s 0 n) a → Holds (n ∷ []) b → a < b
last_up s n a b h (inl same) = let below = (of_ascending s n a h).1 in omega arith
last_up s n a b h (inr none) = absurd none

ascending_up : (s : NameSet) (n : ℕ) → AreUp (ascending_between s 0 n)
unfolding ascending_between
ascending_up s zero = tt
ascending_up s (suc n) =
    elim (nat_le 0 n && set.contains s n) as (λ b. AreUp (ascending_between s 0 n ++ (if b then n ∷ [] else []))) [
      | true ↦ up_append (ascending_between s 0 n) (n ∷ []) (ascending_up s n) (λ y h. absurd h, tt) (last_up s n)
      | false ↦ rw append-nil (ascending_up s n)
    ]

-- Of the edges at u, at most those to the listed names have no chosen arc. The list is ascending.
pub record IsRow (e : ℕ → ℕ → Bool) (u : ℕ) (chosen : List NameSet) (left : List ℕ) : Type 0 where
  pub walked : IsWalked e u chosen
  pub rest : (y : ℕ) → e u y ≡ true → HasArcOf chosen u y ⊎ Holds left y
  pub edges : (y : ℕ) → Holds left y → e u y ≡ true
  pub up : AreUp left

module _ (e : ℕ → ℕ → Bool) (u : ℕ) (chosen : List NameSet) where
  decide_joined : (y : ℕ) → HasArcOf chosen u y ⊎ (HasArcOf chosen u y → ⊥)
  decide_joined y =
      elim (cases_Bool (set.contains (row_of chosen u) y)) [
        | inl h ↦ inl (inl h)
        | inr none ↦ elim (cases_Bool (set.contains (row_of chosen y) u)) [
          | inl h ↦ inl (inr h)
          | inr no_back ↦ inr (apart_if chosen u y none no_back)
        ]
      ]

  pub row_start : ((y : ℕ) → e u y ≡ true → y < NAMES) → IsWalked e u chosen → (s : NameSet) → ((y : ℕ) → Has s y ↔ ((e u y ≡ true) × (HasArcOf chosen u y → ⊥))) → (left : List ℕ) → left ≡ ascending s → IsRow e u chosen left
  row_start names walked s has left is =
      let P : List ℕ → Type 0 = λ l. IsRow e u chosen l in
      subst P (sym is) (record {
        walked = walked;
        rest = λ y t. elim (decide_joined y) [
          | inl j ↦ inl j
          | inr apart ↦ inr (in_ascending s NAMES y ((has y).1 (t, apart)) (names y t))
        ];
        edges = λ y h. ((has y).0 (of_ascending s NAMES y h).0).0;
        up = ascending_up s NAMES;
      })

  -- an arc of the edge to the first listed name came
  pub row_more : (new : List NameSet) (left rest : List ℕ) (x : ℕ) → IsRow e u chosen left → left ≡ x ∷ rest → IsWalked e u new → JoinsAlso u x chosen new → IsRow e u new rest
  row_more new left rest x before is walked joins = record {
    walked = walked;
    rest = λ y t. elim (before.rest y t) [
      | inl j ↦ inl (joins y (inl j))
      | inr h ↦ elim (subst (λ l. Holds l y) is h) [
        | inl same ↦ inl (joins y (inr same))
        | inr behind ↦ inr behind
      ]
    ];
    edges = λ y h. before.edges y (subst (λ l. Holds l y) (sym is) (inr h));
    up = (subst AreUp is before.up).1;
  }

-- the neighbours of u that no arc of the set joins to it
pub unjoined_are : (e : ℕ → ℕ → Bool) (u : ℕ) (arcs : List NameSet) (near heads tails left : NameSet) → ((v : ℕ) → Has near v ↔ (e u v ≡ true)) → heads ≡ row_of arcs u → ((w : ℕ) → set.contains tails w ≡ set.contains (row_of arcs w) u) → left ≡ set.difference near (set.union heads tails) → (v : ℕ) → Has left v ↔ ((e u v ≡ true) × (HasArcOf arcs u v → ⊥))
unjoined_are e u arcs near heads tails left is_near is_heads is_tails is_left v = (
  λ h.
      let w = of_minus near (set.union heads tails) v (subst (λ s. Has s v) is_left h) in (
        (is_near v).0 w.0,
        λ j. elim j [
          | inl a ↦ clash (union_left heads tails v (subst (λ s. Has s v) (sym is_heads) a)) w.1
          | inr b ↦ clash (union_right heads tails v (is_tails v ∙ b)) w.1
        ],
      ),
  λ p. subst (λ s. Has s v) (sym is_left) (minus_has near (set.union heads tails) v ((is_near v).1 p.0) (lacks p.1)),
)
  where
    lacks : (HasArcOf arcs u v → ⊥) → Lacks (set.union heads tails) v
    lacks apart =
        elim (cases_Bool (set.contains (set.union heads tails) v)) [
          | inl t ↦ elim (of_union heads tails v t) [
            | inl a ↦ absurd (apart (inl (subst (λ s. Has s v) is_heads a)))
            | inr b ↦ absurd (apart (inr (sym (is_tails v) ∙ b)))
          ]
          | inr none ↦ none
        ]

-- the row of a side
pub side_row : {g : PlainGraph} → IsGraph g → (side : Side) (u : ℕ) (row : NameSet) → ((side ≡ Edges) × (row ≡ neighbours g u)) ⊎ ((side ≡ NonEdges) × (row ≡ neighbours (complement g) u)) → (v : ℕ) → Has row v ↔ (adjacent_on side g u v ≡ true)
side_row {g} is side u row (inl p) v =
    let same : set.contains row v ≡ adjacent_on side g u v = ap (λ s. set.contains s v) p.1 ∙ contains-neighbours is u v ∙ sym (ap (λ s. adjacent_on s g u v) p.0) in
    (λ h. sym same ∙ h, λ h. same ∙ h)
side_row {g} is side u row (inr p) v =
    let same : set.contains row v ≡ adjacent_on side g u v = ap (λ s. set.contains s v) p.1 ∙ contains-neighbours (IsGraph-complement is) u v ∙ sym (ap (λ s. adjacent_on s g u v) p.0) in
    (λ h. sym same ∙ h, λ h. same ∙ h)
