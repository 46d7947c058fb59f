-- The vertices of a graph, ascending, and a loop over them.
use Rattle.std.proofs.Common.{◌≡◌, ℕ, zero, suc, ◌≤◌, AllPairs, ◌+◌, ◌-◌, ◌<◌, ◌≤◌, Bool, false, ◌&&◌, ◌||◌, ◌==◌, List, [], ◌∷◌, length, get_or, drop, refl, sym, ap, ◌∙◌, arith, nat_lt, inl, inr, length-drop}
use Rattle.std.proofs.lemmas.List.{drop_more}
use Rattle.std.proofs.lemmas.Bool.{cases_eq}
use Rattle.std.proofs.lemmas.Bool.Decides.{nat_tests}
use Rattle.md_graph.proofs.SetLaws.{contains-empty}
use Rattle.std.specs.FinSet as set
use Rattle.md_graph.specs.Sets.{NameSet, Has}
use Rattle.md_graph.specs.NameSet.{ascending}
use Rattle.md_graph.specs.declared.TheConstants.{NAMES}
use Rattle.md_graph.proofs.NameLemmas.{ascending_order, ascending_items}

-- a loop over a list has `i` items behind it and the others before it
pub record IsAt (items rest : List ℕ) (i : ℕ) : Type 0 where
  pub inside : i ≤ length items
  pub is : rest ≡ drop i items

pub at_start : (items rest : List ℕ) → rest ≡ items → IsAt items rest 0
at_start items rest e = record { inside = omega arith; is = e }

pub at_turn : {items rest : List ℕ} {i : ℕ} → IsAt items rest i → (x : ℕ) (more : List ℕ) → rest ≡ x ∷ more
    → (i < length items) × (x ≡ get_or items i 0) × IsAt items more (i + 1)
at_turn {items} {rest} {i} at_i x more e =
    let left : length (drop i items) ≡ length items - i = length-drop i items in
    let some : length (drop i items) ≡ suc (length more) = ap length (sym at_i.is ∙ e) in
    let inside : i < length items = omega arith in
    let split = drop_more items i 0 inside in
    let head : x ≡ get_or items i 0 = cc in
    let tail : more ≡ drop (i + 1) items = cc in
    (inside, head, record { inside = omega arith; is = tail })

pub at_end : {items rest : List ℕ} {i : ℕ} → IsAt items rest i → rest ≡ [] → i ≡ length items
at_end {items} {rest} {i} at_i e =
    let left : length (drop i items) ≡ length items - i = length-drop i items in
    let none : length (drop i items) ≡ 0 = ap length (sym at_i.is ∙ e) in
    let inside = at_i.inside in
    omega arith

-- ---- the loops of the writer

-- an ascending list rises by one at least from item to item
rises : (xs : List ℕ) → AllPairs (λ x y. x < y) xs → (i d : ℕ) → i + d < length xs → get_or xs i 0 + d ≤ get_or xs (i + d) 0
rises xs order i zero h =
    let here : get_or xs (i + 0) 0 ≡ get_or xs i 0 = ap (λ k. get_or xs k 0) (omega arith) in
    omega arith
rises xs order i (suc d) h =
    let before = rises xs order i d (omega arith) in
    let step = order (i + d) (i + suc d) 0 (omega arith) (omega arith) in
    omega arith

-- so n ascending numbers from `least` on and below `least + n` are consecutive
pub consecutive : (s : NameSet) (n least : ℕ) → n ≡ length (ascending s) → ((v : ℕ) → Has s v → least ≤ v) → ((v : ℕ) → Has s v → v < least + n)
    → (i : ℕ) → i < n → get_or (ascending s) i 0 ≡ least + i
consecutive s n least count low high i h =
    let order = ascending_order s 0 NAMES in
    let items = ascending_items s 0 NAMES in
    let last : i + (n - 1 - i) ≡ n - 1 = omega arith in
    let here : get_or (ascending s) (0 + i) 0 ≡ get_or (ascending s) i 0 = ap (λ k. get_or (ascending s) k 0) (omega arith) in
    let to_here = rises (ascending s) order 0 i (omega arith) in
    let from_here = rises (ascending s) order i (n - 1 - i) (omega arith) in
    let to_last : get_or (ascending s) (i + (n - 1 - i)) 0 ≡ get_or (ascending s) (n - 1) 0 = ap (λ k. get_or (ascending s) k 0) last in
    let first = low (get_or (ascending s) 0 0) (items 0 0 (omega arith)).member in
    let end = high (get_or (ascending s) (n - 1) 0) (items (n - 1) 0 (omega arith)).member in
    omega arith

pub gathered_none : (s : NameSet) (f : ℕ → Bool) → s ≡ set.empty → (k : ℕ) → set.contains s k ≡ (nat_lt k 0 && f k)
gathered_none s f e k =
    let none : nat_lt k 0 ≡ false = grind (arith, nat_tests) in
    ap (λ x. set.contains x k) e ∙ contains-empty k ∙ rw none refl

pub gathered_more : (s t : NameSet) (f : ℕ → Bool) (i : ℕ) (wanted : Bool) → wanted ≡ f i
    → ((k : ℕ) → set.contains t k ≡ (((k == i) && wanted) || set.contains s k))
    → ((k : ℕ) → set.contains s k ≡ (nat_lt k i && f k))
    → (k : ℕ) → set.contains t k ≡ (nat_lt k (i + 1) && f k)
gathered_more s t f i wanted is taken before k =
    taken k ∙ ap (λ b. ((k == i) && wanted) || b) (before k) ∙ elim (cases_eq k i) [
      | inl same ↦ let e = is ∙ ap f (sym same) in grind (arith, nat_tests)
      | inr other ↦ grind (arith, nat_tests)
    ]
