-- Bounds of the names in edits and items.
use Rattle.std.specs.Prelude.{◌≡◌, ℕ, ◌+◌, ◌-◌, ◌<◌, ◌≤◌, List, length, take, Some, slice_get}
use Rattle.std.specs.List.{All}
use Rattle.std.specs.List.Sorted.{IsStrictlyIncreasing}
use Rattle.std.proofs.Common.{◌≢◌, arith, subst, ap, ◌∙◌, ⊎_elim, slice_index_or}
use Rattle.std.proofs.lemmas.Bool.{cases_eq}
use Rattle.std.proofs.lemmas.List.Elements.{All-more, All-weaker}
use Rattle.std.proofs.lemmas.List.Kept.{AllPairs-from_increasing}
use Rattle.std.proofs.lemmas.Option.{get_or_from_slice_get}
use Rattle.md_script.specs.declared.item.Item.{Item}
use Rattle.md_script.specs.declared.item.Item.TheVariants.{One, Undo, Group}
use Rattle.md_script.specs.Edit.{HasNamesBelow}
use Rattle.md_script.specs.Items.{HasItemNamesBelow}
use Rattle.md_script.proofs.ChangeLemmas.{names_within}

-- the names of an ascending list are at most its last
pub below_last : (xs : List ℕ) (v : ℕ) → IsStrictlyIncreasing xs → slice_get xs (length xs - 1) ≡ Some v → All (λ w. w < v + 1) xs
below_last xs v increasing last k d below = ⊎_elim at_last before (cases_eq k (length xs - 1))
  where
    is : slice_index_or xs (length xs - 1) d ≡ v
    is = get_or_from_slice_get xs (length xs - 1) v d last

    at_last : k ≡ length xs - 1 → slice_index_or xs k d < v + 1
    at_last same = let e = ap (λ i. slice_index_or xs i d) same ∙ is in omega arith

    before : k ≢ length xs - 1 → slice_index_or xs k d < v + 1
    before other = let less = AllPairs-from_increasing xs increasing k (length xs - 1) d (omega arith) (omega arith) in omega (arith, is)

-- the names in an item are below each greater limit
pub item_within : {limit more : ℕ} → limit ≤ more → (item : Item) → HasItemNamesBelow limit item → HasItemNamesBelow more item
item_within few (One edit) names = names_within few edit names
item_within few Undo names = names
item_within {limit} {more} few (Group edits) names = All-weaker (HasNamesBelow limit) (HasNamesBelow more) (names_within few) edits names

-- one more edit or item whose names are below a bound
pub one_more_below : {X : Type 0} (Below : ℕ → X → Type 0) (within : (limit more : ℕ) → limit ≤ more → (x : X) → Below limit x → Below more x) (xs : List X) (i : ℕ) (x : X) (here bound more : ℕ)
    → i < length xs → x ≡ slice_index_or xs i x → here ≤ more → bound ≤ more → Below here x → All (Below bound) (take i xs) → All (Below more) (take (i + 1) xs)
one_more_below Below within xs i x here bound more there is less least own before =
    All-more (Below more) xs i x there
    (All-weaker (Below bound) (Below more) (within bound more least) (take i xs) before)
    (subst (Below more) is (within here more less x own))
