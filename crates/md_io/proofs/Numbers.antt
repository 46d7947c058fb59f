-- Numbers of calls, and the tests on them.
use Rattle.std.proofs.Common.{◌≡◌, ℕ, ◌<◌, ◌≤◌, true, false, ◌==◌, nat_lt, List, [], ◌∷◌, All, arith, refl}
use Rattle.std.specs.List.{list_any, list_all}
use Rattle.std.proofs.lemmas.Bool.Decides.{nat_tests}
use Rattle.std.proofs.lemmas.List.Elements.{All-head, All-tail, All-nil, All-cons}

-- no number of the list is the limit where each is below it
pub list_any-past : (limit : ℕ) (numbers : List ℕ) → list_all (λ number. nat_lt number limit) numbers ≡ true → list_any (λ number. number == limit) numbers ≡ false
list_any-past limit [] h = refl
list_any-past limit (x ∷ xs) h = grind (arith, nat_tests, list_any-past limit xs)

-- numbers below a limit are below a larger one
pub list_all-below : (low high : ℕ) (numbers : List ℕ) → low ≤ high → list_all (λ number. nat_lt number low) numbers ≡ true → list_all (λ number. nat_lt number high) numbers ≡ true
list_all-below low high [] le h = refl
list_all-below low high (x ∷ xs) le h = grind (arith, nat_tests, list_all-below low high xs)

-- the test that each number is below a limit
pub All-below : (limit : ℕ) (numbers : List ℕ) → list_all (λ number. nat_lt number limit) numbers ≡ true → All (λ number. number < limit) numbers
All-below limit [] h = All-nil (λ number. number < limit)
All-below limit (x ∷ xs) h = All-cons (λ number. number < limit) x xs (grind (arith, nat_tests)) (All-below limit xs (grind (arith, nat_tests)))

pub below-All : (limit : ℕ) (numbers : List ℕ) → All (λ number. number < limit) numbers → list_all (λ number. nat_lt number limit) numbers ≡ true
below-All limit [] h = refl
below-All limit (x ∷ xs) h =
    let head : x < limit = All-head (λ number. number < limit) x xs h in
    grind (arith, nat_tests, below-All limit xs (All-tail (λ number. number < limit) x xs h))
