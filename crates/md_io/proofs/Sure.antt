-- Loads of files in memory that cannot fail.
use Rattle.std.proofs.Common.{◌≡◌, ℕ, ◌+◌, ◌-◌, ◌^◌, ◌<◌, ◌≤◌, min, Bool, true, false, ◌&&◌, ◌||◌, Option, Some, ◌==◌, nat_lt, List, arith}
use Rattle.std.specs.Option.{is_none}
use Rattle.std.specs.List.{list_any, list_all}
use Rattle.std.proofs.lemmas.Bool.Decides.{nat_tests}
use Rattle.md_io.proofs.Numbers.{list_any-past, list_all-below}

-- the next load is not among the failing ones
pub next-sure : (faults loads : ℕ) (failing : List ℕ) → (nat_lt faults (2 ^ 64 - 1) && list_all (λ number. nat_lt number (loads + 1)) failing) ≡ true → list_any (λ number. number == loads + 1) failing ≡ false
next-sure faults loads failing h = grind (arith, nat_tests, list_any-past (loads + 1) failing)

-- after one more load none can fail either
pub sure-more : (faults loads now : ℕ) (failing : List ℕ) → loads < 2 ^ 64 → now ≡ min (loads + 1) (2 ^ 64 - 1) → (nat_lt faults (2 ^ 64 - 1) && list_all (λ number. nat_lt number (loads + 1)) failing) ≡ true → (nat_lt faults (2 ^ 64 - 1) && list_all (λ number. nat_lt number (now + 1)) failing) ≡ true
sure-more faults loads now failing low e h =
    let le : loads + 1 ≤ now + 1 = omega arith in
    grind (arith, nat_tests, list_all-below (loads + 1) (now + 1) failing le)

-- a load whose number is not among the failing ones, of a file that is there, does not fail
pub neither-fails : {X : Type 0} (by_number : Bool) (found : Option X) (x : X) → by_number ≡ false → Some x ≡ found → (by_number || is_none found) ≡ true → ⊥
neither-fails by_number found x quiet is fails = grind (arith, quiet, is, fails)

-- a put whose number is not among the failing ones does not fail where no flush failed
pub put-quiet : (some_byte by_number broken : Bool) → by_number ≡ false → broken ≡ false → (some_byte && (by_number || broken)) ≡ true → ⊥
put-quiet some_byte by_number broken quiet good fails = grind (arith, quiet, good, fails)

-- nor does such a flush
pub flush-quiet : (by_number broken : Bool) → by_number ≡ false → broken ≡ false → (by_number || broken) ≡ true → ⊥
flush-quiet by_number broken quiet good fails = grind (arith, quiet, good, fails)
