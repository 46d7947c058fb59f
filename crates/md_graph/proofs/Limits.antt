-- The limits: the only file that looks at the values of the constants.
use Rattle.std.proofs.Common.{◌≡◌, ℕ, ◌*◌, ◌^◌, ◌<◌, ◌≤◌, Option, Some, None, IfSome, refl, lit<, arith}
use Rattle.md_graph.specs.declared.TheConstants.{NAMES, WORDS}

-- each name has one bit
pub NAMES-is : NAMES ≡ 64 * WORDS
NAMES-is = refl

-- a name fits 16 bits
pub NAMES-lt : NAMES < 2 ^ 16
NAMES-lt = lit< tt

-- few words have a bit for no number but names
pub words_few : (w : ℕ) → w ≤ WORDS → 64 * w ≤ NAMES
words_few w few = omega (arith, few)

pub some_name : (w : ℕ) (found : Option ℕ) → w ≤ WORDS → IfSome found (λ x. x < 64 * w) → IfSome found (λ x. x < NAMES)
some_name w None few below = tt
some_name w (Some x) few below = let names = words_few w few in omega (arith, below)
