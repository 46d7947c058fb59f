-- The limits of directed graphs: the only file that looks at the values of the constants.
use Rattle.std.proofs.Common.{ℕ, ◌*◌, ◌≤◌, arith}
use Rattle.md_digraph.specs.declared.TheConstants.{DIRECTED_NAMES, DIRECTED_WORDS}

-- few words have a bit for no number but names
pub directed_words_few : (w : ℕ) → w ≤ DIRECTED_WORDS → 64 * w ≤ DIRECTED_NAMES
directed_words_few w few = omega (arith, few)
