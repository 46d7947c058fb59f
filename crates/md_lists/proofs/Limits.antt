-- The limits: the only file that looks at the values of the constants.
use Rattle.std.proofs.Common.{◌+◌, ◌^◌, ◌<◌, lit<}
use Rattle.md_lists.specs.declared.TheConstants.{PLACES}

-- the number of places and one more fit 32 bits
pub PLACES-lt : PLACES + 1 < 2 ^ 32
PLACES-lt = lit< tt
