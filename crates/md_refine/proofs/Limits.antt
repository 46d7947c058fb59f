-- The limits: the only file that looks at the values of the constants.
use Rattle.std.proofs.Common.{◌+◌, ◌*◌, ◌^◌, ◌<◌, lit<}
use Rattle.md_graph.specs.declared.TheConstants.{NAMES}

-- the number of marks and one more fit 32 bits
pub NAMES-low : 2 * NAMES + 1 < 2 ^ 32
NAMES-low = lit< tt

-- there is a name
pub some_names : 0 < NAMES
some_names = lit< tt
