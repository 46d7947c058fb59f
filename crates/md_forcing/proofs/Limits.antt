-- The limits: the only file that looks at the values of the constants.
use Rattle.std.proofs.Common.{◌*◌, ◌^◌, ◌<◌, lit<}
use Rattle.md_graph.specs.declared.TheConstants.{NAMES}

-- an arc's place fits 32 bits
pub names_squared : NAMES * NAMES < 2 ^ 32
names_squared = lit< tt
