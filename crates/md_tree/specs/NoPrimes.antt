-- Trees without prime nodes, which are those of cographs.
-- Source: Corneil, Lerchs and Stewart Burlingham, Complement reducible graphs.
use Rattle.std.specs.Prelude.{⊤, Option, Some, None}
use Rattle.md_tree.specs.Trees.{PlainTree}
use Rattle.md_tree.specs.WellFormed.{HasNoPrimeNode}

-- no node of the tree is prime; so it is of no tree
abbrev pub HasNoPrime : Option PlainTree → Type 0
HasNoPrime None = ⊤
HasNoPrime (Some t) = HasNoPrimeNode t
