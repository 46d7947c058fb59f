-- Sets of names in little room: a name alone, the bits of a word, or a set in a box.
-- Source: our own.
use Rattle.std.specs.Prelude.{◌≡◌, ℕ, ◌*◌, ◌<◌, ⊤}
use Rattle.md_graph.specs.Sets.{NameSet, only_name}
use Rattle.md_graph.specs.NameSet.{block}
use Rattle.md_modules.specs.declared.compact_set.Held.{Held}
use Rattle.md_modules.specs.declared.compact_set.Held.TheVariants.{One, Low, Several}

-- the names that a block holds
abbrev pub held_names : (w : ℕ) → Held w → NameSet
held_names w (One v) = only_name v
held_names w (Low bits) = block 0 bits
held_names w (Several b) = b.value

-- what is kept as a number is a name below 64 w, and a word is kept where sets have one word
abbrev pub IsName : (w : ℕ) → Held w → Type 0
IsName w (One v) = v < 64 * w
IsName w (Low bits) = w ≡ 1
IsName w (Several b) = ⊤
