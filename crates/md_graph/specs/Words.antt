-- The set that words of bits keep: name v is bit v % 64 of word v / 64.
-- Source: a finite set as a vector of bits, as in any textbook on data structures.
use Rattle.std.specs.Prelude.{◌≡◌, ◌<◌, ◌≤◌, min, ℕ, zero, suc, ◌+◌, ◌-◌, ◌/◌, ◌%◌, ◌*◌, List, [], ◌∷◌, ◌++◌, get_or, if◌then◌else◌, ◌==◌}
use Rattle.std.specs.Int.{bit_at}
use Rattle.std.specs.FinSet as set
use Rattle.md_graph.specs.Sets.{NameSet}

-- the bit of name v
abbrev pub bit_of : List ℕ → ℕ → ℕ
bit_of words v = bit_at (get_or words (v / 64) 0) (v % 64)

-- the bit of name v in `words`, where exactly one of `first` and `second` has it
abbrev pub bit_apart : List ℕ → List ℕ → List ℕ → ℕ → ℕ
bit_apart words first second v = min (bit_of words v) ((bit_of first v + bit_of second v) % 2)

-- the low 64 bits of `word` are those of `first` that `second` doesn't have
abbrev pub IsWithout : ℕ → ℕ → ℕ → Type 0
IsWithout word first second = (k : ℕ) → k < 64 →
    bit_at word k ≡ min (bit_at first k) (1 - bit_at second k)

-- each of the low 64 bits of `first` is one of `second`
abbrev pub AreBitsAmong : ℕ → ℕ → Type 0
AreBitsAmong first second = (k : ℕ) → k < 64 → bit_at first k ≤ bit_at second k

-- the names below `bound` whose bit is 1
unfoldable pub names_below : List ℕ → ℕ → NameSet
names_below words zero = set.empty
names_below words (suc n) = if bit_of words n == 1 then set.insert (names_below words n) n else names_below words n

-- the names first + k, low ≤ k < bound, whose bit k of `bits` is 1, ascending
unfoldable pub bits_between : ℕ → ℕ → ℕ → List ℕ
bits_between first bits zero = []
bits_between first bits (suc k) =
    bits_between first bits k ++ (if bit_at bits k == 1 then (first + k) ∷ [] else [])

-- the names of the words from `from` on, `count` words, ascending
unfoldable pub names_of_words : List ℕ → ℕ → ℕ → List ℕ
names_of_words words from zero = []
names_of_words words from (suc count) =
    bits_between (64 * from) (get_or words from 0) 64 ++ names_of_words words (from + 1) count

-- what an iterator over the first `used` words has left at word `at`, of which the bits of `left`
-- are still to come
abbrev pub members_left : List ℕ → ℕ → ℕ → ℕ → List ℕ
members_left words used at left = bits_between (64 * at) left 64 ++ names_of_words words (at + 1) (used - (at + 1))
