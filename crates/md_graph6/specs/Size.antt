-- The size that begins a graph6 line: the number of vertices in one, four or eight bytes.
-- Source: B. McKay, "Description of graph6, sparse6 and digraph6 encodings".
use Rattle.std.specs.Prelude.{ℕ, zero, suc, ◌+◌, ◌-◌, ◌*◌, ◌/◌, ◌%◌, ◌==◌, ◌&&◌, ◌||◌, nat_lt, nat_le, Bool, not, List, [], ◌∷◌, ◌++◌, length, get_or, if◌then◌else◌, Option, None, Some}

-- the greatest size that one byte spells
abbrev pub most_in_one_byte : ℕ
most_in_one_byte = 62

-- the greatest size that four bytes spell
abbrev pub most_in_four_bytes : ℕ
most_in_four_bytes = 258047

-- n in `count` groups of six bits, the high group first, 63 added to each
abbrev pub groups : ℕ → ℕ → List ℕ
groups zero n = []
groups (suc count) n = groups count (n / 64) ++ (n % 64 + 63) ∷ []

-- the shortest spelling of n, which is below 2 ^ 36
unfoldable pub size_text : ℕ → List ℕ
size_text n =
    if nat_le n most_in_one_byte then (n + 63) ∷ [] else
    if nat_le n most_in_four_bytes then 126 ∷ groups 3 n else
    126 ∷ 126 ∷ groups 6 n

-- the six bits of the byte at `place`
abbrev pub group : List ℕ → ℕ → ℕ
group line place = get_or line place 63 - 63

-- the 18 bits of the three bytes from `place` on, the high bits first
abbrev pub eighteen_bits : List ℕ → ℕ → ℕ
eighteen_bits line place = (group line place * 64 + group line (place + 1)) * 64 + group line (place + 2)

-- how many bytes spell the size of a line that isn't empty, and the size; none if not all of them are there
unfoldable pub size_of : List ℕ → Option (ℕ × ℕ)
size_of line =
    if not (get_or line 0 0 == 126) then Some (1, group line 0) else
    if nat_lt (length line) 4 then None else
    if not (get_or line 1 0 == 126) then Some (4, eighteen_bits line 1) else
    if nat_lt (length line) 8 then None else
    Some (8, eighteen_bits line 2 * 262144 + eighteen_bits line 5)

-- whether fewer than `count` bytes spell the size n
abbrev pub is_too_long : ℕ → ℕ → Bool
is_too_long count n =
    (count == 4 && nat_le n most_in_one_byte) || (count == 8 && nat_le n most_in_four_bytes)
