-- Two vertices whose neighbourhoods aren't nested.
-- Source: Wolk, The comparability graph of a tree (1962), and Chvatal and Hammer, Aggregation of inequalities in integer programming
-- (1977): in trivially perfect graphs the neighbourhoods of adjacent vertices are nested, in threshold graphs those of any two.
use Rattle.std.specs.Prelude.{◌≡◌, ◌≢◌, ◌⊎◌, ℕ, Bool, true, false}
use Rattle.md_bar_tree.specs.declared.Bar.{Bar}

-- x is adjacent to u, and is neither v nor adjacent to it
abbrev pub IsOwn : (ℕ → ℕ → Bool) → ℕ → ℕ → ℕ → Type 0
IsOwn e u v x = (e u x ≡ true) × (e v x ≡ false) × (x ≢ v)

-- each of u and v has such a neighbour
abbrev pub AreCrossing : (ℕ → ℕ → Bool) → ℕ → ℕ → Type 0
AreCrossing e u v = ((x : ℕ) × IsOwn e u v x) × ((y : ℕ) × IsOwn e v u y)

-- w is one of the four names of a bar
abbrev pub IsNameOf : ℕ → Bar → Type 0
IsNameOf w bar = (w ≡ bar.a) ⊎ (w ≡ bar.b) ⊎ (w ≡ bar.c) ⊎ (w ≡ bar.d)
