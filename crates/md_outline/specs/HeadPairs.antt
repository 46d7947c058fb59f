-- The pairs that a prime node lists, by the names that stand for its children.
-- Source: Habib and Paul, A survey of the algorithmic aspects of modular decomposition; the order of the pairs is our own.
use Rattle.std.specs.Prelude.{◌≡◌, ℕ, suc, ◌<◌, Bool, cond, List, [], ◌∷◌, ◌++◌, length, ⊤}
use Rattle.md_text.specs.declared.piece.Piece.{Piece}
use Rattle.md_text.specs.Numbers.{decimal}
use Rattle.md_text.specs.Pieces.{text_at}
use Rattle.md_tree.specs.Spellings.{PairRules}

module _ {P : Type 0} (r : PairRules P) where
  -- the pairs of the position `low`, where the name v stands, with those of the names that it has a pair with, of which the first
  -- stands at the position j
  abbrev pub near_pairs : (ℕ → ℕ → Bool) → ℕ → ℕ → ℕ → List ℕ → List P
  near_pairs e v low j [] = []
  near_pairs e v low j (w ∷ ws) = cond (e v w) (r.pair low j ∷ near_pairs e v low (suc j) ws) (near_pairs e v low (suc j) ws)

  -- the pairs of some of the names of a list, of which the first stands at the position i, with all of them
  abbrev pub pairs_from : (ℕ → ℕ → Bool) → List ℕ → ℕ → List ℕ → List P
  pairs_from e list i [] = []
  pairs_from e list i (v ∷ vs) = near_pairs e v i 0 list ++ pairs_from e list (suc i) vs

  -- the pairs of positions of the names of a list, in ascending order
  abbrev pub head_pairs : (ℕ → ℕ → Bool) → List ℕ → List P
  head_pairs e list = pairs_from e list 0 list

-- the names that v has a pair with
abbrev pub near_heads : (ℕ → ℕ → Bool) → ℕ → List ℕ → List ℕ
near_heads e v [] = []
near_heads e v (w ∷ ws) = cond (e v w) (w ∷ near_heads e v ws) (near_heads e v ws)

-- at the place of each head stands its position, of which the first is j
abbrev pub SpellPositions : List Piece → ℕ → List ℕ → Type 0
SpellPositions pieces j [] = ⊤
SpellPositions pieces j (w ∷ ws) = (w < length pieces) × (text_at pieces w ≡ decimal j) × SpellPositions pieces (suc j) ws
