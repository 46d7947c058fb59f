-- Short texts that are copied whole.
use Rattle.std.specs.Prelude.{◌≡◌, ℕ, ◌^◌, ◌<◌, ◌≤◌, List, [], ◌∷◌, ◌++◌, length, take, slice_get, slice_index_or}
use Rattle.std.specs.Option.{option_map_or}
use Rattle.md_text.specs.declared.piece.Piece.{Piece}
use Rattle.md_text.specs.Numbers.{decimal}

-- the text of a piece
abbrev pub piece_text : Piece → List ℕ
piece_text piece = take piece.used piece.bytes

-- the text of the piece at an index, if there is one
abbrev pub text_at : List Piece → ℕ → List ℕ
text_at pieces i = option_map_or piece_text (slice_get pieces i) []

-- for each index the text `first` and that of its piece, one after the other
unfoldable pub texts_at : List Piece → List ℕ → List ℕ → List ℕ
texts_at pieces first [] = []
texts_at pieces first (i ∷ indices) = (first ++ text_at pieces i) ++ texts_at pieces first indices

-- the piece at each index is that index in digits, and each index has at most five
pub record AreNumerals (pieces : List Piece) : Type 0 where
  pub text : (k : ℕ) (other : Piece) → k < length pieces → piece_text (slice_index_or pieces k other) ≡ decimal k
  pub few : length pieces ≤ 10 ^ 5
