-- The positions of children, spelled as pieces of text.
use Rattle.std.specs.Prelude.{◌≡◌, ℕ, ◌++◌, ◌<◌, List, [], ◌∷◌, length}
use Rattle.std.specs.List.{All}
use Rattle.md_text.specs.declared.piece.Piece.{Piece}
use Rattle.md_text.specs.Numbers.{decimal}
use Rattle.md_text.specs.Pieces.{piece_text, text_at, texts_at}
use Rattle.md_tree.specs.declared.pair_writer.Start.{Start}
use Rattle.md_tree.specs.Spellings.{PairRules}
use Rattle.md_tree.specs.TreeTexts.{pairs_text_by}

-- the piece spells a comma, the first position of pairs, and their mark
abbrev pub IsStart : {P : Type 0} → PairRules P → Start → Type 0
IsStart r start = piece_text start.piece ≡ 44 ∷ (decimal start.first ++ r.between ∷ [])

module _ {P : Type 0} (r : PairRules P) where
  -- the piece `first` and the one at the index `second` spell a pair with a comma before it
  pub record IsSecond (pieces : List Piece) (first : Piece) (pair : P) (second : ℕ) : Type 0 where
    pub there : second < length pieces
    pub text : piece_text first ++ text_at pieces second ≡ 44 ∷ (decimal (r.first pair) ++ r.between ∷ decimal (r.second pair))

  -- so four pairs are spelled, behind which the others stand
  pub record AreSeconds (pieces : List Piece) (first : Piece) (seconds : List ℕ) (pairs others : List P) : Type 0 where
    pub count : length seconds ≡ 4
    pub there : All (λ k. k < length pieces) seconds
    pub text : texts_at pieces (piece_text first) seconds ++ pairs_text_by r 44 others ≡ pairs_text_by r 44 pairs
