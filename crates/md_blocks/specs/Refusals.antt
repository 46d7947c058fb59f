-- What a target that refuses a piece has got by then.
use Rattle.std.specs.Prelude.{◌≡◌, ℕ, List, ◌++◌}

-- Pieces are put to a target one behind the other, so that in the end it would have the whole. It refuses one of them for that reason:
-- what it has by then and this piece are the beginning of the whole, and its text is the one that it had before all pieces.
pub record RefusesFront {S E : Type 0} (bytes text : S → List ℕ) (may_refuse : S → List ℕ → E → Type 0) (begin : S) (whole : List ℕ) (reason : E) : Type 0 where
  pub target : S
  pub chunk : List ℕ
  pub rest : List ℕ
  pub front : (bytes target ++ chunk) ++ rest ≡ whole
  pub same_text : text target ≡ text begin
  pub refused : may_refuse target chunk reason
