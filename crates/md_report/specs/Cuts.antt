-- Texts cut at a byte, and texts of items, a space before each.
-- Source: any textbook of formal languages.
use Rattle.std.specs.Prelude.{◌≡◌, ◌≢◌, ℕ, List, [], ◌∷◌, ◌++◌, ⊤}

-- no byte of the text is this one
abbrev pub LacksByte : ℕ → List ℕ → Type 0
LacksByte b [] = ⊤
LacksByte b (x ∷ xs) = (x ≢ b) × LacksByte b xs

-- the text is empty, or begins with the byte
abbrev pub Opens : ℕ → List ℕ → Type 0
Opens b [] = ⊤
Opens b (x ∷ xs) = x ≡ b

-- the text is cut before its first such byte
pub record IsCutAt (b : ℕ) (text front behind : List ℕ) : Type 0 where
  pub whole : text ≡ front ++ behind
  pub lacks : LacksByte b front
  pub opens : Opens b behind

-- the text begins with a space and a piece, behind which another space stands or nothing
pub record IsPiece (text piece rest : List ℕ) : Type 0 where
  pub whole : text ≡ 32 ∷ (piece ++ rest)
  pub lacks : LacksByte 32 piece
  pub opens : Opens 32 rest

-- the text begins with a space and the text of an item, behind which another space stands or nothing
pub record IsItem {A : Type 0} (spelled : A → List ℕ) (Fits : A → Type 0) (text : List ℕ) (a : A) (rest : List ℕ) : Type 0 where
  pub fits : Fits a
  pub whole : text ≡ 32 ∷ (spelled a ++ rest)
  pub opens : Opens 32 rest

-- the text begins with no item
abbrev pub NoItem : {A : Type 0} → (A → List ℕ) → (A → Type 0) → List ℕ → Type 0
NoItem spelled Fits text = (a : _) (rest : List ℕ) → Fits a → Opens 32 rest → text ≢ 32 ∷ (spelled a ++ rest)
