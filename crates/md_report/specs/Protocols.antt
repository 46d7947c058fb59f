-- Reports whatever their places and their lines are: which lines may come at a place, and to which place each leads.
-- Source: paths of a labelled transition system, as in any textbook of automata.
use Rattle.std.specs.Prelude.{◌≡◌, ◌⊎◌, ℕ, List, [], ◌∷◌, ◌++◌}
use Rattle.std.specs.List.{flat_map}
use Rattle.md_report.specs.Cuts.{LacksByte}

-- a line with its line feed, by the texts of lines
abbrev pub fed_by : {L : Type 0} → (L → List ℕ) → L → List ℕ
fed_by text line = text line ++ 10 ∷ []

-- the lines lead from one place to another: each may come where those before it lead
abbrev pub LeadBy : {P L : Type 0} → (P → L → Type 0) → (P → L → P) → P → List L → P → Type 0
LeadBy MayCome next p [] q = p ≡ q
LeadBy MayCome next p (line ∷ lines) q = MayCome p line × LeadBy MayCome next (next p line) lines q

-- a whole report from a place on: lines that lead to the last place, and their text
pub record IsReportBy {P L : Type 0} (MayCome : P → L → Type 0) (next : P → L → P) (fed : L → List ℕ) (last : P) (p : P) (bytes : List ℕ) : Type 0 where
  pub lines : List L
  pub leads : LeadBy MayCome next p lines last
  pub text : bytes ≡ flat_map fed lines

-- nothing, or the beginning of a line that may come at the place
abbrev pub IsBegunBy : {P L : Type 0} → (P → L → Type 0) → (L → List ℕ) → P → List ℕ → Type 0
IsBegunBy {P} {L} MayCome fed p begun = (begun ≡ []) ⊎ ((line : L) × MayCome p line × (rest : List ℕ) × (fed line ≡ begun ++ rest))

-- the beginning of a report from a place on: lines that lead somewhere, their text, and the beginning of a line that may come there
pub record IsFrontBy {P L : Type 0} (MayCome : P → L → Type 0) (next : P → L → P) (fed : L → List ℕ) (p : P) (bytes : List ℕ) : Type 0 where
  pub lines : List L
  pub place : P
  pub leads : LeadBy MayCome next p lines place
  pub begun : List ℕ
  pub begins : IsBegunBy MayCome fed place begun
  pub text : bytes ≡ flat_map fed lines ++ begun

-- wherever lines lead from a place, others lead on to the last one
abbrev pub CanEnd : {P L : Type 0} → (P → L → Type 0) → (P → L → P) → P → P → Type 0
CanEnd {P} {L} MayCome next last p = (lines : List L) (q : P) → LeadBy MayCome next p lines q → (more : List L) × LeadBy MayCome next q more last

-- no line may come at the last place
abbrev pub IsLast : {P L : Type 0} → (P → L → Type 0) → P → Type 0
IsLast {P} {L} MayCome last = (line : L) → MayCome last line → ⊥

-- no text of a line has a line feed, and each is of one line at most
pub record IsLineSpelling {L : Type 0} (text : L → List ℕ) : Type 0 where
  pub lacks : (line : L) → LacksByte 10 (text line)
  pub one : (k l : L) → text k ≡ text l → k ≡ l
