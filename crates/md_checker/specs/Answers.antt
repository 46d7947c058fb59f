-- The answer of checking a report: whether it is valid, else the first line that isn't one of a valid report.
-- Source: this project's own format of reports.
use Rattle.std.specs.Prelude.{◌≡◌, ◌≤◌, ℕ, suc, List, ◌++◌, length}
use Rattle.std.specs.List.{flat_map}
use Rattle.md_report.specs.Lines.{fed_line}
use Rattle.md_report.specs.Places.{Place, after_end, MayCome, next_place}
use Rattle.md_report.specs.Protocols.{LeadBy, IsReportBy}
use Rattle.md_checker.specs.declared.answer.CheckAnswer.{CheckAnswer}
use Rattle.md_checker.specs.declared.answer.CheckAnswer.TheVariants.{Accepted, Rejected}

-- the bytes begin with the first n lines of a valid report from a place on, whatever the places and the lines are
pub record SharesFirstBy {P L : Type 0} (MayCome : P → L → Type 0) (next : P → L → P) (fed : L → List ℕ) (last : P) (p : P) (bytes : List ℕ) (n : ℕ) : Type 0 where
  pub lines : List L
  pub more : List L
  pub valid : LeadBy MayCome next p (lines ++ more) last
  pub number : length lines ≡ n
  pub rest : List ℕ
  pub begins : bytes ≡ flat_map fed lines ++ rest

-- n is the greatest number of first lines that the bytes share with a valid report from a place on
pub record IsMostSharedBy {P L : Type 0} (MayCome : P → L → Type 0) (next : P → L → P) (fed : L → List ℕ) (last : P) (p : P) (bytes : List ℕ) (n : ℕ) : Type 0 where
  pub shares : SharesFirstBy MayCome next fed last p bytes n
  pub most : (m : ℕ) → SharesFirstBy MayCome next fed last p bytes m → m ≤ n

-- the bytes are a whole valid report from a place on; or they aren't, and the line is told behind the longest first
-- part that they share with one
abbrev pub IsCheckAnswerBy : {P L : Type 0} → (P → L → Type 0) → (P → L → P) → (L → List ℕ) → P → P → List ℕ → CheckAnswer → Type 0
IsCheckAnswerBy MayCome next fed last p bytes Accepted = IsReportBy MayCome next fed last p bytes
IsCheckAnswerBy MayCome next fed last p bytes (Rejected line) =
    (¬ IsReportBy MayCome next fed last p bytes) × (n : ℕ) × (line ≡ suc n) × IsMostSharedBy MayCome next fed last p bytes n

-- lines have led from p to q, their text is that of the bytes but for the rest, and the line behind them has the number
pub record HaveComeBy {P L : Type 0} (MayCome : P → L → Type 0) (next : P → L → P) (fed : L → List ℕ) (p : P) (bytes : List ℕ) (q : P) (rest : List ℕ) (number : ℕ) : Type 0 where
  pub lines : List L
  pub leads : LeadBy MayCome next p lines q
  pub text_is : bytes ≡ flat_map fed lines ++ rest
  pub counted : number ≡ suc (length lines)

-- q is the place behind the lines that were taken: all of them, or those before the line that is told
abbrev pub IsPlaceBehindBy : {P L : Type 0} → (P → L → Type 0) → (P → L → P) → (L → List ℕ) → P → P → List ℕ → CheckAnswer → P → Type 0
IsPlaceBehindBy MayCome next fed last p bytes Accepted q = q ≡ last
IsPlaceBehindBy MayCome next fed last p bytes (Rejected line) q = (rest : List ℕ) × HaveComeBy MayCome next fed p bytes q rest line

-- the same of the reports over graphs and of sessions
abbrev pub SharesFirst : Place → List ℕ → ℕ → Type 0
SharesFirst p bytes n = SharesFirstBy MayCome next_place fed_line after_end p bytes n

abbrev pub IsMostShared : Place → List ℕ → ℕ → Type 0
IsMostShared p bytes n = IsMostSharedBy MayCome next_place fed_line after_end p bytes n

abbrev pub IsCheckAnswer : Place → List ℕ → CheckAnswer → Type 0
IsCheckAnswer p bytes answer = IsCheckAnswerBy MayCome next_place fed_line after_end p bytes answer

-- bytes have one answer at most
abbrev pub OneAnswer : Type 0
OneAnswer = (p : Place) (bytes : List ℕ) (a b : CheckAnswer) → IsCheckAnswer p bytes a → IsCheckAnswer p bytes b → a ≡ b
