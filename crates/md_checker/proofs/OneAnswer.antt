-- Bytes have one answer as a report.
use Rattle.std.proofs.Common.{◌≡◌, ℕ, List, suc, ◌≤◌, refl, ap, arith}
use Rattle.md_report.specs.Lines.{fed_line}
use Rattle.md_report.specs.Places.{after_end, MayCome, next_place}
use Rattle.md_checker.specs.declared.answer.CheckAnswer.{CheckAnswer}
use Rattle.md_checker.specs.declared.answer.CheckAnswer.TheVariants.{Accepted, Rejected}
use Rattle.md_checker.specs.Answers.{IsCheckAnswerBy, OneAnswer}

same_line : (k l m n : ℕ) → k ≡ suc m → l ≡ suc n → m ≤ n → n ≤ m → k ≡ l
same_line k l m n a b low high = omega (arith, a, b, low, high)

-- whatever the places and the lines are
pub one_answer_by : {P L : Type 0} (MayCome : P → L → Type 0) (next : P → L → P) (fed : L → List ℕ) (last p : P) (bytes : List ℕ) (a b : CheckAnswer) →
    IsCheckAnswerBy MayCome next fed last p bytes a → IsCheckAnswerBy MayCome next fed last p bytes b → a ≡ b
one_answer_by MayCome next fed last p bytes Accepted Accepted a b = refl
one_answer_by MayCome next fed last p bytes Accepted (Rejected l) a b = absurd (b.0 a)
one_answer_by MayCome next fed last p bytes (Rejected k) Accepted a b = absurd (a.0 b)
one_answer_by MayCome next fed last p bytes (Rejected k) (Rejected l) a b =
    ap Rejected (same_line k l a.1 b.1 a.2 b.2 (b.3.most a.1 a.3.shares) (a.3.most b.1 b.3.shares))

pub one_answer_proof : OneAnswer
one_answer_proof p bytes a b = one_answer_by MayCome next_place fed_line after_end p bytes a b
