-- The laws of valid outputs.
use Rattle.std.specs.Prelude.{◌≡◌, ◌↔◌, ℕ, List, ◌++◌}
use Rattle.md_top.specs.declared.request.Request.{Request}
use Rattle.md_top.specs.declared.stop.Verdict.{Verdict}
use Rattle.md_top.specs.Answer.{Output, Gives, IsAnswer, IsAnswerFront}

-- bytes are the front of an output over given contents exactly where a whole valid output begins with them
abbrev pub FrontsBeginAnswers : Type 0
FrontsBeginAnswers =
    (input : Request (List ℕ)) (bytes : List ℕ) →
    IsAnswerFront input bytes ↔ ((verdict : Verdict) × (rest : List ℕ) × IsAnswer input verdict (bytes ++ rest))

-- a request over given contents gives one output at most
abbrev pub OneOutput : Type 0
OneOutput = (input : Request (List ℕ)) (a b : Output) → Gives input a → Gives input b → a ≡ b
