-- The first line of a text, and the line feed behind it.
use Rattle.std.proofs.Common.{◌≡◌, ◌≢◌, ℕ, List, [], ◌∷◌, ◌++◌, length, get_or, sym, ◌∙◌, ap, ap₂, subst, inl, inr, arith}
use Rattle.std.specs.List.{position_or_len, before_first, after_first}
use Rattle.std.proofs.lemmas.Bool.{eqb-true, cases_lt}
use Rattle.std.proofs.lemmas.List.{take_all, length-take}
use Rattle.std.proofs.lemmas.List.Elements.{All-head, All-tail}
use Rattle.std.proofs.lemmas.List.Sums.{passes_at_first, split_at_first}
use Rattle.md_text.specs.Lines.{is_feed, LacksFeed}
use Rattle.md_report.specs.Cuts.{LacksByte}

pub no_feed_in : (xs : List ℕ) → LacksFeed xs → LacksByte 10 xs
no_feed_in [] lacks = tt
no_feed_in (x ∷ xs) lacks = (All-head (λ byte. byte ≢ 10) x xs lacks, no_feed_in xs (All-tail (λ byte. byte ≢ 10) x xs lacks))

-- the line is the whole text, or a line feed stands behind it
pub whole_line : (text line : List ℕ) → line ≡ before_first is_feed text → length line ≡ length text → LacksFeed line → LacksByte 10 text
whole_line text line before same lacks =
    elim (cases_lt (position_or_len is_feed text) (length text)) [
      | inl short ↦ absurd (omega (arith, length-take (position_or_len is_feed text) text, ap length before))
      | inr past ↦ subst (LacksByte 10) (before ∙ take_all (position_or_len is_feed text) text past) (no_feed_in line lacks)
    ]

pub fed_line_first : (text line behind : List ℕ) → line ≡ before_first is_feed text → behind ≡ after_first is_feed text → length line ≢ length text → text ≡ line ++ 10 ∷ behind
fed_line_first text line behind before after other =
    elim (cases_lt (position_or_len is_feed text) (length text)) [
      | inl short ↦
          split_at_first is_feed text 0 short
          ∙ ap (λ byte. before_first is_feed text ++ byte ∷ after_first is_feed text) (eqb-true (get_or text (position_or_len is_feed text) 0) 10 (passes_at_first is_feed text 0 short))
          ∙ ap₂ (λ (xs ys : List ℕ). xs ++ 10 ∷ ys) (sym before) (sym after)
      | inr past ↦ absurd (other (ap length (before ∙ take_all (position_or_len is_feed text) text past)))
    ]
