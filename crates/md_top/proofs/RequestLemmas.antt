-- The words of a check: those of a subject, and the report behind them; and a check with its files in place of the names.
use Rattle.std.proofs.Common.{◌≡◌, ℕ, List, [], ◌∷◌, ◌++◌, Option, None, Some, refl, sym, ◌∙◌, ap, option_map, string_bytes}
use Rattle.std.proofs.lemmas.List.{map-append}
use Rattle.std.specs.Borrow.{Bor}
use Rattle.std.specs.declared.alloc.Global.{Global}
use Rattle.std.specs.declared.string.String.{String}
use Rattle.md_top.specs.declared.request.Subject.{Subject}
use Rattle.md_top.specs.declared.request.Request.{Request}
use Rattle.md_top.specs.declared.request.Request.TheVariants.{Check}
use Rattle.md_top.specs.Subject.{subject_seen, with_subject_files}
use Rattle.md_top.specs.Request.{front_and_last, split_last, check_with, with_files, texts, subject_of, check_of, check_request}

-- the last of a list, and what stands before it
last_of : {A : Type 0} (y : A) (xs : List A) (x : A) → front_and_last y (xs ++ x ∷ []) ≡ (y ∷ xs, x)
last_of y [] x = refl
last_of y (z ∷ xs) x = rw (last_of z xs x) refl

split_last_of : {A : Type 0} (xs : List A) (x : A) → split_last (xs ++ x ∷ []) ≡ Some (xs, x)
split_last_of [] x = refl
split_last_of (y ∷ xs) x = ap Some (last_of y xs x)

-- a check over a subject with its files, and the report behind them
pub check_filled : (subject filled : Subject (List ℕ)) (name report : List ℕ) (files : List (List ℕ)) → with_subject_files subject files ≡ Some filled → with_files (Check subject name) (files ++ report ∷ []) ≡ Some (Check filled report)
check_filled subject filled name report files is =
    ap (check_with subject) (split_last_of files report) ∙ ap (option_map (λ (s : Subject (List ℕ)). Check s report)) is

module _ (words front : List (String Global)) (report : String Global) (whole : words ≡ front ++ report ∷ []) where
  last_text : split_last (texts words) ≡ Some (texts front, string_bytes report)
  last_text =
      ap (λ (w : List (String Global)). split_last (texts w)) whole
      ∙ ap split_last (map-append string_bytes front (report ∷ [])) ∙ split_last_of (texts front) (string_bytes report)

  check_by : (told : Option (Subject (List ℕ))) → told ≡ subject_of (texts front) → option_map (λ (s : Subject (List ℕ)). Check s (string_bytes report)) told ≡ check_request (texts words)
  check_by told same = ap (option_map (λ (s : Subject (List ℕ)). Check s (string_bytes report))) same ∙ sym (ap check_of last_text)

  -- the words before the report name a subject
  pub check_is : (subject : Subject (Bor (List ℕ))) (text : List ℕ) → option_map subject_seen (Some subject) ≡ subject_of (texts front) → text ≡ string_bytes report
      → Some (Check (subject_seen subject) text) ≡ check_request (texts words)
  check_is subject text same is = ap (λ (t : List ℕ). Some (Check (subject_seen subject) t)) is ∙ check_by (Some (subject_seen subject)) same

  -- or none
  pub check_not : ◌≡◌ {A = Option (Subject (List ℕ))} None (subject_of (texts front)) → ◌≡◌ {A = Option (Request (List ℕ))} None (check_request (texts words))
  check_not same = check_by None same
