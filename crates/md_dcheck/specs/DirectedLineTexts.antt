-- Each text is of one line of a report of directed trees at most, and none has a line feed.
-- Source: this project's own format of reports.
use Rattle.std.specs.Prelude.{◌≡◌, ◌≢◌, ℕ, List, ◌∷◌, codes, refl}
use Rattle.std.proofs.Common.{ap, arith}
use Rattle.md_tree.proofs.Texts.{one_text_proof}
use Rattle.md_dtree.specs.declared.DKind.{DKind}
use Rattle.md_dtree.specs.declared.DKind.TheVariants.{Parallel, Series, Order, Prime}
use Rattle.md_dtree.specs.DirectedTexts.{directed_text_of}
use Rattle.md_dtree.specs.DirectedSpelling.{directed_letter, directed_spelling}
use Rattle.md_dtree.proofs.ArcKinds.{directed_spelling_law}
use Rattle.md_report.specs.Cuts.{LacksByte}
use Rattle.md_report.specs.Protocols.{IsLineSpelling}
use Rattle.md_report.proofs.Cutting.{lacks_when, lacks_append}
use Rattle.md_report.proofs.LineFeeds.{lacks_option_by}
use Rattle.md_dcheck.specs.DirectedReports.{DirectedLine, directed_head, directed_tree, directed_end, directed_line_text}

-- texts that begin with other bytes differ
apart : (x y : ℕ) (xs ys : List ℕ) → x ≢ y → x ∷ xs ≢ y ∷ ys
apart x y xs ys differ same = differ (cc)

one_line : (k l : DirectedLine) → directed_line_text k ≡ directed_line_text l → k ≡ l
one_line directed_head directed_head e = refl
one_line directed_head (directed_tree t) e = absurd (apart 109 116 _ _ (λ f. omega arith) e)
one_line directed_head directed_end e = absurd (apart 109 101 _ _ (λ f. omega arith) e)
one_line (directed_tree t) directed_head e = absurd (apart 116 109 _ _ (λ f. omega arith) e)
one_line (directed_tree t) (directed_tree u) e =
    ap directed_tree (one_text_proof directed_spelling_law t u (behind 116 32 (directed_text_of t) (directed_text_of u) e))
  where
    behind : (x y : ℕ) (xs ys : List ℕ) → x ∷ y ∷ xs ≡ x ∷ y ∷ ys → xs ≡ ys
    behind x y xs ys same = cc
one_line (directed_tree t) directed_end e = absurd (apart 116 101 _ _ (λ f. omega arith) e)
one_line directed_end directed_head e = absurd (apart 101 109 _ _ (λ f. omega arith) e)
one_line directed_end (directed_tree t) e = absurd (apart 101 116 _ _ (λ f. omega arith) e)
one_line directed_end directed_end e = refl

other_letter : (k : DKind) → directed_letter k ≢ 10
other_letter Parallel e = omega arith
other_letter Series e = omega arith
other_letter Order e = omega arith
other_letter Prime e = omega arith

lacks_line : (line : DirectedLine) → LacksByte 10 (directed_line_text line)
lacks_line directed_head = lacks_when 10 (codes "mdt dtree") refl
lacks_line (directed_tree t) =
    lacks_append 10 (codes "t ") (directed_text_of t) (lacks_when 10 (codes "t ") refl) (lacks_option_by directed_spelling other_letter (λ e. omega arith) t)
lacks_line directed_end = lacks_when 10 (codes "end") refl

-- the texts of lines spell them
pub directed_line_spelling : IsLineSpelling directed_line_text
directed_line_spelling = record { lacks = lacks_line; one = one_line }
