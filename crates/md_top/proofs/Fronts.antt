-- The fronts of each output are the beginnings of whole valid ones.
use Rattle.std.proofs.Common.{◌↔◌, ℕ, List, ◌++◌, refl, subst, sym}
use Rattle.md_report.proofs.Fronts.{fronts_begin_proof}
use Rattle.md_dcheck.proofs.DirectedPlaces as directed
use Rattle.md_top.specs.declared.request.Request.{Request}
use Rattle.md_top.specs.declared.request.Request.TheVariants.{Convert, Report, Check, Big}
use Rattle.md_top.specs.declared.stop.Verdict.{Verdict}
use Rattle.md_top.specs.declared.stop.Verdict.TheVariants.{Done, Rejected}
use Rattle.md_top.specs.Starts.{Start, of_graphs, of_digraphs, IsReportFrom, IsFrontFrom}
use Rattle.md_top.specs.Answer.{Output, text, report, answer, verdict_of, Gives, IsWhole, IsBeginning, IsAnswer, IsAnswerFront}
use Rattle.md_top.specs.Laws.{FrontsBeginAnswers}
use Rattle.md_top.proofs.Beginnings.{IsSoundStart, begin_sound}

abbrev IsSoundOutput : Output → Type 0
IsSoundOutput (text whole) = Unit {0}
IsSoundOutput (report p) = IsSoundStart p
IsSoundOutput (answer p bytes) = Unit {0}

-- the fronts of reports are the beginnings of whole ones
fronts_from : (p : Start) → IsSoundStart p → (bytes : List ℕ) → IsFrontFrom p bytes ↔ ((rest : List ℕ) × IsReportFrom p (bytes ++ rest))
fronts_from (of_graphs p) sound bytes = fronts_begin_proof p sound bytes
fronts_from (of_digraphs p) sound bytes = directed.fronts_begin_proof p bytes

given_sound : (input : Request (List ℕ)) (output : Output) → Gives input output → IsSoundOutput output
given_sound (Convert to from graph) output gives = subst IsSoundOutput (sym gives.2) tt
given_sound (Report subject) output gives = subst IsSoundOutput (sym gives.2) (begin_sound subject gives.0 gives.1)
given_sound (Check subject bytes) output gives = subst IsSoundOutput (sym gives.2) tt
given_sound (Big size) output gives = subst IsSoundOutput (sym gives.2) tt

whole_of : (output : Output) → IsSoundOutput output → (bytes : List ℕ) → IsBeginning output bytes → (verdict : Verdict) × (rest : List ℕ) × IsWhole output verdict (bytes ++ rest)
whole_of (text whole) sound bytes begun = (Done, begun.0, sym begun.1)
whole_of (report p) sound bytes begun =
    let on : (rest : List ℕ) × IsWhole (report p) Done (bytes ++ rest) = (fronts_from p sound bytes).0 begun in (Done, on.0, on.1)
whole_of (answer p judged) sound bytes begun = (verdict_of begun.0, begun.2, (begun.0, begun.1, refl, sym begun.3))

front_of : (output : Output) → IsSoundOutput output → (verdict : Verdict) (bytes rest : List ℕ) → IsWhole output verdict (bytes ++ rest) → IsBeginning output bytes
front_of (text whole) sound Done bytes rest is = (rest, sym is)
front_of (text whole) sound Rejected bytes rest is = absurd is
front_of (report p) sound Done bytes rest is = (fronts_from p sound bytes).1 (rest, is)
front_of (report p) sound Rejected bytes rest is = absurd is
front_of (answer p judged) sound verdict bytes rest is = (is.0, is.1, rest, sym is.3)

pub fronts_begin_answers_proof : FrontsBeginAnswers
fronts_begin_answers_proof input bytes = (begins, ends)
  where
    begins : IsAnswerFront input bytes → (verdict : Verdict) × (rest : List ℕ) × IsAnswer input verdict (bytes ++ rest)
    begins front =
        let on : (verdict : Verdict) × (rest : List ℕ) × IsWhole front.output verdict (bytes ++ rest) = whole_of front.output (given_sound input front.output front.gives) bytes front.begun in
        (on.0, on.1, record { output = front.output; gives = front.gives; whole = on.2 })

    ends : ((verdict : Verdict) × (rest : List ℕ) × IsAnswer input verdict (bytes ++ rest)) → IsAnswerFront input bytes
    ends whole = record {
      output = whole.2.output;
      gives = whole.2.gives;
      begun = front_of whole.2.output (given_sound input whole.2.output whole.2.gives) whole.0 bytes whole.1 whole.2.whole;
    }
