use Rattle.std.proofs.Common.{◌≡◌, ℕ, List, None, ◌∙◌, ap, subst}
use Rattle.std.specs.Prelude.{Option, MatchOption}
use Rattle.md_text.specs.Spelling.{SpellsOnly, SpellsNone}
use Rattle.md_graph6.specs.declared.fault.G6Fault.{G6Fault}
use Rattle.md_digraph6.specs.ArcFile.{SpellsDigraphs, first_arc_fault, digraphs_of}
use Rattle.md_digraph6.proofs.ArcFiles.{spelled_or_arc_fault}
use Rattle.md_dcheck.specs.DueDigraphs.{directed_place, digraphs_left}
use Rattle.md_dcheck.specs.DirectedReports.{DirectedPlace, before_directed, IsDirectedAnswer}
use Rattle.md_dcheck.proofs.DirectedPlaces.{directed_can_end}
use Rattle.md_dcheck.proofs.directed_check.check_directed.Goals as goal

-- a file without fault spells its directed graphs
spelled : (bytes : List ℕ) → first_arc_fault bytes ≡ None → SpellsDigraphs bytes (digraphs_of bytes)
spelled bytes none =
    (subst (λ (o : Option G6Fault). MatchOption o (SpellsOnly SpellsDigraphs bytes (digraphs_of bytes)) (λ _. SpellsNone SpellsDigraphs bytes)) none (spelled_or_arc_fault bytes)).spells

pub judge-requires : goal.judge-requires
judge-requires c = record {
  can_end =
      directed_can_end
      (directed_place c.in_ok-checker.checker.due (digraphs_left c.in_ok-checker.checker.is_there c.in_ok-checker.checker.room c.in_ok-checker.checker.behind));
}

pub returns-clause-answer : goal.returns-clause-answer
returns-clause-answer c = (
  digraphs_of c.args.graph.now,
  spelled c.args.graph.now c.in_default.ensures.sound,
  subst (λ (p : DirectedPlace). IsDirectedAnswer p c.args.report.now c.in_ok-judge.field-0) (c.in_ok-checker.ensures ∙ ap before_directed c.new.ensures) c.in_ok-judge.ensures.answer,
)
