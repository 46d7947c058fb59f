use Rattle.std.proofs.Common.{◌∙◌, sym}
use Rattle.md_report.specs.Lines.{arc_text}
use Rattle.md_report.specs.WellFormedLines.{IsNamedArc}
use Rattle.md_report.proofs.Cutting.{read_more, read_not}
use Rattle.md_report.proofs.Named.{arc_words, one_named}
use Rattle.md_report.proofs.arc_reader.arcs.Goals as goal

pub returns-in_default : goal.returns-in_default
returns-in_default c = read_not arc_text IsNamedArc arc_words one_named c.args.text.now _ _ c.loop-rest.invariant c.in_default.ensures (sym c.is_empty.ensures ∙ c.loop-rest-test.true)

pub loop-rest-preserved : goal.loop-rest-preserved
loop-rest-preserved c = read_more arc_text IsNamedArc arc_words one_named c.args.text.now _ _ _ c.in-Some.by _ c.loop-rest.invariant c.in-Some.ensures c.in_ok-push.ensures.items
