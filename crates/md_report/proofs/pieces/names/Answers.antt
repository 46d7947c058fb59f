use Rattle.std.proofs.Common.{◌∙◌, sym}
use Rattle.md_text.specs.Numbers.{decimal}
use Rattle.md_report.specs.WellFormedLines.{IsVertexName}
use Rattle.md_report.proofs.Cutting.{read_more, read_not}
use Rattle.md_report.proofs.Named.{name_words, one_name}
use Rattle.md_report.proofs.pieces.names.Goals as goal

pub returns-in_default : goal.returns-in_default
returns-in_default c =
    record { read = read_not decimal IsVertexName name_words one_name c.args.text.now _ _ c.loop-rest.invariant c.in_default.ensures (sym c.is_empty.ensures ∙ c.loop-rest-test.true) }

pub loop-rest-preserved : goal.loop-rest-preserved
loop-rest-preserved c = read_more decimal IsVertexName name_words one_name c.args.text.now _ _ _ c.in-Some.name _ c.loop-rest.invariant c.in-Some.ensures c.in_ok-push.ensures.items
