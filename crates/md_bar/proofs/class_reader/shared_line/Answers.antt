use Rattle.md_graph.proofs.SetLemmas.{clash}
use Rattle.md_report.specs.Lines.{plain_line}
use Rattle.md_bar.proofs.Texts.{not_shared}
use Rattle.md_bar.proofs.class_reader.shared_line.Goals as goal

pub returns-else-is_shared : goal.returns-else-is_shared
returns-else-is_shared c =
    not_shared c.args.bytes.now (plain_line c.in-Ok.line) c.in-Ok.ensures.1 (λ is. clash (c.is_shared.ensures.1 is) c.if-is_shared.false)
