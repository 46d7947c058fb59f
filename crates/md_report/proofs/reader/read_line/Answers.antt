use Rattle.std.proofs.Common.{sym, ap, ◌∙◌, ◌++◌, ℕ, List}
use Rattle.md_report.proofs.Behind.{reads_on, to_reading, no_line, no_word}
use Rattle.md_report.proofs.reader.read_line.Goals as goal

pub returns-in-Some : goal.returns-in-Some
returns-in-Some c =
    to_reading c.args.bytes.now _
    (reads_on _ c.args.bytes.now _ _ (ap (λ (t : List ℕ). t ++ c.split_before.result.1.now) (sym c.in-Some.ensures) ∙ sym c.split_before.ensures.whole)
    (no_line c.args.bytes.now _ _ _ c.split_before.ensures c.in-Some.ensures) _ c.line_behind.ensures)

pub returns-in-None : goal.returns-in-None
returns-in-None c = no_word c.args.bytes.now _ _ c.split_before.ensures c.in-None.ensures
