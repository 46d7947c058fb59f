use Rattle.std.proofs.Common.{subst, Err}
use Rattle.md_tree.specs.Reading.{IsTreeReading}
use Rattle.md_report.proofs.Behind.{no_tree_text}
use Rattle.md_report.proofs.reader.tree_behind.Goals as goal

pub returns-in-Err-Syntax : goal.returns-in-Err-Syntax
returns-in-Err-Syntax c =
    no_tree_text c.args.rest.now c.in-Some.text.now c.in-Err-Syntax.field-0-0 c.in-Some.ensures.behind
    (subst (λ f. IsTreeReading c.in-Some.text.now (Err f)) c.in-Err-Syntax.field-0-is c.in-Err-Syntax.ensures.reading)
