use Rattle.std.proofs.Common.{◌∙◌, sym, ap, subst}
use Rattle.md_report.specs.Lines.{fed_line}
use Rattle.md_top.specs.ItemTexts.{IsItemText}
use Rattle.md_top.specs.Sinks.{sink_run, PutsWhole}
use Rattle.md_top.proofs.Lines.{one_line}
use Rattle.md_top.proofs.put.put_item_text.Goals as goal

pub returns-in-Some-clause-puts : goal.returns-in-Some-clause-puts
returns-in-Some-clause-puts g c p line is may =
    let told = subst (λ o. IsItemText o line) c.in-Some.is is in
    c.put_text.ensures.puts p line (c.deref.ensures.value ∙ told) may

pub returns-in-None-clause-puts : goal.returns-in-None-clause-puts
returns-in-None-clause-puts g c p line is may =
    let told = subst (λ o. IsItemText o line) c.in-None.is is in
    one_line p line _ _ _ _ _ may
    (subst (λ bytes. PutsWhole bytes c.put_piece.result (sink_run g.O.Sink c.args.out.now c.put_piece.new.out)) (ap fed_line (sym told)) c.put_piece.ensures.puts)
