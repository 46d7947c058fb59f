-- The status and the line of what ended the run.
use Rattle.std.proofs.Common.{[], Ok, Err, sym, ◌∙◌, inl}
use Rattle.std.proofs.KnownBytes.{Appends-nil}
use Rattle.md_top.specs.Status.{line_of_stop}
use Rattle.md_top.proofs.EndsLemmas.{stops_at_fault, line_told, no_line_told, bad_always, rejected_always}
use Rattle.md_top.proofs.top.run.Goals as goal

pub returns-in-Ok-clause-bad_input_always : goal.returns-in-Ok-clause-bad_input_always
returns-in-Ok-clause-bad_input_always g c = bad_always _ (Ok c.in-Ok.verdict) _ _ c.in-Ok.ensures.ends c.status.result c.status.ensures

pub returns-in-Ok-clause-rejected_always : goal.returns-in-Ok-clause-rejected_always
returns-in-Ok-clause-rejected_always g c = rejected_always _ (Ok c.in-Ok.verdict) _ _ c.in-Ok.ensures.ends c.status.result c.status.ensures

pub returns-in-Ok-clause-failing_load : goal.returns-in-Ok-clause-failing_load
returns-in-Ok-clause-failing_load g c = λ rose. c.status.ensures ∙ c.in-Ok.ensures.ends.failing_load rose

pub returns-in-Ok-clause-err : goal.returns-in-Ok-clause-err
returns-in-Ok-clause-err g c = record {
  line = [];
  is = no_line_told c.in-Ok.verdict _ _ c.status.result c.status.ensures;
  takes = inl (Appends-nil _);
}

pub returns-in-Err-clause-bad_input : goal.returns-in-Err-clause-bad_input
returns-in-Err-clause-bad_input g c = λ is. stops_at_fault c.in-Err.stop _ _ _ c.in-Err.ensures.ends (sym c.status-in-Err.ensures ∙ is)

pub returns-in-Err-clause-bad_input_always : goal.returns-in-Err-clause-bad_input_always
returns-in-Err-clause-bad_input_always g c = bad_always _ (Err c.in-Err.stop) _ _ c.in-Err.ensures.ends c.status-in-Err.result c.status-in-Err.ensures

pub returns-in-Err-clause-rejected_always : goal.returns-in-Err-clause-rejected_always
returns-in-Err-clause-rejected_always g c = rejected_always _ (Err c.in-Err.stop) _ _ c.in-Err.ensures.ends c.status-in-Err.result c.status-in-Err.ensures

pub returns-in-Err-clause-failing_load : goal.returns-in-Err-clause-failing_load
returns-in-Err-clause-failing_load g c = λ rose. c.status-in-Err.ensures ∙ c.in-Err.ensures.ends.failing_load rose

pub returns-in-Err-clause-err : goal.returns-in-Err-clause-err
returns-in-Err-clause-err g c = record {
  line = line_of_stop c.in-Err.stop;
  is = line_told c.in-Err.stop _ _ _ c.in-Err.ensures.ends c.status-in-Err.result c.status-in-Err.ensures;
  takes = c.put_line.ensures;
}
