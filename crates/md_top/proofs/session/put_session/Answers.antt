-- The head, and what comes behind it.
use Rattle.std.proofs.Common.{◌≤◌, refl, sym, ◌∙◌, subst, arith}
use Rattle.md_report.specs.declared.line.SessionMode.{SessionMode}
use Rattle.md_report.specs.Lines.{session_head}
use Rattle.md_report.specs.Places.{before_session, at_state, after_end}
use Rattle.md_top.specs.Sinks.{sink_run, PutsLines}
use Rattle.md_top.proofs.Lines.{puts_behind, stopped_behind, no_lines}
use Rattle.md_top.proofs.session.put_session.Goals as goal

pub returns-in-Edit-clause-puts : goal.returns-in-Edit-clause-puts
returns-in-Edit-clause-puts g c =
    puts_behind _ (at_state c.args.mode c.args.graph c.args.script.now) after_end _ _ _ _ _ _ _
    (c.in_ok-put_text.ensures.puts (before_session c.args.mode c.args.graph c.args.script.now) (session_head c.args.mode) (c.deref.ensures.value ∙ c.in_ok-head.ensures (session_head c.args.mode) c.in_ok-write_session_head.ensures) refl)
    c.put_text.ensures.faults_never_fall
    (subst (λ (mode : SessionMode). PutsLines (at_state mode c.args.graph c.args.script.now) after_end c.put_states.result (sink_run g.O.Sink c.put_text.new.out c.put_states.new.out))
    (sym c.in-Edit.is) c.put_states.ensures.puts)

pub returns-in-Cograph-clause-puts : goal.returns-in-Cograph-clause-puts
returns-in-Cograph-clause-puts g c =
    puts_behind _ (at_state c.args.mode c.args.graph c.args.script.now) after_end _ _ _ _ _ _ _
    (c.in_ok-put_text.ensures.puts (before_session c.args.mode c.args.graph c.args.script.now) (session_head c.args.mode) (c.deref.ensures.value ∙ c.in_ok-head.ensures (session_head c.args.mode) c.in_ok-write_session_head.ensures) refl)
    c.put_text.ensures.faults_never_fall
    (subst (λ (mode : SessionMode). PutsLines (at_state mode c.args.graph c.args.script.now) after_end c.put_cographs.result (sink_run g.O.Sink c.put_text.new.out c.put_cographs.new.out))
    (sym c.in-Cograph.is) c.put_cographs.ensures.puts)

pub returns-in-Quiet-clause-puts : goal.returns-in-Quiet-clause-puts
returns-in-Quiet-clause-puts g c =
    puts_behind _ (at_state c.args.mode c.args.graph c.args.script.now) after_end _ _ _ _ _ _ _
    (c.in_ok-put_text.ensures.puts (before_session c.args.mode c.args.graph c.args.script.now) (session_head c.args.mode) (c.deref.ensures.value ∙ c.in_ok-head.ensures (session_head c.args.mode) c.in_ok-write_session_head.ensures) refl)
    c.put_text.ensures.faults_never_fall
    (subst (λ (mode : SessionMode). PutsLines (at_state mode c.args.graph c.args.script.now) after_end c.put_cographs-in-Quiet.result (sink_run g.O.Sink c.put_text.new.out c.put_cographs-in-Quiet.new.out))
    (sym c.in-Quiet.is) c.put_cographs-in-Quiet.ensures.puts)

pub returns-clause-puts : goal.returns-clause-puts
returns-clause-puts g c =
    puts_behind _ (at_state c.args.mode c.args.graph c.args.script.now) after_end _ _ _ _ _ _ _
    (c.in_ok-put_text.ensures.puts (before_session c.args.mode c.args.graph c.args.script.now) (session_head c.args.mode) (c.deref.ensures.value ∙ c.in_ok-head.ensures (session_head c.args.mode) c.in_ok-write_session_head.ensures) refl)
    c.put_text.ensures.faults_never_fall
    (subst (λ (mode : SessionMode). PutsLines (at_state mode c.args.graph c.args.script.now) after_end c.put_class.result (sink_run g.O.Sink c.put_text.new.out c.put_class.new.out))
    (sym c.in-Of.is) c.put_class.ensures.puts)

pub returns-in_err-put_text-clause-puts : goal.returns-in_err-put_text-clause-puts
returns-in_err-put_text-clause-puts g c =
    stopped_behind _ (before_session c.args.mode c.args.graph c.args.script.now) _ _ _ _ _ _ _ _ _ c.from_residual-in_err-put_text.ensures.1
    (no_lines _ _) (let still : g.O.Sink.faults c.args.out.now ≤ g.O.Sink.faults c.args.out.now = omega arith in still)
    (c.in_err-put_text.ensures.puts (before_session c.args.mode c.args.graph c.args.script.now) (session_head c.args.mode) (c.deref.ensures.value ∙ c.in_ok-head.ensures (session_head c.args.mode) c.in_ok-write_session_head.ensures) refl)
