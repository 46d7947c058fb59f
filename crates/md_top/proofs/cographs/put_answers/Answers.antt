-- One more line is put, or the call stopped within it.
use Rattle.std.proofs.Common.{◌≤◌, ◌*◌, [], drop, rules, sym, subst, ◌∙◌, arith}
use Rattle.md_script.proofs.ChangeLemmas.{holds_at}
use Rattle.md_script.specs.Histories.{HistoryFits}
use Rattle.md_script.specs.Items.{HasItemNamesBelow}
use Rattle.md_report.specs.Cographs.{IsCograph}
use Rattle.md_report.specs.Places.{at_items, after_end}
use Rattle.md_report.specs.Sessions.{first_state}
use Rattle.md_report.specs.Steps.{state_of}
use Rattle.md_top.specs.CographModes.{cograph_mode}
use Rattle.md_top.proofs.Lines.{stopped_behind, stopped_before, puts_behind, no_lines}
use Rattle.md_top.proofs.ItemLoops.{none_led, led_forgotten, fits_forgotten, undo_counted, undos_left, item_put, item_stopped, items_done}
use Rattle.md_top.proofs.cographs.put_answers.Goals as goal

pub item_text-requires : goal.item_text-requires
item_text-requires g c =
    let fits = fits_forgotten (64 * g.row.W) IsCograph c.loop-i.session c.loop-i.undos c.loop-i.history.items c.forget_unreached.new.history.items c.forget_unreached.ensures c.loop-i.invariant.fits in
    (search rules, (search rules, (holds_at (HasItemNamesBelow (64 * g.row.W)) c.args.script.now c.loop-i.i c.get-item.result.now c.get-item.ensures.item c.requires.names, fits)))

pub returns-in_err-history-clause-puts : goal.returns-in_err-history-clause-puts
returns-in_err-history-clause-puts g c =
    stopped_behind _ (at_items (cograph_mode c.args.told) (first_state c.args.session) c.args.script.now) _ _ _ _ _ _ _ _ _ c.from_residual.ensures.1
    (no_lines _ _) (let still : g.O.Sink.faults c.args.out.now ≤ g.O.Sink.faults c.args.out.now = omega arith in still) (stopped_before _ _)

pub returns-in_err-text-clause-puts : goal.returns-in_err-text-clause-puts
returns-in_err-text-clause-puts g c =
    let led = c.loop-i.invariant.led in
    stopped_behind _ (at_items (cograph_mode c.args.told) led.state (drop c.loop-i.i c.args.script.now)) _ _ _ _ _ _ _ _ _ c.from_residual-in_err-text.ensures.1
    led.progress c.loop-i.invariant.faults (stopped_before _ _)

pub returns-in_err-put_item_text-clause-puts : goal.returns-in_err-put_item_text-clause-puts
returns-in_err-put_item_text-clause-puts g c =
    let kept = state_of c.loop-i.session c.forget_unreached.new.history.items in
    let led = led_forgotten (cograph_mode c.args.told) (at_items (cograph_mode c.args.told) (first_state c.args.session) c.args.script.now) (drop c.loop-i.i c.args.script.now) c.loop-i.undos c.loop-i.session c.loop-i.history.items c.forget_unreached.new.history.items _ _ c.forget_unreached.ensures c.loop-i.invariant.led in
    item_stopped (cograph_mode c.args.told) (at_items (cograph_mode c.args.told) (first_state c.args.session) c.args.script.now) c.args.script.now c.loop-i.i c.loop-i.undos c.get-item.result.now c.in_ok-text.ensures.text.0 kept _ _
    c.get-item.ensures.item c.loop-i.invariant.counted led c.in_ok-text.ensures.text.2 _ _ after_end _ _ _ _ c.from_residual-in_err-put_item_text.ensures.1 c.loop-i.invariant.faults (λ q may. c.in_err-put_item_text.ensures.puts q c.in_ok-text.ensures.text.0 c.in_ok-text.ensures.text.1 may)

pub undos_behind-undos-requires : goal.undos_behind-undos-requires
undos_behind-undos-requires g c = undo_counted c.args.script.now c.loop-i.i c.get-item.result.now c.loop-i.undos c.get-item.ensures.item c.loop-i.invariant.counted

pub loop-i-init : goal.loop-i-init
loop-i-init g c = record {
  led = none_led (cograph_mode c.args.told) c.args.session c.args.script.now c.undos-undos.result c.in_ok-history.history.items _ c.in_ok-history.ensures;
  counted = c.undos-undos.ensures;
  fits = subst (HistoryFits (64 * g.row.W) IsCograph c.args.session) (sym c.in_ok-history.ensures) tt;
  faults = omega arith;
}

pub loop-i-preserved : goal.loop-i-preserved
loop-i-preserved g c =
    let kept = state_of c.loop-i.session c.forget_unreached.new.history.items in
    let led = led_forgotten (cograph_mode c.args.told) (at_items (cograph_mode c.args.told) (first_state c.args.session) c.args.script.now) (drop c.loop-i.i c.args.script.now) c.loop-i.undos c.loop-i.session c.loop-i.history.items c.forget_unreached.new.history.items _ _ c.forget_unreached.ensures c.loop-i.invariant.led in
    record {
      led =
          item_put (cograph_mode c.args.told) (at_items (cograph_mode c.args.told) (first_state c.args.session) c.args.script.now) c.args.script.now c.loop-i.i c.loop-i.undos c.get-item.result.now c.in_ok-text.ensures.text.0 kept _ _
          c.get-item.ensures.item c.loop-i.invariant.counted led c.in_ok-text.ensures.text.2 (state_of c.item_text.new.session c.item_text.new.history.items) _ c.undos_behind-undos.result c.undos_behind-undos.ensures c.in_ok-text.ensures.text.3 (λ q may. c.in_ok-put_item_text.ensures.puts q c.in_ok-text.ensures.text.0 c.in_ok-text.ensures.text.1 may);
      counted = c.undos_behind-undos.ensures ∙ undos_left c.args.script.now c.loop-i.i c.get-item.result.now c.loop-i.undos c.get-item.ensures.item c.loop-i.invariant.counted;
      fits = c.item_text.ensures.fits;
      faults = omega (arith, c.loop-i.invariant.faults, c.put_item_text.ensures.faults_never_fall);
    }

pub returns-clause-puts : goal.returns-clause-puts
returns-clause-puts g c =
    let done = items_done (cograph_mode c.args.told) (at_items (cograph_mode c.args.told) (first_state c.args.session) c.args.script.now) c.args.script.now c.loop-i.i c.loop-i.undos (state_of c.loop-i.session c.loop-i.history.items) _ _ (omega arith) c.loop-i.invariant.led in
    puts_behind _ (at_items (cograph_mode c.args.told) done.state []) after_end _ _ _ _ _ _ _ done.progress c.loop-i.invariant.faults
    (c.put_last.ensures.puts done.state done.kept.graph)
