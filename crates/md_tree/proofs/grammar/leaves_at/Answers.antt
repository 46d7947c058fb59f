use Rattle.md_tree.specs.Languages.{IsTreeText, ComesNext, IsReadingTurn}
use Rattle.std.proofs.Common.{[], subst}
use Rattle.md_tree.specs.Spellings.{spelling}
use Rattle.md_tree.proofs.Spelled.{is_spelling}
use Rattle.md_tree.proofs.Leaving.{start_goes, goes_then, stuck_then}
use Rattle.md_tree.proofs.grammar.leaves_at.Goals as goal

pub loop-opens-init : goal.loop-opens-init
loop-opens-init g c = record { kinds = []; are = c.new-opens.ensures.items; on = start_goes (is_spelling g.met.K.Lettered.laws g.met.P.Paired.laws) _ }

pub loop-opens-preserved : goal.loop-opens-preserved
loop-opens-preserved g c =
    let sp = spelling g.K.Lettered.rules g.P.Paired.rules in
    let i = c.loop-opens.invariant in
    let t = subst (λ turn. IsReadingTurn sp (ComesNext sp c.loop-opens.behind i.kinds) c.loop-opens.rest.now turn c.take_turn.new.opens.items) c.in-Onward.is (c.in_ok-tail.ensures i.kinds i.are) in
    record {
      kinds = t.0.kinds;
      are = t.0.are;
      on = goes_then (IsTreeText sp) (ComesNext sp c.loop-opens.behind i.kinds) (ComesNext sp c.in-Onward.now_behind t.0.kinds) _ _ _ i.on t.0.on;
    }

pub returns-in-Blocked : goal.returns-in-Blocked
returns-in-Blocked g c =
    let sp = spelling g.K.Lettered.rules g.P.Paired.rules in
    let i = c.loop-opens.invariant in
    stuck_then (IsTreeText sp) (ComesNext sp c.loop-opens.behind i.kinds) _ _ _ i.on
    (subst (λ turn. IsReadingTurn sp (ComesNext sp c.loop-opens.behind i.kinds) c.loop-opens.rest.now turn c.take_turn.new.opens.items) c.in-Blocked.is (c.in_ok-tail.ensures i.kinds i.are))
