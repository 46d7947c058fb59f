use Rattle.std.proofs.Common.{◌∷◌, [], ◌∙◌, sym, ap, subst, arith, length, map, reverse}
use Rattle.std.proofs.lemmas.List.{length-append}
use Rattle.md_script.specs.Pasts.{as_edit}
use Rattle.md_script.specs.Histories.{PlainHistory, past_in, NameRowsInOrder}
use Rattle.md_script.proofs.HistoryLemmas.{pushed, pushed_starts, seen_push, seen_starts}
use Rattle.md_script.proofs.KeptRows.{starts_in, seen_more}
use Rattle.md_script.proofs.history.HistoryOf.push.Goals as goal

pub invariant_of-self : goal.invariant_of-self
invariant_of-self g c =
    let more = ap length c.push_reserved.ensures.items ∙ length-append c.self.inside.edits.items _ in
    let room = c.requires.room in
    let at = c.self.invariant in
    let low = at.2 in
    let rows = at.3 in
    let high = at.4 in
    let len = c.push_reserved.ensures.len in
    let capacity = c.push_reserved.ensures.capacity in
    let row = c.keep-kept.ensures.room in
    let row_room = c.keep-kept.ensures.capacity in (
      pushed_starts _ _ c.self.inside.starts.items (omega arith) at.0,
      subst (λ l. NameRowsInOrder 0 l (length c.keep-kept.new.rows.items)) (sym c.push_reserved.ensures.items) (c.keep-kept.ensures.rows c.self.inside.edits.items at.1),
      omega arith,
      omega arith,
      omega arith,
    )

pub returns-clause-items : goal.returns-clause-items
returns-clause-items g c = λ last others same.
    let at = c.self.invariant in
    let rows = c.self.inside.rows.items in
    let edits = c.self.inside.edits.items in
    let seen = map (past_in {w = g.row.W} rows) edits in
    let more =
    seen_more rows c.keep-kept.new.rows.items edits _ c.keep-kept.result c.args.past c.push_reserved.ensures.items (c.keep-kept.ensures.others edits at.1) c.keep-kept.ensures.past in
    pushed _ _ (as_edit c.args.past) _ (seen_push seen _ c.args.past more)
    (seen_starts seen c.self.inside.starts.items (starts_in g.row.W rows edits (reverse c.self.inside.starts.items) at.0)) last others
    (ap (λ (h : PlainHistory). h.items) c.self.view_is ∙ same)
