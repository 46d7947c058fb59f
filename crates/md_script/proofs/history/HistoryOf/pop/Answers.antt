use Rattle.std.proofs.Common.{◌≡◌, ◌<◌, ◌+◌, ◌∷◌, ◌++◌, [], ◌∙◌, sym, subst, Some, None, ap, arith, refl, length, map, reverse}
use Rattle.std.proofs.lemmas.List.{length-map, length-append}
use Rattle.md_script.specs.Histories.{PlainHistory, past_in, NameRowsInOrder}
use Rattle.md_script.proofs.HistoryLemmas.{empty_last, there_edits, popped_starts, popped}
use Rattle.md_script.proofs.KeptRows.{starts_in, starts_out, seen_less}
use Rattle.md_script.proofs.history.HistoryOf.pop.Goals as goal

pub returns-then-last_len-eq0-clause-none : goal.returns-then-last_len-eq0-clause-none
returns-then-last_len-eq0-clause-none g c =
    let found = empty_last c.args.self.now.items c.last_len.result c.requires c.last_len.ensures c.if-last_len-eq0.true in (found.0, found.1, refl)

pub unreachable-requires : goal.unreachable-requires
unreachable-requires g c =
    let rows = c.self.inside.rows.items in
    let edits = c.self.inside.edits.items in
    let seen = map (past_in {w = g.row.W} rows) edits in
    let view = ap (λ (h : PlainHistory). h.items) c.self.view_is in
    let some : 0 < length seen = there_edits seen [] c.self.inside.starts.items c.args.self.now.items c.last_len.result None view c.requires c.last_len.ensures c.if-last_len-eq0.false in
    let same = length-map edits (past_in {w = g.row.W} rows) in
    let len = c.self.inside.edits.ok.0 in
    let there = c.in-None.ensures.variant.1 (omega arith) in
    absurd (cc)

pub invariant_of-self : goal.invariant_of-self
invariant_of-self g c =
    let at = c.self.invariant in
    let rows = c.self.inside.rows.items in
    let edits = c.self.inside.edits.items in
    let less = c.pop.new.self.items in
    let new = c.give.new.rows.items in
    let seen = map (past_in {w = g.row.W} rows) edits in
    let seen_new = map (past_in {w = g.row.W} new) less in
    let view = ap (λ (h : PlainHistory). h.items) c.self.view_is in
    let told = c.give.ensures.rows less (subst (λ l. NameRowsInOrder 0 l (length rows)) c.in-Some.ensures.items at.1) in
    let fewer : seen ≡ seen_new ++ c.give.result ∷ [] = seen_less rows new edits less c.in-Some.kept c.give.result c.in-Some.ensures.items told.1 c.give.ensures.past in
    let one : length seen ≡ length seen_new + 1 = ap length fewer ∙ length-append seen_new (c.give.result ∷ []) in
    let starts =
    popped_starts seen seen_new c.self.inside.starts.items c.args.self.now.items c.last_len.result None view c.requires c.last_len.ensures c.if-last_len-eq0.false
    (starts_in g.row.W rows edits (reverse c.self.inside.starts.items) at.0) (sym one)
    in
    let low = at.2 in
    let mid = at.3 in
    let len = c.pop.ensures.len in
    let capacity = c.pop.ensures.capacity in
    let row = c.give.ensures.room in
    let row_room = c.give.ensures.capacity in
    (starts_out g.row.W new less (reverse c.self.inside.starts.items) starts, told.0, omega arith, omega arith, at.4)

pub returns-clause-some : goal.returns-clause-some
returns-clause-some g c =
    let rows = c.self.inside.rows.items in
    let edits = c.self.inside.edits.items in
    let less = c.pop.new.self.items in
    let new = c.give.new.rows.items in
    let seen = map (past_in {w = g.row.W} rows) edits in
    let view = ap (λ (h : PlainHistory). h.items) c.self.view_is in
    let told = c.give.ensures.rows less (subst (λ l. NameRowsInOrder 0 l (length rows)) c.in-Some.ensures.items c.self.invariant.1) in
    popped seen (map (past_in {w = g.row.W} new) less) c.self.inside.starts.items c.args.self.now.items c.last_len.result (Some c.give.result) view c.requires c.last_len.ensures c.if-last_len-eq0.false
    (seen_less rows new edits less c.in-Some.kept c.give.result c.in-Some.ensures.items told.1 c.give.ensures.past)
