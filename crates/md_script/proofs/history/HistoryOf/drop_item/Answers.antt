use Rattle.std.proofs.Common.{◌∙◌, ◌-◌, ◌∷◌, [], sym, ap, arith, take, map, reverse}
use Rattle.md_script.specs.Histories.{PlainHistory, past_in}
use Rattle.md_script.proofs.HistoryLemmas.{dropped, dropped_starts}
use Rattle.md_script.proofs.KeptRows.{starts_in, starts_out}
use Rattle.md_script.proofs.history.HistoryOf.drop_item.Goals as goal

pub invariant_of-self : goal.invariant_of-self
invariant_of-self g c =
    let rows = c.self.inside.rows.items in
    let edits = c.self.inside.edits.items in
    let seen = map (past_in {w = g.row.W} rows) edits in
    let view = ap (λ (h : PlainHistory). h.items) c.self.view_is in
    let at = c.self.invariant in
    let high = at.4 in
    let len = c.pop.ensures.len in
    let capacity = c.pop.ensures.capacity in
    let short = c.pop.ensures.rest ∙ ap (λ n. take (n - 1) c.self.inside.starts.items) c.self.inside.starts.ok.0 in
    let starts =
    dropped_starts seen c.self.inside.starts.items c.pop.new.self.items c.requires.0 (starts_in g.row.W rows edits (reverse c.self.inside.starts.items) at.0) short (view ∙ c.requires.1) in
    (starts_out g.row.W rows edits (reverse c.pop.new.self.items) starts, at.1, at.2, at.3, omega arith)

pub returns-clause-items : goal.returns-clause-items
returns-clause-items g c =
    let rows = c.self.inside.rows.items in
    let edits = c.self.inside.edits.items in
    let seen = map (past_in {w = g.row.W} rows) edits in
    let view = ap (λ (h : PlainHistory). h.items) c.self.view_is in
    let short = c.pop.ensures.rest ∙ ap (λ n. take (n - 1) c.self.inside.starts.items) c.self.inside.starts.ok.0 in
    c.requires.1
    ∙ ap (λ l. [] ∷ l)
    (sym
    (dropped seen c.self.inside.starts.items c.pop.new.self.items c.requires.0 (starts_in g.row.W rows edits (reverse c.self.inside.starts.items) c.self.invariant.0) short (view ∙ c.requires.1)))
