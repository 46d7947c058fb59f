use Rattle.std.proofs.Common.{rules, ◌≡◌, ◌<◌, ◌∷◌, ◌∙◌, sym, subst, ap, Some, List, length, reverse}
use Rattle.md_script.specs.declared.edit.Edit.{Edit}
use Rattle.md_script.specs.Pasts.{as_edit}
use Rattle.md_script.specs.Histories.{PlainHistory, past_in, HasRow}
use Rattle.md_script.proofs.KeptRows.{last_row_there, last_seen}
use Rattle.md_script.proofs.history.HistoryOf.last_edit.Goals as goal

pub past_of-requires : goal.past_of-requires
past_of-requires g c =
    let given = c.requires in
    let view = ap (λ (h : PlainHistory). h.items) c.self.view_is in
    let starts = c.last_start.ensures in
    let ends = ap reverse (sym c.deref-2.ensures.value) ∙ starts.1 in
    let there =
    last_row_there g.row.W c.self.inside.rows.items c.self.inside.edits.items _ starts.0 c.last_start.result c.args.i c.index.result.now ends c.index.ensures given.0 given.1 (view ∙ given.2) given.3 c.self.invariant.1 in
    (search rules, (search rules, subst (λ l. HasRow (length l) c.index.result.now) (sym c.deref.ensures.value) there))

pub returns : goal.returns
returns g c = λ last others same.
    let given = c.requires in
    let both : given.0 ∷ given.1 ≡ last ∷ others = sym given.2 ∙ same in
    let first : given.0 ≡ last = cc in
    let below : c.args.i < length last = subst (λ (l : List Edit). c.args.i < length l) first given.3 in
    let view = ap (λ (h : PlainHistory). h.items) c.self.view_is in
    let starts = c.last_start.ensures in
    let ends = ap reverse (sym c.deref-2.ensures.value) ∙ starts.1 in
    last_seen g.row.W c.self.inside.rows.items c.self.inside.edits.items _ starts.0 c.last_start.result c.args.i c.index.result.now ends c.index.ensures last others (view ∙ same) below
    ∙ ap Some (ap as_edit (sym (c.past_of.ensures ∙ ap (λ l. past_in {w = g.row.W} l c.index.result.now) c.deref.ensures.value)))
