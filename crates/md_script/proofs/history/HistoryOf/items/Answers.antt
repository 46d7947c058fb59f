use Rattle.std.proofs.Common.{◌∙◌, sym, ap, length}
use Rattle.std.proofs.lemmas.List.{length-reverse}
use Rattle.md_script.specs.Histories.{PlainHistory}
use Rattle.md_script.proofs.HistoryLemmas.{items_length}
use Rattle.md_script.proofs.history.HistoryOf.items.Goals as goal

pub returns : goal.returns
returns g c =
    c.len.ensures ∙ c.self.inside.starts.ok.0 ∙ sym (length-reverse c.self.inside.starts.items) ∙ sym (items_length _ _) ∙ ap (λ (h : PlainHistory). length h.items) c.self.view_is
