use Rattle.std.proofs.Common.{◌≡◌, ◌≢◌, Option, MatchOption, Vec, Global, All, subst, sym, ap, ◌∙◌, ◌++◌, codes, ℕ, List}
use Rattle.md_forcing.specs.declared.arc.Arc.{Arc}
use Rattle.md_report.specs.Lines.{arcs_text}
use Rattle.md_report.specs.WellFormedLines.{IsNamedArc}
use Rattle.md_report.proofs.Behind.{reads_on, arcs_yes, orders_yes, slash_first}
use Rattle.md_report.proofs.reader.yes_line.Goals as goal

pub returns-in-len1-up : goal.returns-in-len1-up
returns-in-len1-up c =
    let at = slash_first c.args.rest.now _ _ c.split_before.ensures c.in-len1-up.len_at_least in
    reads_on _ _ _ _
    (ap (λ (t : List ℕ). codes "yes" ++ (c.split_before.result.0.now ++ t)) (sym at) ∙ ap (λ (t : List ℕ). codes "yes" ++ t) (sym c.split_before.ensures.whole))
    (orders_yes c.args.rest.now _ _ _ c.split_before.ensures at) _ c.orders_line.ensures

pub returns-in_default-behind : goal.returns-in_default-behind
returns-in_default-behind c =
    let text = c.args.rest.now in
    arcs_yes text _ _ c.split_before.ensures c.in_default-behind.len_below
    (subst (λ (o : Option (Vec Arc Global)). MatchOption o ((list : List Arc) → All IsNamedArc list → text ≢ arcs_text list) (λ v. All IsNamedArc v.items × (text ≡ arcs_text v.items)))
    c.in_default.is c.in_ok-list.ensures)
