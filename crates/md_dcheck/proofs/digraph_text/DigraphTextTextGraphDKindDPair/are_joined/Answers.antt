use Rattle.std.proofs.Common.{sym, ◌∙◌}
use Rattle.md_dcheck.proofs.ArcViews.{two_arcs}
use Rattle.md_dcheck.proofs.digraph_text.DigraphTextTextGraphDKindDPair.are_joined.Goals as goal

pub returns : goal.returns
returns g c =
    let same = two_arcs _ _ c.has_arc.result c.has_arc-2.result (sym c.has_arc.ensures.value) (sym c.has_arc-2.ensures.value) in
    record {
      joined = (λ yes. let two = c.are_put.ensures.0 yes in (two.0, λ i j. same ∙ two.1 i j), λ two. c.are_put.ensures.1 (two.0, λ i j. sym same ∙ two.1 i j));
    }
