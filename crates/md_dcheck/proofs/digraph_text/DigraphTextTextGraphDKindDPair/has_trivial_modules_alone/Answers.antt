use Rattle.md_dcheck.proofs.digraph_text.DigraphTextTextGraphDKindDPair.has_trivial_modules_alone.Goals as goal

pub returns : goal.returns
returns g c = record { trivial = c.has_trivial_modules_alone.ensures }
