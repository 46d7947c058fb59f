use Rattle.std.proofs.Common.{rules, subst}
use Rattle.md_digraph.specs.declared.TheConstants.{DIRECTED_NAMES}
use Rattle.md_digraph6.specs.FirstDigraph.{FirstDigraphBelow}
use Rattle.md_digraph6.proofs.ArcReading.{text_fits}
use Rattle.md_digraph6.proofs.reader.DirectedLines.next.Goals as goal

pub take_first-requires : goal.take_first-requires
take_first-requires c =
    (search rules, (c.requires, subst (FirstDigraphBelow DIRECTED_NAMES) c.self.view_is (text_fits c.self.inside.rest.now c.self.invariant)))
