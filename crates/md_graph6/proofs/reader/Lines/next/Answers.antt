use Rattle.std.proofs.Common.{rules, subst}
use Rattle.md_graph.specs.declared.TheConstants.{NAMES}
use Rattle.md_graph6.specs.First.{FirstBelow}
use Rattle.md_graph6.proofs.FirstLemmas.{lines_fit}
use Rattle.md_graph6.proofs.reader.Lines.next.Goals as goal

pub take_first-requires : goal.take_first-requires
take_first-requires c =
    (search rules, (c.requires, subst (FirstBelow NAMES) c.self.view_is (lines_fit c.self.inside.rest.now c.self.invariant)))
