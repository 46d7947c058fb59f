use Rattle.std.proofs.Common.{sym, subst}
use Rattle.md_graph6.specs.First.{FirstBelow}
use Rattle.md_graph6.proofs.reader.Lines.next_bound.Goals as goal

pub returns-clause-least : goal.returns-clause-least
returns-clause-least c = λ n below. c.first_bound.ensures.least n (subst (FirstBelow n) (sym c.self.view_is) below)
