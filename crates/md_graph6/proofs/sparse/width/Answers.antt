use Rattle.md_graph6.proofs.NumberLemmas.{width_counted, width_small}
use Rattle.md_graph6.proofs.sparse.width.Goals as goal

pub returns-clause-value : goal.returns-clause-value
returns-clause-value c = width_counted c.args.n c.requires.few c.requires.some

pub returns-clause-small : goal.returns-clause-small
returns-clause-small c = width_small c.args.n c.requires.few c.requires.some
