use Rattle.md_dimacs.proofs.TextLemmas.{text_is}
use Rattle.md_dimacs.proofs.writer.write.Goals as goal

pub returns : goal.returns
returns g c = text_is c.args.graph.now c.in_ok-text.text.items c.write_edges.new.text.items c.in_ok-text.ensures c.in_ok-write_edges.ensures
