use Rattle.std.proofs.Common.{◌<◌, arith}
use Rattle.md_graph6.proofs.WalkLemmas.{pair_added}
use Rattle.md_graph6.proofs.sparse.add_pair.Goals as goal

pub returns : goal.returns
returns g c =
    let up : c.args.pair.other < c.args.pair.vertex = omega arith in
    let inside : c.args.pair.vertex < c.args.n = omega arith in
    pair_added c.args.pair.other c.args.pair.vertex c.requires.graph up inside (c.requires.ends c.args.pair.other (omega arith)) (c.requires.ends c.args.pair.vertex inside) c.add_edge.ensures.changed
