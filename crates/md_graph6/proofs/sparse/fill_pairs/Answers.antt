use Rattle.std.proofs.Common.{arith, rules, ◌*◌, length}
use Rattle.md_graph.proofs.Ranges.{none_there}
use Rattle.md_graph6.specs.Sparse.{width}
use Rattle.md_graph6.proofs.FillLemmas.{vertices_ranged}
use Rattle.md_graph6.proofs.WalkLemmas.{no_pairs, no_pairs_small, pairs_graph}
use Rattle.md_graph6.proofs.sparse.fill_pairs.Goals as goal

pub add_range-requires : goal.add_range-requires
add_range-requires g c = (search rules, (omega (arith, c.requires.room), λ v low high. none_there c.requires.empty v))

pub add_pairs-requires : goal.add_pairs-requires
add_pairs-requires g c =
    (search rules, (c.requires.few, (omega (arith, c.if-n-gt1.true), (search rules, no_pairs c.args.body.now (width c.args.n) (vertices_ranged c.args.n c.requires.few c.requires.empty c.add_range.ensures.changed)))))

pub returns-then-n-gt1 : goal.returns-then-n-gt1
returns-then-n-gt1 g c = pairs_graph c.add_pairs.ensures

pub returns-else-n-gt1 : goal.returns-else-n-gt1
returns-else-n-gt1 g c =
    pairs_graph (no_pairs_small c.args.body.now (width c.args.n) (6 * length c.args.body.now) (omega arith) (vertices_ranged c.args.n c.requires.few c.requires.empty c.add_range.ensures.changed))
