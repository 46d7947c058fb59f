use Rattle.std.proofs.Common.{arith, rules}
use Rattle.md_graph.proofs.Ranges.{none_there}
use Rattle.md_graph6.proofs.FillLemmas.{vertices_ranged, filled_none, filled_all}
use Rattle.md_graph6.proofs.ShortLemmas.{filled_no_column}
use Rattle.md_graph6.proofs.body.fill.Goals as goal

pub add_range-requires : goal.add_range-requires
add_range-requires g c = (search rules, (omega (arith, c.requires.room), λ v low high. none_there c.requires.empty v))

pub fill_short-requires : goal.fill_short-requires
fill_short-requires g c =
    (search rules, (omega (arith, c.if-n-le-MOST_SHORT.true), (search rules, filled_no_column (vertices_ranged c.args.n c.requires.few c.requires.empty c.add_range.ensures.changed))))

pub loop-h-init : goal.loop-h-init
loop-h-init g c = filled_none c.args.body.now c.args.n (vertices_ranged c.args.n c.requires.few c.requires.empty c.add_range.ensures.changed)

pub returns : goal.returns
returns g c = filled_all c.args.body.now c.args.n c.loop-h.h (omega arith) c.loop-h.invariant
