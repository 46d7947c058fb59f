use Rattle.std.proofs.Common.{rules, arith}
use Rattle.md_graph.proofs.BlockRows.{no_rows, more_rows, all_rows}
use Rattle.md_graph.proofs.graph.join_rows.Goals as goal

pub loop-r-init : goal.loop-r-init
loop-r-init g c = λ u v. no_rows c.args.rows.now c.args.block.now c.args.from c.args.first u v c.requires.from_aligned

pub join_row-requires : goal.join_row-requires
join_row-requires g c = (search rules, (c.requires.limit, (omega (arith, c.requires.from_rows), (c.requires.first, c.requires.first_aligned))))

pub loop-r-preserved : goal.loop-r-preserved
loop-r-preserved g c =
    more_rows c.args.rows.now c.loop-r.rows c.join_row.new.rows c.args.block.now c.args.from c.args.first c.loop-r.r c.requires.from_aligned c.loop-r-test.true c.loop-r.invariant c.join_row.ensures

pub returns : goal.returns
returns g c = all_rows c.args.rows.now c.loop-r.rows c.args.block.now c.args.from c.args.first c.loop-r.r c.requires.from_aligned (omega arith) c.loop-r.invariant
