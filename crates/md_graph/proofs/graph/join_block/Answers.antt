use Rattle.md_graph.proofs.BlockRows.{no_sides, both_sides}
use Rattle.md_graph.proofs.graph.join_block.Goals as goal

pub returns-then-are_all_zero : goal.returns-then-are_all_zero
returns-then-are_all_zero g c = no_sides c.args.rows.now c.args.block.now c.args.low c.args.high (c.are_all_zero.ensures.0 c.if-are_all_zero.true)

pub returns : goal.returns
returns g c =
    both_sides c.args.rows.now c.join_rows.new.rows c.join_rows-2.new.rows c.args.block.now c.transposed.result c.args.low c.args.high c.transposed.ensures c.join_rows.ensures c.join_rows-2.ensures
