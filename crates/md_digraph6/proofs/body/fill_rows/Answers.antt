use Rattle.std.proofs.Common.{rules, arith}
use Rattle.md_digraph6.proofs.ArcFill.{row_member, row_no_loop, rows_absent, rows_vertex, row_added}
use Rattle.md_digraph6.proofs.body.fill_rows.Goals as goal

pub add_arcs-requires : goal.add_arcs-requires
add_arcs-requires g c =
    let inside = c.loop-i-test.true in
    let rows = c.loop-i.invariant in
    let row = c.arc_row-row.ensures in (
      search rules,
      (
        search rules,
        (
          rows_vertex c.args.body.now c.args.n c.loop-i.i c.loop-i.graph rows c.loop-i.i (omega arith),
          (
            λ v member. rows_vertex c.args.body.now c.args.n c.loop-i.i c.loop-i.graph rows v (row_member c.args.body.now c.args.n c.loop-i.i c.arc_row-row.result row v member),
            (
              row_no_loop c.args.body.now c.args.n c.loop-i.i c.arc_row-row.result (omega arith) c.requires.no_loop row,
              rows_absent c.args.body.now c.args.n c.loop-i.i c.loop-i.graph rows,
            ),
          ),
        ),
      ),
    )

pub loop-i-preserved : goal.loop-i-preserved
loop-i-preserved g c = row_added c.args.body.now c.args.n c.loop-i.i c.loop-i.graph c.add_arcs.new.graph c.arc_row-row.result c.loop-i.invariant c.arc_row-row.ensures c.add_arcs.ensures
