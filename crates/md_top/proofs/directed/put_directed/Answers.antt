-- The head, the lines of the directed graphs and the end, one behind the other.
use Rattle.std.proofs.Common.{[], refl, arith}
use Rattle.md_dcheck.specs.DirectedReports.{directed_head, directed_end, fed_directed_line, before_directed, at_digraphs, after_directed, MayComeDirected, next_directed}
use Rattle.md_top.proofs.LinesBy.{no_lines_by, stopped_behind_by, puts_behind_by, lines_behind_by}
use Rattle.md_top.proofs.directed.put_directed.Goals as goal

pub returns-in_err-put_line-clause-puts : goal.returns-in_err-put_line-clause-puts
returns-in_err-put_line-clause-puts g c =
    stopped_behind_by MayComeDirected next_directed fed_directed_line _ (before_directed c.args.digraphs) _ _ _ _ _ _ _ _ _ c.from_residual.ensures.1
    (no_lines_by MayComeDirected next_directed fed_directed_line _ _) (omega arith)
    (c.in_err-put_line.ensures.puts (before_directed c.args.digraphs) directed_head refl refl)

pub returns-in_err-put_trees-clause-puts : goal.returns-in_err-put_trees-clause-puts
returns-in_err-put_trees-clause-puts g c =
    stopped_behind_by MayComeDirected next_directed fed_directed_line _ (at_digraphs c.args.digraphs) _ _ _ _ _ _ _ _ _ c.from_residual-in_err-put_trees.ensures.1
    (c.in_ok-put_line.ensures.puts (before_directed c.args.digraphs) directed_head refl refl)
    c.put_line.ensures.faults_never_fall
    c.in_err-put_trees.ensures.puts

pub returns-clause-puts : goal.returns-clause-puts
returns-clause-puts g c =
    puts_behind_by MayComeDirected next_directed fed_directed_line _ (at_digraphs []) after_directed _ _ _ _ _ _ _
    (lines_behind_by MayComeDirected next_directed fed_directed_line _ (at_digraphs c.args.digraphs) _ _ _ _
    (c.in_ok-put_line.ensures.puts (before_directed c.args.digraphs) directed_head refl refl)
    c.in_ok-put_trees.ensures.puts)
    (omega (arith, c.put_line.ensures.faults_never_fall, c.put_trees.ensures.faults_never_fall))
    (c.put_line-2.ensures.puts (at_digraphs []) directed_end refl refl)
