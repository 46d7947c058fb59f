-- One more line is put, or the call stopped within it.
use Rattle.std.proofs.lemmas.Bool.{OnTrue_at}
use Rattle.std.proofs.Common.{List, ◌∷◌, subst, arith}
use Rattle.md_digraph.specs.PlainDigraph.{PlainDigraph}
use Rattle.md_dcheck.specs.DirectedReports.{fed_directed_line, at_digraphs, MayComeDirected, next_directed}
use Rattle.md_top.specs.Sinks.{AppendsDirected}
use Rattle.md_top.proofs.LinesBy.{stopped_behind_by, lines_behind_by}
use Rattle.md_top.proofs.directed.put_trees.Goals as goal

pub returns-in_err-put_tree-clause-puts : goal.returns-in_err-put_tree-clause-puts
returns-in_err-put_tree-clause-puts g c =
    stopped_behind_by MayComeDirected next_directed fed_directed_line _ (at_digraphs (c.fill.new.self ∷ c.fill.new.lines)) _ _ _ _ _ _ _ _ _ c.from_residual-in_err-put_tree.ensures.1
    (subst (λ (left : List PlainDigraph). AppendsDirected (at_digraphs c.args.digraphs) (at_digraphs left) (g.O.Sink.holds c.args.out.now) (g.O.Sink.holds c.loop-room.out))
    (OnTrue_at c.if-branch.true c.in_ok-fill.ensures.first) c.loop-room.invariant.progress)
    c.loop-room.invariant.faults
    (c.in_err-put_tree.ensures.puts c.fill.new.lines)

pub loop-room-preserved : goal.loop-room-preserved
loop-room-preserved g c = record {
  progress = lines_behind_by MayComeDirected next_directed fed_directed_line _ (at_digraphs (c.fill.new.self ∷ c.fill.new.lines)) _ _ _ _
      (subst (λ (left : List PlainDigraph). AppendsDirected (at_digraphs c.args.digraphs) (at_digraphs left) (g.O.Sink.holds c.args.out.now) (g.O.Sink.holds c.loop-room.out))
      (OnTrue_at c.if-branch.true c.in_ok-fill.ensures.first) c.loop-room.invariant.progress)
      (c.in_ok-put_tree.ensures.puts c.fill.new.lines);
  no_vertex = c.clear.ensures.cleared;
  faults = omega (arith, c.loop-room.invariant.faults, c.put_tree.ensures.faults_never_fall);
}
