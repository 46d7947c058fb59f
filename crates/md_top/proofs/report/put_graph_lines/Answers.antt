-- One more line is put, or the call stopped within it.
use Rattle.std.proofs.lemmas.Bool.{OnTrue_at}
use Rattle.std.proofs.Common.{List, ◌∷◌, subst, arith}
use Rattle.md_graph.specs.PlainGraph.{PlainGraph}
use Rattle.md_report.specs.Places.{at_graphs}
use Rattle.md_top.specs.Sinks.{AppendsLines}
use Rattle.md_top.proofs.Lines.{stopped_before, stopped_behind, lines_behind}
use Rattle.md_top.proofs.report.put_graph_lines.Goals as goal

pub returns-in_err-put_line-clause-puts : goal.returns-in_err-put_line-clause-puts
returns-in_err-put_line-clause-puts g c =
    stopped_behind _ (at_graphs c.args.mode (c.next_into.new.room ∷ c.next_into.new.self)) _ _ _ _ _ _ _ _ _ c.from_residual-in_err-put_line.ensures.1
    (subst (λ (lines : List PlainGraph). AppendsLines (at_graphs c.args.mode c.args.graphs) (at_graphs c.args.mode lines) (g.O.Sink.holds c.args.out.now) (g.O.Sink.holds c.loop-space.out))
    (OnTrue_at c.if-branch.true c.in_ok-next_into.ensures.first) c.loop-space.invariant.progress)
    c.loop-space.invariant.faults
    (c.in_err-put_line.ensures.puts c.next_into.new.self)

pub loop-space-preserved : goal.loop-space-preserved
loop-space-preserved g c = record {
  progress = lines_behind _ (at_graphs c.args.mode (c.next_into.new.room ∷ c.next_into.new.self)) _ _ _ _
      (subst (λ (lines : List PlainGraph). AppendsLines (at_graphs c.args.mode c.args.graphs) (at_graphs c.args.mode lines) (g.O.Sink.holds c.args.out.now) (g.O.Sink.holds c.loop-space.out))
      (OnTrue_at c.if-branch.true c.in_ok-next_into.ensures.first) c.loop-space.invariant.progress)
      (c.in_ok-put_line.ensures.puts c.next_into.new.self);
  no_vertex = c.clear.ensures;
  faults = omega (arith, c.loop-space.invariant.faults, c.put_line.ensures.faults_never_fall);
}

pub returns-in_err-next_into-clause-puts : goal.returns-in_err-next_into-clause-puts
returns-in_err-next_into-clause-puts g c =
    stopped_behind _ (at_graphs c.args.mode c.loop-space.graphs) _ _ _ _ _ _ _ _ _ c.from_residual-in_err-next_into.ensures.1
    c.loop-space.invariant.progress
    c.loop-space.invariant.faults
    (stopped_before _ _)
