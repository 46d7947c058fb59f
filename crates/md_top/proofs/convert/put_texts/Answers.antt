-- One more text is put, or the call stopped within it.
use Rattle.std.proofs.lemmas.Bool.{OnTrue_at}
use Rattle.std.proofs.Common.{List, subst, arith}
use Rattle.std.specs.List.{flat_map}
use Rattle.md_graph.specs.PlainGraph.{PlainGraph}
use Rattle.md_top.specs.Answer.{graph_text}
use Rattle.md_top.proofs.Pieces.{Progress, progress_step, piece_stopped}
use Rattle.md_top.proofs.convert.put_texts.Goals as goal

pub returns-in_err-put_text-clause-puts : goal.returns-in_err-put_text-clause-puts
returns-in_err-put_text-clause-puts g c =
    piece_stopped _ _ _ _ _ _ _ _ _ _ _ c.from_residual-in_err-put_text.ensures.1
    (subst (λ (lines : List PlainGraph). Progress (g.O.Sink.holds c.args.out.now) (g.O.Sink.holds c.loop-room.out) (flat_map (graph_text c.args.to) c.args.graphs) (flat_map (graph_text c.args.to) lines))
    (OnTrue_at c.if-branch.true c.in_ok-next_into.ensures.first) c.loop-room.invariant.progress)
    c.loop-room.invariant.faults
    c.in_err-put_text.ensures.puts

pub loop-room-preserved : goal.loop-room-preserved
loop-room-preserved g c = record {
  progress = progress_step _ _ _ _ (graph_text c.args.to c.next_into.new.room) _
      (subst (λ (lines : List PlainGraph). Progress (g.O.Sink.holds c.args.out.now) (g.O.Sink.holds c.loop-room.out) (flat_map (graph_text c.args.to) c.args.graphs) (flat_map (graph_text c.args.to) lines))
      (OnTrue_at c.if-branch.true c.in_ok-next_into.ensures.first) c.loop-room.invariant.progress)
      (c.in_ok-put_text.ensures.puts);
  no_vertex = c.clear.ensures;
  faults = omega (arith, c.loop-room.invariant.faults, c.put_text.ensures.faults_never_fall);
}
