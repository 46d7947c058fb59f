use Rattle.std.proofs.Common.{◌++◌, sym, subst, rules}
use Rattle.md_graph.specs.PlainGraph.{adjacent}
use Rattle.md_outline.specs.BegunNodes.{IsOnWay}
use Rattle.md_outline.proofs.Writing.{heads_there, heads_stand, end_put}
use Rattle.md_outline.proofs.writer.put_ends.Goals as goal

pub put_end-requires : goal.put_end-requires
put_end-requires g c =
    let e = adjacent c.args.graph.now in
    let s = c.args.graph.now.vertices in
    let whole = c.requires.0 in
    let parts = c.requires.1 in
    let way = c.loop-node.invariant whole parts c.requires.2 in (
      search rules,
      (
        heads_there e s whole (c.loop-node.text.items ++ c.loop-node.progress.pairs.chunk) parts c.loop-node.progress.begun.items c.pop_ended.new.begun.items c.in-Some.node c.loop-node.progress.heads.items c.in-Some.ensures.items c.in-Some.ensures.ended way,
        heads_stand e s whole (c.loop-node.text.items ++ c.loop-node.progress.pairs.chunk) parts c.loop-node.progress.begun.items c.pop_ended.new.begun.items c.in-Some.node c.loop-node.progress.heads.items c.in-Some.ensures.items c.in-Some.ensures.ended way,
      ),
    )

pub loop-node-preserved : goal.loop-node-preserved
loop-node-preserved g c whole parts start =
    end_put (adjacent c.args.graph.now) c.args.graph.now.vertices whole (c.loop-node.text.items ++ c.loop-node.progress.pairs.chunk) parts c.loop-node.progress.begun.items c.pop_ended.new.begun.items c.in-Some.node c.loop-node.progress.heads.items c.in-Some.ensures.items c.in-Some.ensures.ended
    (c.loop-node.invariant whole parts start) (c.put_end.new.text.items ++ c.put_end.new.pairs.chunk) c.put_end.new.heads.items c.in_ok-put_end.ensures.text c.in_ok-put_end.ensures.heads

pub returns-clause-written : goal.returns-clause-written
returns-clause-written g c whole parts start =
    subst (λ b. IsOnWay (adjacent c.args.graph.now) c.args.graph.now.vertices whole (c.loop-node.text.items ++ c.loop-node.progress.pairs.chunk) parts b c.loop-node.progress.heads.items) (sym c.in_default.ensures.stays) (c.loop-node.invariant whole parts start)
