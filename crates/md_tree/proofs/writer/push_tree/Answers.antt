use Rattle.std.proofs.Common.{refl}
use Rattle.md_tree.specs.Spellings.{spelling}
use Rattle.md_tree.proofs.Written.{begins_on}
use Rattle.md_tree.proofs.Opening.{turn_written, less_left}
use Rattle.md_tree.proofs.writer.push_tree.Goals as goal

pub loop-node-preserved : goal.loop-node-preserved
loop-node-preserved g c =
    let sp = spelling g.K.Lettered.rules g.P.Paired.rules in
    record {
      begun = begins_on c.loop-node.invariant.begun c.push_some.ensures.begun;
      written =
          turn_written sp c.loop-node.text.items c.push_some.new.text.items _ c.loop-node.open.items c.pop.new.self.items c.push_some.new.open.items c.in-Some.node c.in-Some.ensures.items
          c.loop-node.invariant.written c.in_ok-push_some.ensures.written;
    }

pub loop-node-smaller : goal.loop-node-smaller
loop-node-smaller g c =
    let sp = spelling g.K.Lettered.rules g.P.Paired.rules in
    less_left sp c.loop-node.text.items c.push_some.new.text.items c.loop-node.open.items c.push_some.new.open.items
    (turn_written sp c.loop-node.text.items c.push_some.new.text.items _ c.loop-node.open.items c.pop.new.self.items c.push_some.new.open.items c.in-Some.node c.in-Some.ensures.items refl c.in_ok-push_some.ensures.written)
    c.in_ok-push_some.ensures.longer
