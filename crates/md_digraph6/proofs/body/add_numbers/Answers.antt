use Rattle.md_digraph6.proofs.ArcFill.{arcless_none, arcless_more}
use Rattle.md_digraph6.proofs.body.add_numbers.Goals as goal

pub loop-v-init : goal.loop-v-init
loop-v-init g c = arcless_none c.args.graph.now c.requires.empty

pub loop-v-preserved : goal.loop-v-preserved
loop-v-preserved g c = arcless_more c.loop-v.v c.loop-v.graph c.add_vertex.new.self c.loop-v.invariant c.add_vertex.ensures.changed
