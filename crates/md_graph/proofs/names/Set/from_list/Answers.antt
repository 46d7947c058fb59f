use Rattle.md_graph.proofs.NameLemmas.{from_list_more}
use Rattle.md_graph.proofs.names.Set.from_list.Goals as goal

pub loop-v-preserved : goal.loop-v-preserved
loop-v-preserved g c =
    from_list_more c.loop-v.names c.insert.new.self c.args.list.now c.loop-v.v-index c.loop-v.invariant c.loop-v-test.true c.insert.ensures.changed
