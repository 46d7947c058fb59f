use Rattle.md_graph.specs.NameSet.{block}
use Rattle.md_graph.proofs.SetLemmas.{taken_whole}
use Rattle.md_modules.proofs.compact_set.set_of.Goals as goal

pub returns : goal.returns
returns g c = taken_whole (block 0 c.args.bits) c.none-names.result c.insert_block.new.self c.none-names.ensures.value c.insert_block.ensures.changed
