use Rattle.md_graph6.proofs.LimitLemmas.{sound_under_most}
use Rattle.md_graph6.proofs.reader.Lines.new.Goals as goal

pub invariant_of-result : goal.invariant_of-result
invariant_of-result c =
    rw c.without_header.ensures.value (sound_under_most c.args.bytes.now c.requires)
