use Rattle.std.proofs.Common.{◌≡◌, length, ◌∙◌, arith}
use Rattle.std.proofs.lemmas.Grind.{common_steps}
use Rattle.md_graph6.proofs.ReadLemmas.{bool_byte-if, IsRead-more, IsRead-fault, IsRead-sound, IsRead-count}
use Rattle.md_digraph6.proofs.file.scan_directed.Goals as goal

pub returns-in-Some-clause-fault : goal.returns-in-Some-clause-fault
returns-in-Some-clause-fault c =
    IsRead-fault _ _ _ _ _ _ c.loop-rest.invariant c.split_line.ensures.cut (cc)

pub loop-rest-preserved : goal.loop-rest-preserved
loop-rest-preserved c =
    IsRead-more _ _ _ _ _ _ c.is_empty-in-loop-rest.result c.loop-rest.invariant c.split_line.ensures.cut
    c.split_line.ensures.rest_shorter (cc) (cc) (c.from-count.ensures ∙ bool_byte-if _)

pub returns-clause-sound : goal.returns-clause-sound
returns-clause-sound c =
    let end : length c.loop-rest.rest.now ≡ 0 = grind (arith, common_steps) in
    IsRead-sound _ _ _ c.loop-rest.invariant end

pub returns-clause-count : goal.returns-clause-count
returns-clause-count c =
    let end : length c.loop-rest.rest.now ≡ 0 = grind (arith, common_steps) in
    IsRead-count _ _ _ c.loop-rest.invariant end
