use Rattle.std.proofs.Common.{◌+◌, ◌∙◌, ap, add_comm, refl}
use Rattle.std.specs.Int.{bit_at}
use Rattle.md_graph.proofs.Transposing.{bit_at_shr}
use Rattle.md_graph6.proofs.PutLemmas.{put_more}
use Rattle.md_graph6.proofs.writer.set_two.Goals as goal

pub returns : goal.returns
returns c =
    put_more _ _ _ c.args.at 1 (c.args.at + 1) 1 2 _ _ c.args.bits c.set_group.ensures c.set_group-2.ensures refl refl (λ i h. refl) (λ i h. bit_at_shr c.args.bits 6 i ∙ ap (bit_at c.args.bits) (add_comm i 6))
