use Rattle.std.proofs.Common.{◌+◌, ◌∙◌, arith}
use Rattle.std.specs.FinSet as set
use Rattle.md_graph6.proofs.WriteLemmas.{low_none}
use Rattle.md_graph6.proofs.PutShort.{short_bit, behind_before, behind_from}
use Rattle.md_graph6.proofs.writer.with_column.Goals as goal

pub returns-clause-before : goal.returns-clause-before
returns-clause-before g c = λ k h. behind_before c.args.unput.bits c.low_bits-bits.result c.args.unput.held k c.requires.few h

pub returns-clause-column : goal.returns-clause-column
returns-clause-column g c = λ i.
    behind_from c.args.unput.bits c.low_bits-bits.result c.args.unput.held c.args.j i c.requires.few c.requires.short c.requires.above
    (λ k past. low_none c.block_from.result c.low_bits-bits.result c.args.j k c.low_bits-bits.type_inv c.low_bits-bits.ensures past)
    ∙ short_bit (λ k. set.contains c.args.column.now (c.args.least + k)) c.args.j c.block_from.result c.low_bits-bits.result i c.requires.short c.low_bits-bits.type_inv
    (λ k h below. c.block_from.ensures k h (omega (arith, c.requires.names))) c.low_bits-bits.ensures
