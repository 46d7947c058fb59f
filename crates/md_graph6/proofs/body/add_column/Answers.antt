use Rattle.std.proofs.Common.{rules, ap, ◌∙◌, arith}
use Rattle.std.specs.FinSet as set
use Rattle.md_graph.specs.NameSet.{block}
use Rattle.md_graph6.proofs.ShortLemmas.{IsColumn, in_column, in_column_below, no_own, column_added}
use Rattle.md_graph6.proofs.body.add_column.Goals as goal

pub add_edges-requires : goal.add_edges-requires
add_edges-requires g c =
    let is : IsColumn c.args.j c.args.bits c.insert_block.new.self = in_column c.args.j c.args.bits c.low_bits.result c.insert_block.new.self
    (omega (arith, c.requires.short)) (c.insert_block.ensures.changed ∙ ap (λ s. set.union s (block 0 c.low_bits.result)) c.none-column.ensures.value) c.low_bits.ensures in (
      search rules,
      (
        search rules,
        (
          c.requires.ends c.args.j (omega arith),
          (λ u m. let less = in_column_below c.args.j c.args.bits c.insert_block.new.self is u m in c.requires.ends u (omega arith), no_own c.args.j c.args.bits c.insert_block.new.self is),
        ),
      ),
    )

pub returns : goal.returns
returns g c = column_added c.args.j c.args.bits c.insert_block.new.self c.requires.short c.requires.graph c.requires.ends
    (in_column c.args.j c.args.bits c.low_bits.result c.insert_block.new.self (omega (arith, c.requires.short))
    (c.insert_block.ensures.changed ∙ ap (λ s. set.union s (block 0 c.low_bits.result)) c.none-column.ensures.value) c.low_bits.ensures)
    c.add_edges.ensures.changed
