use Rattle.std.proofs.Common.{ap, sym, ◌∙◌}
use Rattle.std.specs.FinSet as set
use Rattle.md_graph.specs.NameSet.{block}
use Rattle.md_graph.proofs.BlockRows.{row_without, row_with}
use Rattle.md_graph.proofs.graph.join_row.Goals as goal

pub returns-then-bits-eq0 : goal.returns-then-bits-eq0
returns-then-bits-eq0 g c = λ u v. row_without c.args.rows.now c.args.at c.args.first c.args.bits u v c.if-bits-eq0.true

pub returns : goal.returns
returns g c =
    row_with c.args.rows.now c.args.at c.args.first c.args.bits c.index-rows-at.result _ c.requires.inside c.requires.aligned c.index-rows-at.is
    (c.insert_block.ensures.changed ∙ ap (λ s. set.union s (block c.args.first c.args.bits)) (sym c.index-rows-at.is))
