use Rattle.std.proofs.Common.{◌*◌, refl, sym, arith}
use Rattle.md_graph.proofs.RowLemmas.{rows_grown, room_for}
use Rattle.md_graph.proofs.BlockRows.{rows_add_block}
use Rattle.md_graph.proofs.graph.GraphOf.add_block.Goals as goal

pub invariant_of-self : goal.invariant_of-self
invariant_of-self g c =
    let grown = rows_grown c.self.invariant.0 c.self.view_is c.grow_rows.new.rows.items c.grow_rows.ensures.same _ (sym c.grow_rows.new.rows.ok.0) c.grow_rows.ensures.more (let few = c.self.invariant.1.names in let within = c.grow_rows.ensures.few (64 * g.row.W) c.self.invariant.1.made (omega (arith, c.requires.low, c.requires.low_aligned, c.requires.high, c.requires.high_aligned, c.max.ensures)) in omega arith) in
    ((rows_add_block grown.0 grown.1 c.args.low c.args.high c.args.block.now c.requires.ends _ _ c.join_block.new.rows c.grow_rows.new.rows.ok.0 c.deref_mut.ensures.value c.join_block.auto.rows c.join_block.ensures).0, room_for c.self.invariant.1 _ _ (c.grow_rows.ensures.few (64 * g.row.W) c.self.invariant.1.made (omega (arith, c.requires.low, c.requires.low_aligned, c.requires.high, c.requires.high_aligned, c.max.ensures))) (omega (arith, c.grow_rows.ensures.capacity, c.self.invariant.1.fits)) refl)

pub returns : goal.returns
returns g c = record {
  block =
      let grown = rows_grown c.self.invariant.0 c.self.view_is c.grow_rows.new.rows.items c.grow_rows.ensures.same _ (sym c.grow_rows.new.rows.ok.0) c.grow_rows.ensures.more (let few = c.self.invariant.1.names in let within = c.grow_rows.ensures.few (64 * g.row.W) c.self.invariant.1.made (omega (arith, c.requires.low, c.requires.low_aligned, c.requires.high, c.requires.high_aligned, c.max.ensures)) in omega arith) in
      (rows_add_block grown.0 grown.1 c.args.low c.args.high c.args.block.now c.requires.ends _ _ c.join_block.new.rows c.grow_rows.new.rows.ok.0 c.deref_mut.ensures.value c.join_block.auto.rows c.join_block.ensures).1;
}
