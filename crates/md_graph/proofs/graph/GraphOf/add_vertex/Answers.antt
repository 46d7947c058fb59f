use Rattle.std.proofs.Common.{◌*◌, refl, sym, arith}
use Rattle.md_graph.proofs.RowLemmas.{rows_grown, room_for, rows_add_vertex}
use Rattle.md_graph.proofs.graph.GraphOf.add_vertex.Goals as goal

pub invariant_of-self : goal.invariant_of-self
invariant_of-self g c =
    let grown = rows_grown c.self.invariant.0 c.self.view_is c.grow_rows.new.rows.items c.grow_rows.ensures.same _ (sym c.grow_rows.new.rows.ok.0) c.grow_rows.ensures.more (let few = c.self.invariant.1.names in let within = c.grow_rows.ensures.few (64 * g.row.W) c.self.invariant.1.made (omega (arith, c.requires.name)) in omega arith) in
    ((rows_add_vertex grown.0 grown.1 c.args.v (omega (arith, c.grow_rows.ensures.enough)) c.insert.ensures.changed).0, room_for c.self.invariant.1 _ _ (c.grow_rows.ensures.few (64 * g.row.W) c.self.invariant.1.made (omega (arith, c.requires.name))) (omega (arith, c.grow_rows.ensures.capacity, c.self.invariant.1.fits)) refl)

pub returns : goal.returns
returns g c = record {
  changed =
      let grown = rows_grown c.self.invariant.0 c.self.view_is c.grow_rows.new.rows.items c.grow_rows.ensures.same _ (sym c.grow_rows.new.rows.ok.0) c.grow_rows.ensures.more (let few = c.self.invariant.1.names in let within = c.grow_rows.ensures.few (64 * g.row.W) c.self.invariant.1.made (omega (arith, c.requires.name)) in omega arith) in
      (rows_add_vertex grown.0 grown.1 c.args.v (omega (arith, c.grow_rows.ensures.enough)) c.insert.ensures.changed).1;
}
