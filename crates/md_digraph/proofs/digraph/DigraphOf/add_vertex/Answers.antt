use Rattle.std.proofs.Common.{◌*◌, sym, ◌∙◌, arith}
use Rattle.md_digraph.proofs.DirectedLimits.{directed_words_few}
use Rattle.md_digraph.proofs.ArcRowLemmas.{rows_grown, rows_add_vertex}
use Rattle.md_digraph.proofs.digraph.DigraphOf.add_vertex.Goals as goal

pub invariant_of-self : goal.invariant_of-self
invariant_of-self g c =
    let within = c.grow_rows.ensures.few (64 * g.row.W) c.self.invariant.1.made (omega (arith, c.requires.name)) in
    let few = directed_words_few _ c.self.invariant.1.few in
    let grown = rows_grown c.self.invariant.0 c.self.view_is c.grow_rows.new.out.items c.grow_rows.new.into.items c.grow_rows.ensures.out_same c.grow_rows.ensures.into_same _ (sym c.grow_rows.new.out.ok.0) (sym c.grow_rows.new.into.ok.0 ∙ c.grow_rows.ensures.alike) c.grow_rows.ensures.more (omega arith) in (
      (rows_add_vertex grown.0 grown.1 c.args.v (omega (arith, c.grow_rows.ensures.enough)) c.insert.ensures.changed).0,
      record {
        made = within;
        few = c.self.invariant.1.few;
        out_fits = omega (arith, c.grow_rows.ensures.out_capacity, c.self.invariant.1.out_fits);
        into_fits = omega (arith, c.grow_rows.ensures.into_capacity, c.self.invariant.1.into_fits);
      },
    )

pub returns : goal.returns
returns g c = record {
  changed =
      let within = c.grow_rows.ensures.few (64 * g.row.W) c.self.invariant.1.made (omega (arith, c.requires.name)) in
      let few = directed_words_few _ c.self.invariant.1.few in
      let grown = rows_grown c.self.invariant.0 c.self.view_is c.grow_rows.new.out.items c.grow_rows.new.into.items c.grow_rows.ensures.out_same c.grow_rows.ensures.into_same _ (sym c.grow_rows.new.out.ok.0) (sym c.grow_rows.new.into.ok.0 ∙ c.grow_rows.ensures.alike) c.grow_rows.ensures.more (omega arith) in
      (rows_add_vertex grown.0 grown.1 c.args.v (omega (arith, c.grow_rows.ensures.enough)) c.insert.ensures.changed).1;
}
