use Rattle.std.proofs.Common.{rules, arith, refl}
use Rattle.md_digraph6.proofs.ArcFill.{no_rows, all_rows}
use Rattle.md_digraph6.proofs.body.fill.Goals as goal

pub fill_short-requires : goal.fill_short-requires
fill_short-requires g c = (
  search rules,
  (
    omega (arith, c.if-n-le-MOST_SHORT.true),
    (
      c.requires.room,
      (
        search rules,
        (c.requires.no_loop, no_rows c.args.body.now c.args.n c.add_numbers.new.graph c.add_numbers.ensures.vertices c.add_numbers.ensures.arcs),
      ),
    ),
  ),
)

pub fill_rows-requires : goal.fill_rows-requires
fill_rows-requires g c = (
  search rules,
  (
    c.requires.few,
    (
      c.requires.room,
      (
        c.requires.groups,
        (c.requires.no_loop, no_rows c.args.body.now c.args.n c.add_numbers.new.graph c.add_numbers.ensures.vertices c.add_numbers.ensures.arcs),
      ),
    ),
  ),
)

pub returns-then-n-le-MOST_SHORT : goal.returns-then-n-le-MOST_SHORT
returns-then-n-le-MOST_SHORT g c = all_rows c.args.body.now c.args.n c.args.n _ refl c.requires.few c.requires.no_loop c.fill_short.ensures

pub returns : goal.returns
returns g c = all_rows c.args.body.now c.args.n c.args.n _ refl c.requires.few c.requires.no_loop c.fill_rows.ensures
