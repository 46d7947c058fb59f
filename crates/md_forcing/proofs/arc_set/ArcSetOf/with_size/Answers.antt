use Rattle.md_forcing.proofs.SeenRows.{turned_none}
use Rattle.md_forcing.proofs.arc_set.ArcSetOf.with_size.Goals as goal

pub invariant_of-result : goal.invariant_of-result
invariant_of-result g c =
    turned_none g.row.W _ _ c.args.size c.requires.size c.requires.limit c.in_ok-empty_rows.ensures.size c.in_ok-empty_rows-2.ensures.size c.in_ok-empty_rows.ensures.none c.in_ok-empty_rows-2.ensures.none
