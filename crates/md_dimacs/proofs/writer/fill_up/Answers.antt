use Rattle.std.proofs.Common.{arith, ◌+◌}
use Rattle.md_dimacs.proofs.PlacesLemmas.{one_more_copy}
use Rattle.md_dimacs.proofs.writer.fill_up.Goals as goal

pub loop-piece-preserved : goal.loop-piece-preserved
loop-piece-preserved c = record {
  count = omega (arith, c.len.ensures, c.in_ok-push.ensures.len);
  items = (
    c.loop-piece.invariant.items.0 + 1,
    one_more_copy c.loop-piece.invariant.items.0 c.args.piece c.args.places.now.items c.loop-piece.places.items c.push.new.self.items c.loop-piece.invariant.items.1 c.in_ok-push.ensures.items,
  );
}
