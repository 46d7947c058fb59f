use Rattle.std.proofs.Common.{◌<◌, length, arith, subst}
use Rattle.std.specs.List.{All}
use Rattle.md_graph.specs.Words.{bits_between}
use Rattle.md_text.specs.Pieces.{piece_text}
use Rattle.md_text.proofs.ListLemmas.{All-front, All-behind}
use Rattle.md_blocks.proofs.BlockLemmas.{texts_cut, four_shorter}
use Rattle.md_blocks.proofs.blocks.write_fours.Goals as goal

pub put_each-requires-clause-there : goal.put_each-requires-clause-there
put_each-requires-clause-there c =
    All-front (λ w. w < length c.args.pieces.now) c.in-Some.found.0 (bits_between c.args.first c.in-Some.found.1 64)
    (subst (All (λ w. w < length c.args.pieces.now)) c.in-Some.ensures.1 c.loop-found.invariant.there)

pub loop-found-preserved : goal.loop-found-preserved
loop-found-preserved c =
    let cut = c.in-Some.ensures.1 in
    record {
      there =
          All-behind (λ w. w < length c.args.pieces.now) c.in-Some.found.0 (bits_between c.args.first c.in-Some.found.1 64)
          (subst (All (λ w. w < length c.args.pieces.now)) cut c.loop-found.invariant.there);
      room =
          let less = four_shorter (bits_between c.args.first c.loop-found.left 64) c.in-Some.found.0 (bits_between c.args.first c.in-Some.found.1 64) c.in-Some.ensures.0 cut in
          omega (arith, less, c.in-Some.ensures.0, c.loop-found.invariant.room, c.put_each.ensures.within);
      written =
          texts_cut c.args.pieces.now (piece_text c.args.start) c.loop-found.chunk c.put_each.new.self _ _ c.in-Some.found.0 _
          c.loop-found.invariant.written cut c.put_each.ensures.text;
    }
