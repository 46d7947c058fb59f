use Rattle.std.proofs.Common.{refl, arith}
use Rattle.md_text.specs.Pieces.{piece_text}
use Rattle.md_text.proofs.PieceLemmas.{texts_more, texts_end}
use Rattle.md_blocks.proofs.BlockLemmas.{no_bits_left, shorter, first_there, rest_there}
use Rattle.md_blocks.proofs.blocks.write_others.Goals as goal

pub loop-name-preserved : goal.loop-name-preserved
loop-name-preserved c =
    let cut = c.in-Some.ensures.some in
    record {
      there = rest_there _ _ _ _ cut c.loop-name.invariant.there;
      room = let less = shorter _ _ _ cut in omega (arith, c.loop-name.invariant.room);
      written =
          texts_more c.args.pieces.now (piece_text c.args.start) c.loop-name.chunk _ _ _ _ _ c.in-Some.name c.index-pieces-name.result
          c.loop-name.invariant.written cut refl c.put_both.ensures.text c.index-pieces-name.is (first_there _ _ _ _ cut c.loop-name.invariant.there);
    }

pub returns : goal.returns
returns c = texts_end c.args.pieces.now (piece_text c.args.start) _ _ _ c.loop-name.invariant.written (no_bits_left c.args.first c.loop-name.left c.in_default.ensures.none)
