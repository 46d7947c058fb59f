use Rattle.std.proofs.Common.{◌+◌, ◌<◌, length, drop, arith}
use Rattle.std.proofs.lemmas.List.{drop_more, drop_all}
use Rattle.md_text.specs.Pieces.{piece_text}
use Rattle.md_text.proofs.PieceLemmas.{texts_more, texts_end}
use Rattle.md_text.proofs.chunk.put_pieces.Goals as goal

pub loop-i-preserved : goal.loop-i-preserved
loop-i-preserved c =
    let xs = c.args.indices.now in
    let inside : c.loop-i.i-index < length xs = omega arith in
    record {
      within = omega arith;
      text =
          texts_more c.args.pieces.now (piece_text c.args.first) _ _ _ _ (drop c.loop-i.i-index xs) (drop (c.loop-i.i-index + 1) xs) _ c.index-pieces-i.result
          c.loop-i.invariant.text (drop_more xs c.loop-i.i-index 0 inside) c.put_piece-middle.ensures.text c.put_piece-end.ensures.text c.index-pieces-i.is (c.requires.there c.loop-i.i-index 0 inside);
    }

pub returns-clause-text : goal.returns-clause-text
returns-clause-text c =
    texts_end c.args.pieces.now (piece_text c.args.first) _ _ (drop c.loop-i.i-index c.args.indices.now) c.loop-i.invariant.text (drop_all c.loop-i.i-index c.args.indices.now (omega arith))
