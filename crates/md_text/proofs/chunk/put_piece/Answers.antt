use Rattle.std.proofs.Common.{arith}
use Rattle.md_text.proofs.PieceLemmas.{put_text}
use Rattle.md_text.proofs.chunk.put_piece.Goals as goal

pub returns-clause-text : goal.returns-clause-text
returns-clause-text c =
    put_text c.args.at c.args.piece.used _ c.args.chunk.now c.copy_from_slice.new.self c.args.piece.bytes c.copy_from_slice.ensures.after (omega arith) c.args.piece.within (omega arith)
