use Rattle.md_text.specs.Pieces.{piece_text}
use Rattle.md_blocks.proofs.BlockLemmas.{two_put}
use Rattle.md_blocks.proofs.writer.put_two.Goals as goal

pub returns-clause-put : goal.returns-clause-put
returns-clause-put g c =
    two_put (g.T.Target.bytes c.args.target.now) c.args.chunk.now (g.T.Target.bytes c.make_room.new.target) c.make_room.new.chunk c.put_both.new.self (piece_text c.args.first) (piece_text c.args.second) c.in_ok-make_room.ensures.same c.put_both.ensures.text
