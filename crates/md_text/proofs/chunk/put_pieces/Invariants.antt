use Rattle.std.proofs.Common.{◌≡◌, ◌+◌, ◌*◌, ◌≤◌, ◌++◌, take, drop}
use Rattle.md_text.specs.Pieces.{piece_text, texts_at}
use Rattle.md_text.proofs.chunk.put_pieces.Given as goal

abbrev pub invariant-loop-i : goal.invariant-loop-i
invariant-loop-i l = record {
  within : l.end ≤ l.at + 16 * l.i-index;
  text : take l.end l.chunk ++ texts_at l.pieces (piece_text l.first) (drop l.i-index l.indices) ≡ take l.at l.fn.chunk ++ texts_at l.pieces (piece_text l.first) l.indices;
}
