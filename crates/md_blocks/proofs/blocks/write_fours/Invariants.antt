use Rattle.std.proofs.Common.{◌≡◌, ◌+◌, ◌*◌, ◌<◌, ◌≤◌, ◌++◌, length}
use Rattle.std.specs.List.{All}
use Rattle.md_graph.specs.Words.{bits_between}
use Rattle.md_text.specs.declared.chunk.TheConstants.{CHUNK_SIZE}
use Rattle.md_text.specs.Pieces.{piece_text, texts_at}
use Rattle.md_blocks.proofs.blocks.write_fours.Given as goal

abbrev pub invariant-loop-found : goal.invariant-loop-found
invariant-loop-found l = record {
  there : All (λ w. w < length l.pieces) (bits_between l.first l.left 64);
  room : length l.chunk + 16 * length (bits_between l.first l.left 64) ≤ CHUNK_SIZE;
  written : l.chunk ++ texts_at l.pieces (piece_text l.start) (bits_between l.first l.left 64) ≡ l.fn.chunk ++ texts_at l.pieces (piece_text l.start) (bits_between l.first l.fn.bits 64);
}

abbrev pub decreases-loop-found : goal.decreases-loop-found
decreases-loop-found l = length (bits_between l.first l.left 64)
