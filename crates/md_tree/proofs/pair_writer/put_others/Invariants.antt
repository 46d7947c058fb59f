use Rattle.std.proofs.Common.{◌≡◌, ◌+◌, ◌*◌, ◌-◌, ◌≤◌, ◌++◌, length, drop}
use Rattle.md_tree.specs.declared.pair_writer.TheConstants.{PAIR_ROOM}
use Rattle.md_text.specs.declared.chunk.TheConstants.{CHUNK_SIZE}
use Rattle.md_tree.specs.TreeTexts.{pairs_text_by}
use Rattle.md_tree.proofs.pair_writer.put_others.Given as goal

abbrev pub invariant-loop-place : goal.invariant-loop-place
invariant-loop-place g l = record {
  within : length l.chunk + PAIR_ROOM * (l.end - l.place) ≤ CHUNK_SIZE;
  written : l.chunk ++ pairs_text_by g.P.Paired.rules 44 (drop l.place l.pairs) ≡ l.fn.chunk ++ pairs_text_by g.P.Paired.rules 44 (drop l.fn.from l.pairs);
}
