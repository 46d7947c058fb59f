use Rattle.std.proofs.Common.{◌≡◌, ◌-◌, ◌++◌}
use Rattle.std.specs.Option.{option_map_or}
use Rattle.md_graph.specs.NameSet.{ascending_from}
use Rattle.md_graph.specs.declared.TheConstants.{NAMES}
use Rattle.md_text.specs.Pieces.{piece_text, texts_at}
use Rattle.md_blocks.proofs.BlockLemmas.{ArePut}
use Rattle.md_blocks.proofs.writer.write_members.Given as goal

abbrev pub invariant-loop-next : goal.invariant-loop-next
invariant-loop-next g l = record {
  put : ArePut l.set l.next l.pieces (piece_text l.start) (g.T.Target.bytes l.target ++ l.chunk) ((g.T.Target.bytes l.fn.target ++ l.fn.chunk) ++ texts_at l.pieces (piece_text l.start) (ascending_from l.set l.from));
  text : g.T.Target.text l.target ≡ g.T.Target.text l.fn.target;
}

abbrev pub decreases-loop-next : goal.decreases-loop-next
decreases-loop-next g l = option_map_or (λ word. NAMES - word.0) l.next 0
