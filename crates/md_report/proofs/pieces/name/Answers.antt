use Rattle.std.proofs.Common.{arith}
use Rattle.md_report.proofs.Named.{large_name}
use Rattle.md_report.proofs.pieces.name.Goals as goal

pub returns-then-value-from : goal.returns-then-value-from
returns-then-value-from c = large_name c.args.piece.now c.in_ok-value.value c.in_ok-value.ensures (omega arith)
