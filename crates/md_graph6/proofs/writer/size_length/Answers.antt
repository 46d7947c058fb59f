use Rattle.std.proofs.Common.{sym}
use Rattle.md_graph6.proofs.SizeText.{length-size_short, length-size_long}
use Rattle.md_graph6.proofs.writer.size_length.Goals as goal

pub returns-then-n-le-MOST_IN_ONE_BYTE : goal.returns-then-n-le-MOST_IN_ONE_BYTE
returns-then-n-le-MOST_IN_ONE_BYTE c = sym (length-size_short c.args.n c.if-n-le-MOST_IN_ONE_BYTE.true)

pub returns-else-n-le-MOST_IN_ONE_BYTE : goal.returns-else-n-le-MOST_IN_ONE_BYTE
returns-else-n-le-MOST_IN_ONE_BYTE c = sym (length-size_long c.args.n c.if-n-le-MOST_IN_ONE_BYTE.false c.requires)
