use Rattle.std.proofs.Common.{arith, rules}
use Rattle.md_graph.specs.declared.TheConstants.{NAMES}
use Rattle.md_format_tests.proofs.graph6_texts.comes_back.Goals as goal

pub new-lines-requires : goal.new-lines-requires
new-lines-requires g c = (NAMES, omega arith, search rules)
