use Rattle.std.proofs.Common.{arith, ◌*◌, ◌∙◌, le-ltb}
use Rattle.md_graph.proofs.BitWords.{has_name, has_no_name}
use Rattle.md_graph.proofs.names.Set.has.Goals as goal

pub returns-then-word : goal.returns-then-word
returns-then-word g c = record {
  value = has_name c.self.inside.words (64 * g.row.W) c.args.v _ c.self.view_is (omega (arith, c.if-word.true));
}

pub returns-else-word : goal.returns-else-word
returns-else-word g c = record {
  value = le-ltb _ _ (omega (arith, c.if-word.false)) ∙ has_no_name c.self.inside.words (64 * g.row.W) c.args.v _ c.self.view_is (omega (arith, c.if-word.false));
}
