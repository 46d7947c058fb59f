use Rattle.std.proofs.Common.{rules, arith}
use Rattle.std.proofs.lemmas.Grind.{common_steps}
use Rattle.md_graph.proofs.BitWords.{none_more}
use Rattle.md_graph.proofs.words.keep_alone.Goals as goal

pub loop-i-preserved : goal.loop-i-preserved
loop-i-preserved c = record {
  first = grind (arith, common_steps, c.loop-i.invariant.first);
  none = none_more c.loop-i.any _ _ _ (search rules) c.loop-i.invariant.none;
  rest = grind (arith, common_steps, c.loop-i.invariant.rest);
}
