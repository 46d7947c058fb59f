use Rattle.std.proofs.Common.{rules, get_or}
use Rattle.md_graph.specs.Words.{IsWithout}
use Rattle.md_graph.proofs.BitWords.{done_more, rest_more, without_word}
use Rattle.md_graph.proofs.words.become_first_alone.Goals as goal

pub loop-i-preserved : goal.loop-i-preserved
loop-i-preserved c = record {
  done =
      done_more (λ k x. IsWithout x (get_or c.args.first.now k 0) (get_or c.args.second.now k 0)) _ _ _ (search rules) c.loop-i.invariant.done
      (without_word _ _ (c.type_inv.second c.loop-i.i).fits);
  rest = rest_more _ _ _ _ c.loop-i.invariant.rest;
}
