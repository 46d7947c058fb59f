use Rattle.std.proofs.Common.{List, length, ◌≤◌}
use Rattle.md_tree.specs.Spellings.{spelling}
use Rattle.md_tree.specs.Languages.{GoesOn, PairThen}
use Rattle.md_tree.proofs.grammar.skip_pairs.Given as goal

abbrev pub invariant-loop-tail : goal.invariant-loop-tail
invariant-loop-tail g l = record {
  on : (ks : List g.row.K.Denot) → GoesOn (PairThen (spelling g.K.Lettered.rules g.P.Paired.rules) ks) l.text (PairThen (spelling g.K.Lettered.rules g.P.Paired.rules) ks) l.rest;
  within : length l.rest ≤ length l.text;
}

abbrev pub decreases-loop-tail : goal.decreases-loop-tail
decreases-loop-tail g l = length l.rest
