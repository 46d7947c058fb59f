use Rattle.std.proofs.Common.{◌≡◌, ◌-◌, ◌≤◌, ◌++◌, length, drop}
use Rattle.md_tree.specs.TreeTexts.{pairs_text_by}
use Rattle.md_tree.specs.Positions.{IsStart}
use Rattle.md_text.specs.Fronts.{BeginsWith}
use Rattle.md_tree.proofs.pair_writer.push_more.Given as goal

abbrev pub invariant-loop-place : goal.invariant-loop-place
invariant-loop-place g l = record {
  begun : BeginsWith l.text.items l.fn.text.items;
  start : IsStart g.P.Paired.rules l.start;
  inside : l.place ≤ length l.pairs;
  written : (l.text.items ++ l.chunk) ++ pairs_text_by g.P.Paired.rules 44 (drop l.place l.pairs) ≡ l.fn.text.items ++ pairs_text_by g.P.Paired.rules 44 l.pairs;
}

abbrev pub decreases-loop-place : goal.decreases-loop-place
decreases-loop-place g l = length l.pairs - l.place
