use Rattle.std.proofs.Common.{length}
use Rattle.md_tree.specs.Held.{HasRead}
use Rattle.md_tree.proofs.pair_reader.read_pairs.Given as goal

abbrev pub invariant-loop-first : goal.invariant-loop-first
invariant-loop-first g l =
    let rules = g.P.Paired.rules in
    HasRead rules l.count l.text l.rest l.pairs.items l.last l.listed

abbrev pub decreases-loop-first : goal.decreases-loop-first
decreases-loop-first g l = length l.rest
