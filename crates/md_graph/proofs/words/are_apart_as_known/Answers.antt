use Rattle.std.proofs.Common.{get_or, bit_or, ap, arith, eqb-true, ◌==◌}
use Rattle.md_graph.proofs.Covering.{known_more, none_more_unknown}
use Rattle.md_graph.proofs.words.are_apart_as_known.Goals as goal

pub loop-i-preserved : goal.loop-i-preserved
loop-i-preserved c = record {
  known = known_more (λ k. get_or c.args.first.now k 0) (λ k. bit_or (get_or c.args.second.now k 0) (get_or c.args.first_known.now k 0)) (λ k. get_or c.args.second.now k 0) (λ k. bit_or (get_or c.args.first.now k 0) (get_or c.args.second_known.now k 0)) c.loop-i.unknown c.loop-i.i c.loop-i.invariant.known;
  none = none_more_unknown (λ k. get_or c.args.first.now k 0) (λ k. bit_or (get_or c.args.second.now k 0) (get_or c.args.first_known.now k 0)) (λ k. get_or c.args.second.now k 0) (λ k. bit_or (get_or c.args.first.now k 0) (get_or c.args.second_known.now k 0)) c.loop-i.unknown c.loop-i.i (c.type_inv.first c.loop-i.i).fits (c.type_inv.second c.loop-i.i).fits c.loop-i.invariant.none;
}

pub returns : goal.returns
returns c = (
  λ t k h. c.loop-i.invariant.known (eqb-true _ _ t) k (omega arith),
  λ all. ap (λ u. u == 0) (c.loop-i.invariant.none (λ k h. all k (omega arith))),
)
