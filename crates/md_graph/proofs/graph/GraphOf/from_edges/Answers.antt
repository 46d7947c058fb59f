use Rattle.std.proofs.Common.{rules, refl, arith}
use Rattle.md_graph.proofs.Ranges.{none_there}
use Rattle.md_graph.proofs.ListedLemmas.{list_begins, list_more, sound_more, all_sound}
use Rattle.md_graph.proofs.graph.GraphOf.from_edges.Goals as goal

pub add_range-requires : goal.add_range-requires
add_range-requires g c = (search rules, (omega (arith, c.requires.count), λ v _ _. none_there c.in_ok-graph.ensures.made v))

pub loop-pair-init : goal.loop-pair-init
loop-pair-init g c = record {
  graph = list_begins c.args.count c.in_ok-graph.ensures.made c.add_range.ensures.changed;
  sound = λ k below. absurd (omega (arith, below));
}

pub loop-pair-preserved : goal.loop-pair-preserved
loop-pair-preserved g c = record {
  graph = list_more c.args.count c.args.edges.now c.loop-pair.pair-index _ c.loop-pair-test.true refl c.loop-pair.invariant.graph (c.join.ensures.joined c.if-not-join.false);
  sound = sound_more c.args.count c.args.edges.now c.loop-pair.pair-index _ refl c.loop-pair.invariant.graph (c.join.ensures.ends c.if-not-join.false) c.loop-pair.invariant.sound;
}

pub returns-clause-sound : goal.returns-clause-sound
returns-clause-sound g c = all_sound c.args.count c.args.edges.now c.loop-pair.pair-index c.loop-pair-test.false c.loop-pair.invariant.sound
