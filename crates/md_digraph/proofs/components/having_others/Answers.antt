use Rattle.std.proofs.Common.{◌∙◌, sym, subst, inl, inr, rules}
use Rattle.md_graph.specs.Sets.{Has}
use Rattle.md_graph.proofs.SetLemmas.{clash, insert_new, insert_old, of_insert, Has-along, empty_if}
use Rattle.md_digraph.proofs.ArcTurns.{HasOthers}
use Rattle.md_digraph.proofs.components.having_others.Goals as goal
use Rattle.md_graph.proofs.Walks.{Walked-start, Walked-item, Walked-more, Walked-end, Walked-map}

pub loop-y-init : goal.loop-y-init
loop-y-init g c = record {
  all = Walked-start (c.into_iter-y-iterator.ensures.into_iter_gives ∙ c.members-y-items.ensures.list) c.members-y-items.ensures.names;
  alone = λ y h. clash h (empty_if c.none-new.result c.none-new.ensures.value y);
}

pub has_others-requires : goal.has_others-requires
has_others-requires g c = (search rules, (search rules, (c.requires.part c.in-Some.y (Walked-item c.loop-y.invariant.all c.in-Some.y _ c.in-Some.ensures.steps), c.requires.apart)))

pub insert-requires : goal.insert-requires
insert-requires g c = (search rules, c.members-y-items.ensures.below _ (Walked-item c.loop-y.invariant.all c.in-Some.y _ c.in-Some.ensures.steps))

pub loop-y-preserved-then-has_others : goal.loop-y-preserved-then-has_others
loop-y-preserved-then-has_others g c = record {
  all = Walked-more
      (Walked-map {Wider = λ w. HasOthers c.args.graph.now w c.args.both c.args.taken.now → Has c.insert.new.self w} c.loop-y.invariant.all
      (λ w done seen. Has-along _ _ (sym c.insert.ensures.changed) w (insert_old c.loop-y.new c.in-Some.y w (done seen))))
      c.in-Some.y _ c.in-Some.ensures.steps (λ _. Has-along _ _ (sym c.insert.ensures.changed) c.in-Some.y (insert_new c.loop-y.new c.in-Some.y));
  alone = λ y h. elim (of_insert c.loop-y.new c.in-Some.y y (Has-along _ _ c.insert.ensures.changed y h)) [
    | inl same ↦ subst (λ z. Has c.args.left.now z × HasOthers c.args.graph.now z c.args.both c.args.taken.now) (sym same)
        ((Walked-item c.loop-y.invariant.all c.in-Some.y _ c.in-Some.ensures.steps), c.has_others.ensures.0 c.if-has_others.true)
    | inr old ↦ c.loop-y.invariant.alone y old
  ];
}

pub loop-y-preserved : goal.loop-y-preserved
loop-y-preserved g c = record {
  all = Walked-more c.loop-y.invariant.all c.in-Some.y _ c.in-Some.ensures.steps (λ seen. clash (c.has_others.ensures.1 seen) c.if-has_others.false);
  alone = c.loop-y.invariant.alone;
}

pub returns : goal.returns
returns g c y = (c.loop-y.invariant.alone y, λ two. Walked-end c.loop-y.invariant.all _ c.in-None.ensures.steps y two.0 two.1)
