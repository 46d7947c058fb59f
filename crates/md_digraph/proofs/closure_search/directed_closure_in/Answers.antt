use Rattle.std.proofs.Common.{◌∙◌, ap, rules}
use Rattle.md_graph.proofs.SetLemmas.{pair_within, pair_first, pair_among}
use Rattle.std.specs.FinSet.{insert}
use Rattle.md_digraph.specs.PlainDigraph.{has_arc_to}
use Rattle.md_digraph.specs.ArcColours.{between}
use Rattle.md_modules.proofs.Turns.{least_alone, least_pair}
use Rattle.md_digraph.proofs.ArcTurns.{pair_seen}
use Rattle.md_digraph.proofs.closure_search.directed_closure_in.Goals as goal

pub returns-then-u-v : goal.returns-then-u-v
returns-then-u-v g c = record {
  least =
      least_alone c.args.within.now c.insert.new.self c.args.u c.args.v c.if-u-v.true c.requires.first (c.insert.ensures.changed ∙ ap (λ s. insert s c.args.u) c.clear.ensures.changed);
}

pub directed_grow-requires : goal.directed_grow-requires
directed_grow-requires g c = (
  search rules,
  (
    search rules,
    (
      c.requires.inside,
      (
        pair_within c.args.within.now c.insert-2.new.self c.args.u c.args.v
            (c.insert-2.ensures.changed ∙ ap (λ s. insert s c.args.v) (c.insert.ensures.changed ∙ ap (λ s. insert s c.args.u) c.clear.ensures.changed)) c.requires.first c.requires.second,
        (
          pair_first c.insert-2.new.self c.args.u c.args.v
              (c.insert-2.ensures.changed ∙ ap (λ s. insert s c.args.v) (c.insert.ensures.changed ∙ ap (λ s. insert s c.args.u) c.clear.ensures.changed)),
          (
            pair_among c.insert-2.new.self c.insert-3.new.self c.args.u c.args.v
                (c.insert-2.ensures.changed ∙ ap (λ s. insert s c.args.v) (c.insert.ensures.changed ∙ ap (λ s. insert s c.args.u) c.clear.ensures.changed))
                (c.insert-3.ensures.changed ∙ ap (λ s. insert s c.args.v) c.none-todo.ensures.value),
            λ w h l y hy out. pair_seen (between (has_arc_to c.args.graph.now)) c.insert-2.new.self c.insert-3.new.self c.args.u c.args.v
                (c.insert-2.ensures.changed ∙ ap (λ s. insert s c.args.v) (c.insert.ensures.changed ∙ ap (λ s. insert s c.args.u) c.clear.ensures.changed))
                (c.insert-3.ensures.changed ∙ ap (λ s. insert s c.args.v) c.none-todo.ensures.value) w h l y,
          ),
        ),
      ),
    ),
  ),
)

pub returns : goal.returns
returns g c = record {
  least =
      least_pair c.args.within.now c.insert-2.new.self c.directed_grow.new.into c.args.u c.args.v
      (c.insert-2.ensures.changed ∙ ap (λ s. insert s c.args.v) (c.insert.ensures.changed ∙ ap (λ s. insert s c.args.u) c.clear.ensures.changed)) c.directed_grow.ensures.least;
}
