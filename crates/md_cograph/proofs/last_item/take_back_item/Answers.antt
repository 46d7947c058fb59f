use Rattle.std.proofs.Common.{◌≡◌, ◌*◌, [], ◌∷◌, length, refl, sym, ◌∙◌, ap, subst, arith, rules}
use Rattle.md_graph.proofs.Limits.{words_few}
use Rattle.md_cotree.specs.Cotrees.{Denotes}
use Rattle.md_script.specs.Pasts.{as_edit, taken_back, MayBack}
use Rattle.md_script.proofs.ChangeLemmas.{names_within}
use Rattle.md_script.proofs.GroupLemmas.{smaller_last, next_back, gone_back}
use Rattle.md_report.specs.Cographs.{IsCograph}
use Rattle.md_cograph.proofs.GoingBack.{go_within, same_rest}
use Rattle.md_cograph.proofs.last_item.take_back_item.Goals as goal

pub loop-past-init : goal.loop-past-init
loop-past-init g c =
    let given = c.requires.item in
    record {
      going = λ first others is.
          let f : given.0 ∷ given.1 ≡ first ∷ others = sym given.2 ∙ is in
          let same : given.0 ≡ first = cc in
          record { going = (first, is, subst (MayBack (64 * g.row.W) IsCograph c.args.graph.now) same given.3, refl); within = omega arith };
      denotes = c.requires.denotes;
      near = refl;
    }

pub pop-requires : goal.pop-requires
pop-requires g c =
    let given = c.requires.item in
    let so = (c.loop-past.invariant.going given.0 given.1 given.2).going in
    let some = ap length so.1 in
    (search rules, (search rules, omega arith))

pub change_back-requires : goal.change_back-requires
change_back-requires g c =
    let given = c.requires.item in
    let so = (c.loop-past.invariant.going given.0 given.1 given.2).going in
    let popped = c.in-Some.ensures.some in
    let first = next_back (64 * g.row.W) IsCograph (taken_back c.args.graph.now given.0) c.loop-past.graph c.loop-past.history.items given.1 popped.1 popped.0 _ so popped.2 in (
      search rules,
      (
        (c.loop-past.graph, c.loop-past.invariant.denotes, first.no_reason, first.kept),
        (
          names_within (words_few g.row.W c.vertices-vertices.ensures.limit) (as_edit c.in-Some.past) first.names,
          (let same = c.loop-past.invariant.near in let room = c.requires.near in omega arith),
        ),
      ),
    )

pub take_back-requires : goal.take_back-requires
take_back-requires g c =
    let given = c.requires.item in
    let so = (c.loop-past.invariant.going given.0 given.1 given.2).going in
    let popped = c.in-Some.ensures.some in
    let first = next_back (64 * g.row.W) IsCograph (taken_back c.args.graph.now given.0) c.loop-past.graph c.loop-past.history.items given.1 popped.1 popped.0 _ so popped.2 in
    (search rules, (search rules, (first.no_reason, first.names)))

pub loop-past-smaller : goal.loop-past-smaller
loop-past-smaller g c =
    let popped = c.in-Some.ensures.some in smaller_last c.loop-past.history.items c.pop.new.self.items popped.1 popped.0 _ popped.2 popped.3

pub loop-past-preserved : goal.loop-past-preserved
loop-past-preserved g c =
    let given = c.requires.item in
    let so = (c.loop-past.invariant.going given.0 given.1 given.2).going in
    let popped = c.in-Some.ensures.some in
    let first = next_back (64 * g.row.W) IsCograph (taken_back c.args.graph.now given.0) c.loop-past.graph c.loop-past.history.items given.1 popped.1 popped.0 _ so popped.2 in
    record {
      going = λ other others is.
          go_within (64 * g.row.W) (taken_back c.args.graph.now other) c.loop-past.graph c.take_back.new.graph c.loop-past.history.items c.pop.new.self.items others popped.1 popped.0 _ c.loop-past.steps c.change_back.new.steps _
          (c.loop-past.invariant.going other others is) popped.2 popped.3 c.take_back.ensures (c.change_back.ensures.bound c.loop-past.graph c.loop-past.invariant.denotes first.no_reason);
      denotes =
          subst (Denotes c.change_back.new.tree) (sym c.take_back.ensures) (c.change_back.ensures.done c.loop-past.graph c.loop-past.invariant.denotes first.no_reason first.kept);
      near = c.change_back.ensures.near ∙ c.loop-past.invariant.near;
    }

pub returns-clause-graph : goal.returns-clause-graph
returns-clause-graph g c = λ last others is.
    let none = c.in_default.ensures.none in
    (gone_back (64 * g.row.W) IsCograph (taken_back c.args.graph.now last) c.loop-past.graph c.loop-past.history.items others none.0 (c.loop-past.invariant.going last others is).going none.1).0

pub returns-clause-items : goal.returns-clause-items
returns-clause-items g c = λ last others is.
    let none = c.in_default.ensures.none in
    let same = (gone_back (64 * g.row.W) IsCograph (taken_back c.args.graph.now last) c.loop-past.graph c.loop-past.history.items others none.0 (c.loop-past.invariant.going last others is).going none.1).1 in
    same_rest _ others (sym c.drop_item.ensures.items ∙ (none.2 ∙ (none.1 ∙ ap (λ l. [] ∷ l) (sym same))))

pub returns-clause-bound : goal.returns-clause-bound
returns-clause-bound g c = λ last others is. let within = (c.loop-past.invariant.going last others is).within in omega arith
