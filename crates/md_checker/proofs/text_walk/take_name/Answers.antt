use Rattle.std.proofs.Common.{sym, ◌∙◌, ap}
use Rattle.std.specs.FinSet.{contains}
use Rattle.md_text.proofs.FrontLemmas.{number_shorter}
use Rattle.md_tree.proofs.Spelled.{is_spelling}
use Rattle.md_checker.proofs.TextWalk.{read_name, other_name, known_name}
use Rattle.md_checker.proofs.text_walk.take_name.Goals as goal

pub returns-then-not-has : goal.returns-then-not-has
returns-then-not-has g c bytes text split r =
    let walk = c.args.walk.now in
    other_name (is_spelling g.met.K.Lettered.laws g.met.P.Paired.laws) (g.G.TextGraph.view c.args.graph.now) c.vertices-vertices.ensures.view bytes text walk.least.items walk.roots.items walk.opens.items walk.seen walk.live c.args.tail.now c.args.name r split
    (ap (λ s. contains s c.args.name) (sym c.vertices-vertices.ensures.set) ∙ sym c.has.ensures.value ∙ c.if-not-has.true)

pub returns-then-has : goal.returns-then-has
returns-then-has g c bytes text split r =
    let walk = c.args.walk.now in
    known_name (is_spelling g.met.K.Lettered.laws g.met.P.Paired.laws) (g.G.TextGraph.view c.args.graph.now) c.vertices-vertices.ensures.view bytes text walk.least.items walk.roots.items walk.opens.items walk.seen walk.live c.args.tail.now c.args.name r split
    (sym c.has-2.ensures.value ∙ c.if-has.true)

pub returns : goal.returns
returns g c bytes text split r =
    let walk = c.args.walk.now in
    let vertex = ap (λ s. contains s c.args.name) (sym c.vertices-vertices.ensures.set) ∙ sym c.has.ensures.value ∙ c.if-not-has.false in (
      read_name (is_spelling g.met.K.Lettered.laws g.met.P.Paired.laws) (g.G.TextGraph.view c.args.graph.now) bytes text c.args.tail.now walk.least.items c.push.new.self.items walk.roots.items c.push-2.new.self.items
          walk.opens.items walk.seen c.insert.new.self walk.live c.args.name r split vertex (c.vertices-vertices.ensures.view.names c.args.name vertex) (sym c.has-2.ensures.value ∙ c.if-has.false) c.in_ok-push.ensures.items c.in_ok-push-2.ensures.items c.insert.ensures.changed,
      number_shorter text c.args.tail.now c.args.name split,
    )
