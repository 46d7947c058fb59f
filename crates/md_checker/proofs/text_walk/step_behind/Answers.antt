use Rattle.std.proofs.Common.{rules, sym, ◌∙◌, arith}
use Rattle.std.proofs.lemmas.List.{nil_from_length}
use Rattle.md_text.proofs.FrontLemmas.{shorter_tail}
use Rattle.md_tree.proofs.Spelled.{is_spelling}
use Rattle.md_checker.proofs.TextWalk.{read_comma, read_inside, no_more}
use Rattle.md_checker.proofs.text_walk.step_behind.Goals as goal

pub returns-in-Ok : goal.returns-in-Ok
returns-in-Ok g c bytes r =
    let walk = c.args.walk.now in (
      read_comma (is_spelling g.met.K.Lettered.laws g.met.P.Paired.laws) (g.G.TextGraph.view c.args.graph.now) bytes c.args.text.now c.in-Ok.tail.now walk.least.items walk.roots.items walk.opens.items walk.seen walk.live r
          (let o = walk.opens.ok.0 in grind (arith, c.is_empty.ensures, c.if-is_empty.false, o)) c.in-Ok.ensures.on,
      shorter_tail 44 c.args.text.now c.in-Ok.tail.now c.in-Ok.ensures.on,
    )

pub end_node-requires : goal.end_node-requires
end_node-requires g c =
    let walk = c.args.walk.now in
    (search rules, ((c.requires.read.0, read_inside (is_spelling g.met.K.Lettered.laws g.met.P.Paired.laws) (g.G.TextGraph.view c.args.graph.now) c.requires.read.0 c.args.text.now walk.least.items walk.roots.items walk.opens.items c.pop.new.self.items walk.seen walk.live c.in-Some.inner c.requires.read.1 c.in-Some.ensures.items), search rules))

pub returns-in-Some-2 : goal.returns-in-Some-2
returns-in-Some-2 g c bytes r =
    let walk = c.args.walk.now in
    let is = c.in-Some-2.is in
    let p = c.in_ok-tail.ensures bytes (read_inside (is_spelling g.met.K.Lettered.laws g.met.P.Paired.laws) (g.G.TextGraph.view c.args.graph.now) bytes c.args.text.now walk.least.items walk.roots.items walk.opens.items c.pop.new.self.items walk.seen walk.live c.in-Some.inner r c.in-Some.ensures.items) in
    let q = rw is at p in
    q

pub returns-in-None : goal.returns-in-None
returns-in-None g c bytes r =
    let walk = c.args.walk.now in
    let is = c.in-None.is in
    let p = c.in_ok-tail.ensures bytes (read_inside (is_spelling g.met.K.Lettered.laws g.met.P.Paired.laws) (g.G.TextGraph.view c.args.graph.now) bytes c.args.text.now walk.least.items walk.roots.items walk.opens.items c.pop.new.self.items walk.seen walk.live c.in-Some.inner r c.in-Some.ensures.items) in
    let q = rw is at p in
    q

pub returns-then-is_empty : goal.returns-then-is_empty
returns-then-is_empty g c bytes r =
    let walk = c.args.walk.now in
    no_more (is_spelling g.met.K.Lettered.laws g.met.P.Paired.laws) (g.G.TextGraph.view c.args.graph.now) c.vertices-vertices.ensures.view bytes c.args.text.now walk.least.items walk.roots.items walk.opens.items walk.seen walk.live r
    (let o = walk.opens.ok.0 in nil_from_length _ (grind (arith, c.is_empty.ensures, c.if-is_empty.true, o))) c.requires.some

pub returns-in_default-pop : goal.returns-in_default-pop
returns-in_default-pop g c bytes r =
    let walk = c.args.walk.now in
    no_more (is_spelling g.met.K.Lettered.laws g.met.P.Paired.laws) (g.G.TextGraph.view c.args.graph.now) c.vertices-vertices.ensures.view bytes c.args.text.now walk.least.items walk.roots.items walk.opens.items walk.seen walk.live r
    (nil_from_length _ (sym walk.opens.ok.0 ∙ c.in_default-pop.ensures.cases.0)) c.requires.some
