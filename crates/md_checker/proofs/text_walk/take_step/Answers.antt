use Rattle.std.proofs.Common.{◌≡◌, suc, ◌∷◌, ◌∙◌, length, refl, subst, arith}
use Rattle.md_text.proofs.FrontLemmas.{shorter_tail}
use Rattle.md_tree.proofs.Coming.{few_held}
use Rattle.md_tree.proofs.Holding.{least_length}
use Rattle.md_tree.proofs.Spelled.{is_spelling}
use Rattle.md_tree.proofs.Stacking.{if_ok}
use Rattle.md_checker.specs.TextFits.{IsRead}
use Rattle.md_checker.proofs.TextWalk.{read_letter, no_beginning, no_node}
use Rattle.md_checker.proofs.text_walk.take_step.Goals as goal

pub returns-then-behind : goal.returns-then-behind
returns-then-behind g c =
    let view = g.G.TextGraph.view c.args.graph.now in
    if_ok c.step_behind.result (λ o each bytes r. each bytes (subst (λ b. IsRead g.K.Lettered.rules g.P.Paired.rules view bytes c.args.text.now b c.args.walk.now) c.if-behind.true r)) c.step_behind.ensures

pub returns-in-Some : goal.returns-in-Some
returns-in-Some g c =
    let view = g.G.TextGraph.view c.args.graph.now in
    if_ok c.take_name.result
    (λ o each bytes r. each bytes c.args.text.now c.in-Some.ensures.number (subst (λ b. IsRead g.K.Lettered.rules g.P.Paired.rules view bytes c.args.text.now b c.args.walk.now) c.if-behind.false r))
    c.take_name.ensures

pub returns-in_default-split_letter : goal.returns-in_default-split_letter
returns-in_default-split_letter g c bytes r =
    let walk = c.args.walk.now in
    let due = subst (λ b. IsRead g.K.Lettered.rules g.P.Paired.rules (g.G.TextGraph.view c.args.graph.now) bytes c.args.text.now b c.args.walk.now) c.if-behind.false r in
    no_beginning (is_spelling g.met.K.Lettered.laws g.met.P.Paired.laws) (g.G.TextGraph.view c.args.graph.now) c.vertices-vertices.ensures.view bytes c.args.text.now walk.least.items walk.roots.items walk.opens.items walk.seen walk.live due
    c.in_default-split_letter.ensures.split c.in_default.ensures.number

pub returns-in-None : goal.returns-in-None
returns-in-None g c bytes r =
    let walk = c.args.walk.now in
    let is = c.in-None.is in
    let p = c.in_ok-inside.ensures in
    let q = rw is at p in
    let due = subst (λ b. IsRead g.K.Lettered.rules g.P.Paired.rules (g.G.TextGraph.view c.args.graph.now) bytes c.args.text.now b c.args.walk.now) c.if-behind.false r in
    no_node (is_spelling g.met.K.Lettered.laws g.met.P.Paired.laws) (g.G.TextGraph.view c.args.graph.now) c.vertices-vertices.ensures.view bytes c.args.text.now walk.least.items walk.roots.items walk.opens.items walk.seen walk.live c.in-Some-split_letter.tail.now c.in-Some-split_letter.kind due c.in-Some-split_letter.ensures.split
    (search (arith, q, c.in-Some-split_letter.tail-is))

pub begin_node-requires-clause-few : goal.begin_node-requires-clause-few
begin_node-requires-clause-few g c =
    let few = few_held (is_spelling g.met.K.Lettered.laws g.met.P.Paired.laws) c.requires.read.1.trees c.args.walk.now.least.items c.args.walk.now.seen c.requires.read.1.walked.kept in
    let same = least_length c.requires.read.1.trees c.args.walk.now.least.items c.requires.read.1.walked.kept.least in
    let count = c.len.ensures ∙ c.args.walk.now.least.ok.0 in
    omega arith

pub returns-in-Some-2 : goal.returns-in-Some-2
returns-in-Some-2 g c bytes r =
    let walk = c.args.walk.now in
    let is = c.in-Some-2.is in
    let p = c.in_ok-inside.ensures in
    let q = rw is at p in
    let due = subst (λ b. IsRead g.K.Lettered.rules g.P.Paired.rules (g.G.TextGraph.view c.args.graph.now) bytes c.args.text.now b c.args.walk.now) c.if-behind.false r in (
      read_letter (is_spelling g.met.K.Lettered.laws g.met.P.Paired.laws) (g.G.TextGraph.view c.args.graph.now) bytes c.args.text.now c.in-Some-2.inside.now walk.least.items walk.roots.items walk.opens.items c.begin_node.new.opens.items walk.seen walk.live _ c.len.result due
          q.0 (c.len.ensures ∙ walk.least.ok.0) q.1,
      (let a = shorter_tail _ c.args.text.now (40 ∷ c.in-Some-2.inside.now) q.0 in let b : length (40 ∷ c.in-Some-2.inside.now) ≡ suc (length c.in-Some-2.inside.now) = refl in omega arith),
    )
