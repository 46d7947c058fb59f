use Rattle.std.proofs.Common.{cond, [], length, sym, ◌∙◌, subst}
use Rattle.md_tree.specs.Held.{MayListIf}
use Rattle.md_tree.proofs.Stacking.{if_ok}
use Rattle.md_outline.specs.HeadPairs.{head_pairs}
use Rattle.md_checker.specs.TextViews.{StandForChildren}
use Rattle.md_checker.proofs.HeadPairs.{heads_listed, if_some, lacks_listed}
use Rattle.md_checker.proofs.text_walk.past_listed.Goals as goal

pub returns-clause-may : goal.returns-clause-may
returns-clause-may g c =
    let view = g.G.TextGraph.view c.args.graph.now in
    let heads = c.args.heads.now in
    let lists = sym c.lists.ensures ∙ c.if-not-lists.false in
    let is_view = c.vertices-vertices.ensures.view in
    let stand = subst (λ b. StandForChildren view.vertices b heads) (is_view.sorts c.args.kind lists) c.requires.heads in
    if_ok c.past_pairs.result
    (λ o each. if_some o
    (λ tail some. subst (λ b. MayListIf g.P.Paired.rules b (length heads) (cond b (head_pairs g.P.Paired.rules view.lists heads) [])) (sym lists)
    (heads_listed g.met.P.Paired.laws view.lists heads (is_view.positions heads stand) some)) each)
    c.past_pairs.ensures.some

pub returns-clause-none : goal.returns-clause-none
returns-clause-none g c =
    let heads = c.args.heads.now in
    if_ok c.past_pairs.result
    (λ o none. lacks_listed g.P.Paired.rules (g.K.Lettered.rules.lists c.args.kind) (length heads) (head_pairs g.P.Paired.rules (g.G.TextGraph.view c.args.graph.now).lists heads) c.args.text.now o (sym c.lists.ensures ∙ c.if-not-lists.false) none)
    c.past_pairs.ensures.none
