use Rattle.std.proofs.Common.{◌≡◌, ◌∷◌, ◌++◌, length, subst}
use Rattle.md_graph.proofs.SetLemmas.{clash}
use Rattle.md_tree.specs.Held.{MayListIf}
use Rattle.md_tree.specs.TreeTexts.{pairs_text_by}
use Rattle.md_checker.specs.TextViews.{IsFitView}
use Rattle.md_checker.proofs.TextWalk.{pairs_only}
use Rattle.md_checker.proofs.text_walk.past_end.Goals as goal

pub returns-in_default-clause-none : goal.returns-in_default-clause-none
returns-in_default-clause-none g c ps tail others may left fit is =
    let heads = c.args.heads.now in
    let same = pairs_only c.vertices-vertices.ensures.view c.args.kind heads c.requires.heads ps may fit.joined in
    let none = c.in_default.is in
    let p = c.in_ok-tail.ensures.none in
    let q = rw none at p in
    q tail (subst (MayListIf g.P.Paired.rules (g.K.Lettered.rules.lists c.args.kind) (length heads)) same may) (subst (λ qs. c.args.text.now ≡ pairs_text_by g.P.Paired.rules 59 qs ++ 41 ∷ tail) same is)

pub returns-then-not-branch-clause-none : goal.returns-then-not-branch-clause-none
returns-then-not-branch-clause-none g c ps tail others may left fit is =
    let heads = c.args.heads.now in
    let same = pairs_only c.vertices-vertices.ensures.view c.args.kind heads c.requires.heads ps may fit.joined in
    clash (c.in_ok-is_fit_node.ensures.unfit others left (subst (λ qs. IsFitView (g.G.TextGraph.view c.args.graph.now) others c.args.kind qs heads) same fit)) c.if-not-branch.true
