use Rattle.std.proofs.Common.{rules, arith}
use Rattle.std.proofs.lemmas.Result.{IfOk-weaker}
use Rattle.md_tree.proofs.Spelled.{is_spelling}
use Rattle.md_tree.proofs.Coming.{step_from}
use Rattle.md_tree.proofs.builder.step_name.Goals as goal

pub end_nodes-requires : goal.end_nodes-requires
end_nodes-requires g c =
    let is = c.in-Some.is in let p = c.in_ok-behind.ensures c.requires.built.0 c.requires.built.1 in let q = rw is at p in
    (search rules, (c.requires.built.0, q.0))

pub returns-in-Some : goal.returns-in-Some
returns-in-Some g c =
    let law = is_spelling g.met.K.Lettered.laws g.met.P.Paired.laws in
    IfOk-weaker c.end_nodes.result _ _
    (λ step f bytes h.
    let is = c.in-Some.is in let p = c.in_ok-behind.ensures bytes h in let q = rw is at p in
    step_from law bytes c.args.text.now c.in-Some.behind.now step _ (let l = q.1 in omega arith) (f bytes q.0))
    c.end_nodes.ensures

pub returns-in-None : goal.returns-in-None
returns-in-None g c bytes h =
    let is = c.in-None.is in let p = c.in_ok-behind.ensures bytes h in let q = rw is at p in
    q
