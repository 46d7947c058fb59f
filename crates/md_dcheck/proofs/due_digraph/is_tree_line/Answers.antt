use Rattle.std.proofs.Common.{codes, eqb-true, eq-eqb}
use Rattle.std.proofs.lemmas.Slice.Eq.{strip_prefix_is}
use Rattle.md_tree.proofs.Stacking.{if_ok}
use Rattle.md_dcheck.proofs.DirectedJudged.{tree_line, other_line}
use Rattle.md_dcheck.proofs.due_digraph.is_tree_line.Goals as goal

pub returns-in-Some : goal.returns-in-Some
returns-in-Some g c =
    let p = strip_prefix_is (λ a b. (eqb-true a b, eq-eqb a b)) c.args.text.now (codes "t ") c.strip_prefix.result c.strip_prefix.ensures.cases in
    let is = c.in-Some.is in
    let cut = rw is at p in
    if_ok c.is_tree_text.result (λ fit told. tree_line c.args.graph.now c.args.text.now c.in-Some.rest.now fit cut told) c.is_tree_text.ensures

pub returns-in-None : goal.returns-in-None
returns-in-None g c =
    let p = strip_prefix_is (λ a b. (eqb-true a b, eq-eqb a b)) c.args.text.now (codes "t ") c.strip_prefix.result c.strip_prefix.ensures.cases in
    let is = c.in-None.is in
    let none = rw is at p in
    ((λ yes. absurd (cc)), λ some. absurd (other_line c.args.graph.now c.args.text.now none some))
