use Rattle.std.proofs.Common.{◌++◌, eqb-true, eq-eqb, ◌∙◌, sym, ap}
use Rattle.std.proofs.lemmas.Slice.Eq.{strip_prefix_is}
use Rattle.md_text.proofs.chunk.Chunk.strip_from.Goals as goal

pub returns-in-Some-clause-begins : goal.returns-in-Some-clause-begins
returns-in-Some-clause-begins c =
    let p = strip_prefix_is (λ a b. (eqb-true a b, eq-eqb a b)) c.args.text.now _ c.strip_prefix.result c.strip_prefix.ensures.cases in
    let is = c.in-Some.is in
    let q = rw is at p in
    q ∙ ap (λ l. l ++ c.in-Some.tail.now) c.self.view_is

pub returns-in-None-clause-other : goal.returns-in-None-clause-other
returns-in-None-clause-other c tail e =
    let p = strip_prefix_is (λ a b. (eqb-true a b, eq-eqb a b)) c.args.text.now _ c.strip_prefix.result c.strip_prefix.ensures.cases in
    let is = c.in-None.is in
    let q = rw is at p in
    q tail (e ∙ ap (λ l. l ++ tail) (sym c.self.view_is))
