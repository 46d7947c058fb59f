use Rattle.std.proofs.Common.{◌≡◌, None, Some, sym, ◌∙◌, ap, subst}
use Rattle.md_graph.specs.PlainGraph.{adjacent}
use Rattle.md_tree.specs.Plain.{plain, plain_option}
use Rattle.md_tree.specs.StrongTrees.{IsTree}
use Rattle.md_tree.specs.TreeTexts.{text_of}
use Rattle.md_tree.proofs.Stacking.{if_ok}
use Rattle.md_checker.proofs.GraphTexts.{same_tree}
use Rattle.md_checker.proofs.StateTexts.{allowed_none}
use Rattle.md_checker.proofs.state_text.is_tree_of_state.Goals as goal

pub returns-in_ok-text-in-Some : goal.returns-in_ok-text-in-Some
returns-in_ok-text-in-Some g c =
    let h = c.args.graph.now in
    let o = plain_option c.args.tree.now in
    let t = plain c.in-Some.field-0 in
    let is_some : o ≡ Some t = ap plain_option c.in-Some.is in
    let spelled = c.deref.ensures.value ∙ c.in_ok-text-in-Some.ensures.text in
    if_ok c.is_word_and_state.result
    (λ fit told. (
      λ yes. let s = told.0 yes in (s.allowed, subst (IsTree (adjacent h) h.vertices) (same_tree _ o s.tree spelled s.spelled) s.fits),
      λ both. told.1 (record {
        allowed = both.0;
        tree = t;
        fits = subst (IsTree (adjacent h) h.vertices) is_some both.1;
        spelled = spelled ∙ ap text_of is_some;
      }),
    )) c.is_word_and_state.ensures

pub returns-in-None : goal.returns-in-None
returns-in-None g c =
    let h = c.args.graph.now in
    let is_none : plain_option c.args.tree.now ≡ None = ap plain_option c.in-None.is in (
      λ yes.
          let none = sym c.vertices.ensures.set ∙ c.is_empty.ensures.exactly.0 yes in
          (allowed_none c.args.mode c.vertices-vertices.ensures.graph none, subst (IsTree (adjacent h) h.vertices) (sym is_none) none),
      λ both. c.is_empty.ensures.exactly.1 (c.vertices.ensures.set ∙ subst (IsTree (adjacent h) h.vertices) is_none both.1),
    )
