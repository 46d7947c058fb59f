use Rattle.std.proofs.Common.{List, Option, sym, subst}
use Rattle.md_tree.specs.declared.Kind.{Kind}
use Rattle.md_tree.specs.Trees.{row}
use Rattle.md_report.specs.declared.line.SessionMode.{SessionMode}
use Rattle.md_checker.specs.GraphViews.{MayStandIn}
use Rattle.md_checker.specs.States.{HasOneNode}
use Rattle.md_checker.proofs.StateTexts.{one_inner, inner_one}
use Rattle.md_checker.proofs.state_text.StateTextTextGraphKindPair.admits.Goals as goal

pub returns-in-Of : goal.returns-in-Of
returns-in-Of g c = record {
  admitted = λ ts is. (
    λ yes.
        let two = c.has_few_nodes.ensures.0 yes in
        subst (λ (m : SessionMode). MayStandIn m c.args.kind (row ts)) (sym c.in-Of.is)
        (two.0, λ narrow. one_inner ts (subst (λ (roots : List (Option Kind)). HasOneNode roots) is (two.1 narrow))),
    λ asked.
        let two = subst (λ (m : SessionMode). MayStandIn m c.args.kind (row ts)) c.in-Of.is asked in
        c.has_few_nodes.ensures.1 (two.0, λ narrow. subst (λ (roots : List (Option Kind)). HasOneNode roots) (sym is) (inner_one ts (two.1 narrow))),
  );
}
