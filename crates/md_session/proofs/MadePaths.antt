-- The answers to an edit, along the graph that it leads to.
use Rattle.std.proofs.Common.{◌≡◌, None, refl, sym, subst, inl, inr}
use Rattle.md_graph.specs.PlainGraph.{PlainGraph}
use Rattle.md_modules.specs.declared.induced_paths.P4.{P4}
use Rattle.md_script.specs.declared.edit.Edit.{Edit}
use Rattle.md_script.specs.Edit.{reason_of, after}
use Rattle.md_report.specs.Cographs.{IsP4Of, IsCograph}
use Rattle.md_session.specs.Answers.{IsAnsweredBy, IsAnswered}
use Rattle.md_session.specs.declared.cograph.Answer.TheVariants.{Applied, RefusedP4}

module _ (g : PlainGraph) (edit : Edit) (none : reason_of g edit ≡ None) where
  pub refused_with : (p : P4) (made next : PlainGraph) → made ≡ after g edit → IsP4Of made p → next ≡ g → IsAnswered g edit (RefusedP4 p) next
  refused_with p made next is path same =
      subst (λ o. IsAnsweredBy o g edit (RefusedP4 p) next) (sym none) (inl (p, subst (λ h. IsP4Of h p) is path, refl, same))

  pub applied_to : (next : PlainGraph) → next ≡ after g edit → IsCograph next → IsAnswered g edit Applied next
  applied_to next is free = subst (λ o. IsAnsweredBy o g edit Applied next) (sym none) (inr (subst IsCograph is free, refl, is))
