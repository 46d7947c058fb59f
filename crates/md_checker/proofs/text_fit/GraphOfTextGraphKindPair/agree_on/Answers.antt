use Rattle.md_checker.proofs.FitRows.{neighbours_agree}
use Rattle.md_checker.proofs.text_fit.GraphOfTextGraphKindPair.agree_on.Goals as goal

pub returns : goal.returns
returns g c = record {
  agree =
      let both = neighbours_agree c.row.ensures.graph c.args.v c.args.w c.args.names.now c.row.result.now c.row-2.result.now c.row.ensures.set c.row-2.ensures.set in
      (λ yes. both.0 (c.agrees_on.ensures.exactly.0 yes), λ alike. c.agrees_on.ensures.exactly.1 (both.1 alike));
}
