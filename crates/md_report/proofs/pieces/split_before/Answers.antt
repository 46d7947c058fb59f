use Rattle.md_report.proofs.Cutting.{cut_at}
use Rattle.md_report.proofs.pieces.split_before.Goals as goal

pub returns : goal.returns
returns c =
    cut_at c.args.byte c.args.text.now _ _ c.first_of.result c.first_of.ensures.within c.first_of.ensures.before c.first_of.ensures.found c.split_at.ensures.front c.split_at.ensures.back
