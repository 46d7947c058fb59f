use Rattle.md_text.proofs.LineLemmas.{lines_are_the_cut_lem}
use Rattle.md_text.proofs.laws.lines_are_the_cut.Goals as goal

pub returns : goal.returns
returns c = record {
  law = lines_are_the_cut_lem;
}
