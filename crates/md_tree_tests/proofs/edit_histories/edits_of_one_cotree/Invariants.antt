use Rattle.md_cotree.specs.Cotrees.{IsSoundCotree}
use Rattle.md_tree_tests.proofs.edit_histories.edits_of_one_cotree.Given as goal

abbrev pub invariant-loop-step : goal.invariant-loop-step
invariant-loop-step g l = IsSoundCotree l.cotree
