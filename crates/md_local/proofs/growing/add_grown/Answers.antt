use Rattle.std.proofs.Common.{refl}
use Rattle.md_local.proofs.Turns.{below_more}
use Rattle.md_local.proofs.growing.add_grown.Goals as goal

pub returns : goal.returns
returns c = λ g u v ts t is grown. below_more g u v ts t c.args.below.now _ c.args.grown is grown c.in_ok-add.ensures refl refl refl
