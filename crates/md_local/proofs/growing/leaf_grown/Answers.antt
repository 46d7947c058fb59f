use Rattle.std.proofs.Common.{refl, sym, ◌∙◌}
use Rattle.md_local.proofs.Turns.{end_grown, other_grown}
use Rattle.md_local.proofs.growing.leaf_grown.Goals as goal

pub returns-then-is_one_alone : goal.returns-then-is_one_alone
returns-then-is_one_alone c = λ g. end_grown g c.args.u c.args.v c.args.name c.new.result _ refl c.new.ensures.items refl refl (sym c.is_one_alone.ensures ∙ c.if-is_one_alone.true)

pub returns : goal.returns
returns c = λ g. other_grown g c.args.u c.args.v c.args.name _ _ refl refl refl refl (sym c.is_one_alone.ensures ∙ c.if-is_one_alone.false)
