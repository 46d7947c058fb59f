use Rattle.std.proofs.Common.{refl, sym, ◌∙◌}
use Rattle.md_tree.specs.Trees.{leaf}
use Rattle.md_tree.proofs.Stacking.{if_ok}
use Rattle.md_local.proofs.Turns.{below_leaf}
use Rattle.md_local.proofs.growing.add_leaf.Goals as goal

pub returns-then-is_end : goal.returns-then-is_end
returns-then-is_end c =
    if_ok c.add_grown.result (λ x more. λ g ts is. more g c.args.u c.args.v ts (leaf c.args.name) is (c.leaf_grown.ensures g)) c.add_grown.ensures

pub returns : goal.returns
returns c = λ g ts is. below_leaf g c.args.u c.args.v ts c.args.name c.args.below.now _ is (sym c.is_end.ensures ∙ c.if-is_end.false) c.in_ok-push.ensures.items refl refl refl
