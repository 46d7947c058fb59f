use Rattle.std.proofs.Common.{inl, inr, subst, rules}
use mathlib.Mathlib.Data.Bool.Basic.{eq-or-eq-not}
use Rattle.md_graph.specs.PlainGraph.{adjacent}
use Rattle.md_modules.specs.Kinds.{IsSplit}
use Rattle.md_checker.proofs.cograph_test.split.Goals as goal

pub returns-clause-none : goal.returns-clause-none
returns-clause-none g c = λ joined other split. elim (eq-or-eq-not joined c.args.first) [
  | inl one ↦ c.if-is_split.ensures.none (search rules) other (subst (IsSplit (adjacent c.args.graph.now) c.args.within.now other) one split)
  | inr two ↦ c.if-is_split-2.ensures.none (search rules) other (subst (IsSplit (adjacent c.args.graph.now) c.args.within.now other) two split)
]
