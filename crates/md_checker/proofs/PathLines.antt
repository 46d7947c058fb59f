-- Lines that tell of an induced P4 or a bar of the first graph, by their bar.
use Rattle.std.proofs.Common.{◌≡◌, ◌≢◌, ◌↔◌, IsTrue, Bool, false, refl, sym, ◌∙◌, ap, subst}
use Rattle.md_graph.specs.PlainGraph.{PlainGraph}
use Rattle.md_graph.proofs.SetLemmas.{clash}
use Rattle.md_bar_tree.specs.declared.BarKind.TheVariants.{P4}
use Rattle.md_bar_tree.specs.declared.Class.{Class}
use Rattle.md_bar_tree.specs.declared.Bar.{Bar}
use Rattle.md_report.specs.Lines.{PlainLine, path_bar, path_of_bar, barred, not_cograph}
use Rattle.md_report.specs.Cographs.{IsP4Bar, HasP4Line}
use Rattle.md_report.specs.Classes.{IsBarOf, HasBarLine}

path_again : (bar : Bar) → bar.kind ≡ P4 → path_bar (path_of_bar bar) ≡ bar
path_again bar is = ap (λ k. let same : Bar = record { kind = k; a = bar.a; b = bar.b; c = bar.c; d = bar.d } in same) (sym is)

pub path_line : (g : PlainGraph) (line : PlainLine) (bar : Bar) (b : Bool) → line ≡ barred bar → IsTrue b ↔ IsP4Bar g bar → IsTrue b ↔ HasP4Line not_cograph g line
path_line g line bar b is told = (
  (λ yes. let path = told.0 yes in (path_of_bar bar, path.1, is ∙ ap barred (sym (path_again bar path.0)))),
  (λ has.
      let both : barred bar ≡ barred (path_bar has.0) = sym is ∙ has.2 in
      let same : path_bar has.0 ≡ bar = cc in
      told.1 (subst (IsP4Bar g) same (refl, has.1))),
)

pub no_path_line : (g : PlainGraph) (line : PlainLine) → ((bar : Bar) → line ≢ barred bar) → IsTrue false ↔ HasP4Line not_cograph g line
no_path_line g line none = ((λ yes. absurd (clash yes refl)), (λ has. absurd (none (path_bar has.0) has.2)))

-- the same of the bars of a class
pub bar_line : (class : Class) (g : PlainGraph) (line : PlainLine) (bar : Bar) (b : Bool) → line ≡ barred bar → IsTrue b ↔ IsBarOf class g bar → IsTrue b ↔ HasBarLine class barred g line
bar_line class g line bar b is told = (
  (λ yes. (bar, told.0 yes, is)),
  (λ has.
      let both : barred bar ≡ barred has.0 = sym is ∙ has.2 in
      let same : has.0 ≡ bar = cc in
      told.1 (subst (IsBarOf class g) same has.1)),
)

pub no_bar_line : (class : Class) (g : PlainGraph) (line : PlainLine) → ((bar : Bar) → line ≢ barred bar) → IsTrue false ↔ HasBarLine class barred g line
no_bar_line class g line none = ((λ yes. absurd (clash yes refl)), (λ has. absurd (none has.0 has.2)))
