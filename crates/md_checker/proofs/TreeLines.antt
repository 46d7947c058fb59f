-- Lines that tell a tree: it is that of the graph, and the graph is such as is asked for.
use Rattle.std.proofs.Common.{◌≡◌, Option, sym, ◌∙◌, subst, inl, inr}
use Rattle.md_graph.specs.PlainGraph.{PlainGraph, adjacent}
use Rattle.md_bar_tree.specs.declared.Class.{Class}
use Rattle.md_tree.specs.Trees.{PlainTree}
use Rattle.md_tree.specs.StrongTrees.{IsTree}
use Rattle.md_report.specs.Lines.{PlainLine, tree, applied}
use Rattle.md_report.specs.Sessions.{HasTreeLine}
use Rattle.md_report.specs.Cographs.{IsCograph, IsOpeningLine}
use Rattle.md_report.specs.Classes.{IsAllowedIn, IsClassOpening}

module _ (g : PlainGraph) (o : Option PlainTree) (line : PlainLine) where
  pub tree_told : line ≡ tree o → HasTreeLine tree g line → IsTree (adjacent g) g.vertices o
  tree_told is has =
      let both : tree has.0 ≡ tree o = sym has.2 ∙ is in
      let same : has.0 ≡ o = cc in
      subst (IsTree (adjacent g) g.vertices) same has.1

  pub applied_told : line ≡ applied o → HasTreeLine applied g line → IsTree (adjacent g) g.vertices o
  applied_told is has =
      let both : applied has.0 ≡ applied o = sym has.2 ∙ is in
      let same : has.0 ≡ o = cc in
      subst (IsTree (adjacent g) g.vertices) same has.1

  -- the line of the first state, which may tell a bar besides
  pub opening_told : line ≡ tree o → IsOpeningLine g line → IsCograph g × IsTree (adjacent g) g.vertices o
  opening_told is (inl path) = absurd (let both = sym path.2 ∙ is in cc)
  opening_told is (inr whole) = (whole.0, tree_told is whole.1)

  pub class_opening_told : (class : Class) → line ≡ tree o → IsClassOpening class g line → IsAllowedIn class g × IsTree (adjacent g) g.vertices o
  class_opening_told class is (inl bar) = absurd (let both = sym bar.2 ∙ is in cc)
  class_opening_told class is (inr whole) = (whole.0, tree_told is whole.1)
