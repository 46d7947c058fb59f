-- Lines of reports of directed trees: where they lead, and that others lead on to the end.
use Rattle.std.proofs.Common.{◌≡◌, List, [], ◌∷◌, ◌++◌, map, Option, refl, sym, ap₂, subst}
use Rattle.std.specs.List.{flat_map}
use Rattle.md_digraph.specs.PlainDigraph.{PlainDigraph, has_arc_to}
use Rattle.md_dtree.specs.DirectedTrees.{PlainDTree}
use Rattle.md_dtree.proofs.OneDirected.{one_tree_proof}
use Rattle.md_report.specs.Protocols.{CanEnd}
use Rattle.md_report.proofs.Protocols.{lines_lead_by, fronts_begin_by}
use Rattle.md_checker.specs.declared.answer.CheckAnswer.TheVariants.{Accepted}
use Rattle.md_checker.proofs.OneAnswer.{one_answer_by}
use Rattle.md_dcheck.specs.DirectedReports.{DirectedLine, directed_head, directed_tree, directed_end, fed_directed_line, DirectedPlace, before_directed, at_digraphs, after_directed, MayComeDirected, next_directed, LeadDirected}
use Rattle.md_dcheck.specs.DirectedLineTexts.{directed_line_spelling}
use Rattle.md_dcheck.specs.DirectedLaws.{AreTreesOf, trees_report, DirectedReportsHaveTrees, RightTreesAreAccepted, OneDirectedAnswer, DirectedLinesLeadIfFirst, DirectedFrontsBeginReports, OneDirectedLineOneText}

-- lines lead from directed graphs to the end, since each of them has a tree
reported : (digraphs : List PlainDigraph) → (lines : List DirectedLine) × LeadDirected (at_digraphs digraphs) lines after_directed
reported [] = (directed_end ∷ [], (refl, refl))
reported (g ∷ digraphs) =
    let tree = one_tree_proof (has_arc_to g) g.vertices in
    let rest : (lines : List DirectedLine) × LeadDirected (at_digraphs digraphs) lines after_directed = reported digraphs in
    (directed_tree tree.0 ∷ rest.0, ((tree.0, tree.1, refl), rest.1))

completion : (p : DirectedPlace) → (lines : List DirectedLine) × LeadDirected p lines after_directed
completion (before_directed digraphs) =
    let rest : (lines : List DirectedLine) × LeadDirected (at_digraphs digraphs) lines after_directed = reported digraphs in
    (directed_head ∷ rest.0, (refl, rest.1))
completion (at_digraphs digraphs) = reported digraphs
completion after_directed = ([], refl)

-- wherever lines lead from a place, others lead on to the end
pub directed_can_end : (p : DirectedPlace) → CanEnd MayComeDirected next_directed after_directed p
directed_can_end p lines q leads = completion q

pub lines_lead_proof : DirectedLinesLeadIfFirst
lines_lead_proof p lines = lines_lead_by MayComeDirected next_directed after_directed p (directed_can_end p) lines

pub fronts_begin_proof : DirectedFrontsBeginReports
fronts_begin_proof p bytes = fronts_begin_by MayComeDirected next_directed fed_directed_line after_directed p (directed_can_end p) bytes

pub one_answer_proof : OneDirectedAnswer
one_answer_proof p bytes a b = one_answer_by MayComeDirected next_directed fed_directed_line after_directed p bytes a b

pub one_line_proof : OneDirectedLineOneText
one_line_proof = directed_line_spelling.one

-- the lines of directed graphs are the trees, one each, and the end
trees_of : (digraphs : List PlainDigraph) (lines : List DirectedLine) → LeadDirected (at_digraphs digraphs) lines after_directed →
    (trees : List (Option PlainDTree)) × AreTreesOf digraphs trees × (lines ≡ map directed_tree trees ++ directed_end ∷ [])
trees_of [] [] leads = absurd (cc)
trees_of [] (line ∷ []) leads = ([], refl, cc)
trees_of [] (line ∷ more ∷ lines) leads = absurd leads.1.0
trees_of (g ∷ digraphs) [] leads = absurd (cc)
trees_of (g ∷ digraphs) (line ∷ lines) leads =
    let on : (trees : List (Option PlainDTree)) × AreTreesOf digraphs trees × (lines ≡ map directed_tree trees ++ directed_end ∷ []) = trees_of digraphs lines leads.1 in
    (leads.0.0 ∷ on.0, (leads.0.1, on.1), ap₂ (λ (l : DirectedLine) (m : List DirectedLine). l ∷ m) leads.0.2 on.2)

trees_lead : (digraphs : List PlainDigraph) (trees : List (Option PlainDTree)) → AreTreesOf digraphs trees → LeadDirected (at_digraphs digraphs) (map directed_tree trees ++ directed_end ∷ []) after_directed
trees_lead [] [] are = (refl, refl)
trees_lead [] (t ∷ trees) are = absurd (cc)
trees_lead (g ∷ digraphs) [] are = absurd are
trees_lead (g ∷ digraphs) (t ∷ trees) are = ((t, are.0, refl), trees_lead digraphs trees are.1)

has_trees : (digraphs : List PlainDigraph) (lines : List DirectedLine) → LeadDirected (before_directed digraphs) lines after_directed →
    (trees : List (Option PlainDTree)) × AreTreesOf digraphs trees × (lines ≡ trees_report trees)
has_trees digraphs [] leads = absurd (cc)
has_trees digraphs (line ∷ lines) leads =
    let on : (trees : List (Option PlainDTree)) × AreTreesOf digraphs trees × (lines ≡ map directed_tree trees ++ directed_end ∷ []) = trees_of digraphs lines leads.1 in
    (on.0, on.1, ap₂ (λ (l : DirectedLine) (m : List DirectedLine). l ∷ m) leads.0 on.2)

pub have_trees_proof : DirectedReportsHaveTrees
have_trees_proof digraphs lines = (
  has_trees digraphs lines,
  λ is. subst (λ (l : List DirectedLine). LeadDirected (before_directed digraphs) l after_directed) (sym is.2) (refl, trees_lead digraphs is.0 is.1),
)

pub right_trees_proof : RightTreesAreAccepted
right_trees_proof digraphs trees answer are is =
    one_answer_proof (before_directed digraphs) (flat_map fed_directed_line (trees_report trees)) answer Accepted is
    (record { lines = trees_report trees; leads = (refl, trees_lead digraphs trees are); text = refl })
