-- The graphs of a graph file without fault.
use Rattle.std.proofs.Common.{◌≡◌, ℕ, ◌≤◌, Bool, true, false, List, [], ◌∷◌, length, None, sym, ◌∙◌, ap, subst, refl, arith}
use Rattle.std.specs.Bool.{OnTrue, OnFalse}
use Rattle.md_graph.specs.declared.TheConstants.{NAMES}
use Rattle.md_graph.specs.PlainGraph.{PlainGraph}
use Rattle.md_graph6.specs.File.{first_fault, graphs_of, graphs_of_lines, Spells}
use Rattle.md_text.specs.Lines.{lines}
use Rattle.md_text.specs.Spelling.{first_fault_behind}
use Rattle.md_graph6.proofs.FileLemmas.{spelled_or_faulty}
use Rattle.md_graph6.proofs.LimitLemmas.{sound_under_most}
use Rattle.md_input.specs.declared.format.Format.{Format}
use Rattle.md_input.specs.declared.format.Format.TheVariants.{G6}
use Rattle.md_input.specs.Spelling.{SpellsGraphs}

-- a graph6 file without fault spells its graphs
pub spelled : (file : List ℕ) → first_fault NAMES file ≡ None → Spells NAMES file (graphs_of file)
spelled file faultless = (rw faultless at (spelled_or_faulty NAMES file (omega arith))).spells

pub spelled_lines : (from : Format) → from ≡ G6 → (limit : ℕ) (file : List ℕ) (graphs : List PlainGraph) → limit ≤ NAMES → first_fault limit file ≡ None
    → graphs ≡ graphs_of file → SpellsGraphs from file graphs
spelled_lines from is limit file graphs most faultless same =
    subst (λ (f : Format). SpellsGraphs f file graphs) (sym is)
    (subst (Spells NAMES file) (sym same) (spelled file (sound_under_most file (limit, most, faultless))))

-- no bytes have no fault and no graphs
pub faultless_nothing : first_fault NAMES [] ≡ None
unfolding lines first_fault_behind
faultless_nothing = refl

pub none_of_nothing : graphs_of [] ≡ []
unfolding lines graphs_of_lines
none_of_nothing = refl

-- the one graph of a file of lines is the first
one_of : (graphs : List PlainGraph) (g : PlainGraph) (rest : List PlainGraph) (b : Bool) → 1 ≡ length graphs → OnTrue b (graphs ≡ g ∷ rest) → OnFalse b (graphs ≡ []) → graphs ≡ g ∷ []
one_of graphs g [] true one first none = first
one_of graphs g (other ∷ rest) true one first none = absurd (cc)
one_of graphs g rest false one first none = absurd (cc)

pub one_line_graph : (from : Format) → from ≡ G6 → (file : List ℕ) (graphs : List PlainGraph) (g : PlainGraph) (rest : List PlainGraph) (b : Bool) (count : ℕ) → first_fault NAMES file ≡ None → count ≡ 1 → count ≡ length (graphs_of file) → graphs ≡ graphs_of file →
    OnTrue b (graphs ≡ g ∷ rest) → OnFalse b (graphs ≡ []) → SpellsGraphs from file (g ∷ [])
one_line_graph from is file graphs g rest b count sound one counted same first none =
    subst (λ (f : Format). SpellsGraphs f file (g ∷ [])) (sym is)
    (subst (Spells NAMES file) (sym same ∙ one_of graphs g rest b (sym one ∙ counted ∙ ap length (sym same)) first none) (spelled file sound))
