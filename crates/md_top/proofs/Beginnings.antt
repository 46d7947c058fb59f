-- Contents are spelled in one way, so that a report over them begins at one place; and it is a sound one.
use Rattle.std.proofs.Common.{◌≡◌, ℕ, Option, None, List, [], ◌∷◌, MatchOption, sym, ◌∙◌, ap, ap₂, subst, arith}
use Rattle.md_graph.specs.declared.TheConstants.{NAMES}
use Rattle.md_graph.specs.PlainGraph.{PlainGraph}
use Rattle.md_text.specs.Spelling.{SpellsOne, SpellsOnly, SpellsNone}
use Rattle.md_graph6.specs.declared.fault.G6Fault.{G6Fault}
use Rattle.md_graph6.proofs.FileLemmas.{spelled_has_no_fault}
use Rattle.md_dimacs.proofs.FileLemmas.{one_graph}
use Rattle.md_digraph.specs.PlainDigraph.{PlainDigraph}
use Rattle.md_digraph6.specs.ArcFile.{SpellsDigraphs, first_arc_fault, digraphs_of}
use Rattle.md_digraph6.proofs.ArcFiles.{spelled_or_arc_fault, spelled_are_digraphs}
use Rattle.md_script.specs.declared.item.Item.{Item}
use Rattle.md_script.specs.File.{SpellsScript}
use Rattle.md_script.proofs.FileLemmas.{script_has_no_fault, script_spelled_or_faulty, script_has_names}
use Rattle.md_input.specs.declared.format.Format.{Format}
use Rattle.md_input.specs.declared.format.Format.TheVariants.{G6, Dimacs}
use Rattle.md_input.specs.Spelling.{SpellsGraphs}
use Rattle.md_report.specs.Laws.{IsSound}
use Rattle.md_report.specs.Places.{before_head, before_session}
use Rattle.md_dcheck.specs.DirectedReports.{before_directed}
use Rattle.md_checker.proofs.Spelled.{are_graphs}
use Rattle.md_top.specs.declared.request.Subject.{Subject}
use Rattle.md_top.specs.declared.request.Subject.TheVariants.{Graphs, Session, Digraphs}
use Rattle.md_top.specs.Starts.{Start, of_graphs, of_digraphs}
use Rattle.md_top.specs.Subject.{BeginsAt}

-- a file spells one list of graphs
pub graphs_alike : (from : Format) (bytes : List ℕ) (g h : List PlainGraph) → SpellsGraphs from bytes g → SpellsGraphs from bytes h → g ≡ h
graphs_alike G6 bytes g h a b = sym (spelled_has_no_fault NAMES bytes g (omega arith) a).1 ∙ (spelled_has_no_fault NAMES bytes h (omega arith) b).1
graphs_alike Dimacs bytes g h a b = a.1 ∙ ap (λ (x : PlainGraph). x ∷ []) (one_graph NAMES bytes a.0 b.0 a.2 b.2) ∙ sym b.1

-- or one graph
abbrev first_or : PlainGraph → List PlainGraph → PlainGraph
first_or g [] = g
first_or g (h ∷ more) = h

graph_alike : (from : Format) (bytes : List ℕ) (g h : PlainGraph) → SpellsGraphs from bytes (g ∷ []) → SpellsGraphs from bytes (h ∷ []) → g ≡ h
graph_alike from bytes g h a b = ap (first_or g) (graphs_alike from bytes (g ∷ []) (h ∷ []) a b)

-- bytes spell one script
script_alike : (bytes : List ℕ) (a b : List Item) → SpellsScript bytes a → SpellsScript bytes b → a ≡ b
script_alike bytes a b sa sb =
    let one : SpellsOne SpellsScript bytes = subst (λ f. MatchOption f (SpellsOne SpellsScript bytes) (λ _. SpellsNone SpellsScript bytes)) (script_has_no_fault bytes a sa) (script_spelled_or_faulty bytes) in
    one.1.only a sa ∙ sym (one.1.only b sb)

-- a digraph6 file without fault spells its directed graphs
pub digraphs_spelled : (bytes : List ℕ) → first_arc_fault bytes ≡ None → SpellsDigraphs bytes (digraphs_of bytes)
digraphs_spelled bytes none =
    (subst (λ (o : Option G6Fault). MatchOption o (SpellsOnly SpellsDigraphs bytes (digraphs_of bytes)) (λ _. SpellsNone SpellsDigraphs bytes)) none (spelled_or_arc_fault bytes)).spells

-- and no other list
digraphs_alike : (bytes : List ℕ) (g h : List PlainDigraph) → SpellsDigraphs bytes g → SpellsDigraphs bytes h → g ≡ h
digraphs_alike bytes g h a b = sym (spelled_are_digraphs bytes g a).1 ∙ (spelled_are_digraphs bytes h b).1

pub begin_alike : (subject : Subject (List ℕ)) (p q : Start) → BeginsAt subject p → BeginsAt subject q → p ≡ q
begin_alike (Graphs mode from graph) p q bp bq =
    bp.2 ∙ ap (λ (g : List PlainGraph). of_graphs (before_head mode g)) (graphs_alike from graph bp.0 bq.0 bp.1 bq.1) ∙ sym bq.2
begin_alike (Session mode from graph script) p q bp bq =
    bp.4 ∙ ap₂ (λ (g : PlainGraph) (items : List Item). of_graphs (before_session mode g items))
    (graph_alike from graph bp.0 bq.0 bp.2 bq.2) (script_alike script bp.1 bq.1 bp.3 bq.3) ∙ sym bq.4
begin_alike (Digraphs graph) p q bp bq =
    bp.2 ∙ ap (λ (g : List PlainDigraph). of_digraphs (before_directed g)) (digraphs_alike graph bp.0 bq.0 bp.1 bq.1) ∙ sym bq.2

-- a report over graphs is of graphs, and one of a session of items of scripts too
abbrev pub IsSoundStart : Start → Type 0
IsSoundStart (of_graphs p) = IsSound p
IsSoundStart (of_digraphs p) = Unit {0}

pub begin_sound : (subject : Subject (List ℕ)) (p : Start) → BeginsAt subject p → IsSoundStart p
begin_sound (Graphs mode from graph) p begins = subst IsSoundStart (sym begins.2) (are_graphs from graph begins.0 begins.1)
begin_sound (Session mode from graph script) p begins =
    subst IsSoundStart (sym begins.4) ((are_graphs from graph (begins.0 ∷ []) begins.2).0, script_has_names script begins.1 begins.3)
begin_sound (Digraphs graph) p begins = subst IsSoundStart (sym begins.2) tt
