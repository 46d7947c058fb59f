-- What a report is over: its files, what is wrong with their contents, and where a report over them begins.
-- Source: the reports of docs/FORMATS.md.
use Rattle.std.specs.Prelude.{◌≡◌, ℕ, Option, Some, None, List, [], ◌∷◌}
use Rattle.std.specs.Option.{option_or}
use Rattle.std.specs.Borrow.{Bor}
use Rattle.md_graph.specs.PlainGraph.{PlainGraph}
use Rattle.md_digraph.specs.PlainDigraph.{PlainDigraph}
use Rattle.md_digraph6.specs.ArcFile.{SpellsDigraphs}
use Rattle.md_script.specs.declared.item.Item as script_items
use Rattle.md_script.specs.File.{SpellsScript}
use Rattle.md_input.specs.declared.fault.Fault.{Fault}
use Rattle.md_input.specs.Spelling.{SpellsGraphs}
use Rattle.md_input.specs.Faults.{graph_fault, one_graph_fault, script_fault}
use Rattle.md_report.specs.Lines.{limit_of_mode}
use Rattle.md_report.specs.Places.{before_head, before_session}
use Rattle.md_dcheck.specs.DirectedReports.{before_directed}
use Rattle.md_dcheck.specs.DirectedFaults.{digraph_fault}
use Rattle.md_top.specs.declared.request.Subject.{Subject}
use Rattle.md_top.specs.declared.request.Subject.TheVariants.{Graphs, Session, Digraphs}
use Rattle.md_top.specs.Starts.{Start, of_graphs, of_digraphs}

-- the subject with another thing in place of each file
abbrev pub subject_over : {A B : Type 0} → (A → B) → Subject A → Subject B
subject_over f (Graphs mode from graph) = Graphs mode from (f graph)
subject_over f (Session mode from graph script) = Session mode from (f graph) (f script)
subject_over f (Digraphs graph) = Digraphs (f graph)

-- the subject with the bytes of its names
abbrev pub subject_seen : Subject (Bor (List ℕ)) → Subject (List ℕ)
subject_seen = subject_over (λ name. name.now)

-- what stands for the files, in the order of the words
abbrev pub subject_files : {A : Type 0} → Subject A → List A
subject_files (Graphs mode from graph) = graph ∷ []
subject_files (Session mode from graph script) = graph ∷ script ∷ []
subject_files (Digraphs graph) = graph ∷ []

-- the subject with these in place of its files, where they are as many
abbrev pub with_subject_files : {A B : Type 0} → Subject A → List B → Option (Subject B)
with_subject_files (Graphs mode from name) (graph ∷ []) = Some (Graphs mode from graph)
with_subject_files (Session mode from name other) (graph ∷ script ∷ []) = Some (Session mode from graph script)
with_subject_files (Digraphs name) (graph ∷ []) = Some (Digraphs graph)
with_subject_files subject files = None

-- the first cause of bad input in the contents, none where they are well-formed
abbrev pub subject_fault : Subject (List ℕ) → Option Fault
subject_fault (Graphs mode from graph) = graph_fault (limit_of_mode mode) from graph
subject_fault (Session mode from graph script) = option_or (one_graph_fault from graph) (script_fault script)
subject_fault (Digraphs graph) = digraph_fault graph

-- a report over these contents begins there
abbrev pub BeginsAt : Subject (List ℕ) → Start → Type 0
BeginsAt (Graphs mode from graph) p =
    (graphs : List PlainGraph) × SpellsGraphs from graph graphs × (p ≡ of_graphs (before_head mode graphs))
BeginsAt (Session mode from graph script) p =
    (g : PlainGraph) × (items : List script_items.Item) × SpellsGraphs from graph (g ∷ []) × SpellsScript script items
    × (p ≡ of_graphs (before_session mode g items))
BeginsAt (Digraphs graph) p =
    (digraphs : List PlainDigraph) × SpellsDigraphs graph digraphs × (p ≡ of_digraphs (before_directed digraphs))
