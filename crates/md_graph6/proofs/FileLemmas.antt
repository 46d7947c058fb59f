-- What a file spells: a file without fault spells one list of graphs, and a file that spells one has no fault.
use Rattle.std.proofs.Common.{◌≡◌, ◌≢◌, inl, ℕ, zero, suc, ◌+◌, ◌<◌, ◌≤◌, List, [], ◌∷◌, ◌++◌, length, map, get_or, Option, None, Some, refl, sym, ◌∙◌, arith}
use Rattle.std.specs.Prelude.{MatchOption}
use Rattle.std.specs.List.{All}
use Rattle.std.proofs.lemmas.List.{append-nil}
use Rattle.std.proofs.lemmas.Bool.{ne_eqb}
use Rattle.md_graph.specs.declared.TheConstants.{NAMES}
use Rattle.md_graph.specs.PlainGraph.{PlainGraph, IsGraph}
use Rattle.md_text.specs.Lines.{ended, LacksFeed, without_return}
use Rattle.md_text.proofs.LineLemmas.{lines-ended, without_return-stays}
use Rattle.md_text.specs.Spelling.{SpellsOnly, SpellsNone, first_fault_behind}
use Rattle.md_graph6.specs.declared.fault.G6Fault.{G6Fault}
use Rattle.md_graph6.specs.FileLine.{SpellsLine, line_fault, graph_of_line}
use Rattle.md_graph6.specs.declared.fault.G6Kind.{G6Kind}
use Rattle.md_graph6.specs.File.{without_header, file_lines, SpellEach, Spells, fault_behind, fault_after, HasNoFault, first_fault, graphs_of_lines, graphs_of}
use Rattle.md_graph6.specs.Written.{renumbered, IsTextOf}
use Rattle.md_graph6.specs.Laws.{SpellsItsGraphsOrNothing, SpelledAreItsGraphs, GraphsAreGraphs, AllSpell, EndedLinesSpell, EndedLineSpells, TextSpells}
use Rattle.md_graph6.proofs.FileLineLemmas.{line_fault-empty, spells-some, spells-sound, spells-graph, sound-spells, spells-is_graph, spells-bytes}
use Rattle.md_graph6.proofs.ReadLemmas.{fault_or-none}

-- What a line spells, its first fault and its graph belong together: a line that spells a graph has no fault and is
-- decoded to it, and a line without fault spells what is decoded.
pub record AreLines {G : Type 0} (Line : List ℕ → G → Type 0) (of_line : List ℕ → Option G6Kind) (graph_of : List ℕ → G) : Type 0 where
  pub empty : of_line [] ≡ None
  pub sound : (line : List ℕ) (g : G) → Line line g → of_line line ≡ None
  pub graph : (line : List ℕ) (g : G) → Line line g → graph_of line ≡ g
  pub spells : (line : List ℕ) → 0 < length line → of_line line ≡ None → Line line (graph_of line)

-- lines that spell graphs have no fault, and are decoded to these graphs
pub each_sound : {G : Type 0} {Line : List ℕ → G → Type 0} {of_line : List ℕ → Option G6Kind} {graph_of : List ℕ → G} → AreLines Line of_line graph_of
    → (all : List (List ℕ)) (graphs : List G) (before : ℕ) → SpellEach Line all graphs
    → (fault_behind of_line before all ≡ None) × (graphs_of_lines graph_of all ≡ graphs)
unfolding SpellEach first_fault_behind graphs_of_lines
each_sound are [] graphs before spells = (refl, sym spells)
each_sound are ([] ∷ more) graphs before spells =
    let rest = each_sound are more graphs (before + 1) spells in
    (rw are.empty rest.0, rest.1)
each_sound are ((byte ∷ line) ∷ more) [] before spells = absurd spells
each_sound {graph_of = graph_of} are ((byte ∷ line) ∷ more) (g ∷ graphs) before spells =
    let rest = each_sound are more graphs (before + 1) spells.1 in
    let first : graph_of (byte ∷ line) ≡ g = are.graph (byte ∷ line) g spells.0 in
    (rw (are.sound (byte ∷ line) g spells.0) rest.0, λ i. first i ∷ rest.1 i)

-- lines without fault spell the graphs that are decoded
pub sound_each : {G : Type 0} {Line : List ℕ → G → Type 0} {of_line : List ℕ → Option G6Kind} {graph_of : List ℕ → G} → AreLines Line of_line graph_of
    → (all : List (List ℕ)) (before : ℕ) → fault_behind of_line before all ≡ None → SpellEach Line all (graphs_of_lines graph_of all)
unfolding SpellEach first_fault_behind graphs_of_lines
sound_each are [] before sound = refl
sound_each {of_line = of_line} are ([] ∷ more) before sound =
    sound_each are more (before + 1) (fault_or-none (of_line []) (before + 1) (fault_behind of_line (before + 1) more) sound).1
sound_each {of_line = of_line} are ((byte ∷ line) ∷ more) before sound =
    let parts = fault_or-none (of_line (byte ∷ line)) (before + 1) (fault_behind of_line (before + 1) more) sound in
    (are.spells (byte ∷ line) (omega arith) parts.0, sound_each are more (before + 1) parts.1)

-- by whether there is a fault
by_fault : (fault : Option G6Fault) (P Q : Type 0) → (fault ≡ None → P) → ((f : G6Fault) → fault ≡ Some f → Q)
    → MatchOption fault P (λ _. Q)
by_fault None P Q sound faulty = sound refl
by_fault (Some f) P Q sound faulty = faulty f refl

-- a file, whose lines `lines_of` gives, has no fault and spells what is decoded alone, or has a fault and spells nothing
pub spelled_or_fault : {G : Type 0} {Line : List ℕ → G → Type 0} {of_line : List ℕ → Option G6Kind} {graph_of : List ℕ → G} → AreLines Line of_line graph_of
    → (lines_of : List ℕ → List (List ℕ)) (bytes : List ℕ)
    → MatchOption (fault_behind of_line 0 (lines_of bytes))
    (SpellsOnly (λ b graphs. SpellEach Line (lines_of b) graphs) bytes (graphs_of_lines graph_of (lines_of bytes)))
    (λ _. SpellsNone (λ b graphs. SpellEach Line (lines_of b) graphs) bytes)
spelled_or_fault {G} {Line} {of_line} {graph_of} are lines_of bytes =
    by_fault (fault_behind of_line 0 (lines_of bytes))
    (SpellsOnly (λ b graphs. SpellEach Line (lines_of b) graphs) bytes (graphs_of_lines graph_of (lines_of bytes)))
    (SpellsNone (λ b graphs. SpellEach Line (lines_of b) graphs) bytes)
    (λ sound. record {
      spells = sound_each are (lines_of bytes) 0 sound;
      only = λ others spells. sym (each_sound are (lines_of bytes) others 0 spells).1;
    })
    (λ f faulty graphs spells. no_fault (fault_behind of_line 0 (lines_of bytes)) f (each_sound are (lines_of bytes) graphs 0 spells).0 faulty)
  where
    no_fault : (fault : Option G6Fault) (f : G6Fault) → fault ≡ None → fault ≡ Some f → ⊥
    no_fault fault f none some = cc

-- the lines of a graph file
graph_lines : {limit : ℕ} → limit ≤ NAMES → AreLines (SpellsLine limit) (line_fault limit) graph_of_line
graph_lines {limit} most = record {
  empty = line_fault-empty limit [] refl;
  sound = λ line g spells. spells-sound line g most spells;
  graph = λ line g spells. spells-graph line g most spells;
  spells = λ line some sound. sound-spells line most some sound;
}

pub spelled_has_no_fault : SpelledAreItsGraphs
spelled_has_no_fault = λ limit bytes graphs most spells. each_sound (graph_lines most) (file_lines bytes) graphs 0 spells

pub spelled_or_faulty : SpellsItsGraphsOrNothing
spelled_or_faulty = λ limit bytes most. spelled_or_fault (graph_lines most) file_lines bytes

-- one more item
all-cons : {G : Type 0} (P : G → Type 0) (g : G) (graphs : List G) → P g → All P graphs
    → (k : ℕ) (d : G) → k < length (g ∷ graphs) → P (get_or (g ∷ graphs) k d)
all-cons P g graphs is all zero d inside = is
all-cons P g graphs is all (suc k) d inside = all k d (omega arith)

-- what holds of all that a line spells holds of all that lines spell
pub all_each : {G : Type 0} (P : G → Type 0) {Line : List ℕ → G → Type 0} → ((line : List ℕ) (g : G) → Line line g → P g)
    → (all : List (List ℕ)) (graphs : List G) → SpellEach Line all graphs → All P graphs
unfolding SpellEach
all_each P each [] [] spells = λ k d inside. absurd (omega arith)
all_each P each [] (g ∷ graphs) spells = cc
all_each P each ([] ∷ more) graphs spells = all_each P each more graphs spells
all_each P each ((byte ∷ line) ∷ more) [] spells = absurd spells
all_each P each ((byte ∷ line) ∷ more) (g ∷ graphs) spells =
    all-cons P g graphs (each (byte ∷ line) g spells.0) (all_each P each more graphs spells.1)

each_graphs : (limit : ℕ) (all : List (List ℕ)) → limit ≤ NAMES → fault_after limit 0 all ≡ None → All IsGraph (graphs_of_lines graph_of_line all)
each_graphs limit all most sound =
    all_each IsGraph (λ line g spells. spells-is_graph {limit = limit} line g most spells) all (graphs_of_lines graph_of_line all) (sound_each (graph_lines most) all 0 sound)

pub sound_graphs : (all : List (List ℕ)) → HasNoFault all → All IsGraph (graphs_of_lines graph_of_line all)
sound_graphs all sound = each_graphs NAMES all (omega arith) sound

pub graphs_are_graphs : GraphsAreGraphs
graphs_are_graphs = λ limit bytes most sound. each_graphs limit (file_lines bytes) most sound

-- lines that are written spell their graphs
all_spell-each : (all : List (List ℕ)) (graphs : List PlainGraph) → AllSpell all graphs → SpellEach (SpellsLine NAMES) all graphs
unfolding SpellEach
all_spell-each [] [] spells = refl
all_spell-each [] (g ∷ graphs) spells = absurd spells
all_spell-each (line ∷ more) [] spells = absurd spells
all_spell-each ([] ∷ more) (g ∷ graphs) spells = absurd (omega (arith, spells-some {limit = NAMES} [] g (omega arith) spells.0))
all_spell-each ((byte ∷ line) ∷ more) (g ∷ graphs) spells = (spells.0, all_spell-each more graphs spells.1)

-- a line that spells a graph keeps its end
spelt-stays : (line : List ℕ) (g : PlainGraph) → SpellsLine NAMES line g → without_return line ≡ line
spelt-stays line g spells = without_return-stays line (spells-bytes line g 13 (omega arith) (λ same. absurd (omega arith)) spells)

stays_each : (all : List (List ℕ)) (graphs : List PlainGraph) → AllSpell all graphs → map without_return all ≡ all
stays_each [] [] spells = refl
stays_each [] (g ∷ graphs) spells = absurd spells
stays_each (line ∷ more) [] spells = absurd spells
stays_each (line ∷ more) (g ∷ graphs) spells =
    let first : without_return line ≡ line = spelt-stays line g spells.0 in
    let rest : map without_return more ≡ more = stays_each more graphs spells.1 in
    λ i. first i ∷ rest i

-- no line holds a line feed
lacks_each : (all : List (List ℕ)) (graphs : List PlainGraph) → AllSpell all graphs
    → (k : ℕ) (d : List ℕ) → k < length all → LacksFeed (get_or all k d)
lacks_each [] graphs spells k d inside = absurd (omega arith)
lacks_each (line ∷ more) [] spells k d inside = absurd spells
lacks_each (line ∷ more) (g ∷ graphs) spells zero d inside = spells-bytes line g 10 (omega arith) (λ same. absurd (omega arith)) spells.0
lacks_each (line ∷ more) (g ∷ graphs) spells (suc k) d inside =
    lacks_each more graphs spells.1 k d (omega arith)

-- a text with another first byte has no header
other_first : (byte : ℕ) (rest : List ℕ) → 62 ≢ byte → without_header (byte ∷ rest) ≡ byte ∷ rest
other_first byte rest other = rw (ne_eqb 62 byte other) refl

-- and the text has no header
no_header : (all : List (List ℕ)) (graphs : List PlainGraph) → AllSpell all graphs → without_header (ended all) ≡ ended all
unfolding ended
no_header [] graphs spells = refl
no_header (line ∷ more) [] spells = absurd spells
no_header ([] ∷ more) (g ∷ graphs) spells = absurd (omega (arith, spells-some {limit = NAMES} [] g (omega arith) spells.0))
no_header ((byte ∷ line) ∷ more) (g ∷ graphs) spells =
    let other : 62 ≢ byte = λ same. spells-bytes (byte ∷ line) g 62 (omega arith) (λ same. absurd (omega arith)) spells.0 0 0 (omega arith) (sym same) in
    other_first byte ((line ++ 10 ∷ []) ++ ended more) other

ended_lines-each : (all : List (List ℕ)) (graphs : List PlainGraph) → AllSpell all graphs → Spells NAMES (ended all) graphs
ended_lines-each all graphs spells =
    rw (no_header all graphs spells, lines-ended all (lacks_each all graphs spells), stays_each all graphs spells)
    (all_spell-each all graphs spells)

-- a file spells one list of graphs
only_one : (limit : ℕ) (bytes : List ℕ) (graphs : List PlainGraph) → limit ≤ NAMES → Spells limit bytes graphs
    → SpellsOnly (Spells limit) bytes graphs
only_one limit bytes graphs most spells = record {
  spells = spells;
  only = λ others spelt.
      sym (spelled_has_no_fault limit bytes others most spelt).1 ∙ (spelled_has_no_fault limit bytes graphs most spells).1;
}

pub ended_lines_spell : EndedLinesSpell
ended_lines_spell = λ all graphs spells. only_one NAMES (ended all) graphs (omega arith) (ended_lines-each all graphs spells)

-- one line, ended
ended-one : (line : List ℕ) → ended (line ∷ []) ≡ line ++ 10 ∷ []
unfolding ended
ended-one line = append-nil (line ++ 10 ∷ [])

pub ended_line_spells : EndedLineSpells
ended_line_spells = λ line g spells. rw (← ended-one line) (ended_lines_spell (line ∷ []) (g ∷ []) (spells, tt))

pub text_spells : TextSpells
text_spells = λ text g is. rw (is.ended) (ended_line_spells is.line (renumbered g) (inl is.spells))

-- what the text is as a file
pub text_sound : {text : List ℕ} {g : PlainGraph} → IsTextOf text g → (first_fault NAMES text ≡ None) × (graphs_of text ≡ renumbered g ∷ [])
text_sound {text} {g} is = spelled_has_no_fault NAMES text (renumbered g ∷ []) (omega arith) (text_spells text g is).spells
