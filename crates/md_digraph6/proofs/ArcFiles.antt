-- What a digraph6 file spells.
use Rattle.std.proofs.Common.{ℕ, List, [], refl}
use Rattle.std.specs.List.{All}
use Rattle.md_digraph.specs.PlainDigraph.{IsDigraph}
use Rattle.md_graph6.specs.File.{graphs_of_lines}
use Rattle.md_graph6.proofs.FileLemmas.{AreLines, each_sound, sound_each, spelled_or_fault, all_each}
use Rattle.md_digraph6.specs.ArcLine.{SpellsArcLine, arc_line_fault, digraph_of_line}
use Rattle.md_digraph6.specs.ArcFile.{arc_lines, HasNoArcFault}
use Rattle.md_digraph6.specs.Laws.{SpellsItsDigraphsOrNothing, SpelledAreItsDigraphs, DigraphsAreDigraphs}
use Rattle.md_digraph6.proofs.ArcLines.{arc_line_fault-empty, spells_arc-sound, spells_arc-digraph, sound-spells_arc}

arc_are_lines : AreLines SpellsArcLine arc_line_fault digraph_of_line
arc_are_lines = record {
  empty = arc_line_fault-empty [] refl;
  sound = spells_arc-sound;
  graph = spells_arc-digraph;
  spells = sound-spells_arc;
}

pub spelled_or_arc_fault : SpellsItsDigraphsOrNothing
spelled_or_arc_fault = λ bytes. spelled_or_fault arc_are_lines arc_lines bytes

pub spelled_are_digraphs : SpelledAreItsDigraphs
spelled_are_digraphs = λ bytes digraphs spells. each_sound arc_are_lines (arc_lines bytes) digraphs 0 spells

pub sound_digraphs : (all : List (List ℕ)) → HasNoArcFault all → All IsDigraph (graphs_of_lines digraph_of_line all)
sound_digraphs all sound =
    all_each IsDigraph (λ line g spells. spells.bits.digraph) all (graphs_of_lines digraph_of_line all) (sound_each arc_are_lines all 0 sound)

pub digraphs_are_digraphs : DigraphsAreDigraphs
digraphs_are_digraphs = λ bytes sound. sound_digraphs (arc_lines bytes) sound
