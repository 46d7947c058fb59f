-- How the directed graphs of a text without fault are read, one after the other.
use Rattle.std.proofs.Common.{◌≡◌, ℕ, ◌<◌, ◌≤◌, nat_lt, List, [], ◌∷◌, length, drop, None, ap, subst, sym, arith}
use Rattle.std.specs.FinSet as set
use Rattle.std.specs.List.{All}
use Rattle.md_digraph.specs.declared.TheConstants.{DIRECTED_NAMES}
use Rattle.md_digraph.specs.PlainDigraph.{PlainDigraph, IsDigraph}
use Rattle.md_graph6.specs.First.{BeginsWithSize}
use Rattle.md_graph6.specs.File.{stripped_lines}
use Rattle.md_graph6.proofs.FirstLemmas.{few_numbers, numbers_below}
use Rattle.md_digraph6.specs.ArcLine.{SpellsArcLine, arc_line_fault, digraph_of_line}
use Rattle.md_digraph6.specs.ArcFile.{HasNoArcFault, digraphs_in}
use Rattle.md_digraph6.specs.FirstDigraph.{FirstDigraphBelow}
use Rattle.md_digraph6.proofs.ArcFiles.{sound_digraphs}
use Rattle.md_digraph6.proofs.ArcLines.{directed_size, sound-spells_arc}

-- the size that stands behind the `&` of a line
pub record IsLeadingSize (n : ℕ) (line : List ℕ) : Type 0 where
  pub size : BeginsWithSize n (drop 1 line)
  pub few : n ≤ DIRECTED_NAMES
  pub vertices : (v : ℕ) → set.contains (digraph_of_line line).vertices v ≡ nat_lt v n

pub leading_size : (line : List ℕ) → 0 < length line → arc_line_fault line ≡ None → (n : ℕ) × IsLeadingSize n line
leading_size line some sound =
    let s : SpellsArcLine line (digraph_of_line line) = sound-spells_arc line some sound in (
      s.n,
      record {
        size = record { behind = s.body; whole = ap (drop 1) s.text; small = directed_size s.n s.few };
        few = s.few;
        vertices = s.bits.vertices;
      },
    )

-- it is the least number above all vertices of the first directed graph
pub size_below : (n : ℕ) (line : List ℕ) (more digraphs : List PlainDigraph) → digraphs ≡ digraph_of_line line ∷ more → IsLeadingSize n line → FirstDigraphBelow n digraphs
size_below n line more digraphs e is =
    subst (FirstDigraphBelow n) (sym e) (few_numbers n (digraph_of_line line).vertices n is.vertices (omega arith))

pub size_least : (n m : ℕ) (line : List ℕ) (more digraphs : List PlainDigraph) → digraphs ≡ digraph_of_line line ∷ more → IsLeadingSize n line
    → FirstDigraphBelow m digraphs → n ≤ m
size_least n m line more digraphs e is below =
    numbers_below n (digraph_of_line line).vertices m is.vertices (subst (FirstDigraphBelow m) e below)

pub none_below : (n : ℕ) (digraphs : List PlainDigraph) → digraphs ≡ [] → FirstDigraphBelow n digraphs
none_below n digraphs e = subst (FirstDigraphBelow n) (sym e) tt

-- names are below the limit of names
digraphs_fit : (digraphs : List PlainDigraph) → All IsDigraph digraphs → FirstDigraphBelow DIRECTED_NAMES digraphs
digraphs_fit [] all = tt
digraphs_fit (g ∷ more) all = (all 0 g (omega arith)).names

pub text_fits : (text : List ℕ) → HasNoArcFault (stripped_lines text) → FirstDigraphBelow DIRECTED_NAMES (digraphs_in text)
text_fits text sound = digraphs_fit (digraphs_in text) (sound_digraphs (stripped_lines text) sound)
