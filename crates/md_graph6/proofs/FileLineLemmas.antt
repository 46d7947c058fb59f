-- What a line of a graph file spells, of either format: a line without fault one graph, and a line with a fault none.
use Rattle.std.proofs.Common.{◌≡◌, ◌≢◌, ℕ, zero, suc, ◌<◌, ◌≤◌, ◌==◌, nat_lt, List, [], ◌∷◌, length, get_or, drop, if◌then◌else◌, None, inl, inr, refl, sym, ap, ◌∙◌, arith}
use Rattle.std.specs.List.{All, AllPass}
use Rattle.std.specs.FinSet as set
use Rattle.std.proofs.lemmas.Bool.{ne_eqb}
use Rattle.std.proofs.lemmas.Bool.Decides.{eqb_tells}
use Rattle.md_graph.specs.declared.TheConstants.{NAMES}
use Rattle.md_graph.specs.PlainGraph.{PlainGraph, IsGraph}
use Rattle.md_graph6.specs.Line.{SpellsGraph6, is_group, graph6_fault, graph_of_graph6}
use Rattle.md_graph6.specs.SparseLine.{sparse_fault, graph_of_sparse}
use Rattle.md_graph6.specs.FileLine.{SpellsLine, line_fault, graph_of_line, from_size}
use Rattle.md_graph6.specs.First.{BeginsWithSize}
use Rattle.md_graph6.proofs.SizeLemmas.{is_group-range}
use Rattle.md_graph6.proofs.SpellLemmas.{name_size, graph6_spells-some, graph6_spells-sound, graph6_spells-graph, graph6_spells-groups, sound-graph6_spells}
use Rattle.md_graph6.proofs.SparseLemmas.{sparse_spells-sound, sparse_spells-graph, sound-sparse_spells, sound_sparse, pairs_is_graph, pairs_vertices}

-- ---- the two cases

pub line_fault-empty : (limit : ℕ) (line : List ℕ) → length line ≡ 0 → line_fault limit line ≡ None
unfolding line_fault
line_fault-empty limit [] none = refl
line_fault-empty limit (byte ∷ rest) none = absurd (omega arith)

pub line_fault-some : (limit : ℕ) (line : List ℕ) → 0 < length line
    → line_fault limit line ≡ (if get_or line 0 0 == 58 then sparse_fault limit (drop 1 line) else graph6_fault limit line)
unfolding line_fault
line_fault-some limit [] some = absurd (omega arith)
line_fault-some limit (byte ∷ rest) some = refl

pub line_fault-dense : (limit : ℕ) (line : List ℕ) → 0 < length line → get_or line 0 0 ≢ 58 → line_fault limit line ≡ graph6_fault limit line
line_fault-dense limit line some other = line_fault-some limit line some ∙ rw (ne_eqb (get_or line 0 0) 58 other) refl

pub line_fault-sparse : (limit : ℕ) (line : List ℕ) → 0 < length line → get_or line 0 0 ≡ 58 → line_fault limit line ≡ sparse_fault limit (drop 1 line)
line_fault-sparse limit line some colon = line_fault-some limit line some ∙ rw colon refl

pub graph-dense : (line : List ℕ) → get_or line 0 0 ≢ 58 → graph_of_line line ≡ graph_of_graph6 line
unfolding graph_of_line
graph-dense line other = rw (ne_eqb (get_or line 0 0) 58 other) refl

pub graph-sparse : (line : List ℕ) → get_or line 0 0 ≡ 58 → graph_of_line line ≡ graph_of_sparse (drop 1 line)
unfolding graph_of_line
graph-sparse line colon = rw colon refl

-- a graph6 line begins with a byte of six bits
begins_dense : {limit : ℕ} (line : List ℕ) (g : PlainGraph) → limit ≤ NAMES → SpellsGraph6 limit line g → get_or line 0 0 ≢ 58
begins_dense line g most s same =
    let range = is_group-range (get_or line 0 0) (graph6_spells-groups line g most s 0 0 (graph6_spells-some line g most s)) in
    omega (arith, range.0, same)

-- ---- what is spelt

pub spells-some : {limit : ℕ} (line : List ℕ) (g : PlainGraph) → limit ≤ NAMES → SpellsLine limit line g → 0 < length line
spells-some line g most (inl s) = graph6_spells-some line g most s
spells-some line g most (inr s) = rw s.1 (omega arith)

pub spells-sound : {limit : ℕ} (line : List ℕ) (g : PlainGraph) → limit ≤ NAMES → SpellsLine limit line g → line_fault limit line ≡ None
spells-sound {limit} line g most (inl s) =
    line_fault-dense limit line (graph6_spells-some line g most s) (begins_dense line g most s) ∙ graph6_spells-sound line g most s
spells-sound {limit} line g most (inr s) =
    rw s.1 (line_fault-sparse limit (58 ∷ s.0) (omega arith) refl ∙ sparse_spells-sound limit s.0 g most s.2)

pub spells-graph : {limit : ℕ} (line : List ℕ) (g : PlainGraph) → limit ≤ NAMES → SpellsLine limit line g → graph_of_line line ≡ g
spells-graph {limit} line g most (inl s) = graph-dense line (begins_dense line g most s) ∙ graph6_spells-graph line g most s
spells-graph {limit} line g most (inr s) = rw s.1 (graph-sparse (58 ∷ s.0) refl ∙ sparse_spells-graph limit s.0 g most s.2)

pub sound-spells : {limit : ℕ} (line : List ℕ) → limit ≤ NAMES → 0 < length line → line_fault limit line ≡ None
    → SpellsLine limit line (graph_of_line line)
sound-spells {limit} line most some sound = elim (eqb_tells (get_or line 0 0) 58) [
  | inl (_, colon) ↦
      let none : sparse_fault limit (drop 1 line) ≡ None = sym (line_fault-sparse limit line some colon) ∙ sound in
      inr (drop 1 line, begins line some colon, rw (graph-sparse line colon) (sound-sparse_spells limit (drop 1 line) most none))
  | inr (_, other) ↦
      let none : graph6_fault limit line ≡ None = sym (line_fault-dense limit line some other) ∙ sound in
      inl (rw (graph-dense line other) (sound-graph6_spells line most some none))
]
  where
    begins : (line : List ℕ) → 0 < length line → get_or line 0 0 ≡ 58 → line ≡ 58 ∷ drop 1 line
    begins [] some colon = absurd (omega (arith, some))
    begins (byte ∷ rest) some colon = ap (λ b. b ∷ rest) colon

-- what is spelt is a graph
pub spells-is_graph : {limit : ℕ} (line : List ℕ) (g : PlainGraph) → limit ≤ NAMES → SpellsLine limit line g → IsGraph g
spells-is_graph line g most (inl s) = s.bits.graph
spells-is_graph line g most (inr s) =
    let sparse = s.2 in rw sparse.edges (pairs_is_graph sparse.body sparse.n (omega (arith, sparse.few, most)))

-- a byte that is none of six bits, nor `:`, stands in no line
pub spells-bytes : (line : List ℕ) (g : PlainGraph) (other : ℕ) → other < 63 → other ≢ 58 → SpellsLine NAMES line g → All (λ byte. byte ≢ other) line
spells-bytes line g other small no_colon (inl s) = λ k d inside same.
    let range = is_group-range (get_or line k d) (graph6_spells-groups {limit = NAMES} line g (omega arith) s k d inside) in omega (arith, range.0)
spells-bytes line g other small no_colon (inr s) =
    let groups = (sound_sparse NAMES s.0 (sparse_spells-sound NAMES s.0 g (omega arith) s.2)).groups in
    rw s.1 (behind s.0 groups)
  where
    at_place : (rest : List ℕ) → AllPass is_group rest → (k d : ℕ) → k < length (58 ∷ rest) → get_or (58 ∷ rest) k d ≡ other → ⊥
    at_place rest groups zero d inside same = no_colon (sym same)
    at_place rest groups (suc k) d inside same =
        let range = is_group-range (get_or rest k d) (groups k d (omega (arith, inside))) in omega (arith, range.0, same, small)

    behind : (rest : List ℕ) → AllPass is_group rest → All (λ byte. byte ≢ other) (58 ∷ rest)
    behind rest groups = λ k d inside same. at_place rest groups k d inside same

-- ---- its size

-- a graph's vertices are the numbers below n
abbrev pub HasNumbers : ℕ → PlainGraph → Type 0
HasNumbers n g = (v : ℕ) → set.contains g.vertices v ≡ nat_lt v n

-- a line begins with the number of the vertices of a graph, behind a `:`
pub record IsSized (line : List ℕ) (g : PlainGraph) : Type 0 where
  pub n : ℕ
  pub size : BeginsWithSize n (from_size line)
  pub vertices : HasNumbers n g
  pub few : n ≤ NAMES

pub spells-sized : (line : List ℕ) (g : PlainGraph) → SpellsLine NAMES line g → IsSized line g
spells-sized line g (inl s) =
    let other = begins_dense {limit = NAMES} line g (omega arith) s in
    record {
      n = s.n;
      size = rw (ne_eqb (get_or line 0 0) 58 other) (record { behind = s.body; whole = s.text; small = name_size s.n s.few });
      vertices = s.bits.vertices;
      few = s.few;
    }
spells-sized line g (inr s) =
    let sparse = s.2 in
    record {
      n = sparse.n;
      size = rw s.1 (record { behind = sparse.body; whole = sparse.text; small = name_size sparse.n sparse.few });
      vertices = λ v. ap (λ h. set.contains h.vertices v) sparse.edges ∙ pairs_vertices sparse.body sparse.n v;
      few = sparse.few;
    }
