-- A sparse6 line behind its `:`: what it spells, and its first fault.
-- Source: B. McKay, "Description of graph6, sparse6 and digraph6 encodings"; the faults are this project's.
use Rattle.std.specs.Prelude.{◌≡◌, ℕ, ◌≤◌, nat_lt, false, not, List, [], ◌∷◌, ◌++◌, drop, if◌then◌else◌, Option, None, Some}
use Rattle.std.specs.List.{AllPass, list_all}
use Rattle.md_graph.specs.PlainGraph.{PlainGraph}
use Rattle.md_graph6.specs.declared.fault.G6Kind.{G6Kind}
use Rattle.md_graph6.specs.declared.fault.G6Kind.TheVariants.{BadByte, BadSize, TooManyVertices, Truncated, Loop}
use Rattle.md_graph6.specs.Size.{size_text, size_of, is_too_long}
use Rattle.md_graph6.specs.Line.{is_group}
use Rattle.md_graph6.specs.Sparse.{has_loop, graph_of_pairs}

-- What stands behind the `:` is a size in its shortest spelling, at most the limit, and pairs, none of which is an
-- edge with equal ends.
pub record SpellsSparse (limit : ℕ) (rest : List ℕ) (g : PlainGraph) : Type 0 where
  pub n : ℕ
  pub body : List ℕ
  pub few : n ≤ limit
  pub text : rest ≡ size_text n ++ body
  pub groups : AllPass is_group body
  pub no_loop : has_loop body n ≡ false
  pub edges : g ≡ graph_of_pairs body n

-- the first fault where the first `taken` bytes spell the size n
unfoldable pub pairs_fault : ℕ → List ℕ → ℕ → ℕ → Option G6Kind
pairs_fault limit rest taken n =
    if is_too_long taken n then Some BadSize else
    if nat_lt limit n then Some TooManyVertices else
    if has_loop (drop taken rest) n then Some Loop else None

-- the same, of a size as `size_of` gives it
unfoldable pub sparse_size_fault : ℕ → List ℕ → Option (ℕ × ℕ) → Option G6Kind
sparse_size_fault limit rest None = Some Truncated
sparse_size_fault limit rest (Some size) = pairs_fault limit rest size.0 size.1

-- the first fault of what stands behind the `:` of a line
unfoldable pub sparse_fault : ℕ → List ℕ → Option G6Kind
sparse_fault limit [] = Some Truncated
sparse_fault limit (byte ∷ more) =
    if not (list_all is_group (byte ∷ more)) then Some BadByte else
    sparse_size_fault limit (byte ∷ more) (size_of (byte ∷ more))

-- the graph that it spells where it has no fault, of a size as `size_of` gives it
unfoldable pub graph_of_sparse_size : List ℕ → Option (ℕ × ℕ) → PlainGraph
graph_of_sparse_size rest None = graph_of_pairs rest 0
graph_of_sparse_size rest (Some size) = graph_of_pairs (drop size.0 rest) size.1

-- the graph that a line without fault spells behind its `:`
abbrev pub graph_of_sparse : List ℕ → PlainGraph
graph_of_sparse rest = graph_of_sparse_size rest (size_of rest)
