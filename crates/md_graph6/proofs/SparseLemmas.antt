-- What a sparse6 line spells behind its `:`: where it has no fault one graph, and else none.
use Rattle.std.proofs.Common.{◌≡◌, ℕ, ◌-◌, ◌<◌, ◌≤◌, Bool, true, false, not, nat_lt, List, [], ◌∷◌, ◌++◌, length, take, drop, if◌then◌else◌, Option, None, Some, refl, sym, ap, ◌∙◌, arith}
use Rattle.std.specs.List.{list_all, AllPass}
use Rattle.std.proofs.lemmas.Bool.Decides.{nat_tests}
use Rattle.std.proofs.lemmas.List.Sums.{list_all-from_AllPass, AllPass-from_list_all}
use Rattle.std.proofs.Math.Seq.{drop-append_seam}
use Rattle.std.proofs.lemmas.List.Elements.{All-drop}
use Rattle.std.proofs.lemmas.List.Folds.{list_all-append}
use Rattle.md_graph.specs.declared.TheConstants.{NAMES}
use Rattle.std.specs.FinSet as set
use Rattle.std.proofs.lemmas.List.{take_rest}
use Rattle.md_graph.specs.NameSet.{AllBelow}
use Rattle.md_graph.specs.PlainGraph.{PlainGraph, IsGraph}
use Rattle.md_graph6.specs.declared.fault.G6Kind.{G6Kind}
use Rattle.md_graph6.specs.declared.fault.G6Kind.TheVariants.{BadByte, BadSize, TooManyVertices, Truncated, Loop}
use Rattle.md_graph6.specs.Size.{size_text, size_of, is_too_long}
use Rattle.md_graph6.specs.Line.{is_group}
use Rattle.md_graph6.specs.Sparse.{is_pair_edge, has_loop, graph_of_pairs}
use Rattle.md_graph6.proofs.DecodeLemmas.{contains-numbers_below, numbers_few, numbered_is_graph}
use Rattle.md_graph6.specs.SparseLine.{SpellsSparse, pairs_fault, sparse_size_fault, sparse_fault, graph_of_sparse_size, graph_of_sparse}
use Rattle.md_graph6.proofs.SizeLemmas.{size_text-read, size_text-shortest, size_text-groups, size_text-some, size_text-spelt}
use Rattle.md_graph6.proofs.SpellLemmas.{name_size}

-- ---- the faults

pub sparse_fault-empty : (limit : ℕ) (rest : List ℕ) → length rest ≡ 0 → sparse_fault limit rest ≡ Some Truncated
unfolding sparse_fault
sparse_fault-empty limit [] none = refl
sparse_fault-empty limit (byte ∷ more) none = absurd (omega arith)

pub sparse_fault-some : (limit : ℕ) (rest : List ℕ) → 0 < length rest
    → sparse_fault limit rest ≡ (if not (list_all is_group rest) then Some BadByte else sparse_size_fault limit rest (size_of rest))
unfolding sparse_fault
sparse_fault-some limit [] some = absurd (omega arith)
sparse_fault-some limit (byte ∷ more) some = refl

pub sparse_fault-sized : (limit : ℕ) (rest : List ℕ) (size : Option (ℕ × ℕ)) → 0 < length rest → list_all is_group rest ≡ true
    → size_of rest ≡ size → sparse_fault limit rest ≡ sparse_size_fault limit rest size
sparse_fault-sized limit rest size some groups sized = sparse_fault-some limit rest some ∙ rw (groups, sized) refl

-- the bytes of a size are there
pub size_inside : (line : List ℕ) (taken n : ℕ) → 0 < length line → size_of line ≡ Some (taken, n) → taken ≤ length line
unfolding size_of
size_inside line taken n some sized = grind (arith, nat_tests)

-- what the faults behind the size rule out
pub record IsSoundPairs (limit : ℕ) (rest : List ℕ) (taken n : ℕ) : Type 0 where
  pub shortest : is_too_long taken n ≡ false
  pub few : n ≤ limit
  pub no_loop : has_loop (drop taken rest) n ≡ false

-- what all faults rule out
pub record IsSoundSparse (limit : ℕ) (rest : List ℕ) : Type 0 where
  pub groups : AllPass is_group rest
  pub taken : ℕ
  pub n : ℕ
  pub sized : size_of rest ≡ Some (taken, n)
  pub pairs : IsSoundPairs limit rest taken n

pairs_fault-none : (limit : ℕ) (rest : List ℕ) (taken n : ℕ) → pairs_fault limit rest taken n ≡ None → IsSoundPairs limit rest taken n
unfolding pairs_fault
pairs_fault-none limit rest taken n e =
    let facts = by_tests (is_too_long taken n) (has_loop (drop taken rest) n) limit n e in
    record { shortest = facts.0; few = facts.1; no_loop = facts.2 }
  where
    by_tests : (long loop : Bool) (limit n : ℕ)
        → (if long then Some BadSize else if nat_lt limit n then Some TooManyVertices else if loop then Some Loop else None) ≡ None
        → (long ≡ false) × (n ≤ limit) × (loop ≡ false)
    by_tests long loop limit n e = (grind (arith, nat_tests), grind (arith, nat_tests), grind (arith, nat_tests))

size_fault-none : (limit : ℕ) (rest : List ℕ) (size : Option (ℕ × ℕ)) → AllPass is_group rest → size_of rest ≡ size
    → sparse_size_fault limit rest size ≡ None → IsSoundSparse limit rest
unfolding sparse_size_fault
size_fault-none limit rest None groups sized sound = cc
size_fault-none limit rest (Some size) groups sized sound = record {
  groups = groups;
  taken = size.0;
  n = size.1;
  sized = sized;
  pairs = pairs_fault-none limit rest size.0 size.1 sound;
}

first_faults-none : (groups : Bool) (later : Option G6Kind) → (if not groups then Some BadByte else later) ≡ None → (groups ≡ true) × (later ≡ None)
first_faults-none true later e = (refl, e)
first_faults-none false later e = cc

pub sound_sparse : (limit : ℕ) (rest : List ℕ) → sparse_fault limit rest ≡ None → IsSoundSparse limit rest
sound_sparse limit [] sound = let none : sparse_fault limit [] ≡ Some Truncated = sparse_fault-empty limit [] refl in cc
sound_sparse limit (byte ∷ more) sound =
    let parts = first_faults-none (list_all is_group (byte ∷ more)) (sparse_size_fault limit (byte ∷ more) (size_of (byte ∷ more)))
    (sym (sparse_fault-some limit (byte ∷ more) (omega arith)) ∙ sound) in
    size_fault-none limit (byte ∷ more) (size_of (byte ∷ more)) (AllPass-from_list_all is_group (byte ∷ more) parts.0) refl parts.1

-- ---- what is spelt

-- what spells a graph has no fault, and is decoded to that graph
pub sparse_spells-some : (limit : ℕ) (rest : List ℕ) (g : PlainGraph) → limit ≤ NAMES → SpellsSparse limit rest g → 0 < length rest
sparse_spells-some limit rest g names s = rw s.text (size_text-some s.n s.body (name_size s.n (omega (arith, s.few, names))))

text_sound : (limit n : ℕ) (body : List ℕ) → n ≤ limit → limit ≤ NAMES → AllPass is_group body → has_loop body n ≡ false
    → sparse_fault limit (size_text n ++ body) ≡ None
unfolding sparse_size_fault pairs_fault
text_sound limit n body few names groups no_loop =
    let small = name_size n (omega (arith, few, names)) in
    let some : 0 < length (size_text n ++ body) = size_text-some n body small in
    let pass : list_all is_group (size_text n ++ body) ≡ true =
    list_all-append is_group (size_text n) body ∙ rw (size_text-groups n small, list_all-from_AllPass is_group body groups) refl in
    let within : nat_lt limit n ≡ false = grind (arith, nat_tests) in
    sparse_fault-sized limit (size_text n ++ body) (Some (length (size_text n), n)) some pass (size_text-read n body small)
    ∙ rw (size_text-shortest n small, within, drop-append_seam (size_text n) body, no_loop) refl

pub sparse_spells-sound : (limit : ℕ) (rest : List ℕ) (g : PlainGraph) → limit ≤ NAMES → SpellsSparse limit rest g → sparse_fault limit rest ≡ None
sparse_spells-sound limit rest g names s = rw s.text (text_sound limit s.n s.body s.few names s.groups s.no_loop)

text_graph : (n : ℕ) (body : List ℕ) → n ≤ NAMES → graph_of_sparse (size_text n ++ body) ≡ graph_of_pairs body n
unfolding graph_of_sparse_size
text_graph n body few = rw (size_text-read n body (name_size n few), drop-append_seam (size_text n) body) refl

pub sparse_spells-graph : (limit : ℕ) (rest : List ℕ) (g : PlainGraph) → limit ≤ NAMES → SpellsSparse limit rest g → graph_of_sparse rest ≡ g
sparse_spells-graph limit rest g names s =
    let few : s.n ≤ NAMES = omega (arith, s.few, names) in
    rw s.text (text_graph s.n s.body few) ∙ sym s.edges

pub sparse_some : (limit : ℕ) (rest : List ℕ) → sparse_fault limit rest ≡ None → 0 < length rest
sparse_some limit [] sound = let none : sparse_fault limit [] ≡ Some Truncated = sparse_fault-empty limit [] refl in cc
sparse_some limit (byte ∷ more) sound = omega arith

-- what has no fault spells the graph that is decoded
pub sound-sparse_spells : (limit : ℕ) (rest : List ℕ) → limit ≤ NAMES → sparse_fault limit rest ≡ None → SpellsSparse limit rest (graph_of_sparse rest)
unfolding graph_of_sparse_size
sound-sparse_spells limit rest names sound =
    let facts : IsSoundSparse limit rest = sound_sparse limit rest sound in
    record {
      n = facts.n;
      body = drop facts.taken rest;
      few = facts.pairs.few;
      text = size_text-spelt rest facts.taken facts.n (sparse_some limit rest sound) facts.groups facts.sized facts.pairs.shortest (name_size facts.n (omega (arith, facts.pairs.few, names)));
      groups = All-drop (λ byte. is_group byte ≡ true) facts.taken rest facts.groups;
      no_loop = facts.pairs.no_loop;
      edges = rw (facts.sized) refl;
    }

-- ---- what is read

-- the size is there, and what stands behind it has no fault
pub sound_sparse-sized : (rest : List ℕ) → sparse_fault NAMES rest ≡ None → size_of rest ≡ None → ⊥
sound_sparse-sized rest sound none =
    let facts : IsSoundSparse NAMES rest = sound_sparse NAMES rest sound in
    cc (facts.sized)

pub sound_sparse-pairs : (rest : List ℕ) (taken n : ℕ) → sparse_fault NAMES rest ≡ None → size_of rest ≡ Some (taken, n)
    → IsSoundPairs NAMES rest taken n
unfolding sparse_size_fault
sound_sparse-pairs rest taken n sound sized =
    let groups : list_all is_group rest ≡ true = list_all-from_AllPass is_group rest (sound_sparse NAMES rest sound).groups in
    pairs_fault-none NAMES rest taken n (sym (sparse_fault-sized NAMES rest (Some (taken, n)) (sparse_some NAMES rest sound) groups sized) ∙ sound)

-- a size has room where the vertices have
pub sparse_fits : (rest : List ℕ) (taken n m : ℕ) → size_of rest ≡ Some (taken, n) → AllBelow (graph_of_sparse rest).vertices m → n ≤ m
unfolding graph_of_sparse_size graph_of_pairs
sparse_fits rest taken n m sized below = numbers_few n m (rw sized at below)

-- a graph that is filled from what stands behind the size
pub filled_is_sparse : (rest : List ℕ) (taken n : ℕ) (g : PlainGraph) → size_of rest ≡ Some (taken, n)
    → g ≡ graph_of_pairs (take (length rest - taken) (drop taken rest)) n → g ≡ graph_of_sparse rest
unfolding graph_of_sparse_size
filled_is_sparse rest taken n g sized is = rw sized (is ∙ ap (λ body. graph_of_pairs body n) (take_rest rest taken))

-- what is spelt is a graph
pub pairs_is_graph : (body : List ℕ) (n : ℕ) → n ≤ NAMES → IsGraph (graph_of_pairs body n)
unfolding graph_of_pairs
pairs_is_graph body n few = numbered_is_graph (is_pair_edge body n) n few

pub pairs_vertices : (body : List ℕ) (n v : ℕ) → set.contains (graph_of_pairs body n).vertices v ≡ nat_lt v n
unfolding graph_of_pairs
pairs_vertices body n v = contains-numbers_below n v
