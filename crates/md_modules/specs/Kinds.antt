-- The kinds of a set of names with two or more members: parallel, series and prime.
-- Source: Gallai, Transitiv orientierbare Graphen.
use Rattle.std.specs.Prelude.{◌≡◌, ℕ, Bool, true, false}
use Rattle.md_graph.specs.Sets.{NameSet, Has, Lacks, Within, HasSome, HasTwo}

-- part and the rest of s are both nonempty, and every pair across is adjacent (`joined` is true),
-- or no pair across is (`joined` is false); of any colouring: every pair from part to the rest has
-- the colour `joined`
pub record IsSplit {C : Type 0} (e : ℕ → ℕ → C) (s part : NameSet) (joined : C) : Type 0 where
  pub some : HasSome part
  pub inside : Within part s
  pub rest : (x : ℕ) × Has s x × Lacks part x
  pub across : (a b : ℕ) → Has part a → Has s b → Lacks part b → e a b ≡ joined

-- s splits into two nonempty parts with no edge across
abbrev pub IsParallel : (ℕ → ℕ → Bool) → NameSet → Type 0
IsParallel e s = (part : NameSet) × IsSplit e s part false

-- s splits into two nonempty parts with every edge across
abbrev pub IsSeries : (ℕ → ℕ → Bool) → NameSet → Type 0
IsSeries e s = (part : NameSet) × IsSplit e s part true

-- the graph on s is connected: no name, one name, or no split without an edge across
abbrev pub IsConnected : (ℕ → ℕ → Bool) → NameSet → Type 0
IsConnected e s = ¬ (IsParallel e s)

-- the complement on s is connected
abbrev pub IsCoConnected : (ℕ → ℕ → Bool) → NameSet → Type 0
IsCoConnected e s = ¬ (IsSeries e s)

-- The kind of a node: s has two members, and neither split. (A prime graph, whose modules are
-- trivial, is another thing: `HasTrivialModulesAlone`. Of a node of this kind the quotient is one.)
pub record IsPrime (e : ℕ → ℕ → Bool) (s : NameSet) : Type 0 where
  pub two : HasTwo s
  pub connected : IsConnected e s
  pub co_connected : IsCoConnected e s

-- s has two members, and no split of any colour: in a graph, s is prime
pub record IsUnsplit {C : Type 0} (e : ℕ → ℕ → C) (s : NameSet) : Type 0 where
  pub two : HasTwo s
  pub unsplit : (joined : C) (part : NameSet) → ¬ (IsSplit e s part joined)
