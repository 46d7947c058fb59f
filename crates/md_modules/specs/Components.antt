-- Components of the graph on a set of names, and of its complement.
-- Source: any textbook of graph theory.
use Rattle.std.specs.Prelude.{◌≡◌, ℕ}
use Rattle.md_graph.specs.Sets.{NameSet, Has, Lacks, Within}

-- no edge leads from part to the rest of s (`joined` is false), or no edge of the complement does
-- (`joined` is true); of any colouring: every pair from part to the rest has the colour `joined`
pub record IsClosed {C : Type 0} (e : ℕ → ℕ → C) (s part : NameSet) (joined : C) : Type 0 where
  pub inside : Within part s
  pub across : (a b : ℕ) → Has part a → Has s b → Lacks part b → e a b ≡ joined

-- c is the component of x in the graph on s (`joined` is false) or in its complement (`joined` is
-- true): the least closed part that holds x, for any colour
pub record IsComponent {C : Type 0} (e : ℕ → ℕ → C) (s : NameSet) (x : ℕ) (c : NameSet) (joined : C)
    : Type 0 where
  pub holds : Has c x
  pub closed : IsClosed e s c joined
  pub least : (part : NameSet) → IsClosed e s part joined → Has part x → Within c part
