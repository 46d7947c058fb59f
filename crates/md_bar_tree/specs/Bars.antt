-- Bars: four names by which a graph is not trivially perfect, or not a threshold graph.
-- Source: Wolk, The comparability graph of a tree (1962), and Golumbic, Trivially perfect graphs (1978), for trivially perfect
-- graphs; Chvatal and Hammer, Aggregation of inequalities in integer programming (1977), for threshold graphs. The order of the
-- names is our own.
use Rattle.std.specs.Prelude.{◌≡◌, ◌≢◌, ◌<◌, ℕ, Bool, true, false, ⊤}
use Rattle.md_graph.specs.Sets.{NameSet, Has}
use Rattle.md_modules.specs.InducedPaths.{IsInducedPath}
use Rattle.md_bar_tree.specs.declared.Class.{Class}
use Rattle.md_bar_tree.specs.declared.Class.TheVariants.{Trivial, Threshold}
use Rattle.md_bar_tree.specs.declared.BarKind.{BarKind}
use Rattle.md_bar_tree.specs.declared.BarKind.TheVariants.{P4, C4, TwoK2}
use Rattle.md_bar_tree.specs.declared.Bar.{Bar}

-- the four are names of s
abbrev pub AreInside : NameSet → ℕ → ℕ → ℕ → ℕ → Type 0
AreInside s a b c d = Has s a × Has s b × Has s c × Has s d

-- no two of the four are equal
abbrev pub AreDifferent : ℕ → ℕ → ℕ → ℕ → Type 0
AreDifferent a b c d = (a ≢ b) × (a ≢ c) × (a ≢ d) × (b ≢ c) × (b ≢ d) × (c ≢ d)

-- a, b, c, d are four different names of s, the edges among them are exactly ab, bc, cd and da, a is the least, and b < d
pub record IsInducedCycle (e : ℕ → ℕ → Bool) (s : NameSet) (a b c d : ℕ) : Type 0 where
  pub inside : AreInside s a b c d
  pub different : AreDifferent a b c d
  pub edges : (e a b ≡ true) × (e b c ≡ true) × (e c d ≡ true) × (e d a ≡ true)
  pub apart : (e a c ≡ false) × (e b d ≡ false)
  pub ascending : (a < b) × (a < c) × (a < d) × (b < d)

-- a, b, c, d are four different names of s, the edges among them are exactly ab and cd, a < b, c < d, and a < c
pub record AreTwoEdges (e : ℕ → ℕ → Bool) (s : NameSet) (a b c d : ℕ) : Type 0 where
  pub inside : AreInside s a b c d
  pub different : AreDifferent a b c d
  pub edges : (e a b ≡ true) × (e c d ≡ true)
  pub apart : (e a c ≡ false) × (e a d ≡ false) × (e b c ≡ false) × (e b d ≡ false)
  pub ascending : (a < b) × (c < d) × (a < c)

-- bars of this kind bar a graph from the class: a path and a cycle from both, two edges from threshold graphs alone
abbrev pub Bars : BarKind → Class → Type 0
Bars P4 class = ⊤
Bars C4 class = ⊤
Bars TwoK2 Trivial = ⊥
Bars TwoK2 Threshold = ⊤

-- the four names are a bar of this kind in the graph on s
abbrev pub IsBarOfKind : BarKind → (ℕ → ℕ → Bool) → NameSet → ℕ → ℕ → ℕ → ℕ → Type 0
IsBarOfKind P4 e s a b c d = IsInducedPath e s a b c d
IsBarOfKind C4 e s a b c d = IsInducedCycle e s a b c d
IsBarOfKind TwoK2 e s a b c d = AreTwoEdges e s a b c d

-- a bar of the class in the graph on s
pub record IsBar (class : Class) (e : ℕ → ℕ → Bool) (s : NameSet) (bar : Bar) : Type 0 where
  pub bars : Bars bar.kind class
  pub is : IsBarOfKind bar.kind e s bar.a bar.b bar.c bar.d

-- the graph on s isn't of the class
abbrev pub HasBar : Class → (ℕ → ℕ → Bool) → NameSet → Type 0
HasBar class e s = (bar : Bar) × IsBar class e s bar
