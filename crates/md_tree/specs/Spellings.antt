-- How trees are spelled, and what their nodes may be: the letters and rules of kinds, the positions and rules of pairs.
-- Source: this project's own format of trees.
use Rattle.std.specs.Prelude.{◌≡◌, ◌≢◌, ◌<◌, ◌≤◌, ◌⊎◌, ℕ, Bool, true, false}
use Rattle.md_text.specs.Fronts.{IsDigit}
use Rattle.md_tree.specs.declared.Kind.{Kind}
use Rattle.md_tree.specs.declared.Kind.TheVariants.{Parallel, Series, Prime}
use Rattle.md_tree.specs.declared.Pair.{Pair}

-- of the nodes of a kind: their letter, whether they list pairs, whether their children stand in ascending order of their
-- least names, and how many children they have at least
pub record KindRules (K : Type 0) : Type 0 where
  pub letter : K → ℕ
  pub lists : K → Bool
  pub sorts : K → Bool
  pub least_count : K → ℕ

-- of pairs: their two positions, the pair of two positions, the mark between them, and which pairs are of n children
pub record PairRules (P : Type 0) : Type 1 where
  pub first : P → ℕ
  pub second : P → ℕ
  pub pair : ℕ → ℕ → P
  pub between : ℕ
  pub IsOf : ℕ → P → Type 0

-- the rules of the kinds and the pairs of trees
pub record Spelling (K P : Type 0) : Type 1 where
  pub kinds : KindRules K
  pub pairs : PairRules P

-- both rules together
abbrev pub spelling : {K P : Type 0} → KindRules K → PairRules P → Spelling K P
spelling kinds pairs = record { kinds = kinds; pairs = pairs }

-- letters tell the kinds, and are neither digits nor the first letter of the word `empty`; no node has a child alone
pub record AreKindRules {K : Type 0} (r : KindRules K) : Type 0 where
  pub one_letter : (k l : K) → r.letter k ≡ r.letter l → k ≡ l
  pub no_digit : (k : K) → ¬ (IsDigit (r.letter k))
  pub no_word : (k : K) → r.letter k ≢ 101
  pub two : (k : K) → 2 ≤ r.least_count k

-- a pair is its two positions, which differ and are below n in a pair of n children; no digit stands between them
pub record ArePairRules {P : Type 0} (r : PairRules P) : Type 0 where
  pub first_of : (i j : ℕ) → r.first (r.pair i j) ≡ i
  pub second_of : (i j : ℕ) → r.second (r.pair i j) ≡ j
  pub pair_of : (p : P) → r.pair (r.first p) (r.second p) ≡ p
  pub no_digit : ¬ (IsDigit r.between)
  pub apart : (n : ℕ) (p : P) → r.IsOf n p → r.first p ≢ r.second p
  pub first_below : (n : ℕ) (p : P) → r.IsOf n p → r.first p < n
  pub second_below : (n : ℕ) (p : P) → r.IsOf n p → r.second p < n

-- both are rules of a spelling, so that a text tells its tree
pub record IsSpelling {K P : Type 0} (sp : Spelling K P) : Type 0 where
  pub kinds : AreKindRules sp.kinds
  pub pairs : ArePairRules sp.pairs

-- the one pair comes before the other, by the first and then by the second position
abbrev pub IsPairBeforeBy : {P : Type 0} → PairRules P → P → P → Type 0
IsPairBeforeBy r p q = (r.first p < r.first q) ⊎ ((r.first p ≡ r.first q) × (r.second p < r.second q))

-- P, S and R
abbrev pub letter : Kind → ℕ
letter Parallel = 80
letter Series = 83
letter Prime = 82

-- prime nodes list pairs
abbrev pub is_prime : Kind → Bool
is_prime Parallel = false
is_prime Series = false
is_prime Prime = true

-- a prime node has four children or more, another one two
abbrev pub least_count : Kind → ℕ
least_count Parallel = 2
least_count Series = 2
least_count Prime = 4

-- the kinds of the trees of graphs
abbrev pub graph_kinds : KindRules Kind
graph_kinds = record { letter = letter; lists = is_prime; sorts = λ k. true; least_count = least_count }

-- the pairs of the trees of graphs: two positions, the lower first, with a hyphen between
abbrev pub graph_pairs : PairRules Pair
graph_pairs = record {
  first = λ p. p.low;
  second = λ p. p.high;
  pair = λ i j. record { low = i; high = j };
  between = 45;
  IsOf = λ n p. (p.low < p.high) × (p.high < n);
}

-- the trees of graphs
abbrev pub graph_spelling : Spelling Kind Pair
graph_spelling = spelling graph_kinds graph_pairs
