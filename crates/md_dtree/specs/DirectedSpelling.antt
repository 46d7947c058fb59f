-- How trees of directed graphs are spelled, and what their nodes may be.
-- Source: this project's own format of trees.
use Rattle.std.specs.Prelude.{◌≢◌, ◌<◌, ℕ, Bool, true, false}
use Rattle.md_tree.specs.Spellings.{KindRules, PairRules, Spelling, spelling}
use Rattle.md_dtree.specs.declared.DKind.{DKind}
use Rattle.md_dtree.specs.declared.DKind.TheVariants.{Parallel, Series, Order, Prime}
use Rattle.md_dtree.specs.declared.DPair.{DPair}

-- P, S, O and R
abbrev pub directed_letter : DKind → ℕ
directed_letter Parallel = 80
directed_letter Series = 83
directed_letter Order = 79
directed_letter Prime = 82

-- prime nodes list pairs
abbrev pub lists_arcs : DKind → Bool
lists_arcs Parallel = false
lists_arcs Series = false
lists_arcs Order = false
lists_arcs Prime = true

-- the children of an order node stand in its order, those of another one by their least names
abbrev pub stands_by_names : DKind → Bool
stands_by_names Parallel = true
stands_by_names Series = true
stands_by_names Order = false
stands_by_names Prime = true

-- a prime node has three children or more, another one two
abbrev pub least_children : DKind → ℕ
least_children Parallel = 2
least_children Series = 2
least_children Order = 2
least_children Prime = 3

-- the kinds of the trees of directed graphs
abbrev pub directed_kinds : KindRules DKind
directed_kinds = record {
  letter = directed_letter;
  lists = lists_arcs;
  sorts = stands_by_names;
  least_count = least_children;
}

-- a pair of n children: their positions differ
abbrev pub IsPairOf : ℕ → DPair → Type 0
IsPairOf n p = (p.from ≢ p.to) × (p.from < n) × (p.to < n)

-- the pairs of the trees of directed graphs: two positions, with `>` between
abbrev pub directed_pairs : PairRules DPair
directed_pairs = record {
  first = λ p. p.from;
  second = λ p. p.to;
  pair = λ i j. record { from = i; to = j };
  between = 62;
  IsOf = IsPairOf;
}

-- the trees of directed graphs
abbrev pub directed_spelling : Spelling DKind DPair
directed_spelling = spelling directed_kinds directed_pairs
