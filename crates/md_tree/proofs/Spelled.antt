-- The laws of a spelling, from those of its kinds and of its pairs.
use Rattle.std.proofs.Common.{◌≡◌, ◌≢◌, ◌≤◌, List, refl, rules, arith}
use Rattle.md_tree.specs.declared.Kind.{Kind}
use Rattle.md_tree.specs.declared.Kind.TheVariants.{Parallel, Series, Prime}
use Rattle.md_tree.specs.declared.Pair.{Pair}
use Rattle.md_tree.specs.Trees.{PlainTrees, count}
use Rattle.md_tree.specs.WellFormed.{IsPlainNode}
use Rattle.md_tree.specs.Spellings.{KindRules, PairRules, AreKindRules, ArePairRules, spelling, IsSpelling, least_count, graph_kinds, graph_pairs, graph_spelling}

pub is_spelling : {K P : Type 0} {k : KindRules K} {p : PairRules P} → AreKindRules k → ArePairRules p → IsSpelling (spelling k p)
is_spelling kinds pairs = record { kinds = kinds; pairs = pairs }

-- the trees of graphs are spelled so
pub graph_kinds_law : AreKindRules graph_kinds
graph_kinds_law = search rules

pub graph_pairs_law : ArePairRules graph_pairs
graph_pairs_law = search rules

pub graph_law : IsSpelling graph_spelling
graph_law = is_spelling graph_kinds_law graph_pairs_law

-- a node that is not prime has two children or more
pub least_two : (k : Kind) → k ≢ Prime → least_count k ≡ 2
least_two Parallel not = refl
least_two Series not = refl
least_two Prime not = absurd (not refl)

pub plain_two : {k : Kind} {cs : PlainTrees} {ps : List Pair} → IsPlainNode k cs ps → 2 ≤ count cs
plain_two {k} plain = let two : 2 ≤ least_count k = graph_kinds_law.two k in let enough = plain.enough in omega arith
