-- No part of an outline is prime exactly where no node of its tree is.
use Rattle.std.proofs.Common.{[], ◌∷◌, Option, Some, None}
use Rattle.std.proofs.lemmas.List.Elements.{All-nil, All-push, All-append, All-head, All-tail}
use Rattle.std.specs.List.{All}
use Rattle.std.specs.Prelude.{◌↔◌}
use Rattle.md_text.proofs.ListLemmas.{All-front, All-behind}
use Rattle.md_tree.specs.NoPrimes.{HasNoPrime}
use Rattle.md_tree.specs.Trees.{PlainTree, leaf, node, PlainTrees, no_tree, one_more, count}
use Rattle.md_tree.specs.WellFormed.{HasNoPrimeNode, HaveNoPrimeNode}
use Rattle.md_outline.specs.declared.outline.OutlinePart.TheVariants.{Name, Node}
use Rattle.md_outline.specs.Outlines.{outline_of, row_outline, outline_option}
use Rattle.md_outline.specs.OutlineParts.{IsNoPrimePart}

mutual
  plain_parts : (t : PlainTree) → HasNoPrimeNode t → All IsNoPrimePart (outline_of t)
  plain_parts (leaf v) not = All-push IsNoPrimePart [] (Name v) (All-nil IsNoPrimePart) tt
  plain_parts (node k cs ps) not = All-append IsNoPrimePart (Node k (count cs) ∷ []) (row_outline cs) (All-push IsNoPrimePart [] (Node k (count cs)) (All-nil IsNoPrimePart) not.0) (plain_parts_below cs not.1)

  plain_parts_below : (ts : PlainTrees) → HaveNoPrimeNode ts → All IsNoPrimePart (row_outline ts)
  plain_parts_below no_tree not = All-nil IsNoPrimePart
  plain_parts_below (one_more t ts) not = All-append IsNoPrimePart (outline_of t) (row_outline ts) (plain_parts t not.0) (plain_parts_below ts not.1)

mutual
  no_prime_node : (t : PlainTree) → All IsNoPrimePart (outline_of t) → HasNoPrimeNode t
  no_prime_node (leaf v) all = tt
  no_prime_node (node k cs ps) all = (All-head IsNoPrimePart (Node k (count cs)) (row_outline cs) all, no_prime_below cs (All-tail IsNoPrimePart (Node k (count cs)) (row_outline cs) all))

  no_prime_below : (ts : PlainTrees) → All IsNoPrimePart (row_outline ts) → HaveNoPrimeNode ts
  no_prime_below no_tree all = tt
  no_prime_below (one_more t ts) all = (
    no_prime_node t (All-front IsNoPrimePart (outline_of t) (row_outline ts) all),
    no_prime_below ts (All-behind IsNoPrimePart (outline_of t) (row_outline ts) all),
  )

pub no_prime_parts : (o : Option PlainTree) → HasNoPrime o ↔ All IsNoPrimePart (outline_option o)
no_prime_parts None = (λ not. All-nil IsNoPrimePart, λ all. tt)
no_prime_parts (Some t) = (plain_parts t, no_prime_node t)
