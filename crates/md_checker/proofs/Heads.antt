-- The heads of the children of a node: each is the least name of its child.
use Rattle.std.proofs.Common.{sym, subst, inl, inr}
use Rattle.md_graph.specs.Sets.{Has}
use Rattle.md_tree.specs.Trees.{PlainTree, PlainTrees, no_tree, one_more, names, EachNodeBelow}
use Rattle.md_tree.specs.WellFormed.{IsCanonicalNode}
use Rattle.md_tree.specs.Heads.{head}
use Rattle.md_tree.proofs.Nodes.{IsChild}
use Rattle.md_outline.proofs.Heads.{tree_head, head_least}
use Rattle.md_checker.specs.Fits.{HeadsAreLeast}

pub least_proof : HeadsAreLeast
least_proof t canon = record { member = tree_head t canon; first = head_least t canon }

-- each of the trees has its head
abbrev pub HaveHeads : PlainTrees → Type 0
HaveHeads cs = (c : PlainTree) → IsChild cs c → Has (names c) (head c)

pub have_heads : (cs : PlainTrees) → EachNodeBelow IsCanonicalNode cs → HaveHeads cs
have_heads no_tree each c i = absurd i
have_heads (one_more t ts) each c (inl e) = subst (λ w. Has (names w) (head w)) (sym e) (tree_head t each.0)
have_heads (one_more t ts) each c (inr i) = have_heads ts each.1 c i
