use Rattle.std.proofs.Common.{◌≡◌, ◌⊎◌, ℕ, List, true, false, subst, inl, inr}
use Rattle.md_graph.specs.PlainGraph.{PlainGraph, IsGraph, adjacent}
use Rattle.md_graph.specs.declared.TheConstants.{NAMES}
use Rattle.md_forcing.specs.declared.arc_set.Side.TheVariants.{Edges, NonEdges}
use Rattle.md_forcing.specs.Sides.{adjacent_on}
use Rattle.md_comparability.specs.Chains.{HasForcingChain}
use Rattle.md_comparability.specs.Orders.{Realise}
use Rattle.md_comparability.proofs.OrderLaws.{no_chain_proof}
use Rattle.md_comparability.proofs.Reached.{sides_proof}
use Rattle.md_orient.specs.Models.{IsModel}
use Rattle.md_graph_tests.proofs.clients.is_permutation_graph.Goals as goal

-- no two orders realise a graph that has a chain, or whose complement has one
no_orders : (g : PlainGraph) → IsGraph g → HasForcingChain (adjacent g) ⊎ HasForcingChain (adjacent_on NonEdges g) →
    (p : List ℕ) × (q : List ℕ) × Realise (adjacent g) g.vertices p q → ⊥
no_orders g is chain orders =
    let two = sides_proof g is in
    let edges = two.side Edges in
    let others = two.side NonEdges in
    let none = (no_chain_proof (adjacent g) (adjacent_on NonEdges g) g.vertices edges.adjacency others.adjacency two.complement NAMES edges.below others.below).0 orders in
    elim chain [ inl c ↦ none.0 c | inr c ↦ none.1 c ]

pub returns-in-ForcedIn : goal.returns-in-ForcedIn
returns-in-ForcedIn g c =
    let graph = c.args.graph.now in
    let chain = subst (IsModel graph) c.in-ForcedIn.is c.in_ok-model.ensures in
    record {
      realised = (
        λ f. absurd (let no : false ≡ true = f in cc),
        λ orders. absurd (no_orders graph c.vertices-vertices.ensures.graph (inl (_, chain.chain)) orders),
      );
    }

pub returns : goal.returns
returns g c =
    let graph = c.args.graph.now in
    let chain = subst (IsModel graph) c.in-ForcedInComplement.is c.in_ok-model.ensures in
    record {
      realised = (
        λ f. absurd (let no : false ≡ true = f in cc),
        λ orders. absurd (no_orders graph c.vertices-vertices.ensures.graph (inr (_, chain.1.chain)) orders),
      );
    }
