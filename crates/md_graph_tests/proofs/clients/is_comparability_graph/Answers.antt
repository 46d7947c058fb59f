use Rattle.std.proofs.Common.{◌≡◌, true, false, subst}
use Rattle.md_graph.specs.PlainGraph.{adjacent}
use Rattle.md_graph.specs.declared.TheConstants.{NAMES}
use Rattle.md_forcing.specs.declared.arc_set.Side.TheVariants.{Edges}
use Rattle.md_comparability.proofs.Alternative.{alternative_proof}
use Rattle.md_comparability.proofs.Reached.{sides_proof}
use Rattle.md_orient.specs.Verdicts.{IsVerdict}
use Rattle.md_graph_tests.proofs.clients.is_comparability_graph.Goals as goal

pub returns : goal.returns
returns g c =
    let e = adjacent c.args.graph.now in
    let side = (sides_proof c.args.graph.now c.vertices-vertices.ensures.graph).side Edges in
    let chain = subst (IsVerdict e) c.in-Forced.is c.in_ok-orient.ensures in
    record {
      oriented = (
        λ f. absurd (let no : false ≡ true = f in cc),
        λ has. absurd ((alternative_proof e side.adjacency NAMES side.below).not_both (_, chain.chain) has),
      );
    }
