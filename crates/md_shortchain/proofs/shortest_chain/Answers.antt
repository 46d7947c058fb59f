use Rattle.std.proofs.Common.{subst}
use Rattle.md_graph.specs.declared.TheConstants.{NAMES}
use Rattle.md_graph.specs.PlainGraph.{adjacent}
use Rattle.md_forcing.specs.declared.arc_set.Side.TheVariants.{Edges}
use Rattle.md_comparability.specs.Laws.{MeetsPremises}
use Rattle.md_comparability.proofs.Reached.{side_premises}
use Rattle.md_comparability.proofs.Alternative.{chain_has_no_orientation}
use Rattle.md_orient.specs.Verdicts.{IsVerdict}
use Rattle.md_shortchain.proofs.shortest_chain.Goals as goal

pub returns-clause-none : goal.returns-clause-none
returns-clause-none g c has =
    let side : MeetsPremises (adjacent c.args.graph.now) = side_premises c.vertices-vertices.ensures.graph Edges in
    let verdict = subst (IsVerdict (adjacent c.args.graph.now)) c.in-Transitive.is c.in_ok-chain.ensures in
    chain_has_no_orientation (adjacent c.args.graph.now) side.adjacency NAMES side.below has verdict.0
