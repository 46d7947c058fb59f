use Rattle.std.proofs.Common.{◌∙◌, subst}
use Rattle.md_graph.specs.PlainGraph.{adjacent}
use Rattle.md_comparability.specs.Walking.{IsClassOrChosen}
use Rattle.md_comparability.proofs.Listing.{oriented}
use Rattle.md_orient.proofs.orientation.orient.Goals as goal

pub chain_along-requires : goal.chain_along-requires
chain_along-requires g c =
    (adjacent c.args.graph.now, subst (IsClassOrChosen (adjacent c.args.graph.now)) c.in-Stopped.is c.in_ok-trail.ensures.ending)

pub returns-in_ok-chain-in-Stopped : goal.returns-in_ok-chain-in-Stopped
returns-in_ok-chain-in-Stopped g c =
    c.in_ok-chain-in-Stopped.ensures (adjacent c.args.graph.now) (subst (IsClassOrChosen (adjacent c.args.graph.now)) c.in-Stopped.is c.in_ok-trail.ensures.ending)

pub returns-in_ok-list-in-Whole : goal.returns-in_ok-list-in-Whole
returns-in_ok-list-in-Whole g c =
    oriented c.vertices-vertices.ensures.graph c.in-Whole.chosen (subst (IsClassOrChosen (adjacent c.args.graph.now)) c.in-Whole.is c.in_ok-trail.ensures.ending) _ (c.from_list.ensures ∙ c.in_ok-list-in-Whole.ensures)
