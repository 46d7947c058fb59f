use Rattle.std.proofs.Common.{◌∙◌, sym, ap, arith}
use Rattle.md_comparability.specs.Listed.{arcs_below}
use Rattle.md_comparability.proofs.Listing.{arcs_none, arcs_more}
use Rattle.md_orient.proofs.orientation.list_of_arcs.Goals as goal

pub loop-tail-init : goal.loop-tail-init
loop-tail-init g c = c.new-list.ensures.items ∙ sym (arcs_none c.args.arcs.now)

pub loop-tail-preserved : goal.loop-tail-preserved
loop-tail-preserved g c =
    arcs_more c.args.arcs.now c.loop-tail.tail _ _ _ c.loop-tail.invariant c.heads.ensures c.in_ok-list_row.ensures

pub returns : goal.returns
returns g c = c.loop-tail.invariant ∙ ap (arcs_below c.args.arcs.now) (omega arith)
