use Rattle.std.proofs.Common.{rules}
use Rattle.md_digraph.specs.PlainDigraph.{has_arc_to}
use Rattle.md_ddecompose.proofs.DirectedNodes.{is_unsplit, none_of}
use Rattle.md_ddecompose.proofs.children.children.Goals as goal

pub prime_children-requires : goal.prime_children-requires
prime_children-requires g c = (
  search rules,
  (
    search rules,
    (
      search rules,
      (
        c.requires.inside,
        is_unsplit (has_arc_to c.args.graph.now) c.args.set.now c.requires.two (none_of _ c.in_ok-sets.field-0 c.in_ok-sets.ensures c.in_default-2.is)
            (none_of _ c.in_ok-sets-2.field-0 c.in_ok-sets-2.ensures c.in_default-3.is) (none_of _ c.in_ok-sets-3.field-0 c.in_ok-sets-3.ensures c.in_default-4.is),
      ),
    ),
  ),
)
