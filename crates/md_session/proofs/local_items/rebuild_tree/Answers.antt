use Rattle.std.proofs.Common.{ap, rules, subst}
use Rattle.md_graph.specs.PlainGraph.{adjacent}
use Rattle.md_tree.specs.StrongTrees.{IsTree}
use Rattle.md_tree.specs.Plain.{plain_option}
use Rattle.md_session.proofs.KeptTrees.{some_tree}
use Rattle.md_session.proofs.local_items.rebuild_tree.Goals as goal

pub rebuild-requires : goal.rebuild-requires
rebuild-requires g c =
    let may = c.requires in (
      search rules,
      (
        may.differ,
        (
          may.left,
          (
            may.right,
            (
              may.before,
              may.edited,
              subst (λ o. IsTree (adjacent may.before) may.before.vertices (plain_option o)) c.in-Some.is may.tree,
            ),
          ),
        ),
      ),
    )

pub unreachable-requires : goal.unreachable-requires
unreachable-requires g c = some_tree c.args.graph.now (plain_option c.args.tree.now) c.args.u c.args.v c.requires (ap plain_option c.in-None.is)
