use Rattle.std.proofs.Common.{Option, rules, sym, subst}
use Rattle.md_graph.specs.PlainGraph.{adjacent}
use Rattle.md_graph.specs.Sets.{NameSet}
use Rattle.md_graph.proofs.SetLemmas.{Has-along}
use Rattle.md_tree.specs.declared.Kind.{Kind}
use Rattle.md_tree.specs.declared.Pair.{Pair}
use Rattle.md_tree.specs.declared.TreeOf.{TreeOf}
use Rattle.md_tree.specs.Plain.{plain, plain_option}
use Rattle.md_tree.specs.StrongTrees.{IsTree, IsTreeOf}
use Rattle.md_tree_tests.proofs.local_changes.rebuild_text.Goals as goal

pub rebuild-requires : goal.rebuild-requires
rebuild-requires g c =
    let before = c.args.graph.now in
    let stay = Has-along before.vertices c.toggle.new.graph.vertices (sym c.toggle.ensures.vertices) in
    let told = subst (λ (o : Option (TreeOf Kind Pair)). IsTree (adjacent before) c.vertices.result.now (plain_option o)) c.in-Some.is c.in_ok-old.ensures.tree in
    let old = subst (λ (s : NameSet). IsTreeOf (adjacent before) s (plain c.in-Some.old)) c.vertices.ensures.set told in
    (search rules, (c.requires.differ, (stay c.args.u c.requires.left, (stay c.args.v c.requires.right, (before, c.toggle.ensures, old)))))
