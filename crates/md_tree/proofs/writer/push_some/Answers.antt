use Rattle.std.proofs.Common.{[], ◌∷◌, ◌++◌, refl}
use Rattle.md_tree.specs.Spellings.{spelling}
use Rattle.md_tree.specs.TreeTexts.{pairs_text_by}
use Rattle.md_tree.proofs.Opening.{child_more}
use Rattle.md_tree.proofs.writer.push_some.Goals as goal

pub returns-clause-written : goal.returns-clause-written
returns-clause-written g c =
    let sp = spelling g.K.Lettered.rules g.P.Paired.rules in
    let n = c.in_ok-node.ensures.written in let m = c.in_ok-node.node-is in
    child_more sp c.in_ok-node.node.mark c.in_ok-node.node.children.now c.in-Some.others.now c.in-Some.child.now (pairs_text_by sp.pairs 59 c.in_ok-node.node.pairs.now.list.items ++ 41 ∷ []) c.args.text.now.items
    c.push_leaves.new.text.items c.push.new.self.items c.push_begin.new.text.items c.args.open.now.items c.push-2.new.self.items c.push_begin.new.open.items _ _
    c.in-Some.ensures.cases.0 n c.in_ok-push.ensures.items c.in_ok-push-2.ensures.items refl c.in_ok-push_begin.ensures.written
