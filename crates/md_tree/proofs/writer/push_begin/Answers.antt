use Rattle.std.proofs.Common.{[], ◌∷◌, ◌++◌, map, ap}
use Rattle.md_tree.specs.Spellings.{spelling}
use Rattle.md_tree.specs.Trees.{row}
use Rattle.md_tree.specs.Plain.{plain}
use Rattle.md_tree.specs.OpenNodes.{rest_text}
use Rattle.md_tree.specs.TreeTexts.{row_text_by, pairs_text_by}
use Rattle.md_tree.proofs.Opening.{leaf_begun, node_begun}
use Rattle.md_tree.proofs.writer.push_begin.Goals as goal

pub returns-in_ok-push_number-in-Leaf-clause-written : goal.returns-in_ok-push_number-in-Leaf-clause-written
returns-in_ok-push_number-in-Leaf-clause-written g c =
    let sp = spelling g.K.Lettered.rules g.P.Paired.rules in
    leaf_begun sp c.args.tree.now c.in-Leaf.name c.from.result c.args.text.now.items c.push_number.new.text.items (rest_text sp c.args.open.now.items) c.in-Leaf.is c.from.ensures c.in_ok-push_number-in-Leaf.ensures.appended

pub returns-in_ok-push-in-Node-2-clause-written : goal.returns-in_ok-push-in-Node-2-clause-written
returns-in_ok-push-in-Node-2-clause-written g c =
    let sp = spelling g.K.Lettered.rules g.P.Paired.rules in
    node_begun sp c.args.tree.now c.in-Node.kind c.in-Node.children c.in-Node.pairs c.letter.result c.args.text.now.items _ c.args.open.now.items _ _ c.in-Node.is c.letter.ensures
    (ap (λ ts. row_text_by sp 40 (row (map plain ts)) ++ (pairs_text_by sp.pairs 59 c.in-Node.pairs.list.items ++ 41 ∷ [])) c.deref.ensures.value) c.in_ok-push-in-Node.ensures.items c.in_ok-push-in-Node-2.ensures.items
