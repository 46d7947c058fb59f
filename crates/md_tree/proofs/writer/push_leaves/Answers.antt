use Rattle.std.proofs.Common.{[], ◌∷◌, ◌++◌, ◌∙◌}
use Rattle.md_tree.specs.Spellings.{spelling}
use Rattle.md_tree.specs.TreeTexts.{pairs_text_by}
use Rattle.md_tree.proofs.Written.{begins_more}
use Rattle.md_tree.proofs.Opening.{leaf_more}
use Rattle.md_tree.proofs.writer.push_leaves.Goals as goal

pub loop-name-preserved : goal.loop-name-preserved
loop-name-preserved g c =
    let sp = spelling g.K.Lettered.rules g.P.Paired.rules in
    record {
      begun = begins_more (begins_more c.loop-name.invariant.begun _ c.in_ok-push.ensures.items) _ c.in_ok-push_number.ensures.appended;
      written =
          leaf_more sp c.loop-name.mark c.in-Some-Leaf-default.name c.from.result c.loop-name.children.now c.in-Some-Leaf-default.others.now c.in-Some-Leaf-default.field-0-0.now c.loop-name.text.items
          c.push.new.self.items c.push_number.new.text.items (pairs_text_by sp.pairs 59 c.args.node.pairs.now.list.items ++ 41 ∷ []) _
          c.in-Some-Leaf-default.ensures.cases.0 c.in-Some-Leaf-default.field-0-0-is (c.from.ensures ∙ c.in-Some-Leaf-default.name-is) c.in_ok-push.ensures.items c.in_ok-push_number.ensures.appended c.loop-name.invariant.written;
    }
