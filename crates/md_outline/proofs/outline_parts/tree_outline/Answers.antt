use Rattle.std.proofs.Common.{refl, sym, ◌∙◌}
use Rattle.std.proofs.lemmas.List.{nil_from_length}
use Rattle.md_outline.proofs.TreeOutlines.{wait_begin, next_short, wait_more, wait_less, wait_end}
use Rattle.md_outline.proofs.outline_parts.tree_outline.Goals as goal

pub loop-node-init : goal.loop-node-init
loop-node-init c = wait_begin _ _ _ _ _ c.new-parts.ensures.items c.new-waiting.ensures.items c.in_ok-push.ensures.items refl

pub push_node-requires : goal.push_node-requires
push_node-requires c = next_short _ c.loop-node.parts.items c.loop-node.parts.items c.loop-node.waiting.items c.pop.new.self.items c.loop-node.waiting.items c.in-Some.node c.in-Some.ensures.items c.loop-node.invariant c.requires.short

pub loop-node-preserved : goal.loop-node-preserved
loop-node-preserved c =
    let put = c.in_ok-push_node.ensures in
    wait_more _ c.loop-node.parts.items c.push_node.new.parts.items c.loop-node.waiting.items c.pop.new.self.items c.push_node.new.waiting.items c.in-Some.node c.in-Some.ensures.items c.loop-node.invariant put.0 put.1 put.2

pub loop-node-smaller : goal.loop-node-smaller
loop-node-smaller c =
    let put = c.in_ok-push_node.ensures in
    wait_less _ c.loop-node.parts.items c.push_node.new.parts.items c.loop-node.waiting.items c.pop.new.self.items c.push_node.new.waiting.items c.in-Some.node c.in-Some.ensures.items c.loop-node.invariant put.0 put.1 put.2

pub returns : goal.returns
returns c = record {
  outline =
      wait_end _ c.loop-node.parts.items c.loop-node.waiting.items (nil_from_length c.loop-node.waiting.items (sym c.loop-node.waiting.ok.0 ∙ c.in_default.ensures.cases.0)) c.loop-node.invariant;
}
