use Rattle.std.proofs.Common.{◌≡◌, ◌<◌, ◌+◌, ◌-◌, ◌++◌, map, reverse, drop, length, ◌∙◌, subst, arith}
use Rattle.md_tree.specs.Plain.{plain, trees_of}
use Rattle.md_tree.specs.Parts.{plain_at}
use Rattle.md_outline.proofs.TreeOutlines.{back_begin, back_more}
use Rattle.md_outline.proofs.outline_parts.push_children_backward.Goals as goal

pub loop-i-init : goal.loop-i-init
loop-i-init c = back_begin _ _ _ (c.len-i.ensures ∙ c.args.children.now.list.ok.0)

pub loop-i-preserved : goal.loop-i-preserved
loop-i-preserved c =
    let i = c.loop-i.i - 1 in
    let some = c.loop-i-test.true in
    let low = c.loop-i.auto.i in
    let len = c.len-i.ensures ∙ c.args.children.now.list.ok.0 in
    let at : c.loop-i.i ≡ i + 1 = omega arith in
    let less : i < length (trees_of c.args.children.now) = omega arith in
    back_more (map plain_at c.args.waiting.now.items) c.loop-i.waiting.items c.push.new.self.items (trees_of c.args.children.now) i c.index.result
    (subst (λ n. map plain_at c.loop-i.waiting.items ≡ map plain_at c.args.waiting.now.items ++ reverse (map plain (drop n (trees_of c.args.children.now)))) at c.loop-i.invariant) less c.index.ensures c.in_ok-push.ensures.items

pub returns : goal.returns
returns c =
    let past = c.loop-i-test.false in
    let none : c.loop-i.i ≡ 0 = omega arith in
    subst (λ n. map plain_at c.loop-i.waiting.items ≡ map plain_at c.args.waiting.now.items ++ reverse (map plain (drop n (trees_of c.args.children.now)))) none c.loop-i.invariant
