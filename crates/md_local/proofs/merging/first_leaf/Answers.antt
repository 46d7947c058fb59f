use Rattle.std.proofs.Common.{◌≡◌, [], ◌∙◌, sym, arith}
use Rattle.std.proofs.lemmas.List.{nil_from_length}
use Rattle.md_local.proofs.Placing.{leaf_head, no_head, child_head, child_smaller}
use Rattle.md_local.proofs.merging.first_leaf.Goals as goal

pub loop-first-smaller : goal.loop-first-smaller
loop-first-smaller c =
    child_smaller c.loop-first.first.now c.in-Some.child.now c.in-Node.field-0 c.in-Node.children c.in-Node.field-2 c.deref.result.now c.in-Node.is c.deref.ensures.value
    c.in-Some.ensures.item.3.0 c.in-Some.ensures.item.1

pub loop-first-preserved : goal.loop-first-preserved
loop-first-preserved c =
    child_head c.loop-first.first.now c.in-Some.child.now c.in-Node.field-0 c.in-Node.children c.in-Node.field-2 c.deref.result.now c.in-Node.is c.deref.ensures.value
    c.in-Some.ensures.item.3.0 c.in-Some.ensures.item.1 ∙ c.loop-first.invariant

pub returns-in-None : goal.returns-in-None
returns-in-None c =
    let none : c.deref.result.now ≡ [] = nil_from_length c.deref.result.now (let p = c.in-None.ensures.item.3 in omega arith) in
    no_head c.loop-first.first.now c.in-Node.field-0 c.in-Node.children c.in-Node.field-2 c.in-Node.is (sym c.deref.ensures.value ∙ none) ∙ c.loop-first.invariant

pub returns : goal.returns
returns c = leaf_head _ _ c.in-Leaf.is ∙ c.loop-first.invariant
