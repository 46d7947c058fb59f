use Rattle.std.proofs.Common.{map, sym, ◌∙◌, ap}
use Rattle.std.proofs.lemmas.List.{nil_from_length}
use Rattle.md_tree.specs.Parts.{plain_part}
use Rattle.md_tree.specs.Plain.{plain}
use Rattle.md_tree.proofs.Stacking.{map_one_more}
use Rattle.md_local.proofs.PutTrees.{putting_begin, putting_enough, putting_step, putting_end, putting_some}
use Rattle.md_local.proofs.hanging.put_together.Goals as goal

pub loop-part-init : goal.loop-part-init
loop-part-init c = λ t each are. putting_begin _ t _ _ are (ap (map plain) c.in_ok-stack.ensures.items)

pub put_part-requires : goal.put_part-requires
put_part-requires c =
    let is = c.requires in
    putting_enough _ _ is.0 _ _ _ _ (c.loop-part.invariant is.0 is.1 is.2) (map_one_more plain_part c.loop-part.parts.items c.pop.new.self.items c.in-Some.part c.in-Some.ensures.items)

pub loop-part-preserved : goal.loop-part-preserved
loop-part-preserved c = λ t each are.
    putting_step _ _ _ t _ _ _ _ _ each (c.loop-part.invariant t each are) (map_one_more plain_part c.loop-part.parts.items c.pop.new.self.items c.in-Some.part c.in-Some.ensures.items)
    c.in_ok-put_part.ensures.put c.put_part.ensures.places

pub unreachable-requires : goal.unreachable-requires
unreachable-requires c =
    let is = c.requires in
    putting_some _ _ is.0 _ _ (c.loop-part.invariant is.0 is.1 is.2)
    (ap (map plain_part) (nil_from_length c.loop-part.parts.items (sym c.loop-part.parts.ok.0 ∙ c.in_default.ensures.cases.0)))
    (ap (map plain) (nil_from_length c.loop-part.stack.items (sym c.loop-part.stack.ok.0 ∙ c.in-None.ensures.cases.0)))

pub returns : goal.returns
returns c = λ t each are.
    putting_end _ _ t _ _ (map plain c.pop-2.new.self.items) _ (c.loop-part.invariant t each are)
    (ap (map plain_part) (nil_from_length c.loop-part.parts.items (sym c.loop-part.parts.ok.0 ∙ c.in_default.ensures.cases.0)))
    (map_one_more plain c.loop-part.stack.items c.pop-2.new.self.items c.in-Some-pop.tree c.in-Some-pop.ensures.items)
