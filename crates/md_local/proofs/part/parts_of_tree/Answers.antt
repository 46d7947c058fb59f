use Rattle.std.proofs.Common.{◌∷◌, ◌++◌, [], map, sym, ◌∙◌, ap}
use Rattle.std.proofs.lemmas.List.{nil_from_length}
use Rattle.md_tree.specs.Parts.{plain_part}
use Rattle.md_tree.specs.Plain.{plain}
use Rattle.md_tree.proofs.Stacking.{map_one_more}
use Rattle.md_local.proofs.Parts.{apart_begin, apart_more, apart_less, apart_end}
use Rattle.md_local.proofs.part.parts_of_tree.Goals as goal

pub loop-next-init : goal.loop-next-init
loop-next-init c =
    apart_begin _ _ (plain c.args.tree) (ap (map plain_part) c.in_ok-parts.ensures.items)
    (ap (map plain) (c.in_ok-push.ensures.items ∙ ap (λ xs. xs ++ c.args.tree ∷ []) c.in_ok-waiting.ensures.items))

pub loop-next-preserved : goal.loop-next-preserved
loop-next-preserved c =
    apart_more _ _ _ _ (map plain c.pop.new.self.items) _ (plain c.in-Some.next) c.loop-next.invariant
    (map_one_more plain c.loop-next.waiting.items c.pop.new.self.items c.in-Some.next c.in-Some.ensures.items) c.in_ok-take_apart.ensures.waiting c.in_ok-take_apart.ensures.part

pub loop-next-smaller : goal.loop-next-smaller
loop-next-smaller c =
    apart_less _ (map plain c.pop.new.self.items) _ (plain c.in-Some.next)
    (map_one_more plain c.loop-next.waiting.items c.pop.new.self.items c.in-Some.next c.in-Some.ensures.items) c.in_ok-take_apart.ensures.waiting

pub returns : goal.returns
returns c =
    apart_end _ _ _ c.loop-next.invariant (ap (map plain) (nil_from_length c.loop-next.waiting.items (sym c.loop-next.waiting.ok.0 ∙ c.in_default.ensures.cases.0)))
