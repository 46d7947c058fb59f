use Rattle.std.proofs.Common.{map, sym, ◌∙◌, ap, subst}
use Rattle.std.proofs.lemmas.List.{nil_from_length}
use Rattle.md_tree.specs.Plain.{plain}
use Rattle.md_tree.specs.Parts.{plain_part}
use Rattle.md_tree.proofs.Folding.{IsFolding, fold_begin, fold_finds, fold_more, fold_top, fold_some}
use Rattle.md_tree.proofs.Stacking.{map_one_more}
use Rattle.md_tree.proofs.parts.build.Goals as goal

pub loop-part-init : goal.loop-part-init
loop-part-init g c =
    subst (IsFolding (map plain_part c.args.parts.items) (map plain_part c.args.parts.items)) (sym (ap (map plain) c.in_ok-stack.ensures.items))
    (fold_begin (map plain_part c.args.parts.items) c.requires.parts.0 c.requires.parts.1)

pub put_part-requires : goal.put_part-requires
put_part-requires g c =
    fold_finds _ _ _ _ _ c.loop-part.invariant (map_one_more plain_part c.loop-part.parts.items c.pop.new.self.items c.in-Some.part c.in-Some.ensures.items)

pub loop-part-preserved : goal.loop-part-preserved
loop-part-preserved g c =
    fold_more _ _ _ _ _ _ c.loop-part.invariant (map_one_more plain_part c.loop-part.parts.items c.pop.new.self.items c.in-Some.part c.in-Some.ensures.items)
    c.in_ok-put_part.ensures

pub unreachable-requires : goal.unreachable-requires
unreachable-requires g c =
    fold_some _ _ _ c.loop-part.invariant
    (ap (map plain_part) (nil_from_length c.loop-part.parts.items (sym c.loop-part.parts.ok.0 ∙ c.in_default.ensures.cases.0)))
    (ap (map plain) (nil_from_length c.loop-part.stack.items (sym c.loop-part.stack.ok.0 ∙ c.in-None.ensures.cases.0))) c.requires.parts.0 c.requires.parts.1

pub returns : goal.returns
returns g c = record {
  tree =
      fold_top _ _ _ _ _ c.loop-part.invariant
      (ap (map plain_part) (nil_from_length c.loop-part.parts.items (sym c.loop-part.parts.ok.0 ∙ c.in_default.ensures.cases.0)))
      (map_one_more plain c.loop-part.stack.items c.pop-2.new.self.items c.in-Some-pop.tree c.in-Some-pop.ensures.items);
}
