use Rattle.std.proofs.Common.{◌≡◌, ◌∷◌, ◌++◌, [], map, ◌∙◌, ap, sym, append-nil}
use Rattle.std.proofs.lemmas.List.{nil_from_length}
use Rattle.md_decompose.proofs.OrderLemmas.{class_of, listed}
use Rattle.md_decompose.proofs.ordered.in_order.Goals as goal

pub returns : goal.returns
returns g c =
    let yielded = c.loop-mark.yielded in
    let left = c.loop-mark.mark-iterator.rest in
    let none : left.items ≡ [] = nil_from_length left.items (sym left.ok.0 ∙ c.in-None.ensures.steps.0) in
    let all : yielded ≡ c.in_ok-marks.marks.items =
    sym (append-nil yielded) ∙ ap (λ ms. yielded ++ ms) (sym none) ∙ c.loop-mark.invariant.left ∙ c.into_iter-mark-iterator.ensures.into_iter_gives.0
    in
    record {
      listed =
          listed c.args.first c.args.classes.items c.in_ok-marks.marks.items c.in_ok-marks.ensures c.loop-mark.sets.items c.requires.lowest
          (c.loop-mark.invariant.listed ∙ ap (λ ms. c.args.first ∷ map class_of ms) all);
    }
