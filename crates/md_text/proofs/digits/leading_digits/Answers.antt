use Rattle.std.proofs.Common.{◌≡◌, true, get_or, take, sym, ◌∙◌, refl, arith}
use Rattle.std.specs.Char.{is_ascii_digit}
use Rattle.std.proofs.lemmas.Bool.{and_from}
use Rattle.std.proofs.lemmas.List.{length-take}
use Rattle.std.proofs.lemmas.List.Folds.{list_all_more}
use Rattle.md_text.proofs.NumberLemmas.{digit_bounds, value-nil, value_more, number_room, number_grows}
use Rattle.md_text.proofs.digits.leading_digits.Goals as goal

pub loop-count-init : goal.loop-count-init
loop-count-init c = record { digits = refl; so_far = sym value-nil; below = omega arith }

pub overflow_mul-value : goal.overflow_mul-value
overflow_mul-value c =
    let room = number_room c.loop-count.value c.loop-count.count c.loop-count.invariant.below (omega (arith, length-take c.min.result c.args.text.now)) in
    omega arith

pub overflow_add-value : goal.overflow_add-value
overflow_add-value c =
    let room = number_room c.loop-count.value c.loop-count.count c.loop-count.invariant.below (omega (arith, length-take c.min.result c.args.text.now)) in
    let byte = get_or (take c.min.result c.args.text.now) c.loop-count.count 0 in
    let bounds = digit_bounds byte (sym c.is_ascii_digit.ensures.value ∙ c.if-not-is_ascii_digit.false) in
    omega arith

pub loop-count-preserved : goal.loop-count-preserved
loop-count-preserved c =
    let front = take c.min.result c.args.text.now in
    let i = c.loop-count.count in
    let is : is_ascii_digit (get_or front i 0) ≡ true = sym c.is_ascii_digit.ensures.value ∙ c.if-not-is_ascii_digit.false in
    let bounds = digit_bounds (get_or front i 0) is in
    let more = value_more front i (omega arith) in
    record {
      digits = list_all_more is_ascii_digit front i 0 (omega arith) ∙ and_from _ _ c.loop-count.invariant.digits is;
      so_far = let so_far = c.loop-count.invariant.so_far in omega arith;
      below = number_grows c.loop-count.value i c.from.result c.loop-count.invariant.below (omega arith);
    }
