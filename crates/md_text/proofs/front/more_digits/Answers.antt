use Rattle.std.proofs.Common.{◌^◌, ◌-◌, ◌≤◌, arith}
use Rattle.md_text.proofs.NumberLemmas.{number_grows}
use Rattle.md_text.proofs.FrontLemmas.{digit_first, digit_more, more_from, pow_some, large_after, small_still, too_long}
use Rattle.md_text.proofs.front.more_digits.Goals as goal

pub loop-count-init : goal.loop-count-init
loop-count-init c = record {
  read = digit_first c.args.text.now c.args.behind.now c.args.first c.requires.digit c.requires.split;
  from = (let a = c.requires.above in omega arith);
  below = c.requires.digit;
}

pub loop-count-preserved : goal.loop-count-preserved
loop-count-preserved c =
    let i = c.loop-count.invariant in
    let s = c.in-Some.ensures in
    let some : 1 ≤ c.loop-count._count = omega (arith, c.loop-count.auto._count) in
    let above : 1 ≤ 10 ^ (c.loop-count._count - 1) = pow_some (c.loop-count._count - 1) in
    record {
      read = digit_more c.args.text.now c.loop-count.rest.now c.in-Some.tail.now c.loop-count.value c.in-Some.digit (let f = i.from in omega arith) s.0 i.read s.1;
      from = more_from c.loop-count.value c.in-Some.digit c.loop-count._count some i.from;
      below = number_grows c.loop-count.value c.loop-count._count c.in-Some.digit i.below (let d = s.0 in omega arith);
    }

pub returns-in-Some-split_digit : goal.returns-in-Some-split_digit
returns-in-Some-split_digit c =
    let i = c.loop-count.invariant in
    let s = c.in-Some-split_digit.ensures in
    too_long c.args.text.now c.loop-count.rest.now _ c.loop-count.value _ (large_after c.loop-count.value c.loop-count._count (let e = c.loop-count-test.false in omega arith) i.from) s.0 i.read s.1

pub returns-in_default : goal.returns-in_default
returns-in_default c =
    let i = c.loop-count.invariant in
    let t = c.loop-count-test.true in
    (i.read, c.in_default.ensures, small_still c.loop-count.value c.loop-count._count (omega arith) i.below)

pub returns-in-None : goal.returns-in-None
returns-in-None c =
    let i = c.loop-count.invariant in
    (i.read, c.in-None.ensures, small_still c.loop-count.value c.loop-count._count (omega (arith, c.loop-count.auto._count, c.loop-count.auto._count-end)) i.below)
