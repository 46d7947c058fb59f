use Rattle.std.proofs.Common.{◌≡◌, ◌++◌, ◌<◌, ◌≤◌, ◌^◌, ◌-◌}
use Rattle.md_text.specs.Numbers.{decimal}
use Rattle.md_text.proofs.front.more_digits.Given as goal

abbrev pub invariant-loop-count : goal.invariant-loop-count
invariant-loop-count l = record {
  read : l.text ≡ decimal l.value ++ l.rest;
  from : 10 ^ (l._count - 1) ≤ l.value;
  below : l.value < 10 ^ l._count;
}
