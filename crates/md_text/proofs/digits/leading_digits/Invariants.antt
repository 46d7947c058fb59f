use Rattle.std.proofs.Common.{◌≡◌, ◌^◌, ◌<◌, true, take}
use Rattle.std.specs.Char.{is_ascii_digit}
use Rattle.std.specs.List.{list_all}
use Rattle.md_text.specs.Numbers.{value}
use Rattle.md_text.proofs.digits.leading_digits.Given as goal

abbrev pub invariant-loop-count : goal.invariant-loop-count
invariant-loop-count l = record {
  digits : list_all is_ascii_digit (take l.count l.front) ≡ true;
  so_far : l.value ≡ value (take l.count l.front);
  below : l.value < 10 ^ l.count;
}
