-- The longest line has room: a number has at most twenty digits.
use Rattle.std.proofs.Common.{◌≤◌, length, arith}
use Rattle.md_text.specs.Numbers.{decimal}
use Rattle.md_text.proofs.NumberLemmas.{length-decimal-le}
use Rattle.md_top.proofs.check.rejected_line.Goals as goal

pub push_decimal-requires : goal.push_decimal-requires
push_decimal-requires c =
    let short : length (decimal c.args.line) ≤ 20 = length-decimal-le 20 c.args.line (omega arith) (omega arith) in omega arith

pub push-requires-2 : goal.push-requires-2
push-requires-2 c =
    let short : length (decimal c.args.line) ≤ 20 = length-decimal-le 20 c.args.line (omega arith) (omega arith) in omega arith
