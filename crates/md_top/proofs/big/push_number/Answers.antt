-- A number has at most twenty digits.
use Rattle.std.proofs.Common.{◌≤◌, length, arith}
use Rattle.md_text.specs.Numbers.{decimal}
use Rattle.md_text.proofs.NumberLemmas.{length-decimal-le}
use Rattle.md_top.proofs.big.push_number.Goals as goal

pub push_decimal-requires : goal.push_decimal-requires
push_decimal-requires c =
    let short : length (decimal c.args.n) ≤ 20 = length-decimal-le 20 c.args.n (omega arith) (omega arith) in
    let first = c.push.ensures.len in
    let room = c.requires in omega arith

pub returns-clause-len : goal.returns-clause-len
returns-clause-len c =
    let short : length (decimal c.args.n) ≤ 20 = length-decimal-le 20 c.args.n (omega arith) (omega arith) in
    let first = c.push.ensures.len in
    let then = c.push_decimal.ensures.len in omega arith
