-- Every number of the list is a `u64`, and the next call's is none.
use Rattle.std.proofs.Common.{◌<◌, ◌+◌, All, sym, arith}
use Rattle.std.proofs.lemmas.List.Elements.{All-from_get_or}
use Rattle.md_io.proofs.Numbers.{list_any-past, below-All}
use Rattle.md_io.proofs.failing.next_fails.Goals as goal

pub returns-in-None : goal.returns-in-None
returns-in-None c =
    let made = c.args.made in
    let numbers = c.args.failing.now in
    let below : All (λ number. number < made + 1) numbers = All-from_get_or (λ number. number < made + 1) numbers 0 (λ i _. omega (arith, c.type_inv.failing i, c.in-None.ensures)) in
    sym (list_any-past (made + 1) numbers (below-All (made + 1) numbers below))
