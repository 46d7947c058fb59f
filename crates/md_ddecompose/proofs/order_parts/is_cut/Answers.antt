use Rattle.std.proofs.Common.{◌≤◌, ◌-◌, ◌*◌, inl, refl, arith}
use Rattle.std.proofs.lemmas.Nat.{mul-le}
use Rattle.md_digraph.specs.declared.TheConstants.{DIRECTED_NAMES}
use Rattle.md_ddecompose.proofs.order_parts.is_cut.Goals as goal

pub returns-then-first-count : goal.returns-then-first-count
returns-then-first-count c = (λ _. inl c.if-first-count.true, λ _. refl)

pub overflow_mul-across : goal.overflow_mul-across
overflow_mul-across c =
    let few = c.requires.count in
    let first = c.requires.first in
    let most : c.args.first * (c.args.count - c.args.first) ≤ DIRECTED_NAMES * DIRECTED_NAMES = mul-le c.args.first (c.args.count - c.args.first) DIRECTED_NAMES DIRECTED_NAMES (omega arith) (omega arith) in
    omega arith
