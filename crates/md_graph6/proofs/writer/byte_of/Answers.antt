use Rattle.std.proofs.Common.{◌≡◌, ◌+◌, ◌-◌, ap, ◌∙◌, arith}
use Rattle.std.specs.Int.{bit_at}
use Rattle.md_graph6.proofs.PutLemmas.{six_below, turned_twice}
use Rattle.md_graph6.proofs.writer.byte_of.Goals as goal

pub reversed_group-requires : goal.reversed_group-requires
reversed_group-requires c = six_below c.args.bits

pub returns-clause-bits : goal.returns-clause-bits
returns-clause-bits c = λ k h.
    let e : 63 + c.reversed_group.result - 63 ≡ c.reversed_group.result = omega arith in
    ap (λ x. bit_at x (5 - k)) e ∙ turned_twice c.args.bits c.reversed_group.result k h c.reversed_group.ensures.bits
