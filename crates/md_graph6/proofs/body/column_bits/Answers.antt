use Rattle.std.specs.Prelude.{cond}
use Rattle.std.specs.Int.{bit_at}
use Rattle.std.proofs.Common.{ap, sym, ◌-◌, arith}
use Rattle.std.proofs.lemmas.Bool.{lt-ltb}
use Rattle.md_graph6.proofs.FillLemmas.{column_cut}
use Rattle.md_graph6.proofs.body.column_bits.Goals as goal

pub returns-then-is_cut : goal.returns-then-is_cut
returns-then-is_cut c = λ k h.
    column_cut c.args.body.now c.args.place c.args.j c.args.low c.bits_from-bits.result c.low_bits.result k c.requires.above c.requires.place (c.bits_from-bits.ensures k h) (c.low_bits.ensures k h)

pub returns : goal.returns
returns c = λ k h.
    let whole = c.requires.whole c.if-is_cut.false in
    column_cut c.args.body.now c.args.place c.args.j c.args.low c.bits_from-bits.result c.bits_from-bits.result k c.requires.above c.requires.place (c.bits_from-bits.ensures k h)
    (sym (ap (λ b. cond b (bit_at c.bits_from-bits.result k) 0) (lt-ltb k (c.args.j - c.args.low) (omega arith))))
