use Rattle.std.proofs.Common.{◌++◌, arith, ap, ◌∙◌, sym}
use Rattle.md_graph.proofs.Limits.{NAMES-lt}
use Rattle.md_graph6.proofs.SizeLemmas.{size_text-one, size_text-four}
use Rattle.md_graph6.proofs.SizeText.{four_pushed, length-size_short, length-size_long}
use Rattle.md_graph6.proofs.writer.push_size.Goals as goal

pub push_reserved-requires : goal.push_reserved-requires
push_reserved-requires c = omega (arith, c.requires.room, length-size_short c.args.n c.if-n-le-MOST_IN_ONE_BYTE.true)

pub returns-then-n-le-MOST_IN_ONE_BYTE-clause-items : goal.returns-then-n-le-MOST_IN_ONE_BYTE-clause-items
returns-then-n-le-MOST_IN_ONE_BYTE-clause-items c =
    c.push_reserved.ensures.items ∙ ap (λ s. c.args.text.now.items ++ s) (sym (size_text-one c.args.n c.if-n-le-MOST_IN_ONE_BYTE.true))

pub push_reserved-requires-2 : goal.push_reserved-requires-2
push_reserved-requires-2 c = omega (arith, c.requires.room, length-size_long c.args.n c.if-n-le-MOST_IN_ONE_BYTE.false c.requires.few)

pub push_reserved-requires-3 : goal.push_reserved-requires-3
push_reserved-requires-3 c = omega (arith, c.requires.room, length-size_long c.args.n c.if-n-le-MOST_IN_ONE_BYTE.false c.requires.few)

pub push_reserved-requires-4 : goal.push_reserved-requires-4
push_reserved-requires-4 c = omega (arith, c.requires.room, length-size_long c.args.n c.if-n-le-MOST_IN_ONE_BYTE.false c.requires.few)

pub push_reserved-requires-5 : goal.push_reserved-requires-5
push_reserved-requires-5 c = omega (arith, c.requires.room, length-size_long c.args.n c.if-n-le-MOST_IN_ONE_BYTE.false c.requires.few)

pub returns-clause-items : goal.returns-clause-items
returns-clause-items c =
    four_pushed c.args.text.now.items _ _ _ _ _ _ _ _ c.push_reserved-2.ensures.items c.push_reserved-3.ensures.items c.push_reserved-4.ensures.items c.push_reserved-5.ensures.items
    ∙ ap (λ s. c.args.text.now.items ++ s) (sym (size_text-four c.args.n c.if-n-le-MOST_IN_ONE_BYTE.false (omega (arith, c.requires.few, NAMES-lt))))
