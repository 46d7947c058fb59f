use Rattle.std.proofs.Common.{take, sym, subst, rules}
use Rattle.std.specs.List.{All}
use Rattle.std.proofs.lemmas.List.{take_all, take_more}
use Rattle.std.proofs.lemmas.List.Elements.{All-push}
use Rattle.md_outline.specs.OutlineParts.{IsNoPrimePart}
use Rattle.md_outline.proofs.outline_parts.has_no_prime_part.Goals as goal

pub loop-part-preserved : goal.loop-part-preserved
loop-part-preserved c =
    subst (All IsNoPrimePart) (sym (take_more c.args.parts.now c.loop-part.part-index _ c.loop-part-test.true))
    (All-push IsNoPrimePart (take c.loop-part.part-index c.args.parts.now) _ c.loop-part.invariant (c.is_no_prime.ensures.0 c.if-not-is_no_prime.false))

pub returns : goal.returns
returns c = record { no_prime = (λ yes. subst (All IsNoPrimePart) (take_all _ c.args.parts.now c.loop-part-test.false) c.loop-part.invariant, λ all. search rules) }
