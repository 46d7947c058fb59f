use Rattle.std.proofs.Common.{take}
use Rattle.std.specs.List.{All}
use Rattle.md_outline.specs.OutlineParts.{IsNoPrimePart}
use Rattle.md_outline.proofs.outline_parts.has_no_prime_part.Given as goal

abbrev pub invariant-loop-part : goal.invariant-loop-part
invariant-loop-part l = All IsNoPrimePart (take l.part-index l.parts)
