use Rattle.std.proofs.Common.{◌≡◌, length}
use Rattle.md_text.specs.Pieces.{AreNumerals}
use Rattle.md_text.proofs.numerals.spell_more.Given as goal

abbrev pub invariant-loop-number : goal.invariant-loop-number
invariant-loop-number l = record {
  spelled : AreNumerals l.pieces.items;
  count : length l.pieces.items ≡ l.number;
}
