use Rattle.std.proofs.Common.{◌≡◌, ◌<◌, ◌-◌, ℕ, length, get_or}
use Rattle.md_text.specs.Numbers.{decimal}
use Rattle.md_text.specs.Pieces.{text_at}
use Rattle.md_outline.proofs.pair_space.spell_places.Given as goal

abbrev pub invariant-loop-position : goal.invariant-loop-position
invariant-loop-position l = record {
  room : get_or l.heads (length l.heads - 1) 0 < length l.places.items;
  spelled : (k : ℕ) → k < l.position → text_at l.places.items (get_or l.heads k 0) ≡ decimal k;
}
