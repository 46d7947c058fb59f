use Rattle.std.proofs.Common.{◌≡◌, ℕ, None, get_or, vec_len}
use Rattle.md_cotree.specs.Cotrees.{AreEntries}
use Rattle.md_cotree.proofs.cotree.keep_place.Given as goal

abbrev pub invariant-loop : goal.invariant-loop
invariant-loop l = record {
  entries : AreEntries l.places;
  len : vec_len l.places ≡ l.counter;
  same : (v : ℕ) → get_or l.places.items v None ≡ get_or l.initial.places.items v None;
}
