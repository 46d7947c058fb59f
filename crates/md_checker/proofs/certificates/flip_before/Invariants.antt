use Rattle.std.proofs.Common.{◌≡◌, ◌↔◌, ℕ, take, length}
use Rattle.md_graph.specs.Sets.{Has}
use Rattle.md_forcing.specs.Lists.{Holds}
use Rattle.md_checker.specs.Flips.{AreFlipped}
use Rattle.md_checker.proofs.certificates.flip_before.Given as goal

abbrev pub invariant-loop-v : goal.invariant-loop-v
invariant-loop-v g l = record {
  room : length l.rows ≡ length l.fn.rows;
  members : (w : ℕ) → Has l.before w ↔ Holds (take l.v-index l.list) w;
  flipped : AreFlipped (take l.v-index l.list) l.fn.rows l.rows;
}
