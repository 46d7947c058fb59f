use Rattle.std.proofs.Common.{ℕ, ◌*◌, ◌<◌, ◌≤◌, vec_len}
use Rattle.md_graph.specs.Sets.{Has}
use Rattle.md_dimacs.specs.Places.{IsPlaceOf}
use Rattle.md_dimacs.proofs.AscendingLemmas.{Coming}
use Rattle.md_dimacs.proofs.writer.spell_places.Given as goal

abbrev pub invariant-loop-v : goal.invariant-loop-v
invariant-loop-v g l = record {
  coming : Coming l.graph.vertices (vec_len l.places) l.place l.v-iterator;
  named : vec_len l.places ≤ 64 * g.row.W;
  spelled : (w : ℕ) → Has l.graph.vertices w → w < vec_len l.places → IsPlaceOf l.graph l.places.items w;
}
