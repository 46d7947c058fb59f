use Rattle.std.proofs.Common.{◌≡◌, ℕ, ◌<◌, ◌≤◌, List, ◌∷◌, arith, rules, ap, ◌∙◌, ◌+◌, ◌++◌, length, slice_index_or}
use Rattle.std.proofs.lemmas.List.{append-nil}
use Rattle.md_graph.specs.NameSet.{ascending, ascending_between}
use Rattle.md_text.specs.Pieces.{piece_text}
use Rattle.md_graph.proofs.NameLemmas.{walk_turn}
use Rattle.md_graph.specs.declared.TheConstants.{NAMES}
use Rattle.md_graph.specs.PlainGraph.{PlainGraph}
use Rattle.md_text.specs.Numbers.{decimal}
use Rattle.md_text.specs.declared.piece.Piece.{Piece}
use Rattle.md_dimacs.specs.Places.{IsPlaceOf, ArePlaces}
use Rattle.md_dimacs.specs.Text.{position}
use Rattle.md_dimacs.proofs.TextLemmas.{rows_lines, edges_text_is, rows_step, rows_end}
use Rattle.md_dimacs.proofs.writer.write_edges.Goals as goal

-- the place of a vertex, of which a line begins
record StartOf (g : PlainGraph) (places : List Piece) (v : ℕ) : Type 0 where
  pub there : v < length places
  pub some : (other : Piece) → 0 < length (piece_text (slice_index_or places v other))
  pub short : (other : Piece) → length (piece_text (slice_index_or places v other)) ≤ 7

start_of : (g : PlainGraph) (places : List Piece) (v : ℕ) → IsPlaceOf g places v → StartOf g places v
start_of g places v is = record {
  there = is.there;
  some = λ other. let whole = ap length (is.text other) in omega arith;
  short = is.short;
}

pub loop-v-init : goal.loop-v-init
loop-v-init g c =
    let list = c.into_iter-v-iterator.ensures.into_iter_gives ∙ c.members-v-items.ensures.list ∙ ap ascending c.vertices.ensures.set in
    record {
      coming = (0, list);
      written = ap (λ l. (c.args.text.now.items ++ l) ++ rows_lines c.args.graph.now c.into_iter-v-iterator.result) c.new-chunk.ensures.value ∙ ap (λ l. l ++ rows_lines c.args.graph.now c.into_iter-v-iterator.result) (append-nil c.args.text.now.items) ∙ ap (λ l. c.args.text.now.items ++ l) (edges_text_is c.args.graph.now _ list);
    }

-- the place of the next vertex
place_of_next : (g : PlainGraph) (places : List Piece) (low v : ℕ) (left rest : List ℕ) → ArePlaces g places → left ≡ ascending_between g.vertices low NAMES
    → left ≡ v ∷ rest → IsPlaceOf g places v
place_of_next g places low v left rest are is steps = are.place_of v (walk_turn g.vertices low NAMES v left rest is steps).item.member

pub bounds-places-v : goal.bounds-places-v
bounds-places-v g c = (place_of_next c.args.graph.now c.args.places.now c.loop-v.invariant.coming.0 c.in-Some.v _ _ c.requires c.loop-v.invariant.coming.1 c.in-Some.ensures.steps).there

pub start_piece-start-requires : goal.start_piece-start-requires
start_piece-start-requires g c =
    let start = start_of c.args.graph.now c.args.places.now c.in-Some.v (place_of_next c.args.graph.now c.args.places.now c.loop-v.invariant.coming.0 c.in-Some.v _ _ c.requires c.loop-v.invariant.coming.1 c.in-Some.ensures.steps) in
    record {
      some = rw c.index-places-v.is (start.some c.index-places-v.result);
      short = rw c.index-places-v.is (start.short c.index-places-v.result);
    }

pub write_row-requires : goal.write_row-requires
write_row-requires g c =
    let turn = walk_turn c.args.graph.now.vertices c.loop-v.invariant.coming.0 NAMES c.in-Some.v _ _ c.loop-v.invariant.coming.1 c.in-Some.ensures.steps in
    let place = c.requires.place_of c.in-Some.v turn.item.member in
    let start = c.start_piece-start.ensures (32 ∷ decimal (position c.args.graph.now c.in-Some.v)) 10 (ap piece_text c.index-places-v.is ∙ place.text c.index-places-v.result) in
    (search rules, (turn.item.below, (turn.item.member, (start, c.requires))))

pub loop-v-preserved : goal.loop-v-preserved
loop-v-preserved g c =
    let turn = walk_turn c.args.graph.now.vertices c.loop-v.invariant.coming.0 NAMES c.in-Some.v _ _ c.loop-v.invariant.coming.1 c.in-Some.ensures.steps in
    record {
      coming = (c.in-Some.v + 1, turn.left);
      written = rows_step c.args.graph.now c.in-Some.v _ _ _ _ _ c.loop-v.invariant.written c.in-Some.ensures.steps c.in_ok-write_row.ensures;
    }

pub returns : goal.returns
returns g c =
    c.in_ok-flush.ensures.appended ∙ rows_end c.args.graph.now _ _ _ c.loop-v.invariant.written c.in-None.ensures.steps.0
