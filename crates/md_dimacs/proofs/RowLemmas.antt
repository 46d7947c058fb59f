-- The lines of the edges of a vertex, from the pieces of its neighbours.
use Rattle.std.specs.Prelude.{◌≡◌, ℕ, ◌+◌, ◌<◌, List, [], ◌∷◌, ◌++◌, length}
use Rattle.std.specs.List.{All}
use Rattle.std.specs.Option.{option_map_or}
use Rattle.std.proofs.Common.{refl, ap, ap₂, subst, sym, ◌∙◌, arith}
use Rattle.std.proofs.lemmas.List.Elements.{All-head, All-tail, All-weaker}
use Rattle.std.proofs.lemmas.Option.{slice_get-get_or}
use Rattle.md_graph.specs.declared.TheConstants.{NAMES}
use Rattle.md_graph.specs.Sets.{NameSet}
use Rattle.md_graph.specs.NameSet.{ascending_from}
use Rattle.md_graph.specs.PlainGraph.{PlainGraph, IsGraph, neighbours}
use Rattle.md_graph.proofs.NameLemmas.{IsItem, ascending_items}
use Rattle.md_text.specs.Numbers.{decimal}
use Rattle.md_text.specs.declared.piece.Piece.{Piece}
use Rattle.md_text.specs.Pieces.{piece_text, text_at, texts_at}
use Rattle.md_dimacs.specs.Text.{position}
use Rattle.md_dimacs.specs.Places.{IsPlaceOf, ArePlaces, line_start, vertex_lines}
use Rattle.md_dimacs.proofs.AscendingLemmas.{neighbour_is_vertex}
use Rattle.md_dimacs.proofs.TextLemmas.{row_lines, row_lines-nil, row_lines-cons, row_text_is}

place_text : (g : PlainGraph) (places : List Piece) (w : ℕ) → IsPlaceOf g places w → text_at places w ≡ 32 ∷ (decimal (position g w) ++ 10 ∷ [])
place_text g places w is =
    let any : Piece = record { bytes = []; used = 0; within = omega arith } in
    ap (λ o. option_map_or piece_text o []) (slice_get-get_or places w any is.there) ∙ is.text any

lines_are : (g : PlainGraph) (v : ℕ) (places : List Piece) (ws : List ℕ) → All (IsPlaceOf g places) ws → texts_at places (line_start g v) ws ≡ row_lines g v ws
unfolding texts_at
lines_are g v places [] all = sym (row_lines-nil g v)
lines_are g v places (w ∷ ws) all =
    (λ i. (line_start g v ++ place_text g places w (All-head (IsPlaceOf g places) w ws all) i) ++ lines_are g v places ws (All-tail (IsPlaceOf g places) w ws all) i)
    ∙ sym (row_lines-cons g v w ws)

module _ (g : PlainGraph) (is : IsGraph g) (v : ℕ) (places : List Piece) (all : ArePlaces g places) where
  row_places : (low : ℕ) → All (IsPlaceOf g places) (ascending_from (neighbours g v) low)
  row_places low =
      All-weaker (IsItem (neighbours g v) low NAMES) (IsPlaceOf g places) (λ w l. all.place_of w (neighbour_is_vertex g v w is l.member)) (ascending_from (neighbours g v) low) (ascending_items (neighbours g v) low NAMES)

  module _ (row : NameSet) (same : row ≡ neighbours g v) where
    -- the pieces of the neighbours are there
    pub row_there : All (λ w. w < length places) (ascending_from row (v + 1))
    row_there = subst (λ s. All (λ w. w < length places) (ascending_from s (v + 1))) (sym same) (All-weaker (IsPlaceOf g places) (λ w. w < length places) (λ w at. at.there) (ascending_from (neighbours g v) (v + 1)) (row_places (v + 1)))

    -- and their texts are the lines
    pub lines_from : (start : List ℕ) → start ≡ line_start g v → texts_at places start (ascending_from row (v + 1)) ≡ vertex_lines g v
    lines_from start is_start =
        let names = ascending_from (neighbours g v) (v + 1) in
        ap₂ (λ s n. texts_at places s (ascending_from n (v + 1))) is_start same ∙ lines_are g v places names (row_places (v + 1)) ∙ row_text_is g v names refl
