-- The text of a graph, row by row.
use Rattle.std.specs.Prelude.{◌≡◌, ℕ, ◌+◌, List, [], ◌∷◌, ◌++◌, map, codes}
use Rattle.std.specs.List.{flat_map}
use Rattle.std.proofs.Common.{ap, sym, ◌∙◌, append_assoc}
use Rattle.std.proofs.lemmas.List.{map-append, append-nil}
use Rattle.std.specs.FinSet as set
use Rattle.md_graph.specs.NameSet.{ascending, ascending_from}
use Rattle.md_graph.specs.PlainGraph.{PlainGraph, neighbours}
use Rattle.md_text.specs.Lines.{ended}
use Rattle.md_text.specs.Numbers.{decimal}
use Rattle.md_text.proofs.LineLemmas.{ended-nil, ended-cons, ended-append}
use Rattle.md_dimacs.specs.Text.{position, edges_above, edge_places, edge_line, problem_line, dimacs_text}
use Rattle.md_dimacs.specs.Places.{line_start, vertex_lines, edges_text}

-- ---- one row

-- the pair of the places of v and w
abbrev pub places_of : PlainGraph → ℕ → ℕ → ℕ × ℕ
places_of g v w = (position g v, position g w)

-- the lines of the edges between v and the listed names
abbrev pub row_lines : PlainGraph → ℕ → List ℕ → List ℕ
row_lines g v ws = ended (map edge_line (map (places_of g v) ws))

pub row_text_is : (g : PlainGraph) (v : ℕ) (ws : List ℕ) → ws ≡ ascending_from (neighbours g v) (v + 1) → row_lines g v ws ≡ vertex_lines g v
unfolding vertex_lines edges_above
row_text_is g v ws e = ap (row_lines g v) e

line_cut : (a b : List ℕ) → ((101 ∷ 32 ∷ (a ++ 32 ∷ b)) ++ 10 ∷ []) ≡ ((101 ∷ 32 ∷ a) ++ (32 ∷ (b ++ 10 ∷ [])))
line_cut a b = ap (λ l. 101 ∷ 32 ∷ l) (append_assoc a (32 ∷ b) (10 ∷ []))

pub row_lines-cons : (g : PlainGraph) (v w : ℕ) (ws : List ℕ) → row_lines g v (w ∷ ws) ≡ (line_start g v ++ (32 ∷ (decimal (position g w) ++ 10 ∷ []))) ++ row_lines g v ws
unfolding edge_line
row_lines-cons g v w ws =
    ended-cons (edge_line (places_of g v w)) (map edge_line (map (places_of g v) ws))
    ∙ ap (λ l. l ++ row_lines g v ws) (line_cut (decimal (position g v)) (decimal (position g w)))

pub row_lines-nil : (g : PlainGraph) (v : ℕ) → row_lines g v [] ≡ []
row_lines-nil g v = ended-nil

pub row_lines-append : (g : PlainGraph) (v : ℕ) (xs ys : List ℕ) → row_lines g v (xs ++ ys) ≡ row_lines g v xs ++ row_lines g v ys
row_lines-append g v xs ys =
    ap (λ ps. ended (map edge_line ps)) (map-append (places_of g v) xs ys)
    ∙ ap ended (map-append edge_line (map (places_of g v) xs) (map (places_of g v) ys))
    ∙ ended-append (map edge_line (map (places_of g v) xs)) (map edge_line (map (places_of g v) ys))

pub row_end : (g : PlainGraph) (v : ℕ) (xs held total : List ℕ) → held ++ row_lines g v xs ≡ total → xs ≡ [] → held ≡ total
row_end g v xs held total before e = sym (append-nil held) ∙ ap (λ l. held ++ l) (sym (ap (row_lines g v) e ∙ ended-nil)) ∙ before

-- ---- all rows

abbrev pub rows_lines : PlainGraph → List ℕ → List ℕ
rows_lines g vs = ended (map edge_line (flat_map (edges_above g) vs))

pub edges_text_is : (g : PlainGraph) (vs : List ℕ) → vs ≡ ascending g.vertices → rows_lines g vs ≡ edges_text g
unfolding edges_text edge_places
edges_text_is g vs e = ap (rows_lines g) e

rows_lines-cons : (g : PlainGraph) (v : ℕ) (vs : List ℕ) → rows_lines g (v ∷ vs) ≡ vertex_lines g v ++ rows_lines g vs
unfolding vertex_lines
rows_lines-cons g v vs =
    ap ended (map-append edge_line (edges_above g v) (flat_map (edges_above g) vs))
    ∙ ended-append (map edge_line (edges_above g v)) (map edge_line (flat_map (edges_above g) vs))

pub rows_step : (g : PlainGraph) (v : ℕ) (xs vs held new_held total : List ℕ) → held ++ rows_lines g xs ≡ total → xs ≡ v ∷ vs → new_held ≡ held ++ vertex_lines g v
    → new_held ++ rows_lines g vs ≡ total
rows_step g v xs vs held new_held total before cut more =
    ap (λ l. l ++ rows_lines g vs) more ∙ append_assoc held (vertex_lines g v) (rows_lines g vs)
    ∙ ap (λ l. held ++ l) (sym (ap (rows_lines g) cut ∙ rows_lines-cons g v vs)) ∙ before

pub rows_end : (g : PlainGraph) (xs held total : List ℕ) → held ++ rows_lines g xs ≡ total → xs ≡ [] → held ≡ total
rows_end g xs held total before e = sym (append-nil held) ∙ ap (λ l. held ++ l) (sym (ap (rows_lines g) e ∙ ended-nil)) ∙ before

-- ---- the whole text

pub text_is : (g : PlainGraph) (head text : List ℕ) → head ≡ problem_line g ++ 10 ∷ [] → text ≡ head ++ edges_text g → text ≡ dimacs_text g
unfolding dimacs_text edges_text
text_is g head text e more = more ∙ ap (λ l. l ++ edges_text g) e ∙ sym (ended-cons (problem_line g) (map edge_line (edge_places g)))

head_cut : (a b : List ℕ) → (((((112 ∷ 32 ∷ 101 ∷ 100 ∷ 103 ∷ 101 ∷ 32 ∷ []) ++ a) ++ 32 ∷ []) ++ b) ++ 10 ∷ []) ≡ ((112 ∷ 32 ∷ 101 ∷ 100 ∷ 103 ∷ 101 ∷ 32 ∷ (a ++ 32 ∷ b)) ++ 10 ∷ [])
head_cut a b = ap (λ l. 112 ∷ 32 ∷ 101 ∷ 100 ∷ 103 ∷ 101 ∷ 32 ∷ (l ++ 10 ∷ [])) (append_assoc a (32 ∷ []) b)

-- the problem line, part by part
pub head_is : (g : PlainGraph) (n m : ℕ) (word first spaced second text : List ℕ) → word ≡ codes "p edge " → n ≡ set.len g.vertices → m ≡ set.len g.edges
    → first ≡ word ++ decimal n → spaced ≡ first ++ 32 ∷ [] → second ≡ spaced ++ decimal m → text ≡ second ++ 10 ∷ [] → text ≡ problem_line g ++ 10 ∷ []
unfolding problem_line
head_is g n m word first spaced second text is_word is_n is_m is_first is_spaced is_second is_text =
    is_text ∙ ap (λ l. l ++ 10 ∷ []) (is_second ∙ ap (λ l. l ++ decimal m) (is_spaced ∙ ap (λ l. l ++ 32 ∷ []) (is_first ∙ ap (λ l. l ++ decimal n) is_word)))
    ∙ head_cut (decimal n) (decimal m)
    ∙ (λ i. (112 ∷ 32 ∷ 101 ∷ 100 ∷ 103 ∷ 101 ∷ 32 ∷ (decimal (is_n i) ++ 32 ∷ decimal (is_m i))) ++ 10 ∷ [])
