-- The text of a graph is read as the graph with each vertex named by its place.
use Rattle.std.specs.Prelude.{◌≡◌, ◌≢◌, ℕ, ◌+◌, ◌*◌, ◌^◌, ◌<◌, ◌≤◌, Bool, true, false, ◌&&◌, nat_lt, List, [], ◌∷◌, ◌++◌, map, Some, codes, refl}
use Rattle.std.specs.List.{All, flat_map, join_with_byte}
use Rattle.std.proofs.Common.{ap, sym, ◌∙◌, arith, inl, inr, mul-le-mul}
use Rattle.std.proofs.lemmas.Bool.{cases_order, and_from, lt-ltb, le-leb}
use Rattle.std.proofs.lemmas.Bool.Decides.{nat_tests}
use Rattle.std.proofs.lemmas.List.Elements.{All-nil, All-cons, All-head, All-tail, All-append, All-map, All-weaker}
use Rattle.std.specs.FinSet as set
use Rattle.md_graph.specs.declared.TheConstants.{NAMES}
use Rattle.md_graph.specs.Sets.{Has}
use Rattle.md_graph.specs.NameSet.{ascending, ascending_from}
use Rattle.md_graph.specs.PlainGraph.{PlainGraph, IsGraph, adjacent, neighbours, pairs_where}
use Rattle.md_graph.proofs.PairLaws.{same_pairs}
use Rattle.md_graph.proofs.GraphLemmas.{adjacent_sym, adjacent_ends, adjacent_self, contains-edges, contains-neighbours, contains-pairs_where}
use Rattle.md_graph.proofs.Counting.{rows_twice, rows_le}
use Rattle.md_graph.proofs.Limits.{NAMES-lt}
use Rattle.md_graph.proofs.NameLemmas.{IsItem, ascending_items, length-ascending}
use Rattle.md_text.specs.Lines.{lines, LacksFeed, without_return}
use Rattle.md_text.specs.Fields.{fields, is_blank, IsWord}
use Rattle.md_text.specs.Numbers.{decimal, number_of}
use Rattle.md_text.proofs.LineLemmas.{lines-ended, without_return-stays}
use Rattle.md_text.proofs.FieldLemmas.{fields-joined}
use Rattle.md_text.proofs.NumberLemmas.{number_of-decimal, decimal_is_word, decimal_is_digits}
use Rattle.md_text.specs.Spelling.{words}
use Rattle.md_dimacs.specs.Line.{class_of_field, is_form, both, sizes_in, ends_in, sizes_of, ends_of}
use Rattle.md_dimacs.specs.File.{AreSizes, IsPassed, IsPassedOrEdge, Spells}
use Rattle.md_dimacs.specs.Read.{edgeless, with_lines}
use Rattle.md_dimacs.specs.Text.{position, edges_above, edge_places, edge_line, problem_line, dimacs_text}
use Rattle.md_dimacs.proofs.FileLemmas.{spelled_by_parts}
use Rattle.md_dimacs.proofs.AscendingLemmas.{count_member, count_up_to}

-- ---- how many edges there are

-- a product of two names is a number that can be read
names_product : NAMES * NAMES < 10 ^ 18
names_product =
    let fits = NAMES-lt in
    let top : NAMES ≤ 65535 = omega arith in
    let most = mul-le-mul top top in
    omega arith

edges_are_pairs : (g : PlainGraph) → IsGraph g → g.edges ≡ pairs_where (λ u v. set.contains (neighbours g v) u) NAMES
edges_are_pairs g is = same_pairs g.edges (pairs_where (λ u v. set.contains (neighbours g v) u) NAMES) (λ u v.
    contains-edges is u v ∙ by_test u v (adjacent g u v) refl ∙ sym (contains-pairs_where (λ u v. set.contains (neighbours g v) u) NAMES u v))
  where
    by_test : (u v : ℕ) (b : Bool) → adjacent g u v ≡ b → (nat_lt u v && adjacent g u v) ≡ ((nat_lt u v && nat_lt v NAMES) && set.contains (neighbours g v) u)
    by_test u v true e =
        let name = lt-ltb v NAMES (is.names v (adjacent_ends is u v e).1) in
        let other = contains-neighbours is v u ∙ adjacent_sym g v u ∙ e in
        rw (e, name, other) (grind (arith, nat_tests))
    by_test u v false e =
        let other = contains-neighbours is v u ∙ adjacent_sym g v u ∙ e in
        rw (e, other) (grind (arith, nat_tests))

pub len_edges_small : (g : PlainGraph) → IsGraph g → set.len g.edges < 10 ^ 18
len_edges_small g is =
    let inside = λ (u v : ℕ) (m : Has (neighbours g u) v). both_members u v m in
    let twice = rows_twice g.vertices (neighbours g) NAMES inside is.names (λ u v. contains-neighbours is u v ∙ adjacent_sym g u v ∙ sym (contains-neighbours is v u)) (λ v. contains-neighbours is v v ∙ adjacent_self is v) in
    let most = rows_le g.vertices (neighbours g) NAMES inside is.names in
    let pairs = ap set.len (edges_are_pairs g is) in
    let product = names_product in
    omega arith
  where
    both_members : (u v : ℕ) → Has (neighbours g u) v → Has g.vertices u × Has g.vertices v
    both_members u v m = let ends = adjacent_ends is u v (sym (contains-neighbours is u v) ∙ m) in (ends.0, ends.1)

-- ---- places

position_up : (g : PlainGraph) (v w : ℕ) → v < w → Has g.vertices v → position g v < position g w
unfolding position
position_up g v w up m =
    let next = count_member g.vertices v m in
    let more = count_up_to g.vertices (v + 1) w (omega arith) in
    omega arith

pub position_same : (g : PlainGraph) (v w : ℕ) → Has g.vertices v → Has g.vertices w → position g v ≡ position g w → v ≡ w
position_same g v w mv mw same =
    elim (cases_order v w) [
      | inl e ↦ e
      | inr (inl up) ↦ absurd (let more = position_up g v w up mv in omega arith)
      | inr (inr down) ↦ absurd (let more = position_up g w v down mw in omega arith)
    ]

position_first : (g : PlainGraph) (v : ℕ) → 0 < position g v
unfolding position
position_first g v = omega arith

position_last : (g : PlainGraph) (v : ℕ) → IsGraph g → Has g.vertices v → position g v ≤ set.len g.vertices
unfolding position
position_last g v is m =
    let all = length-ascending g.vertices NAMES is.names in
    let next = count_member g.vertices v m in
    let more = count_up_to g.vertices (v + 1) NAMES (let name = is.names v m in omega arith) in
    omega arith

-- ---- the words of the lines

-- no byte is a control byte
abbrev Plain : List ℕ → Type 0
Plain text = All (λ byte. 32 ≤ byte) text

plain-cons : (byte : ℕ) (text : List ℕ) → 32 ≤ byte → Plain text → Plain (byte ∷ text)
plain-cons byte text h all = All-cons (λ byte. 32 ≤ byte) byte text h all

plain-append : (a b : List ℕ) → Plain a → Plain b → Plain (a ++ b)
plain-append a b pa pb = All-append (λ byte. 32 ≤ byte) a b pa pb

plain-decimal : (n : ℕ) → Plain (decimal n)
plain-decimal n = All-weaker (λ byte. (48 ≤ byte) × (byte ≤ 57)) (λ byte. 32 ≤ byte) (λ byte d. let low = d.0 in omega arith) (decimal n) (decimal_is_digits n)

plain-pair : (a b : List ℕ) → Plain a → Plain b → Plain (a ++ 32 ∷ b)
plain-pair a b pa pb = plain-append a (32 ∷ b) pa (plain-cons 32 b (omega arith) pb)

plain-after_e : (text : List ℕ) → Plain text → Plain (101 ∷ 32 ∷ text)
plain-after_e text p = plain-cons 101 (32 ∷ text) (omega arith) (plain-cons 32 text (omega arith) p)

plain-after_edge : (text : List ℕ) → Plain text → Plain (101 ∷ 100 ∷ 103 ∷ 101 ∷ 32 ∷ text)
plain-after_edge text p =
    plain-cons 101 (100 ∷ 103 ∷ 101 ∷ 32 ∷ text) (omega arith) (plain-cons 100 (103 ∷ 101 ∷ 32 ∷ text) (omega arith) (plain-cons 103 (101 ∷ 32 ∷ text) (omega arith) (plain-after_e text p)))

plain-after_p : (text : List ℕ) → Plain text → Plain (112 ∷ 32 ∷ text)
plain-after_p text p = plain-cons 112 (32 ∷ text) (omega arith) (plain-cons 32 text (omega arith) p)

plain-edge_line : (p : ℕ × ℕ) → Plain (edge_line p)
unfolding edge_line
plain-edge_line p =
    plain-after_e (decimal p.0 ++ 32 ∷ decimal p.1) (plain-pair (decimal p.0) (decimal p.1) (plain-decimal p.0) (plain-decimal p.1))

plain-problem_line : (g : PlainGraph) → Plain (problem_line g)
unfolding problem_line
plain-problem_line g =
    let n = set.len g.vertices in
    let m = set.len g.edges in
    let numbers = decimal n ++ 32 ∷ decimal m in
    plain-after_p (101 ∷ 100 ∷ 103 ∷ 101 ∷ 32 ∷ numbers) (plain-after_edge numbers (plain-pair (decimal n) (decimal m) (plain-decimal n) (plain-decimal m)))

lacks_feed : (text : List ℕ) → Plain text → LacksFeed text
lacks_feed text p = All-weaker (λ byte. 32 ≤ byte) (λ byte. byte ≢ 10) (λ byte h e. omega arith) text p

stays : (text : List ℕ) → Plain text → without_return text ≡ text
stays text p = without_return-stays text (All-weaker (λ byte. 32 ≤ byte) (λ byte. byte ≢ 13) (λ byte h e. omega arith) text p)

words_of_joined : (ws : List (List ℕ)) → Plain (join_with_byte 32 ws) → All IsWord ws → words (join_with_byte 32 ws) ≡ ws
words_of_joined ws p all = ap fields (stays (join_with_byte 32 ws) p) ∙ fields-joined ws all

-- a letter is no blank
abbrev IsNoBlank : ℕ → Type 0
IsNoBlank byte = is_blank byte ≡ false

word_e : IsWord (codes "e")
word_e = record { some_byte = omega arith; no_blank = All-cons IsNoBlank 101 [] refl (All-nil IsNoBlank) }

word_p : IsWord (codes "p")
word_p = record { some_byte = omega arith; no_blank = All-cons IsNoBlank 112 [] refl (All-nil IsNoBlank) }

word_edge : IsWord (codes "edge")
word_edge = record {
  some_byte = omega arith;
  no_blank =
      All-cons IsNoBlank 101 (100 ∷ 103 ∷ 101 ∷ []) refl (All-cons IsNoBlank 100 (103 ∷ 101 ∷ []) refl
      (All-cons IsNoBlank 103 (101 ∷ []) refl (All-cons IsNoBlank 101 [] refl (All-nil IsNoBlank))));
}

words-edge_line : (p : ℕ × ℕ) → words (edge_line p) ≡ codes "e" ∷ decimal p.0 ∷ decimal p.1 ∷ []
unfolding edge_line
words-edge_line p =
    let i = decimal p.0 in
    let j = decimal p.1 in
    words_of_joined (codes "e" ∷ i ∷ j ∷ []) (plain-edge_line p)
    (All-cons IsWord (codes "e") (i ∷ j ∷ []) word_e (All-cons IsWord i (j ∷ []) (decimal_is_word p.0) (All-cons IsWord j [] (decimal_is_word p.1) (All-nil IsWord))))

words-problem_line : (g : PlainGraph) → words (problem_line g) ≡ codes "p" ∷ codes "edge" ∷ decimal (set.len g.vertices) ∷ decimal (set.len g.edges) ∷ []
unfolding problem_line
words-problem_line g =
    let n = decimal (set.len g.vertices) in
    let m = decimal (set.len g.edges) in
    words_of_joined (codes "p" ∷ codes "edge" ∷ n ∷ m ∷ []) (plain-problem_line g)
    (All-cons IsWord (codes "p") (codes "edge" ∷ n ∷ m ∷ []) word_p (All-cons IsWord (codes "edge") (n ∷ m ∷ []) word_edge
    (All-cons IsWord n (m ∷ []) (decimal_is_word (set.len g.vertices)) (All-cons IsWord m [] (decimal_is_word (set.len g.edges)) (All-nil IsWord)))))

-- ---- what the lines name

numbers_read : (n m : ℕ) → n < 10 ^ 18 → m < 10 ^ 18 → both (number_of (decimal n)) (number_of (decimal m)) ≡ Some (n, m)
numbers_read n m hn hm = λ i. both (number_of-decimal n hn i) (number_of-decimal m hm i)

ends_read : (i j : ℕ) → i < 10 ^ 18 → j < 10 ^ 18 → ends_of (codes "e" ∷ decimal i ∷ decimal j ∷ []) ≡ Some (i, j)
unfolding class_of_field ends_in
ends_read i j hi hj = numbers_read i j hi hj

sizes_read : (n m : ℕ) → n < 10 ^ 18 → m < 10 ^ 18 → sizes_of (codes "p" ∷ codes "edge" ∷ decimal n ∷ decimal m ∷ []) ≡ Some (n, m)
unfolding class_of_field sizes_in is_form
sizes_read n m hn hm = numbers_read n m hn hm

-- two places of n, the lower first
pub record ArePlaces (n : ℕ) (p : ℕ × ℕ) : Type 0 where
  pub low : 0 < p.0
  pub up : p.0 < p.1
  pub last : p.1 ≤ n

pub ends-edge_line : (n : ℕ) (p : ℕ × ℕ) → n < NAMES → ArePlaces n p → ends_of (words (edge_line p)) ≡ Some (p.0, p.1)
ends-edge_line n p small places =
    let low = places.low in let up = places.up in let last = places.last in let fits = NAMES-lt in
    ap ends_of (words-edge_line p) ∙ ends_read p.0 p.1 (omega arith) (omega arith)

edge_line_is : (n : ℕ) (p : ℕ × ℕ) → n < NAMES → ArePlaces n p → IsPassedOrEdge n (edge_line p)
edge_line_is n p small places =
    let low = places.low in let up = places.up in let last = places.last in
    inr (record {
      first = p.0;
      second = p.1;
      numbers = ends-edge_line n p small places;
      first_vertex = and_from _ _ (lt-ltb 0 p.0 (omega arith)) (le-leb p.0 n (omega arith));
      second_vertex = and_from _ _ (lt-ltb 0 p.1 (omega arith)) (le-leb p.1 n (omega arith));
      differ = λ e. omega arith;
    })

problem_line_is : (g : PlainGraph) → IsGraph g → set.len g.vertices < NAMES → AreSizes NAMES (set.len g.vertices) (sizes_of (words (problem_line g)))
problem_line_is g is small =
    let fits = NAMES-lt in
    record {
      edge_count = set.len g.edges;
      numbers = ap sizes_of (words-problem_line g) ∙ sizes_read (set.len g.vertices) (set.len g.edges) (omega arith) (len_edges_small g is);
      named = small;
    }

-- ---- all lines

All-flat_map : {X Y : Type 0} (P : X → Type 0) (Q : Y → Type 0) (f : X → List Y) (xs : List X) → All P xs → ((x : X) → P x → All Q (f x)) → All Q (flat_map f xs)
All-flat_map P Q f [] all each = All-nil Q
All-flat_map P Q f (x ∷ xs) all each = All-append Q (f x) (flat_map f xs) (each x (All-head P x xs all)) (All-flat_map P Q f xs (All-tail P x xs all) each)

places_of_row : (g : PlainGraph) → IsGraph g → (v : ℕ) → IsItem g.vertices 0 NAMES v → All (ArePlaces (set.len g.vertices)) (edges_above g v)
unfolding edges_above
places_of_row g is v lv =
    All-map (ArePlaces (set.len g.vertices)) (λ w. (position g v, position g w)) (ascending_from (neighbours g v) (v + 1))
    (All-weaker (IsItem (neighbours g v) (v + 1) NAMES) (λ w. ArePlaces (set.len g.vertices) (position g v, position g w)) (λ w lw.
    let mw = (adjacent_ends is v w (sym (contains-neighbours is v w) ∙ lw.member)).1 in
    let above = lw.above in
    record {
      low = position_first g v;
      up = position_up g v w (omega arith) lv.member;
      last = position_last g w is mw;
    }) (ascending_from (neighbours g v) (v + 1)) (ascending_items (neighbours g v) (v + 1) NAMES))

pub all_places : (g : PlainGraph) → IsGraph g → All (ArePlaces (set.len g.vertices)) (edge_places g)
unfolding edge_places
all_places g is = All-flat_map (IsItem g.vertices 0 NAMES) (ArePlaces (set.len g.vertices)) (edges_above g) (ascending g.vertices) (ascending_items g.vertices 0 NAMES) (places_of_row g is)

text_lines : (g : PlainGraph) → lines (dimacs_text g) ≡ problem_line g ∷ map edge_line (edge_places g)
unfolding dimacs_text
text_lines g =
    lines-ended (problem_line g ∷ map edge_line (edge_places g))
    (All-cons LacksFeed (problem_line g) (map edge_line (edge_places g)) (lacks_feed (problem_line g) (plain-problem_line g))
    (All-map LacksFeed edge_line (edge_places g) (all_lack (edge_places g))))
  where
    all_lack : (ps : List (ℕ × ℕ)) → All (λ p. LacksFeed (edge_line p)) ps
    all_lack [] = All-nil (λ p. LacksFeed (edge_line p))
    all_lack (p ∷ ps) = All-cons (λ p. LacksFeed (edge_line p)) p ps (lacks_feed (edge_line p) (plain-edge_line p)) (all_lack ps)

-- the graph that the text spells
abbrev pub read_back : PlainGraph → PlainGraph
read_back g = with_lines (edgeless (set.len g.vertices)) (map edge_line (edge_places g))

pub text_spells : (g : PlainGraph) → IsGraph g → set.len g.vertices < NAMES → Spells NAMES (dimacs_text g) (read_back g)
text_spells g is small =
    spelled_by_parts NAMES (dimacs_text g) (set.len g.vertices) [] (problem_line g) (map edge_line (edge_places g)) (omega arith) (text_lines g) (All-nil IsPassed) (problem_line_is g is small)
    (All-map (IsPassedOrEdge (set.len g.vertices)) edge_line (edge_places g)
    (All-weaker (ArePlaces (set.len g.vertices)) (λ p. IsPassedOrEdge (set.len g.vertices) (edge_line p)) (λ p places. edge_line_is (set.len g.vertices) p small places) (edge_places g) (all_places g is)))
