-- The columns of a body, written one after the other.
use Rattle.std.proofs.Common.{◌≡◌, ℕ, zero, suc, ◌+◌, ◌-◌, ◌*◌, ◌/◌, ◌%◌, ◌^◌, ◌<◌, ◌≤◌, Bool, true, false, ◌&&◌, ◌==◌, List, ◌++◌, IsTrue, take, drop, length-append, length, get_or, replicate, refl, sym, ap, ◌∙◌, subst, arith, bit_or, nat_lt, if◌then◌else◌, inl, inr}
use Rattle.std.specs.Int.{bit_at}
use Rattle.std.proofs.lemmas.Nat.Bits.{bit_at-zero, bit_at_above, bit_at_or, bit_at-lt}
use Rattle.std.proofs.lemmas.Bool.{cases_Bool, cases_lt, eqb-true, ltb-true, lt-ltb, le-ltb, and_parts}
use Rattle.std.proofs.lemmas.List.{take-append-drop, get_or_default, get_or-replicate, get_or_past, length-replicate, length-drop}
use Rattle.std.proofs.Math.Seq.{take-append_seam, drop-append_seam}
use Rattle.std.specs.List.{AllPass}
use Rattle.md_graph.specs.declared.TheConstants.{NAMES}
use Rattle.md_graph.proofs.NameLemmas.{ascending_items, few_below}
use Rattle.md_graph.proofs.Transposing.{bit_at_shl, bit_at_shr}
use Rattle.md_graph6.proofs.BitLemmas.{bit_at_mod, bit_at_shl_low}
use Rattle.md_graph6.specs.Size.{size_text}
use Rattle.md_graph6.specs.Line.{SpellsGraph6, is_group}
use Rattle.md_graph6.proofs.DecodeLemmas.{contains-numbers_below}
use Rattle.std.proofs.lemmas.Bool.Decides.{nat_tests}
use Rattle.std.specs.FinSet as set
use Rattle.md_graph.specs.Sets.{NameSet, Has}
use Rattle.md_graph.specs.NameSet.{AllBelow, ascending}
use Rattle.md_graph6.specs.Bits.{bit, pair_number, body_length, IsBodyOf}
use Rattle.md_graph6.specs.Window.{AreGroups}
use Rattle.md_graph6.specs.Written.{bit_if, nth, are_adjacent, renumbered, AreFrom, IsWritten}
use Rattle.md_graph.specs.PlainGraph.{PlainGraph, IsGraph, adjacent, neighbours}
use Rattle.md_graph.proofs.GraphLemmas.{contains-neighbours, contains-pairs_where, adjacent_sym, adjacent_up}

-- a bit by its test
pub bit_by_test : (b : ℕ) (t : Bool) → b < 2 → t ≡ (b == 1) → b ≡ bit_if t
bit_by_test b t two e =
    elim (cases_Bool t) [
      | inl is_one ↦ rw is_one (eqb-true b 1 (sym e ∙ is_one))
      | inr not_one ↦ let f = sym e ∙ not_one in let none : b ≡ 0 = grind (arith, nat_tests) in rw not_one none
    ]

-- what stands behind the lowest `count` bits
pub low_none : (bits low count k : ℕ) → low < 2 ^ 64
    → ((k : ℕ) → k < 64 → bit_at low k ≡ (if nat_lt k count then bit_at bits k else 0))
    → count ≤ k → bit_at low k ≡ 0
low_none bits low count k fits cut past =
    elim (cases_lt k 64) [
      | inl inside ↦ let f : nat_lt k count ≡ false = grind (arith, nat_tests) in cut k inside ∙ rw f refl
      | inr outside ↦ bit_at_above low 64 k fits outside
    ]

-- ---- 64 names from any on

-- bits of the word in which the first of the names stands
pub low_block : (s : NameSet) (from first shift bits k : ℕ) → from ≡ first + shift → k + shift < 64
    → ((k : ℕ) → k < 64 → set.contains s (first + k) ≡ (bit_at bits k == 1))
    → set.contains s (from + k) ≡ (bit_at (bits / 2 ^ shift) k == 1)
low_block s from first shift bits k is inside block =
    let e : from + k ≡ first + (k + shift) = omega arith in
    rw (e, bit_at_shr bits shift k) (block (k + shift) inside)

-- bits of two neighbouring words
pub two_blocks : (s : NameSet) (from first next shift low high k : ℕ) → from ≡ first + shift → next ≡ first + 64 → shift < 64 → k < 64 → low < 2 ^ 64
    → ((k : ℕ) → k < 64 → set.contains s (first + k) ≡ (bit_at low k == 1))
    → ((k : ℕ) → k < 64 → set.contains s (next + k) ≡ (bit_at high k == 1))
    → set.contains s (from + k) ≡ (bit_at (bit_or (low / 2 ^ shift) (high * 2 ^ (64 - shift) % 2 ^ 64)) k == 1)
two_blocks s from first next shift low high k is follows small inside fits block behind =
    let both = bit_at_or (low / 2 ^ shift) (high * 2 ^ (64 - shift) % 2 ^ 64) k in
    elim (cases_lt (k + shift) 64) [
      | inl here ↦
          let none : bit_at (high * 2 ^ (64 - shift) % 2 ^ 64) k ≡ 0 = bit_at_mod (high * 2 ^ (64 - shift)) 64 k inside ∙ bit_at_shl_low high (64 - shift) k (omega arith) in
          let one : bit_at (bit_or (low / 2 ^ shift) (high * 2 ^ (64 - shift) % 2 ^ 64)) k ≡ bit_at (low / 2 ^ shift) k = omega (arith, both, none) in
          rw one (low_block s from first shift low k is here block)
      | inr there ↦
          let none : bit_at (low / 2 ^ shift) k ≡ 0 = bit_at_shr low shift k ∙ bit_at_above low 64 (k + shift) fits there in
          let moved : bit_at (high * 2 ^ (64 - shift) % 2 ^ 64) k ≡ bit_at high (k - (64 - shift)) = bit_at_shl high (64 - shift) k inside (omega arith) in
          let one : bit_at (bit_or (low / 2 ^ shift) (high * 2 ^ (64 - shift) % 2 ^ 64)) k ≡ bit_at high (k - (64 - shift)) = omega (arith, both, none, moved) in
          let e : from + k ≡ next + (k - (64 - shift)) = omega arith in
          rw (one, e) (behind (k - (64 - shift)) (omega arith))
    ]

-- ---- the words of a column

-- a word of a column, cut to the rows above the diagonal
column_bit : (f : ℕ → Bool) (first j bits low k : ℕ) → first ≤ j
    → (first + k < j → f (first + k) ≡ (bit_at bits k == 1))
    → bit_at low k ≡ (if nat_lt k (j - first) then bit_at bits k else 0)
    → bit_at low k ≡ bit_if (nat_lt (first + k) j && f (first + k))
column_bit f first j bits low k started is cut =
    elim (cases_lt k (j - first)) [
      | inl below ↦
          let b = bit_by_test (bit_at bits k) (f (first + k)) (bit_at-lt bits k) (is (omega arith)) in
          let t : nat_lt k (j - first) ≡ true = grind (arith, nat_tests) in
          let u : nat_lt (first + k) j ≡ true = grind (arith, nat_tests) in
          cut ∙ rw (t, u) b
      | inr above ↦
          let t : nat_lt k (j - first) ≡ false = grind (arith, nat_tests) in
          let u : nat_lt (first + k) j ≡ false = grind (arith, nat_tests) in
          cut ∙ rw (t, u) refl
    ]

-- one more word of a column
pub written_more : (old mid new : List ℕ) (f : ℕ → Bool) (place j first next bits low k : ℕ) → next ≡ first + 64 → first ≤ j → low < 2 ^ 64
    → ((k : ℕ) → bit mid k ≡ (if nat_lt k place then bit old k else bit_if (nat_lt (k - place) first && (nat_lt (k - place) j && f (k - place)))))
    → ((k : ℕ) → k < 64 → first + k < j → f (first + k) ≡ (bit_at bits k == 1))
    → ((k : ℕ) → k < 64 → bit_at low k ≡ (if nat_lt k (j - first) then bit_at bits k else 0))
    → ((k : ℕ) → bit new k ≡ (if nat_lt k (place + first) then bit mid k else bit_at low (k - (place + first))))
    → bit new k ≡ (if nat_lt k place then bit old k else bit_if (nat_lt (k - place) next && (nat_lt (k - place) j && f (k - place))))
written_more old mid new f place j first next bits low k after started fits before is cut put =
    put k ∙ elim (cases_lt k (place + first)) [
      | inl done ↦
          let t : nat_lt k (place + first) ≡ true = grind (arith, nat_tests) in
          rw t (before k ∙ elim (cases_lt k place) [
            | inl earlier ↦ let u : nat_lt k place ≡ true = grind (arith, nat_tests) in rw u refl
            | inr here ↦
                let u : nat_lt (k - place) first ≡ true = grind (arith, nat_tests) in
                let v : nat_lt (k - place) next ≡ true = grind (arith, nat_tests) in
                rw (u, v) refl
          ])
      | inr here ↦
          let t : nat_lt k (place + first) ≡ false = grind (arith, nat_tests) in
          let u : nat_lt k place ≡ false = grind (arith, nat_tests) in
          let e : first + (k - (place + first)) ≡ k - place = omega arith in
          rw (t, u) (elim (cases_lt (k - (place + first)) 64) [
            | inl inside ↦
                let v : nat_lt (k - place) next ≡ true = grind (arith, nat_tests) in
                column_bit f first j bits low (k - (place + first)) started (is (k - (place + first)) inside) (cut (k - (place + first)) inside)
                ∙ ap (λ i. bit_if (nat_lt i j && f i)) e
                ∙ rw v refl
            | inr outside ↦
                let v : nat_lt (k - place) next ≡ false = grind (arith, nat_tests) in
                bit_at_above low 64 (k - (place + first)) fits outside ∙ rw v refl
          ])
    ]

-- the 64 names from `least + first` on, seen from the least
pub seen_from : (s : NameSet) (least first j from bits limit : ℕ) → from ≡ least + first → least + j < limit
    → ((k : ℕ) → k < 64 → from + k < limit → set.contains s (from + k) ≡ (bit_at bits k == 1))
    → (k : ℕ) → k < 64 → first + k < j → set.contains s (least + (first + k)) ≡ (bit_at bits k == 1)
seen_from s least first j from bits limit is inside block k h below =
    let e : from + k ≡ least + (first + k) = omega arith in
    ap (set.contains s) (sym e) ∙ block k h (omega arith)

-- ---- pair numbers

-- one column more
triangle_next : (j : ℕ) → (j + 1) * (j + 1 - 1) / 2 ≡ j * (j - 1) / 2 + j
triangle_next zero = refl
triangle_next (suc i) =
    let above : suc i + 1 - 1 ≡ suc i = omega arith in
    let below : suc i - 1 ≡ i = omega arith in
    let product : (suc i + 1) * suc i ≡ suc i * i + 2 * suc i = omega arith in
    rw (above, below, product) (omega arith)

pub pair_next : (j : ℕ) → pair_number 0 (j + 1) ≡ pair_number j j
pair_next j = omega (arith, triangle_next j)

pub pair_mono : (b j : ℕ) → b ≤ j → pair_number 0 b ≤ pair_number 0 j
pair_mono b zero h = let e : b ≡ 0 = omega arith in rw e (omega arith)
pair_mono b (suc j) h =
    elim (cases_lt b (suc j)) [
      | inl less ↦ let before = pair_mono b j (omega arith) in let next = pair_next j in let up : pair_number 0 j ≤ pair_number j j = omega arith in let one : j + 1 ≡ suc j = omega arith in subst (λ x. pair_number 0 b ≤ pair_number 0 x) one (rw next (omega (arith, before, up)))
      | inr more ↦ let e : b ≡ suc j = omega arith in rw e (omega arith)
    ]

-- the pairs of earlier columns stand before column j
pub pair_before : (a b j : ℕ) → a < b → b < j → pair_number a b < pair_number 0 j
pair_before a b j up less =
    let next = pair_next b in
    let mono = pair_mono (b + 1) j (omega arith) in
    let here : pair_number a b < pair_number b b = omega arith in
    omega (arith, next, mono, here)

-- one column more
pub IsWritten-more : {old new : List ℕ} {g : PlainGraph} {j : ℕ} (f : ℕ → Bool) → IsWritten old g j → AreGroups new
    → ((k : ℕ) → k < pair_number 0 j → bit new k ≡ bit old k)
    → ((i : ℕ) → bit new (pair_number i j) ≡ bit_if (nat_lt i j && f i))
    → ((i : ℕ) → i < j → f i ≡ are_adjacent g i j)
    → IsWritten new g (j + 1)
IsWritten-more {old} {new} {g} {j} f written groups before here is = record {
  groups = groups;
  bits = λ a b up inside. elim (cases_lt b j) [
    | inl less ↦ before (pair_number a b) (pair_before a b j up less) ∙ written.bits a b up less
    | inr more ↦
        let e : j ≡ b = omega arith in
        let t : nat_lt a j ≡ true = grind (arith, nat_tests) in
        subst (λ x. bit new (pair_number a x) ≡ bit_if (are_adjacent g a x)) e (here a ∙ rw (t, is a (omega arith)) refl)
  ];
  blank = λ k past.
      let next = pair_next j in
      let e : k ≡ pair_number (k - pair_number 0 j) j = omega (arith, next) in
      let f : nat_lt (k - pair_number 0 j) j ≡ false = le-ltb (k - pair_number 0 j) j (omega (arith, next)) in
      ap (bit new) e ∙ here (k - pair_number 0 j) ∙ rw f refl;
}

-- ---- the columns of a graph

-- the row of a vertex
row_at : {g : PlainGraph} (row : NameSet) (v u : ℕ) → IsGraph g → row ≡ neighbours g v → set.contains row u ≡ adjacent g u v
row_at {g} row v u is e = ap (λ s. set.contains s u) e ∙ contains-neighbours is v u ∙ adjacent_sym g v u

-- the consecutive numbers are the vertices, so they are below what all vertices are
pub consecutive_vertex : (g : PlainGraph) (least n j : ℕ) → n ≡ length (ascending g.vertices) → AreFrom g least n → j < n → Has g.vertices (least + j)
consecutive_vertex g least n j count consecutive inside =
    let item = ascending_items g.vertices 0 NAMES j 0 (omega arith) in
    subst (Has g.vertices) (consecutive j inside) item.member

pub consecutive_name : (g : PlainGraph) (limit least n j : ℕ) → AllBelow g.vertices limit → n ≡ length (ascending g.vertices)
    → AreFrom g least n → j < n → least + j < limit
consecutive_name g limit least n j all count consecutive inside = all _ (consecutive_vertex g least n j count consecutive inside)

-- where the vertices are consecutive numbers, a row is a column
pub consecutive_column : {g : PlainGraph} (row : NameSet) (least n j v : ℕ) → IsGraph g → v ≡ least + j → row ≡ neighbours g v
    → AreFrom g least n → j < n → (i : ℕ) → i < j → set.contains row (least + i) ≡ are_adjacent g i j
consecutive_column {g} row least n j v is place e consecutive inside i up =
    let here = consecutive i (omega arith) in
    let there = consecutive j inside ∙ sym place in
    row_at row v (least + i) is e ∙ sym (ap (λ x. adjacent g x (nth g j)) here ∙ ap (adjacent g (least + i)) there)

-- a column that was gathered from a row
pub gathered_column : {g : PlainGraph} (row column : NameSet) (v j : ℕ) → IsGraph g → row ≡ neighbours g v → v ≡ nth g j
    → ((i : ℕ) → set.contains column i ≡ (nat_lt i j && set.contains row (nth g i)))
    → (i : ℕ) → i < j → set.contains column (0 + i) ≡ are_adjacent g i j
gathered_column {g} row column v j is e vertex gathered i up =
    let t : nat_lt i j ≡ true = grind (arith, nat_tests) in
    let z : 0 + i ≡ i = omega arith in
    ap (set.contains column) z ∙ gathered i ∙ rw t (row_at row v (nth g i) is e ∙ ap (adjacent g (nth g i)) vertex)

-- ---- the whole text

are_groups_pass : (body : List ℕ) → AreGroups body → AllPass is_group body
are_groups_pass body are = λ k d h.
    let e = get_or_default body k d 63 h in
    let low = are.low k h in
    let high = are.high k h in
    rw e (grind (arith, nat_tests))

pub IsGraph-renumbered : (g : PlainGraph) → IsGraph (renumbered g)
IsGraph-renumbered g =
    let n = length (ascending g.vertices) in
    let few = few_below g.vertices 0 NAMES in
    let parts = λ (u v : ℕ) (h : IsTrue (set.contains (renumbered g).edges (u, v))). and_parts (nat_lt u v) (nat_lt v n) (and_parts _ _ (sym (contains-pairs_where (are_adjacent g) n u v) ∙ h)).0 in
    record {
      names = λ v h. omega (arith, few, ltb-true v n (sym (contains-numbers_below n v) ∙ h));
      ordered = λ u v h. ltb-true u v (parts u v h).0;
      low_end = λ u v h. contains-numbers_below n u ∙ lt-ltb u n (omega (arith, ltb-true u v (parts u v h).0, ltb-true v n (parts u v h).1));
      high_end = λ u v h. contains-numbers_below n v ∙ (parts u v h).1;
    }

adjacent-renumbered : (g : PlainGraph) (i j : ℕ) → i < j → j < length (ascending g.vertices) → adjacent (renumbered g) i j ≡ are_adjacent g i j
adjacent-renumbered g i j up inside =
    adjacent_up (renumbered g) i j up
    ∙ contains-pairs_where (are_adjacent g) (length (ascending g.vertices)) i j
    ∙ rw (lt-ltb i j up, lt-ltb j (length (ascending g.vertices)) inside) refl

-- a body that is written is one of the renumbered graph
pub IsBodyOf-written : (body : List ℕ) (g : PlainGraph) → IsWritten body g (length (ascending g.vertices))
    → IsBodyOf body (length (ascending g.vertices)) (renumbered g)
IsBodyOf-written body g written = record {
  vertices = contains-numbers_below (length (ascending g.vertices));
  graph = IsGraph-renumbered g;
  edges = λ i j up inside. adjacent-renumbered g i j up inside ∙ tested (are_adjacent g i j) ∙ ap (λ b. b == 1) (sym (written.bits i j up inside));
}
  where
    tested : (b : Bool) → b ≡ (bit_if b == 1)
    tested true = refl
    tested false = refl

pub SpellsLine-written : (line : List ℕ) (size n : ℕ) (g : PlainGraph) → n ≡ length (ascending g.vertices)
    → take size line ≡ size_text n → length (drop size line) ≡ body_length n → IsWritten (drop size line) g n
    → SpellsGraph6 NAMES line (renumbered g)
SpellsLine-written line size n g count begins long written = record {
  n = n;
  body = drop size line;
  few = omega (arith, count, few_below g.vertices 0 NAMES);
  text = sym (take-append-drop size line) ∙ ap (λ s. s ++ drop size line) begins;
  long = long;
  groups = are_groups_pass (drop size line) written.groups;
  bits = subst (λ m. IsBodyOf (drop size line) m (renumbered g)) (sym count) (IsBodyOf-written (drop size line) g (subst (IsWritten (drop size line) g) count written));
  padding = λ k past within. written.blank k (omega arith);
}

-- what a write through a slice of a whole `Vec` leaves
pub whole_back : (now items : List ℕ) (len : ℕ) → length now ≡ length items → len ≡ length items → take len (now ++ drop (length now) items) ≡ now
whole_back now items len same is =
    let e : len ≡ length now = is ∙ sym same in
    rw e (take-append_seam now (drop (length now) items))

pub size_kept : (line items now : List ℕ) (size n many : ℕ) → take size line ≡ take size now → now ≡ items → items ≡ size_text n ++ replicate many 63
    → size ≡ length (size_text n) → take size line ≡ size_text n
size_kept line items now size n many kept same blank is =
    kept ∙ rw (same, blank, is) (take-append_seam (size_text n) (replicate many 63))

pub body_kept : (line items : List ℕ) (size n many : ℕ) → length line ≡ length items → items ≡ size_text n ++ replicate many 63
    → size ≡ length (size_text n) → length (drop size line) ≡ many
body_kept line items size n many same blank is =
    omega (arith, length-drop size line, same, ap length blank ∙ length-append (size_text n) (replicate many 63), length-replicate {A = ℕ} many 63, is)

no_bit : (many k : ℕ) → ◌≡◌ {A = ℕ} (get_or (replicate many 63) k 63) 63
no_bit many k =
    elim (cases_lt k many) [
      | inl inside ↦ get_or-replicate many k 63 63 inside
      | inr past ↦ get_or_past (replicate many 63) k 63 (omega (arith, length-replicate {A = ℕ} many 63, past))
    ]

-- a line without edges holds the bits of no vertex
pub blank_written : (line : List ℕ) (g : PlainGraph) (size n many : ℕ) → line ≡ size_text n ++ replicate many 63
    → size ≡ length (size_text n) → IsWritten (drop size line) g 0
blank_written line g size n many blank is =
    rw (blank, is, drop-append_seam (size_text n) (replicate many 63)) (record {
      groups = record {
        low = λ k inside. omega (arith, no_bit many k);
        high = λ k inside. omega (arith, no_bit many k);
      };
      bits = λ i j less none. absurd (omega (arith, none));
      blank = λ k past. ap (λ byte. bit_at (byte - 63) (5 - k % 6)) (no_bit many (k / 6)) ∙ bit_at-zero (5 - k % 6);
    })
