-- A body that holds the bits of a graph is the one that the text of the graph has.
use Rattle.std.proofs.Common.{◌≡◌, ℕ, zero, suc, ◌+◌, ◌-◌, ◌*◌, ◌<◌, ◌≤◌, List, [], ◌∷◌, ◌++◌, take, drop, length, get_or, length-append, refl, sym, ap, subst, ◌∙◌, arith, inl, inr}
use Rattle.std.specs.Int.{bit_at}
use Rattle.std.proofs.lemmas.Bool.{cases_lt}
use Rattle.std.proofs.lemmas.List.{get_or_append_left, get_or-append_right, get_or_default, get_or_past, take-append-drop, take_all}
use Rattle.std.proofs.Math.Seq.{take-suc}
use Rattle.md_graph.specs.NameSet.{ascending}
use Rattle.md_graph.specs.PlainGraph.{PlainGraph}
use Rattle.md_graph6.specs.Bits.{bit, pair_number, body_length}
use Rattle.md_graph6.specs.Size.{size_text}
use Rattle.md_graph6.specs.Written.{bit_if, are_adjacent, IsWritten}
use Rattle.md_graph6.specs.Text.{column_bits, pair_bits, six_bits, bytes_of_bits, graph_line_text, graph6_text}
use Rattle.md_graph6.proofs.BitLemmas.{byte_bits}
use Rattle.md_graph6.proofs.WriteLemmas.{pair_next}

length-column_bits : (g : PlainGraph) (j i : ℕ) → length (column_bits g j i) ≡ i
unfolding column_bits
length-column_bits g j zero = refl
length-column_bits g j (suc i) =
    omega (arith, length-append (column_bits g j i) (bit_if (are_adjacent g i j) ∷ []), length-column_bits g j i)

length-pair_bits : (g : PlainGraph) (n : ℕ) → length (pair_bits g n) ≡ pair_number 0 n
unfolding pair_bits
length-pair_bits g zero = refl
length-pair_bits g (suc j) =
    let next : pair_number 0 (suc j) ≡ pair_number j j = subst (λ (x : ℕ). pair_number 0 x ≡ pair_number j j) (omega arith) (pair_next j) in
    let up : pair_number j j ≡ pair_number 0 j + j = omega arith in
    length-append (pair_bits g j) (column_bits g j j) ∙ omega (arith, next, up, length-pair_bits g j, length-column_bits g j j)

-- a bit of a column
column_bit : (g : PlainGraph) (j i k : ℕ) → k < i → get_or (column_bits g j i) k 0 ≡ bit_if (are_adjacent g k j)
unfolding column_bits
column_bit g j zero k below = absurd (omega (arith, below))
column_bit g j (suc i) k below = elim (cases_lt k i) [
  | inl less ↦ get_or_append_left (column_bits g j i) (bit_if (are_adjacent g i j) ∷ []) 0 k (subst (λ (n : ℕ). k < n) (sym (length-column_bits g j i)) less) ∙ column_bit g j i k less
  | inr more ↦
      let same : k ≡ i = omega (arith, below, more) in
      let none : k - i ≡ 0 = omega arith in
      get_or-append_right (column_bits g j i) (bit_if (are_adjacent g i j) ∷ []) i k 0 (length-column_bits g j i) more
      ∙ ap (λ (n : ℕ). get_or (bit_if (are_adjacent g i j) ∷ []) n 0) none
      ∙ ap (λ (n : ℕ). bit_if (are_adjacent g n j)) (sym same)
]

-- a bit of the pairs is that of a body which holds them
pair_bit : (body : List ℕ) (g : PlainGraph) (n : ℕ) → ((i j : ℕ) → i < j → j < n → bit body (pair_number i j) ≡ bit_if (are_adjacent g i j))
    → (j p : ℕ) → j ≤ n → p < pair_number 0 j → get_or (pair_bits g j) p 0 ≡ bit body p
unfolding pair_bits
pair_bit body g n holds zero p within below = absurd (omega (arith, below))
pair_bit body g n holds (suc j) p within below = elim (cases_lt p (pair_number 0 j)) [
  | inl less ↦
      get_or_append_left (pair_bits g j) (column_bits g j j) 0 p (subst (λ (m : ℕ). p < m) (sym (length-pair_bits g j)) less)
      ∙ pair_bit body g n holds j p (omega (arith, within)) less
  | inr more ↦
      let next : pair_number 0 (suc j) ≡ pair_number j j = subst (λ (x : ℕ). pair_number 0 x ≡ pair_number j j) (omega arith) (pair_next j) in
      let up : pair_number j j ≡ pair_number 0 j + j = omega arith in
      let row : p - pair_number 0 j < j = omega (arith, next, up, below, more) in
      let place : pair_number (p - pair_number 0 j) j ≡ p = omega (arith, more) in
      get_or-append_right (pair_bits g j) (column_bits g j j) (pair_number 0 j) p 0 (length-pair_bits g j) more
      ∙ column_bit g j j (p - pair_number 0 j) row
      ∙ sym (holds (p - pair_number 0 j) j row (omega (arith, within)))
      ∙ ap (bit body) place
]

-- a bit of the text is that of a body which holds the pairs and no other bit
text_bit : (body : List ℕ) (g : PlainGraph) (n p : ℕ) → IsWritten body g n → get_or (pair_bits g n) p 0 ≡ bit body p
text_bit body g n p written = elim (cases_lt p (pair_number 0 n)) [
  | inl less ↦ pair_bit body g n written.bits n p (omega arith) less
  | inr more ↦ get_or_past (pair_bits g n) p 0 (subst (λ (m : ℕ). m ≤ p) (sym (length-pair_bits g n)) more) ∙ sym (written.blank p more)
]

-- a number of six bits by its bits
six_bits_of : (v : ℕ) → v < 64 → v ≡ 32 * bit_at v 5 + 16 * bit_at v 4 + 8 * bit_at v 3 + 4 * bit_at v 2 + 2 * bit_at v 1 + bit_at v 0
six_bits_of v below = omega (arith, below)

body_byte : (body : List ℕ) (g : PlainGraph) (n k : ℕ) → IsWritten body g n → k < length body → get_or body k 0 ≡ 63 + six_bits (pair_bits g n) (6 * k)
body_byte body g n k written within =
    let b = get_or body k 63 in
    let low : 63 ≤ b = written.groups.low k within in
    let high : b < 127 = written.groups.high k within in
    let of : (r : ℕ) → r < 6 → get_or (pair_bits g n) (6 * k + r) 0 ≡ bit_at (b - 63) (5 - r) = λ r below. text_bit body g n (6 * k + r) written ∙ byte_bits body k r below in
    let zeroth : get_or (pair_bits g n) (6 * k) 0 ≡ bit_at (b - 63) 5 = ap (λ (p : ℕ). get_or (pair_bits g n) p 0) (omega arith) ∙ of 0 (omega arith) in
    let value : b - 63 ≡ six_bits (pair_bits g n) (6 * k) =
    rw (zeroth, of 1 (omega arith), of 2 (omega arith), of 3 (omega arith), of 4 (omega arith), of 5 (omega arith)) (six_bits_of (b - 63) (omega (arith, high))) in
    get_or_default body k 0 63 within ∙ omega (arith, low, value)

-- the first bytes of the body are those of the text
front_bytes : (body : List ℕ) (g : PlainGraph) (n : ℕ) → IsWritten body g n → (k : ℕ) → k ≤ length body → take k body ≡ bytes_of_bits (pair_bits g n) k
unfolding bytes_of_bits
front_bytes body g n written zero within = refl
front_bytes body g n written (suc k) within =
    take-suc body k 0 (omega (arith, within))
    ∙ ap (λ (byte : ℕ). take k body ++ byte ∷ []) (body_byte body g n k written (omega (arith, within)))
    ∙ ap (λ (front : List ℕ). front ++ (63 + six_bits (pair_bits g n) (6 * k)) ∷ []) (front_bytes body g n written k (omega (arith, within)))

-- the body is the text's
pub written_bytes : (body : List ℕ) (g : PlainGraph) (n : ℕ) → IsWritten body g n → length body ≡ body_length n → body ≡ bytes_of_bits (pair_bits g n) (body_length n)
written_bytes body g n written long =
    sym (take_all (body_length n) body (omega (arith, long))) ∙ front_bytes body g n written (body_length n) (omega (arith, long))

-- so is the whole line
pub line_written : (line : List ℕ) (g : PlainGraph) (size n : ℕ) → n ≡ length (ascending g.vertices) → take size line ≡ size_text n → length (drop size line) ≡ body_length n → IsWritten (drop size line) g n → line ++ 10 ∷ [] ≡ graph6_text g
unfolding graph6_text
line_written line g size n count begins long written =
    ap (λ (l : List ℕ). l ++ 10 ∷ [])
    (sym (take-append-drop size line) ∙ ap (λ (s : List ℕ). s ++ drop size line) begins ∙ ap (λ (b : List ℕ). size_text n ++ b) (written_bytes (drop size line) g n written long) ∙ ap (graph_line_text g) count)
