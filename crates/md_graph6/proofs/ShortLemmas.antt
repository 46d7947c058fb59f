-- Short lines: the unread bits, and the graph that grows column by column.
use Rattle.std.proofs.Common.{◌≡◌, ℕ, ◌+◌, ◌-◌, ◌*◌, ◌/◌, ◌%◌, ◌^◌, ◌<◌, ◌≤◌, ◌≢◌, Bool, true, false, ◌&&◌, ◌||◌, ◌==◌, if◌then◌else◌, nat_lt, leb, ltb, List, sym, refl, ap, ◌∙◌, arith, bit_or, inl, inr}
use Rattle.std.specs.Int.{bit_at}
use Rattle.std.specs.FinSet as set
use Rattle.std.proofs.lemmas.Bool.{cases_eq, cases_lt}
use Rattle.std.proofs.lemmas.Nat.{mul-le}
use Rattle.std.proofs.lemmas.Bool.Decides.{nat_tests}
use Rattle.std.proofs.lemmas.Nat.{shr-shr, shr_below, shl_whole, or_comm, or_shifted}
use Rattle.md_graph.specs.declared.TheConstants.{NAMES}
use Rattle.md_graph.specs.Sets.{NameSet, Has, Lacks}
use Rattle.md_graph.specs.NameSet.{block}
use Rattle.md_graph.specs.PlainGraph.{PlainGraph, IsGraph, adjacent, with_edges}
use Rattle.md_graph.proofs.SetLaws.{contains-union, contains-empty}
use Rattle.md_graph.proofs.BitWords.{contains-block_below}
use Rattle.md_graph.proofs.GraphLemmas.{IsGraph-with_edges, adjacent-with_edges}
use Rattle.md_graph6.specs.Bits.{bit, pair_number}
use Rattle.md_graph6.specs.Window.{IsWindow}
use Rattle.md_graph6.specs.Filled.{IsEdgeless}
use Rattle.md_graph6.specs.Short.{IsUnread, IsWithColumn, IsFilledTo}
use Rattle.md_graph6.proofs.BitLemmas.{joined_window}
use Rattle.md_graph6.proofs.WriteLemmas.{pair_next}

-- ---- the unread bits

-- `low | high << n`, of six bits
or_group : (low high n : ℕ) → low < 2 ^ n → high < 2 ^ 6 → n ≤ 58 → bit_or low (high * 2 ^ n % 2 ^ 64) ≡ high * 2 ^ n + low
or_group low high n fits few room =
    ap (bit_or low) (shl_whole high 6 n 64 few (omega arith)) ∙ or_comm low (high * 2 ^ n) ∙ or_shifted high n low fits

pub unread_more : (body : List ℕ) (place word held at group : ℕ) → held ≤ 58 → IsUnread body place word held at → IsWindow body (6 * at) 6 group
    → IsUnread body place (bit_or word (group * 2 ^ held % 2 ^ 64)) (held + 6) (at + 1)
unread_more body place word held at group room unread more = record {
  window =
      joined_window body place held (6 * at) 6 (held + 6) word group _ unread.window more unread.next refl
      (or_group word group held unread.window.below more.below room);
  next = omega (arith, unread.next);
}

pub unread_behind : (body : List ℕ) (place count word held at : ℕ) → count ≤ held → IsUnread body place word held at
    → IsUnread body (place + count) (word / 2 ^ count) (held - count) at
unread_behind body place count word held at enough unread = record {
  window = record {
    below =
        let split : held - count + count ≡ held = omega arith in
        let fits : word < 2 ^ (held - count + count) = rw split unread.window.below in
        shr_below word (held - count) count fits;
    bits = λ k h.
        let e : place + (count + k) ≡ place + count + k = omega arith in
        ap (λ x. x % 2) (shr-shr word count k) ∙ unread.window.bits (count + k) (omega arith) ∙ ap (bit body) e;
  };
  next = omega (arith, unread.next, enough);
}

-- the place of unread bits, told by the next byte
pub placed : {body : List ℕ} {place word held at : ℕ} → IsUnread body place word held at → place ≡ 6 * at - held
placed unread = omega (arith, unread.next)

-- before a short column there are few bytes
pub column_few : {body : List ℕ} {j word held at : ℕ} → j < 58 → held < 64 → IsUnread body (pair_number 0 j) word held at → at < 2 ^ 32
column_few {j = j} short room unread =
    let few : j * (j - 1) ≤ 58 * 58 = mul-le j (j - 1) 58 58 (omega arith) (omega arith) in
    omega (arith, few, room, unread.next)

-- where the next column begins
pub next_column : {place : ℕ} (j : ℕ) → pair_number 0 j ≡ place → place + j ≡ pair_number 0 (j + 1)
next_column j e = omega (arith, e, pair_next j)

-- ---- one column

by_word : (a j x y : ℕ) → j < 64 → (a < 64 → x ≡ (if nat_lt a j then y else 0)) → (false || (leb 0 a && (ltb (a - 0) 64 && (x == 1)))) ≡ (nat_lt a j && (y == 1))
by_word a j x y short is = elim (cases_lt a j) [
  | inl less ↦ let inside : a < 64 = omega arith in let e = is inside in grind (arith, nat_tests)
  | inr more ↦ elim (cases_lt a 64) [
    | inl inside ↦ let e = is inside in grind (arith, nat_tests)
    | inr beyond ↦ grind (arith, nat_tests)
  ]
]

-- a set has the numbers below j whose bits are 1
abbrev pub IsColumn : ℕ → ℕ → NameSet → Type 0
IsColumn j word column = (a : ℕ) → set.contains column a ≡ (nat_lt a j && (bit_at word a == 1))

pub in_column : (j word bits : ℕ) (column : NameSet) → j < 64 → column ≡ set.union set.empty (block 0 bits)
    → ((k : ℕ) → k < 64 → bit_at bits k ≡ (if nat_lt k j then bit_at word k else 0)) → IsColumn j word column
in_column j word bits column short is low a =
    ap (λ s. set.contains s a) is ∙ contains-union set.empty (block 0 bits) a ∙ rw (contains-empty a, contains-block_below 0 bits 64 a)
    (by_word a j (bit_at bits (a - 0)) (bit_at word a) short (λ h. let e : a - 0 ≡ a = omega arith in ap (bit_at bits) e ∙ low a h))

pub in_column_below : (j word : ℕ) (column : NameSet) → IsColumn j word column → (w : ℕ) → Has column w → w < j
in_column_below j word column has w m = let t : (nat_lt w j && (bit_at word w == 1)) ≡ true = sym (has w) ∙ m in grind (arith, nat_tests)

pub no_own : (j word : ℕ) (column : NameSet) → IsColumn j word column → Lacks column j
no_own j word column has = has j ∙ none (bit_at word j == 1)
  where
    none : (x : Bool) → (nat_lt j j && x) ≡ false
    none x = grind (arith, nat_tests)

pub column_added : {g new : PlainGraph} (j word : ℕ) (column : NameSet) → j < 58 → IsGraph g → ((v : ℕ) → v ≤ j → Has g.vertices v)
    → IsColumn j word column → new ≡ with_edges g j column → IsWithColumn g j word new
column_added {g} {new} j word column short is ends has e = rw e (record {
  vertices = refl;
  graph = IsGraph-with_edges is j column (ends j (omega arith)) (λ w m. let less = in_column_below j word column has w m in ends w (omega arith)) (no_own j word column has);
  pairs = λ a b less. adjacent-with_edges g j column names a b ∙ rw (has a, has b) (one_way a b less (bit_at word a == 1) (bit_at word b == 1) (adjacent g a b));
})
  where
    names : (w : ℕ) → Has column w → w < NAMES
    names w m = let less = in_column_below j word column has w m in let last = is.names j (ends j (omega arith)) in omega arith

    one_way : (a b : ℕ) → a < b → (x y z : Bool) → ((((a == j) && (nat_lt b j && y)) || ((b == j) && (nat_lt a j && x))) || z) ≡ (z || (((b == j) && nat_lt a j) && x))
    one_way a b less x y z = grind (arith, nat_tests)

-- ---- the columns

pub filled_no_column : {body : List ℕ} {n : ℕ} {g : PlainGraph} → IsEdgeless n g → IsFilledTo body n 0 g
filled_no_column {body} {n} {g} has = record {
  vertices = has.vertices;
  graph = has.graph;
  pairs = λ a b up. has.no_edge a b ∙ none b (bit body (pair_number a b) == 1);
}
  where
    none : (b : ℕ) (x : Bool) → false ≡ (nat_lt b 0 && x)
    none b x = grind (arith, nat_tests)

pub filled_column : {body : List ℕ} {n j word held at : ℕ} {g new : PlainGraph} → IsFilledTo body n j g → IsUnread body (pair_number 0 j) word held at → j ≤ held
    → IsWithColumn g j word new → IsFilledTo body n (j + 1) new
filled_column {body} {n} {j} {word} {held} {at} {g} {new} filled unread enough column = record {
  vertices = λ v. ap (λ s. set.contains s v) column.vertices ∙ filled.vertices v;
  graph = column.graph;
  pairs = λ a b up. column.pairs a b up ∙ rw (filled.pairs a b up) (more a b up);
}
  where
    earlier : (a b : ℕ) (x y : Bool) → b ≢ j → ((nat_lt b j && x) || (((b == j) && nat_lt a j) && y)) ≡ (nat_lt b (j + 1) && x)
    earlier a b x y ne = grind (arith, nat_tests)

    last : (a : ℕ) (x : Bool) → a < j → ((nat_lt j j && x) || (((j == j) && nat_lt a j) && x)) ≡ (nat_lt j (j + 1) && x)
    last a x up = grind (arith, nat_tests)

    more : (a b : ℕ) → a < b → ((nat_lt b j && (bit body (pair_number a b) == 1)) || (((b == j) && nat_lt a j) && (bit_at word a == 1))) ≡ (nat_lt b (j + 1) && (bit body (pair_number a b) == 1))
    more a b up = elim (cases_eq b j) [
      | inl same ↦
          let below : a < j = omega arith in
          let e : pair_number 0 j + a ≡ pair_number a j = omega arith in
          let its_bit : bit_at word a ≡ bit body (pair_number a j) = unread.window.bits a (omega arith) ∙ ap (bit body) e in
          rw (same, its_bit) (last a (bit body (pair_number a j) == 1) below)
      | inr other ↦ earlier a b _ _ other
    ]
