-- A directed graph on the way from its vertices alone to what a body spells, row by row.
use Rattle.std.proofs.Common.{◌≡◌, AllPairs, ℕ, suc, ◌+◌, ◌-◌, ◌*◌, ◌^◌, ◌<◌, ◌≤◌, ◌==◌, ◌&&◌, ◌||◌, Bool, true, false, nat_lt, nat_le, List, [], ◌∷◌, length, get_or, if◌then◌else◌, inl, inr, refl, sym, ap, subst, ◌∙◌, arith, ltb-true}
use Rattle.std.specs.Int.{bit_at}
use Rattle.std.specs.FinSet as set
use Rattle.std.proofs.lemmas.Bool.{cases_lt, cases_eq, lt-ltb, le-ltb, ne_eqb, eq-eqb, and_parts}
use Rattle.std.proofs.lemmas.Bool.Decides.{nat_tests}
use Rattle.md_graph.specs.Sets.{NameSet, Has, Lacks}
use Rattle.md_graph.specs.NameSet.{AllBelow, ascending, block}
use Rattle.md_graph.specs.declared.TheConstants.{NAMES}
use Rattle.md_graph.proofs.SetLaws.{contains-empty, contains-insert, contains-union}
use Rattle.md_graph.proofs.BitWords.{contains-block_below}
use Rattle.md_graph.proofs.NameLemmas.{ascending_order}
use Rattle.md_graph.proofs.EachRow.{listed, contains-ascending}
use Rattle.md_digraph.specs.declared.TheConstants.{DIRECTED_NAMES}
use Rattle.md_digraph.specs.PlainDigraph.{PlainDigraph, has_arc_to, digraph_with_vertex, with_arc, empty_digraph}
use Rattle.md_digraph.proofs.DigraphLemmas.{has_arc_to-empty_digraph, has_arc_to-with_vertex, has_arc_to-with_arc}
use Rattle.std.proofs.lemmas.Nat.{mul-le}
use Rattle.md_graph6.specs.Bits.{bit}
use Rattle.md_graph6.specs.Short.{IsUnread}
use Rattle.md_digraph6.specs.ArcLine.{is_arc, some_loop, IsArcBodyOf}
use Rattle.md_digraph6.specs.ArcFilled.{HasArcRows, IsArcRow, IsWithArcs}
use Rattle.md_digraph6.proofs.ArcBits.{no_loop_at, bits_are_body}

-- ---- the vertices

-- the numbers below v, without arcs
pub record IsArcless (v : ℕ) (g : PlainDigraph) : Type 0 where
  pub vertices : (w : ℕ) → set.contains g.vertices w ≡ nat_lt w v
  pub no_arc : (a b : ℕ) → has_arc_to g a b ≡ false

pub arcless_none : (g : PlainDigraph) → g ≡ empty_digraph → IsArcless 0 g
arcless_none g e = rw e (record {
  vertices = λ w. contains-empty w ∙ sym (le-ltb w 0 (omega arith));
  no_arc = has_arc_to-empty_digraph;
})

pub arcless_more : (v : ℕ) (g new : PlainDigraph) → IsArcless v g → new ≡ digraph_with_vertex g v → IsArcless (v + 1) new
arcless_more v g new before e = rw e (record {
  vertices = λ w. contains-insert g.vertices v w ∙ ap (λ b. (w == v) || b) (before.vertices w) ∙ next w;
  no_arc = λ a b. has_arc_to-with_vertex g v a b ∙ before.no_arc a b;
})
  where
    next : (w : ℕ) → ((w == v) || nat_lt w v) ≡ nat_lt w (v + 1)
    next w = grind (arith, nat_tests)

-- ---- one row

-- the bits of a row from column `low` on, cut at its end
pub row_cut : (body : List ℕ) (n i low place bits cut k : ℕ) → low ≤ n → place ≡ i * n + low
    → bit_at bits k ≡ bit body (place + k)
    → bit_at cut k ≡ (if nat_lt k (n - low) then bit_at bits k else 0)
    → bit_at cut k ≡ (if nat_lt (low + k) n then bit body (i * n + (low + k)) else 0)
row_cut body n i low place bits cut k inside is stream e =
    let same : nat_lt k (n - low) ≡ nat_lt (low + k) n = grind (arith, nat_tests) in
    let where_it_is : place + k ≡ i * n + (low + k) = omega (arith, is) in
    e ∙ rw same (ap (λ x. if nat_lt (low + k) n then x else 0) (stream ∙ ap (bit body) where_it_is))

-- a set has the heads of row i below `to`
abbrev pub IsRowTo : List ℕ → ℕ → ℕ → ℕ → NameSet → Type 0
IsRowTo body n i to row = (v : ℕ) → set.contains row v ≡ ((nat_lt v to && nat_lt v n) && is_arc body n i v)

pub row_none : (body : List ℕ) (n i : ℕ) (row : NameSet) → row ≡ set.empty → IsRowTo body n i 0 row
row_none body n i row e v =
    ap (λ s. set.contains s v) e ∙ contains-empty v ∙ rw (le-ltb v 0 (omega arith)) refl

pub row_more : (body : List ℕ) (n i w bits : ℕ) (row new : NameSet) → new ≡ set.union row (block (64 * w) bits)
    → ((k : ℕ) → k < 64 → bit_at bits k ≡ (if nat_lt (64 * w + k) n then bit body (i * n + (64 * w + k)) else 0))
    → IsRowTo body n i (64 * w) row → IsRowTo body n i (64 * (w + 1)) new
row_more body n i w bits row new e cut before v =
    ap (λ s. set.contains s v) e ∙ contains-union row (block (64 * w) bits) v
    ∙ rw (before v, contains-block_below (64 * w) bits 64 v)
    (elim (cases_lt v (64 * w)) [
      | inl low ↦ grind (arith, nat_tests)
      | inr from ↦ elim (cases_lt v (64 * (w + 1))) [
        | inl inside ↦
            let place : 64 * w + (v - 64 * w) ≡ v = omega (arith, from) in
            let value : bit_at bits (v - 64 * w) ≡ (if nat_lt v n then bit body (i * n + v) else 0) =
            subst (λ (x : ℕ). bit_at bits (v - 64 * w) ≡ (if nat_lt x n then bit body (i * n + x) else 0)) place (cut (v - 64 * w) (omega (arith, from, inside))) in
            rw value (by_end (nat_lt v n) inside from)
        | inr above ↦ grind (arith, nat_tests)
      ]
    ])
  where
    by_end : (within : Bool) → v < 64 * (w + 1) → 64 * w ≤ v
        → (((nat_lt v (64 * w) && within) && is_arc body n i v) || (nat_le (64 * w) v && (nat_lt (v - 64 * w) 64 && ((if within then bit body (i * n + v) else 0) == 1))))
        ≡ ((nat_lt v (64 * (w + 1)) && within) && is_arc body n i v)
    by_end true inside from = grind (arith, nat_tests)
    by_end false inside from = grind (arith, nat_tests)

pub row_whole : (body : List ℕ) (n i to : ℕ) (row : NameSet) → n ≤ to → IsRowTo body n i to row → IsArcRow body n i row
row_whole body n i to row all is v = is v ∙ elim (cases_lt v n) [
  | inl low ↦ rw (lt-ltb v to (omega (arith, low, all))) refl
  | inr more ↦ rw (le-ltb v n more) (grind arith)
]

-- a row whose bits are the lowest of a word
pub word_row : (body : List ℕ) (n i word held at bits : ℕ) (row new : NameSet) → row ≡ set.empty → new ≡ set.union row (block 0 bits) → n < 58 → n ≤ held
    → IsUnread body (i * n) word held at → ((k : ℕ) → k < 64 → bit_at bits k ≡ (if nat_lt k n then bit_at word k else 0)) → IsArcRow body n i new
word_row body n i word held at bits row new e is short enough unread cut =
    row_whole body n i (64 * (0 + 1)) new (omega (arith, short)) (row_more body n i 0 bits row new is stream (row_none body n i row e))
  where
    at_place : (k : ℕ) (within : Bool) → (within ≡ true → k < n) → (if within then bit_at word k else 0) ≡ (if within then bit body (i * n + k) else 0)
    at_place k true less = unread.window.bits k (omega (arith, enough, less refl))
    at_place k false less = refl

    stream : (k : ℕ) → k < 64 → bit_at bits k ≡ (if nat_lt (64 * 0 + k) n then bit body (i * n + (64 * 0 + k)) else 0)
    stream k inside =
        let same : 64 * 0 + k ≡ k = omega arith in
        rw same (cut k inside ∙ at_place k (nat_lt k n) (ltb-true k n))

-- where the next row begins
pub next_row : {body : List ℕ} {place word held at : ℕ} (n i : ℕ) → i * n ≡ place → IsUnread body (place + n) word held at → IsUnread body ((i + 1) * n) word held at
next_row {body} {place} {word} {held} {at} n i e is =
    let next : place + n ≡ (i + 1) * n = omega (arith, e) in
    subst (λ (p : ℕ). IsUnread body p word held at) next is

-- before a short row there are few bytes
pub row_few : {body : List ℕ} {n i word held at : ℕ} → i < n → n < 58 → held < 64 → IsUnread body (i * n) word held at → at < 2 ^ 32
row_few {n = n} {i = i} inside short room is =
    let few : i * n ≤ 58 * 58 = mul-le i n 58 58 (omega (arith, inside, short)) (omega (arith, short)) in
    omega (arith, few, room, is.next)

-- ---- the arcs of a row

-- the heads that are still to come, ascending; no arc runs to them yet
pub record AreAhead (g : PlainDigraph) (u : ℕ) (heads : List ℕ) : Type 0 where
  pub order : AllPairs (λ x y. x < y) heads
  pub absent : (k d : ℕ) → k < length heads → has_arc_to g u (get_or heads k d) ≡ false

pub all_ahead : (g : PlainDigraph) (u : ℕ) (s : NameSet) (heads : List ℕ) → heads ≡ ascending s → ((v : ℕ) → has_arc_to g u v ≡ false) → AreAhead g u heads
all_ahead g u s heads e none = record {
  order = subst (AllPairs (λ x y. x < y)) (sym e) (ascending_order s 0 NAMES);
  absent = λ k d inside. none (get_or heads k d);
}

pub head_absent : (g : PlainDigraph) (u : ℕ) (heads : List ℕ) (x : ℕ) (rest : List ℕ) → heads ≡ x ∷ rest → AreAhead g u heads → has_arc_to g u x ≡ false
head_absent g u heads x rest e ahead = (subst (AreAhead g u) e ahead).absent 0 0 (omega arith)

pub rest_ahead : (g : PlainDigraph) (u : ℕ) (heads : List ℕ) (x : ℕ) (rest : List ℕ) → heads ≡ x ∷ rest → AreAhead g u heads → AreAhead (with_arc g u x) u rest
rest_ahead g u heads x rest e ahead = rest_of (subst (AreAhead g u) e ahead)
  where
    rest_of : AreAhead g u (x ∷ rest) → AreAhead (with_arc g u x) u rest
    rest_of all = record {
      order = λ i j d less inside. all.order (suc i) (suc j) d (omega (arith, less)) (omega (arith, inside));
      absent = λ k d inside.
          let above : x < get_or rest k d = all.order 0 (suc k) d (omega arith) (omega (arith, inside)) in
          has_arc_to-with_arc g u x u (get_or rest k d)
          ∙ rw (ne_eqb (get_or rest k d) x (λ same. absurd (omega (arith, above, same))), all.absent (suc k) d (omega (arith, inside))) (grind arith);
    }

-- g with the arcs from u to heads that are still to come has those of `new`
abbrev pub HasWithHeads : PlainDigraph → ℕ → List ℕ → (ℕ → ℕ → Bool) → Type 0
HasWithHeads g u heads arc = (a b : ℕ) → (((a == u) && set.contains (listed heads) b) || has_arc_to g a b) ≡ arc a b

pub heads_start : (g : PlainDigraph) (u : ℕ) (s : NameSet) (heads : List ℕ) → heads ≡ ascending s → AllBelow s NAMES
    → HasWithHeads g u heads (λ a b. ((a == u) && set.contains s b) || has_arc_to g a b)
heads_start g u s heads e below a b =
    ap (λ c. ((a == u) && c) || has_arc_to g a b) (ap (λ xs. set.contains (listed xs) b) e ∙ contains-ascending s below b)

pub heads_step : (g : PlainDigraph) (u : ℕ) (heads : List ℕ) (x : ℕ) (rest : List ℕ) (arc : ℕ → ℕ → Bool) → heads ≡ x ∷ rest
    → HasWithHeads g u heads arc → HasWithHeads (with_arc g u x) u rest arc
heads_step g u heads x rest arc e before a b =
    ap (λ c. ((a == u) && set.contains (listed rest) b) || c) (has_arc_to-with_arc g u x a b)
    ∙ turned (a == u) (b == x) (set.contains (listed rest) b) (has_arc_to g a b)
    ∙ sym (ap (λ c. ((a == u) && c) || has_arc_to g a b) (ap (λ xs. set.contains (listed xs) b) e ∙ contains-insert (listed rest) x b))
    ∙ before a b
  where
    turned : (from to later old : Bool) → ((from && later) || ((from && to) || old)) ≡ ((from && (to || later)) || old)
    turned false to later old = refl
    turned true true true old = refl
    turned true true false old = refl
    turned true false later old = refl

pub heads_end : (g : PlainDigraph) (u : ℕ) (heads : List ℕ) (arc : ℕ → ℕ → Bool) → heads ≡ [] → HasWithHeads g u heads arc → (a b : ℕ) → has_arc_to g a b ≡ arc a b
heads_end g u heads arc e before a b =
    sym (ap (λ c. ((a == u) && c) || has_arc_to g a b) (ap (λ xs. set.contains (listed xs) b) e ∙ contains-empty b) ∙ none (a == u) (has_arc_to g a b))
    ∙ before a b
  where
    none : (from old : Bool) → ((from && false) || old) ≡ old
    none true old = refl
    none false old = refl

-- ---- all rows

pub no_rows : (body : List ℕ) (n : ℕ) (g : PlainDigraph) → ((v : ℕ) → set.contains g.vertices v ≡ nat_lt v n) → ((a b : ℕ) → has_arc_to g a b ≡ false) → HasArcRows body n 0 g
no_rows body n g vertices none = record {
  vertices = vertices;
  arcs = λ a b. none a b ∙ rw (le-ltb a 0 (omega arith)) refl;
}

-- what stands in a row
pub row_member : (body : List ℕ) (n i : ℕ) (row : NameSet) → IsArcRow body n i row → (v : ℕ) → Has row v → v < n
row_member body n i row is v member = ltb-true v n (and_parts (nat_lt v n) (is_arc body n i v) (sym (is v) ∙ member)).0

pub row_no_loop : (body : List ℕ) (n i : ℕ) (row : NameSet) → i < n → some_loop body n n ≡ false → IsArcRow body n i row → Lacks row i
row_no_loop body n i row inside none is = is i ∙ rw (no_loop_at body n n none i inside) (grind arith)

pub rows_absent : (body : List ℕ) (n i : ℕ) (g : PlainDigraph) → HasArcRows body n i g → (v : ℕ) → has_arc_to g i v ≡ false
rows_absent body n i g is v = is.arcs i v ∙ rw (le-ltb i i (omega arith)) refl

pub rows_vertex : (body : List ℕ) (n i : ℕ) (g : PlainDigraph) → HasArcRows body n i g → (v : ℕ) → v < n → Has g.vertices v
rows_vertex body n i g is v below = is.vertices v ∙ lt-ltb v n below

pub row_added : (body : List ℕ) (n i : ℕ) (g new : PlainDigraph) (row : NameSet) → HasArcRows body n i g → IsArcRow body n i row → IsWithArcs g i row new
    → HasArcRows body n (i + 1) new
row_added body n i g new row before is added = record {
  vertices = λ v. ap (λ s. set.contains s v) added.vertices ∙ before.vertices v;
  arcs = λ a b. added.arcs a b ∙ rw (is b, before.arcs a b) (next a b);
}
  where
    next : (a b : ℕ) → (((a == i) && (nat_lt b n && is_arc body n i b)) || ((nat_lt a i && nat_lt b n) && is_arc body n a b))
        ≡ ((nat_lt a (i + 1) && nat_lt b n) && is_arc body n a b)
    next a b = elim (cases_eq a i) [
      | inl same ↦ rw (same, eq-eqb i i refl, le-ltb i i (omega arith), lt-ltb i (i + 1) (omega arith)) (kept (nat_lt b n && is_arc body n i b))
      | inr other ↦ rw (ne_eqb a i other) (grind (arith, nat_tests))
    ]
      where
        kept : (c : Bool) → ((true && c) || false) ≡ (true && c)
        kept true = refl
        kept false = refl

pub all_rows : (body : List ℕ) (n i : ℕ) (g : PlainDigraph) → i ≡ n → n ≤ DIRECTED_NAMES → some_loop body n n ≡ false → HasArcRows body n i g → IsArcBodyOf body n g
all_rows body n i g e few none is =
    bits_are_body body n g few none is.vertices (subst (λ (x : ℕ). (a b : ℕ) → has_arc_to g a b ≡ ((nat_lt a x && nat_lt b n) && is_arc body n a b)) e is.arcs)
