-- Sums over numbers below a bound, and the double counting of the edges of rows.
use Rattle.std.specs.Prelude.{◌≡◌, ℕ, zero, suc, ◌+◌, ◌*◌, ◌<◌, ◌≤◌, Bool, true, false, cond, ◌&&◌, sum_by, refl, not}
use Rattle.std.proofs.Common.{ap, sym, ◌∙◌, arith, inl, inr}
use Rattle.std.proofs.lemmas.Bool.{true≢false, cases_Bool, and_parts, not-true, eqb-false, ne_eqb, false_from_ne_true, le-leb}
use Rattle.std.proofs.lemmas.Bool.Decides.{nat_tests}
use Rattle.std.proofs.lemmas.List.{append-nil}
use Rattle.std.proofs.lemmas.List.Sums.{sum_by_push}
use Rattle.std.specs.FinSet as set
use Rattle.md_graph.specs.Sets.{NameSet, Has}
use Rattle.md_graph.specs.NameSet.{ascending_between}
use Rattle.md_graph.specs.PlainGraph.{PairSet, pairs_at, pairs_where}
use Rattle.md_graph.proofs.SetLaws.{contains-empty, contains-remove, len-empty, len-remove, same_set}
use Rattle.md_graph.proofs.PairLaws.{pairs-len-empty, pairs-len-insert}
use Rattle.md_graph.proofs.GraphLemmas.{contains-pairs_at, contains-pairs_where}
use Rattle.md_graph.proofs.Search.{some_len}

-- f 0 + .. + f (n - 1)
sum_below : (ℕ → ℕ) → ℕ → ℕ
sum_below f zero = 0
sum_below f (suc n) = sum_below f n + f n

abbrev bit : Bool → ℕ
bit b = cond b 1 0

sum_below-same : (f g : ℕ → ℕ) (n : ℕ) → ((v : ℕ) → v < n → f v ≡ g v) → sum_below f n ≡ sum_below g n
unfolding sum_below
sum_below-same f g zero same = refl
sum_below-same f g (suc n) same =
    let before = sum_below-same f g n (λ v h. same v (omega arith)) in
    let here = same n (omega arith) in
    cc

sum_below-add : (f g : ℕ → ℕ) (n : ℕ) → sum_below (λ v. f v + g v) n ≡ sum_below f n + sum_below g n
unfolding sum_below
sum_below-add f g zero = refl
sum_below-add f g (suc n) = let before = sum_below-add f g n in omega arith

sum_below-le : (f : ℕ → ℕ) (m n : ℕ) → ((v : ℕ) → f v ≤ m) → sum_below f n ≤ n * m
unfolding sum_below
sum_below-le f m zero below = omega arith
sum_below-le f m (suc n) below =
    let before = sum_below-le f m n below in let here = below n in grind arith

-- ---- how many members a set has

rest_below : (n : ℕ) (s : NameSet) → ((w : ℕ) → Has s w → w < suc n) → (w : ℕ) → Has (set.remove s n) w → w < n
rest_below n s below w h =
    let parts = and_parts _ _ (sym (contains-remove s n w) ∙ h) in
    let other : w ≡ n → ⊥ = eqb-false w n (not-true _ parts.0) in
    let b = below w parts.1 in
    omega arith

len-below : (n : ℕ) (s : NameSet) → ((w : ℕ) → Has s w → w < n) → set.len s ≡ sum_below (λ w. bit (set.contains s w)) n
unfolding sum_below
len-below zero s below = ap set.len (same_set s set.empty (λ q. false_from_ne_true _ (λ h. let b = below q h in omega arith) ∙ sym (contains-empty q))) ∙ len-empty
len-below (suc n) s below =
    let rest = set.remove s n in
    let has = contains-remove s n in
    let before = len-below n rest (rest_below n s below) in
    let others = sum_below-same (λ w. bit (set.contains rest w)) (λ w. bit (set.contains s w)) n (λ w h. ap bit (has w ∙ ap (λ t. not t && set.contains s w) (ne_eqb w n (λ e. omega arith)))) in
    let less = len-remove s n in
    elim (cases_Bool (set.contains s n)) [
      | inl t ↦ let some = some_len s n t in let l = rw t at less in rw t (omega arith)
      | inr f ↦ let l = rw f at less in rw f (omega arith)
    ]

-- ---- the members of a list, the pairs of a test

sum_by-ascending_between : (f : ℕ → ℕ) (s : NameSet) (n : ℕ) → sum_by f (ascending_between s 0 n) ≡ sum_below (λ v. cond (set.contains s v) (f v) 0) n
unfolding sum_below ascending_between
sum_by-ascending_between f s zero = refl
sum_by-ascending_between f s (suc n) =
    let before = sum_by-ascending_between f s n in
    elim (cases_Bool (set.contains s n)) [
      | inl t ↦ rw (le-leb 0 n (omega arith), t, sum_by_push f (ascending_between s 0 n) n) (omega arith)
      | inr f ↦ rw (le-leb 0 n (omega arith), f, append-nil (ascending_between s 0 n)) (omega arith)
    ]

len-pairs_at : (test : ℕ → ℕ → Bool) (start : PairSet) (v n : ℕ) → ((u : ℕ) → set.contains start (u, v) ≡ false) → set.len (pairs_at test start v n) ≡ set.len start + sum_below (λ u. bit (test u v)) n
unfolding sum_below pairs_at
len-pairs_at test start v zero fresh = omega arith
len-pairs_at test start v (suc n) fresh =
    let before = len-pairs_at test start v n fresh in
    let new : set.contains (pairs_at test start v n) (n, v) ≡ false = contains-pairs_at test start v n n v ∙ rw (fresh n) (grind (arith, nat_tests)) in
    elim (cases_Bool (test n v)) [
      | inl t ↦ rw (t, pairs-len-insert (pairs_at test start v n) n v, new) (omega arith)
      | inr f ↦ rw (f) (omega arith)
    ]

len-pairs_where : (test : ℕ → ℕ → Bool) (n : ℕ) → set.len (pairs_where test n) ≡ sum_below (λ v. sum_below (λ u. bit (test u v)) v) n
unfolding sum_below pairs_where
len-pairs_where test zero = pairs-len-empty
len-pairs_where test (suc n) =
    let before = len-pairs_where test n in
    len-pairs_at test (pairs_where test n) n n (λ u. contains-pairs_where test n u n ∙ grind (arith, nat_tests)) ∙ ap (λ k. k + sum_below (λ u. bit (test u n)) n) before

-- in a relation without loops that runs both ways, each pair is counted at both its ends
both_counted : (test : ℕ → ℕ → Bool) (n : ℕ) → ((u v : ℕ) → test u v ≡ test v u) → ((v : ℕ) → test v v ≡ false) → sum_below (λ v. sum_below (λ u. bit (test u v)) n) n ≡ 2 * sum_below (λ v. sum_below (λ u. bit (test u v)) v) n
unfolding sum_below
both_counted test zero both none = refl
both_counted test (suc n) both none =
    let before = both_counted test n both none in
    let split = sum_below-add (λ v. sum_below (λ u. bit (test u v)) n) (λ v. bit (test n v)) n in
    let swap = sum_below-same (λ v. bit (test n v)) (λ v. bit (test v n)) n (λ v h. ap bit (both n v)) in
    rw (none n) (omega arith)

-- ---- the rows of a graph

-- the sum of the lengths of the rows of the members
rows_counted : (live : NameSet) (row : ℕ → NameSet) (n : ℕ) → ((u v : ℕ) → Has (row u) v → Has live u × Has live v) → ((v : ℕ) → Has live v → v < n) → sum_by (λ v. set.len (row v)) (ascending_between live 0 n) ≡ sum_below (λ v. sum_below (λ u. bit (set.contains (row v) u)) n) n
rows_counted live row n inside below =
    sum_by-ascending_between (λ v. set.len (row v)) live n
    ∙ sum_below-same (λ v. cond (set.contains live v) (set.len (row v)) 0) (λ v. sum_below (λ u. bit (set.contains (row v) u)) n) n (λ v h.
    let l = len-below n (row v) (λ w m. below w (inside v w m).1) in
    elim (cases_Bool (set.contains live v)) [
      | inl t ↦ rw t l
      | inr f ↦
          let none : row v ≡ set.empty = same_set (row v) set.empty (λ q. false_from_ne_true _ (λ m. true≢false (sym (inside v q m).0 ∙ f)) ∙ sym (contains-empty q)) in
          rw f (sym len-empty ∙ ap set.len (sym none) ∙ l)
    ])

-- it is twice the number of edges
pub rows_twice : (live : NameSet) (row : ℕ → NameSet) (n : ℕ) → ((u v : ℕ) → Has (row u) v → Has live u × Has live v) → ((v : ℕ) → Has live v → v < n) → ((u v : ℕ) → set.contains (row u) v ≡ set.contains (row v) u) → ((v : ℕ) → set.contains (row v) v ≡ false) → sum_by (λ v. set.len (row v)) (ascending_between live 0 n) ≡ 2 * set.len (pairs_where (λ u v. set.contains (row v) u) n)
rows_twice live row n inside below both none =
    rows_counted live row n inside below
    ∙ both_counted (λ u v. set.contains (row v) u) n (λ u v. both v u) none
    ∙ ap (λ k. 2 * k) (sym (len-pairs_where (λ u v. set.contains (row v) u) n))

bit-le : (b : Bool) → bit b ≤ 1
bit-le true = omega arith
bit-le false = omega arith

-- it is at most n * n
pub rows_le : (live : NameSet) (row : ℕ → NameSet) (n : ℕ) → ((u v : ℕ) → Has (row u) v → Has live u × Has live v) → ((v : ℕ) → Has live v → v < n) → sum_by (λ v. set.len (row v)) (ascending_between live 0 n) ≤ n * n
rows_le live row n inside below =
    let each = λ (v : ℕ). sum_below-le (λ u. bit (set.contains (row v) u)) 1 n (λ u. bit-le (set.contains (row v) u)) in
    let all = sum_below-le (λ v. sum_below (λ u. bit (set.contains (row v) u)) n) n n (λ v. let e = each v in omega arith) in
    let counted = rows_counted live row n inside below in
    omega arith
