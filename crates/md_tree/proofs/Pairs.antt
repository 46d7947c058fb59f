-- The list of exactly those pairs of positions that are joined: there is one.
use Rattle.std.proofs.Common.{◌≡◌, ℕ, zero, suc, ◌+◌, ◌<◌, ◌≤◌, Bool, true, false, ◌⊎◌, List, [], ◌∷◌, ◌++◌, refl, sym, ◌∙◌, ap, subst, inl, inr, true≢false, arith}
use Rattle.std.proofs.lemmas.Bool.{cases_lt}
use Rattle.md_graph.proofs.Search.{Decided, test_of, test_holds, of_test}
use Rattle.md_tree.specs.declared.Pair.{Pair}
use Rattle.md_tree.specs.Spellings.{PairRules, ArePairRules, IsPairBeforeBy}
use Rattle.md_tree.specs.StrongTrees.{ListsExactly}
use Rattle.md_text.proofs.Lists.{In, Later, in_left, in_right, of_append, later_append, of_contains, to_contains, to_pairs, of_pairs}

-- two lists in which each item comes before those after it are equal if they have the same items
module _ {X : Type 0} (Before : X → X → Type 0) (never_both : (x y : X) → Before x y → Before y x → ⊥) where
  first_item : (x y : X) (xs ys : List X) → Later Before (x ∷ xs) → Later Before (y ∷ ys) → In (y ∷ ys) x → In (x ∷ xs) y → x ≡ y
  first_item x y xs ys l m (inl e) j = e
  first_item x y xs ys l m (inr i) (inl f) = sym f
  first_item x y xs ys l m (inr i) (inr j) = absurd (never_both x y (l.0 y j) (m.0 x i))

  rest_items : (x y z : X) (xs ys : List X) → x ≡ y → Later Before (x ∷ xs) → In xs z → In (y ∷ ys) z → In ys z
  rest_items x y z xs ys e l i (inl f) = let own = l.0 x (subst (In xs) (f ∙ sym e) i) in absurd (never_both x x own own)
  rest_items x y z xs ys e l i (inr j) = j

  pub same_ascending : (xs ys : List X) → Later Before xs → Later Before ys → ((z : X) → In xs z → In ys z) → ((z : X) → In ys z → In xs z) → xs ≡ ys
  same_ascending [] [] l m f g = refl
  same_ascending [] (y ∷ ys) l m f g = absurd (g y (inl refl))
  same_ascending (x ∷ xs) [] l m f g = absurd (f x (inl refl))
  same_ascending (x ∷ xs) (y ∷ ys) l m f g =
      let e : x ≡ y = first_item x y xs ys l m (f x (inl refl)) (g y (inl refl)) in
      let r : xs ≡ ys =
      same_ascending xs ys l.1 m.1 (λ z i. rest_items x y z xs ys e l i (f z (inr i))) (λ z i. rest_items y x z ys xs (sym e) m i (g z (inr i))) in
      cc

abbrev pub pair : ℕ → ℕ → Pair
pair i j = record { low = i; high = j }

-- an item before the list, where the test is true
abbrev put : {P : Type 0} → Bool → P → List P → List P
put true p ps = p ∷ ps
put false p ps = ps

of_put : {P : Type 0} (b : Bool) (p q : P) (ps : List P) → In (put b p ps) q → ((q ≡ p) × (b ≡ true)) ⊎ In ps q
of_put true p q ps (inl e) = inl (e, refl)
of_put true p q ps (inr i) = inr i
of_put false p q ps i = inr i

put_first : {P : Type 0} (b : Bool) (p : P) (ps : List P) → b ≡ true → In (put b p ps) p
put_first true p ps h = inl refl
put_first false p ps h = absurd (true≢false (sym h))

put_rest : {P : Type 0} (b : Bool) (p q : P) (ps : List P) → In ps q → In (put b p ps) q
put_rest true p q ps i = inr i
put_rest false p q ps i = i

later_put : {P : Type 0} (Before : P → P → Type 0) (b : Bool) (p : P) (ps : List P) → Later Before ps → ((q : P) → In ps q → Before p q) → Later Before (put b p ps)
later_put Before true p ps l f = (f, l)
later_put Before false p ps l f = l

same_or_later : (j k : ℕ) → j ≤ k → (j ≡ k) ⊎ (j < k)
same_or_later j k l = elim (cases_lt j k) [ inl m ↦ inr m | inr m ↦ inl (omega arith) ]

module _ {P : Type 0} (r : PairRules P) where
  never_both : (p q : P) → IsPairBeforeBy r p q → IsPairBeforeBy r q p → ⊥
  never_both p q (inl l) (inl m) = let b : r.first p < r.first q = l in let c : r.first q < r.first p = m in omega arith
  never_both p q (inl l) (inr m) = let b : r.first p < r.first q = l in let c : r.first q ≡ r.first p = m.0 in omega arith
  never_both p q (inr l) (inl m) = let b : r.first p ≡ r.first q = l.0 in let c : r.first q < r.first p = m in omega arith
  never_both p q (inr l) (inr m) = let b : r.second p < r.second q = l.1 in let c : r.second q < r.second p = m.1 in omega arith

  pub one_list : {Joined : ℕ → ℕ → Type 0} (ps qs : List P) → ListsExactly r Joined ps → ListsExactly r Joined qs → ps ≡ qs
  one_list ps qs a b =
      same_ascending (IsPairBeforeBy r) never_both ps qs (of_pairs (IsPairBeforeBy r) ps a.ascending) (of_pairs (IsPairBeforeBy r) qs b.ascending)
      (λ p i. of_contains qs p ((b.exactly p).1 ((a.exactly p).0 (to_contains ps p i))))
      (λ p i. of_contains ps p ((a.exactly p).1 ((b.exactly p).0 (to_contains qs p i))))

module _ {P : Type 0} (r : PairRules P) (laws : ArePairRules r) (test : ℕ → ℕ → Bool) where
  -- those of the n pairs (i, j), (i, j + 1), .. that pass
  abbrev row : ℕ → ℕ → ℕ → List P
  row i j zero = []
  row i j (suc n) = put (test i j) (r.pair i j) (row i (suc j) n)

  record IsRowPair (i j n : ℕ) (p : P) : Type 0 where
    low : r.first p ≡ i
    from : j ≤ r.second p
    below : r.second p < j + n
    passes : test (r.first p) (r.second p) ≡ true

  of_row : (i j n : ℕ) (p : P) → In (row i j n) p → IsRowPair i j n p
  of_row i j zero p h = absurd h
  of_row i j (suc n) p h = elim (of_put (test i j) (r.pair i j) p (row i (suc j) n) h) [
    | inl f ↦ (
        let a : r.first p ≡ i = ap r.first f.0 ∙ laws.first_of i j in
        let b : r.second p ≡ j = ap r.second f.0 ∙ laws.second_of i j in
        record { low = a; from = omega arith; below = omega arith; passes = (λ n. test (a n) (b n)) ∙ f.1 })
    | inr k ↦ (
        let is : IsRowPair i (suc j) n p = of_row i (suc j) n p k in
        let a : suc j ≤ r.second p = is.from in
        let b : r.second p < suc j + n = is.below in
        record { low = is.low; from = omega arith; below = omega arith; passes = is.passes })
  ]

  to_row : (i j n k : ℕ) → j ≤ k → k < j + n → test i k ≡ true → In (row i j n) (r.pair i k)
  to_row i j zero k a b h = absurd (omega arith)
  to_row i j (suc n) k a b h = elim (same_or_later j k a) [
    | inl e ↦ subst (λ w. In (row i j (suc n)) (r.pair i w)) e (put_first (test i j) (r.pair i j) (row i (suc j) n) (subst (λ w. test i w ≡ true) (sym e) h))
    | inr l ↦ put_rest (test i j) (r.pair i j) (r.pair i k) (row i (suc j) n) (to_row i (suc j) n k (omega arith) (omega arith) h)
  ]

  row_ascends : (i j n : ℕ) → Later (IsPairBeforeBy r) (row i j n)
  row_ascends i j zero = tt
  row_ascends i j (suc n) =
      later_put (IsPairBeforeBy r) (test i j) (r.pair i j) (row i (suc j) n) (row_ascends i (suc j) n)
      (λ q h. let is : IsRowPair i (suc j) n q = of_row i (suc j) n q h in let a : suc j ≤ r.second q = is.from in let b : r.second (r.pair i j) ≡ j = laws.second_of i j in inr (laws.first_of i j ∙ sym is.low, (omega arith)))

  -- the rows i, i + 1, .., n in number, of m pairs each
  abbrev rows : ℕ → ℕ → ℕ → List P
  rows i zero m = []
  rows i (suc n) m = row i 0 m ++ rows (suc i) n m

  record IsRowsPair (i n m : ℕ) (p : P) : Type 0 where
    from : i ≤ r.first p
    below : r.second p < m
    passes : test (r.first p) (r.second p) ≡ true

  of_rows : (i n m : ℕ) (p : P) → In (rows i n m) p → IsRowsPair i n m p
  of_rows i zero m p h = absurd h
  of_rows i (suc n) m p h = elim (of_append (row i 0 m) (rows (suc i) n m) p h) [
    | inl f ↦ (
        let is : IsRowPair i 0 m p = of_row i 0 m p f in
        let a : r.first p ≡ i = is.low in
        let b : r.second p < 0 + m = is.below in
        record { from = omega arith; below = omega arith; passes = is.passes })
    | inr k ↦ (
        let is : IsRowsPair (suc i) n m p = of_rows (suc i) n m p k in
        let a : suc i ≤ r.first p = is.from in
        record { from = omega arith; below = is.below; passes = is.passes })
  ]

  to_rows : (i n m j k : ℕ) → i ≤ j → j < i + n → k < m → test j k ≡ true → In (rows i n m) (r.pair j k)
  to_rows i zero m j k a b c h = absurd (omega arith)
  to_rows i (suc n) m j k a b c h = elim (same_or_later i j a) [
    | inl e ↦ in_left (row i 0 m) (rows (suc i) n m) (r.pair j k)
        (subst (λ w. In (row i 0 m) (r.pair w k)) e (to_row i 0 m k (omega arith) (omega arith) (subst (λ w. test w k ≡ true) (sym e) h)))
    | inr l ↦ in_right (row i 0 m) (rows (suc i) n m) (r.pair j k) (to_rows (suc i) n m j k (omega arith) (omega arith) c h)
  ]

  rows_ascend : (i n m : ℕ) → Later (IsPairBeforeBy r) (rows i n m)
  rows_ascend i zero m = tt
  rows_ascend i (suc n) m =
      later_append (IsPairBeforeBy r) (row i 0 m) (rows (suc i) n m) (row_ascends i 0 m) (rows_ascend (suc i) n m)
      (λ p q h k.
      let a : r.first p ≡ i = (of_row i 0 m p h).low in
      let b : suc i ≤ r.first q = (of_rows (suc i) n m q k).from in
      inl (omega arith))

  -- the pairs of numbers below n that pass, ascending
  passing : ℕ → List P
  passing n = rows 0 n n

  passing_ascends : (n : ℕ) → Later (IsPairBeforeBy r) (passing n)
  unfolding passing
  passing_ascends n = rows_ascend 0 n n

  of_passing : (n : ℕ) (p : P) → In (passing n) p → test (r.first p) (r.second p) ≡ true
  unfolding passing
  of_passing n p h = (of_rows 0 n n p h).passes

  to_passing : (n : ℕ) (p : P) → r.first p < n → r.second p < n → test (r.first p) (r.second p) ≡ true → In (passing n) p
  unfolding passing
  to_passing n p a b h = subst (In (rows 0 n n)) (laws.pair_of p) (to_rows 0 n n (r.first p) (r.second p) (omega arith) (omega arith) b h)

-- where positions below n are joined alone, and it is decided which, there is a list of them
module _ {P : Type 0} (r : PairRules P) (laws : ArePairRules r) (Joined : ℕ → ℕ → Type 0) (decide : (i j : ℕ) → Decided (Joined i j)) (n : ℕ)
    (below : (i j : ℕ) → Joined i j → (i < n) × (j < n)) where
  abbrev test : ℕ → ℕ → Bool
  test i j = test_of (decide i j)

  pub some_list : (ps : List P) × ListsExactly r Joined ps
  some_list = (
    passing r laws test n,
    record {
      ascending = to_pairs (IsPairBeforeBy r) (passing r laws test n) (passing_ascends r laws test n);
      exactly = λ p. (
        (λ c. of_test (decide (r.first p) (r.second p)) (of_passing r laws test n p (of_contains (passing r laws test n) p c))),
        λ is. to_contains (passing r laws test n) p
            (to_passing r laws test n p (below (r.first p) (r.second p) is).0 (below (r.first p) (r.second p) is).1 (test_holds (decide (r.first p) (r.second p)) is)),
      );
    },
  )
