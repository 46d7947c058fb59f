-- Rows that are flipped by two orders: where the orders disagree.
use Rattle.std.proofs.Common.{◌≡◌, ◌≢◌, ◌⊎◌, ◌↔◌, ℕ, ◌+◌, ◌<◌, Bool, true, false, not, cond, ◌&&◌, ◌||◌, List, [], ◌∷◌, ◌++◌, take, length, get_or, set, refl, sym, ◌∙◌, ap, subst, inl, inr}
use Rattle.std.proofs.lemmas.Bool.{cases_eq, eq-eqb, ne_eqb, false_from_ne_true}
use Rattle.std.proofs.lemmas.List.{take_more, get_or_read}
use Rattle.std.proofs.Math.Seq.{take-append_seam}
use Rattle.std.specs.Cmp.{both_ways}
use Rattle.std.specs.FinSet.{contains, empty, difference}
use Rattle.md_graph.specs.Sets.{NameSet, Has}
use Rattle.md_graph.specs.NameSet.{symmetric_difference}
use Rattle.md_graph.specs.Rows.{row_of}
use Rattle.md_graph.specs.PlainGraph.{PlainGraph, IsGraph, adjacent, neighbours}
use Rattle.md_graph.proofs.RowLemmas.{contains-set_row}
use Rattle.md_graph.proofs.SetLaws.{contains-union, contains-difference, same_set}
use Rattle.md_graph.proofs.SetLemmas.{clash, empty_lacks}
use Rattle.md_graph.proofs.GraphLemmas.{adjacent_ends, adjacent_sym, contains-neighbours}
use Rattle.md_forcing.specs.Lists.{Holds, NoRepeats}
use Rattle.md_forcing.proofs.ListLemmas.{holds_left, holds_right}
use Rattle.md_comparability.specs.Orders.{IsOrder, Before, Disagree, Realise}
use Rattle.md_comparability.proofs.Sorted.{before_first, before_second, before_one_way, before_one, decide_before}
use Rattle.md_checker.specs.Flips.{AreFlipped}
use Rattle.md_checker.proofs.Ordering.{new_item}

-- ---- one more name in a list

before_pushed : (l : List ℕ) (x u v : ℕ) → Before (l ++ x ∷ []) u v → Before l u v ⊎ (Holds l u × (v ≡ x))
before_pushed [] x u v (inl b) = absurd b.1
before_pushed [] x u v (inr b) = absurd b
before_pushed (y ∷ l) x u v (inl b) = elim (of_last l x v b.1) [
  | inl in_l ↦ inl (inl (b.0, in_l))
  | inr last ↦ inr (inl b.0, last)
]
  where
    of_last : (l : List ℕ) (x v : ℕ) → Holds (l ++ x ∷ []) v → Holds l v ⊎ (v ≡ x)
    of_last [] x v (inl e) = inr e
    of_last [] x v (inr h) = absurd h
    of_last (y ∷ l) x v (inl e) = inl (inl e)
    of_last (y ∷ l) x v (inr h) = elim (of_last l x v h) [ inl a ↦ inl (inr a) | inr b ↦ inr b ]
before_pushed (y ∷ l) x u v (inr b) = elim (before_pushed l x u v b) [
  | inl old ↦ inl (inr old)
  | inr last ↦ inr (inr last.0, last.1)
]

old_before : (l : List ℕ) (x u v : ℕ) → Before l u v → Before (l ++ x ∷ []) u v
old_before [] x u v b = absurd b
old_before (y ∷ l) x u v (inl b) = inl (b.0, holds_left l (x ∷ []) v b.1)
old_before (y ∷ l) x u v (inr b) = inr (old_before l x u v b)

last_before : (l : List ℕ) (x u : ℕ) → Holds l u → Before (l ++ x ∷ []) u x
last_before [] x u h = absurd h
last_before (y ∷ l) x u (inl e) = inl (e, holds_right l (x ∷ []) x (inl refl))
last_before (y ∷ l) x u (inr h) = inr (last_before l x u h)

-- ---- a turn

told_bit : (a b : NameSet) (q : ℕ) → contains (symmetric_difference a b) q ≡ cond (contains b q) (not (contains a q)) (contains a q)
told_bit a b q =
    contains-union (difference a b) (difference b a) q
    ∙ (λ i. contains-difference a b q i || contains-difference b a q i)
    ∙ bits (contains a q) (contains b q)
  where
    bits : (x y : Bool) → ((x && not y) || (y && not x)) ≡ cond y (not x) x
    bits true true = refl
    bits true false = refl
    bits false true = refl
    bits false false = refl

pub flip_start : (rows : List NameSet) → AreFlipped [] rows rows
flip_start rows = record { kept = λ u v n. refl; turned = λ u v b. absurd b }

module _ (list : List ℕ) (i : ℕ) (below : i < length list) (once : NoRepeats list) (first now : List NameSet) (seen old new : NameSet) where
  pub flip_more : AreFlipped (take i list) first now → ((w : ℕ) → Has seen w ↔ Holds (take i list) w) → get_or list i 0 < length now → old ≡ get_or now (get_or list i 0) old → new ≡ symmetric_difference old seen → AreFlipped (take (i + 1) list) first (set now (get_or list i 0) new)
  flip_more before members room read made =
      let x = get_or list i 0 in
      let front = take i list in
      let is = take_more list i 0 below in
      let other : (u v : ℕ) → v ≢ x → contains (row_of (set now x new) v) u ≡ contains (row_of now v) u = λ u v differ. contains-set_row now x new v u room ∙ ap (λ b. cond b (contains new u) (contains (row_of now v) u)) (ne_eqb v x differ) in
      let own : (u : ℕ) → contains (row_of (set now x new) x) u ≡ cond (contains seen u) (not (contains (row_of first x) u)) (contains (row_of first x) u) =
      λ u. contains-set_row now x new x u room ∙ ap (λ b. cond b (contains new u) (contains (row_of now x) u)) (eq-eqb x x refl)
      ∙ ap (λ s. contains s u) made ∙ told_bit old seen u
      ∙ ap (λ b. cond (contains seen u) (not b) b) (ap (λ s. contains s u) (get_or_read now x old room read empty) ∙ before.kept u x (λ b. new_item list i 0 below once (before_second front u x b))) in
      record {
        kept = λ u v none. elim (cases_eq v x) [
          | inl same ↦ subst (λ k. contains (row_of (set now x new) k) u ≡ contains (row_of first k) u) (sym same)
              (let away : contains seen u ≡ false = false_from_ne_true _ (λ t. none (subst (λ l. Before l u v) (sym is) (subst (Before (front ++ x ∷ []) u) (sym same) (last_before front x u ((members u).0 t))))) in
              own u ∙ ap (λ b. cond b (not (contains (row_of first x) u)) (contains (row_of first x) u)) away)
          | inr differ ↦ other u v differ ∙ before.kept u v (λ b. none (subst (λ l. Before l u v) (sym is) (old_before front x u v b)))
        ];
        turned = λ u v there. elim (before_pushed front x u v (subst (λ l. Before l u v) is there)) [
          | inl earlier ↦ other u v (λ same. new_item list i 0 below once (subst (Holds front) same (before_second front u v earlier))) ∙ before.turned u v earlier
          | inr last ↦ subst (λ k. contains (row_of (set now x new) k) u ≡ not (contains (row_of first k) u)) (sym last.1)
              (own u ∙ ap (λ b. cond b (not (contains (row_of first x) u)) (contains (row_of first x) u)) ((members u).1 last.0))
        ];
      }

-- ---- two orders

module _ {g : PlainGraph} (is : IsGraph g) (p q : List ℕ) (first : IsOrder g.vertices p) (second : IsOrder g.vertices q) (none mid rows : List NameSet) (empties : (v : ℕ) → row_of none v ≡ empty) (flip : AreFlipped p none mid) (flip_too : AreFlipped q mid rows) where
  none_bit : (u v : ℕ) → contains (row_of none v) u ≡ false
  none_bit u v = ap (λ s. contains s u) (empties v) ∙ empty_lacks u

  -- the row of v has u exactly where one of the orders has u before v
  told : (u v : ℕ) → Has (row_of rows v) u → (Before p u v × ¬ Before q u v) ⊎ (¬ Before p u v × Before q u v)
  told u v h = elim (decide_before p u v) [
    | inl b ↦ elim (decide_before q u v) [
      | inl c ↦ clash h (flip_too.turned u v c ∙ ap not (flip.turned u v b ∙ ap not (none_bit u v)))
      | inr c ↦ inl (b, c)
    ]
    | inr b ↦ elim (decide_before q u v) [
      | inl c ↦ inr (b, c)
      | inr c ↦ clash h (flip_too.kept u v c ∙ flip.kept u v b ∙ none_bit u v)
    ]
  ]

  tell : (u v : ℕ) → (Before p u v × ¬ Before q u v) ⊎ (¬ Before p u v × Before q u v) → Has (row_of rows v) u
  tell u v (inl t) = flip_too.kept u v t.1 ∙ flip.turned u v t.0 ∙ ap not (none_bit u v)
  tell u v (inr t) = flip_too.turned u v t.1 ∙ ap not (flip.kept u v t.0 ∙ none_bit u v)

  disagree : (u v : ℕ) → Has g.vertices u → Has g.vertices v → u ≢ v → Has (row_of rows v) u → Disagree p q u v
  disagree u v in_u in_v differ h = elim (told u v h) [
    | inl t ↦ elim (before_one q u v ((second.members u).1 in_u) ((second.members v).1 in_v) differ) [
      | inl c ↦ absurd (t.1 c)
      | inr c ↦ inl (t.0, c)
    ]
    | inr t ↦ elim (before_one p u v ((first.members u).1 in_u) ((first.members v).1 in_v) differ) [
      | inl b ↦ absurd (t.0 b)
      | inr b ↦ inr (b, t.1)
    ]
  ]

  agree_not : (u v : ℕ) → Disagree p q u v → Has (row_of rows v) u
  agree_not u v (inl d) = tell u v (inl (d.0, λ c. before_one_way q u v second.once c d.1))
  agree_not u v (inr d) = tell u v (inr (λ b. before_one_way p u v first.once b d.0, d.1))

  self_lacks : (v : ℕ) → Has (row_of rows v) v → ⊥
  self_lacks v h = elim (told v v h) [
    | inl t ↦ before_one_way p v v first.once t.0 t.0
    | inr t ↦ before_one_way q v v second.once t.1 t.1
  ]

  ends_in : (u v : ℕ) → Has (row_of rows v) u → Has g.vertices u
  ends_in u v h = elim (told u v h) [
    | inl t ↦ (first.members u).0 (before_first p u v t.0)
    | inr t ↦ (second.members u).0 (before_first q u v t.1)
  ]

  pub realised_by_rows : ((v : ℕ) → Has g.vertices v → row_of rows v ≡ neighbours g v) ↔ Realise (adjacent g) g.vertices p q
  realised_by_rows = (
    λ same. record {
      first = first;
      second = second;
      edges = λ u v in_u in_v differ.
          let bit : contains (row_of rows v) u ≡ adjacent g u v = ap (λ s. contains s u) (same v in_v) ∙ contains-neighbours is v u ∙ adjacent_sym g v u in
          (λ t. disagree u v in_u in_v differ (bit ∙ t), λ d. sym bit ∙ agree_not u v d);
    },
    λ realised v in_v. same_set (row_of rows v) (neighbours g v) (λ u.
        both_ways _ _
        (λ h. contains-neighbours is v u ∙ adjacent_sym g v u ∙ (realised.edges u v (ends_in u v h) in_v (λ same. self_lacks v (subst (Has (row_of rows v)) same h))).1 (disagree u v (ends_in u v h) in_v (λ same. self_lacks v (subst (Has (row_of rows v)) same h)) h))
        (λ h.
        let edge : adjacent g u v ≡ true = adjacent_sym g u v ∙ sym (contains-neighbours is v u) ∙ h in
        let ends = adjacent_ends is u v edge in
        agree_not u v ((realised.edges u v ends.0 ends.1 ends.2).0 edge))),
  )

-- a slice that was written back
pub written_back : (n : ℕ) (new rest : List NameSet) → length new ≡ n → take n (new ++ rest) ≡ new
written_back n new rest size = subst (λ k. take k (new ++ rest) ≡ new) size (take-append_seam new rest)

pub flipped_along : (p p' : List ℕ) (old old' new : List NameSet) → p' ≡ p → old' ≡ old → AreFlipped p' old' new → AreFlipped p old new
flipped_along p p' old old' new is_p is_old flips =
    subst (λ l. AreFlipped l old new) is_p (subst (λ r. AreFlipped p' r new) is_old flips)
