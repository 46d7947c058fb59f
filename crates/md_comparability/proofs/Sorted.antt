-- Which of two names comes first in a list, and the order of a set that a linear order gives.
use Rattle.std.proofs.Common.{◌≡◌, ◌≢◌, ◌⊎◌, ℕ, Bool, true, List, [], ◌∷◌, refl, sym, ◌∙◌, subst, inl, inr}
use Rattle.std.specs.FinSet.{empty, insert}
use Rattle.md_graph.specs.Sets.{NameSet, Has, Lacks, Within}
use Rattle.md_graph.proofs.SetLemmas.{clash, same_name, empty_lacks, insert_new, insert_old, of_insert}
use Rattle.md_graph.proofs.Search.{Decided, decide_both, over_sets}
use Rattle.md_forcing.specs.Lists.{Holds, NoRepeats}
use Rattle.md_comparability.specs.Orders.{IsOrder, Before, IsLinear}
use Rattle.md_comparability.proofs.Deciding.{decide_either}

-- ---- before

pub before_first : (l : List ℕ) (u v : ℕ) → Before l u v → Holds l u
before_first [] u v b = absurd b
before_first (x ∷ xs) u v (inl b) = inl b.0
before_first (x ∷ xs) u v (inr b) = inr (before_first xs u v b)

pub before_second : (l : List ℕ) (u v : ℕ) → Before l u v → Holds l v
before_second [] u v b = absurd b
before_second (x ∷ xs) u v (inl b) = inr b.1
before_second (x ∷ xs) u v (inr b) = inr (before_second xs u v b)

pub before_one_way : (l : List ℕ) (u v : ℕ) → NoRepeats l → Before l u v → Before l v u → ⊥
before_one_way [] u v once b c = b
before_one_way (x ∷ xs) u v once (inl b) (inl c) = once.0 (subst (Holds xs) b.0 c.1)
before_one_way (x ∷ xs) u v once (inl b) (inr c) = once.0 (subst (Holds xs) b.0 (before_second xs v u c))
before_one_way (x ∷ xs) u v once (inr b) (inl c) = once.0 (subst (Holds xs) c.0 (before_second xs u v b))
before_one_way (x ∷ xs) u v once (inr b) (inr c) = before_one_way xs u v once.1 b c

pub before_on : (l : List ℕ) (u v w : ℕ) → NoRepeats l → Before l u v → Before l v w → Before l u w
before_on [] u v w once b c = b
before_on (x ∷ xs) u v w once (inl b) (inl c) = absurd (once.0 (subst (Holds xs) c.0 b.1))
before_on (x ∷ xs) u v w once (inl b) (inr c) = inl (b.0, before_second xs v w c)
before_on (x ∷ xs) u v w once (inr b) (inl c) = absurd (once.0 (subst (Holds xs) c.0 (before_second xs u v b)))
before_on (x ∷ xs) u v w once (inr b) (inr c) = inr (before_on xs u v w once.1 b c)

pub before_one : (l : List ℕ) (u v : ℕ) → Holds l u → Holds l v → u ≢ v → Before l u v ⊎ Before l v u
before_one [] u v h i apart = absurd h
before_one (x ∷ xs) u v (inl h) (inl i) apart = absurd (apart (h ∙ sym i))
before_one (x ∷ xs) u v (inl h) (inr i) apart = inl (inl (h, i))
before_one (x ∷ xs) u v (inr h) (inl i) apart = inr (inl (i, h))
before_one (x ∷ xs) u v (inr h) (inr i) apart =
    elim (before_one xs u v h i apart) [ inl b ↦ inl (inr b) | inr b ↦ inr (inr b) ]

decide_listed : (l : List ℕ) (u : ℕ) → Decided (Holds l u)
decide_listed [] u = inr (λ h. h)
decide_listed (x ∷ xs) u = decide_either (same_name u x) (decide_listed xs u)

pub decide_before : (l : List ℕ) (u v : ℕ) → Decided (Before l u v)
decide_before [] u v = inr (λ b. b)
decide_before (x ∷ xs) u v = decide_either (decide_both (same_name u x) (decide_listed xs v)) (decide_before xs u v)

-- ---- a list in the order of a test

abbrev pub IsSortedBy : (ℕ → ℕ → Bool) → List ℕ → Type 0
IsSortedBy r [] = Unit {0}
IsSortedBy r (x ∷ xs) = ((y : ℕ) → Holds xs y → r x y ≡ true) × IsSortedBy r xs

pub sorted_before : (r : ℕ → ℕ → Bool) (l : List ℕ) (u v : ℕ) → IsSortedBy r l → Before l u v → r u v ≡ true
sorted_before r [] u v sorted b = absurd b
sorted_before r (x ∷ xs) u v sorted (inl b) = subst (λ k. r k v ≡ true) (sym b.0) (sorted.0 v b.1)
sorted_before r (x ∷ xs) u v sorted (inr b) = sorted_before r xs u v sorted.1 b

pub before_sorted : (r : ℕ → ℕ → Bool) → ((u v : ℕ) → r u v ≡ true → r v u ≡ true → ⊥) → (l : List ℕ) (u v : ℕ) → IsSortedBy r l → Holds l u → Holds l v → r u v ≡ true → Before l u v
before_sorted r one_way [] u v sorted h i t = absurd h
before_sorted r one_way (x ∷ xs) u v sorted (inl h) (inl i) t =
    absurd (one_way u u (subst (λ k. r u k ≡ true) (i ∙ sym h) t) (subst (λ k. r u k ≡ true) (i ∙ sym h) t))
before_sorted r one_way (x ∷ xs) u v sorted (inl h) (inr i) t = inl (h, i)
before_sorted r one_way (x ∷ xs) u v sorted (inr h) (inl i) t =
    absurd (one_way u v t (subst (λ k. r k u ≡ true) (sym i) (sorted.0 u h)))
before_sorted r one_way (x ∷ xs) u v sorted (inr h) (inr i) t = inr (before_sorted r one_way xs u v sorted.1 h i t)

module _ (r : ℕ → ℕ → Bool) (s : NameSet) (linear : IsLinear r s) where
  -- a list with one name more, put where it belongs
  record IsPutIn (x : ℕ) (l new : List ℕ) : Type 0 where
    of_new : (y : ℕ) → Holds new y → (y ≡ x) ⊎ Holds l y
    in_new : (y : ℕ) → (y ≡ x) ⊎ Holds l y → Holds new y
    once : NoRepeats new
    sorted : IsSortedBy r new

  put_in : (x : ℕ) → Has s x → (l : List ℕ) → ((y : ℕ) → Holds l y → Has s y) → (Holds l x → ⊥) → NoRepeats l → IsSortedBy r l → (new : List ℕ) × IsPutIn x l new
  put_in x in_x [] within absent once sorted = (
    x ∷ [],
    record {
      of_new = λ y h. h;
      in_new = λ y h. h;
      once = (λ h. h, tt);
      sorted = (λ y h. absurd h, tt);
    },
  )
  put_in x in_x (z ∷ l) within absent once sorted =
      elim (linear.one x z in_x (within z (inl refl)) (λ same. absent (inl same))) [
        | inl before ↦ (
          x ∷ z ∷ l,
          record {
            of_new = λ y h. h;
            in_new = λ y h. h;
            once = (absent, once);
            sorted = (
              λ y h. elim h [
                | inl same ↦ subst (λ k. r x k ≡ true) (sym same) before
                | inr behind ↦ linear.transitive x z y in_x (within z (inl refl)) (within y (inr behind)) before (sorted.0 y behind)
              ],
              sorted,
            );
          },
        )
        | inr after ↦
            let rest = put_in x in_x l (λ y h. within y (inr h)) (λ h. absent (inr h)) once.1 sorted.1 in (
              z ∷ rest.0,
              record {
                of_new = λ y h. elim h [
                  | inl same ↦ inr (inl same)
                  | inr behind ↦ elim (rest.1.of_new y behind) [ inl own ↦ inl own | inr old ↦ inr (inr old) ]
                ];
                in_new = λ y h. elim h [
                  | inl own ↦ inr (rest.1.in_new y (inl own))
                  | inr old ↦ elim old [ inl same ↦ inl same | inr behind ↦ inr (rest.1.in_new y (inr behind)) ]
                ];
                once = (
                  λ h. elim (rest.1.of_new z h) [ inl own ↦ absent (inl (sym own)) | inr old ↦ once.0 old ],
                  rest.1.once,
                );
                sorted = (
                  λ y h. elim (rest.1.of_new y h) [
                    | inl own ↦ subst (λ k. r z k ≡ true) (sym own) after
                    | inr old ↦ sorted.0 y old
                  ],
                  rest.1.sorted,
                );
              },
            )
      ]

  abbrev HasSorted : NameSet → Type 0
  HasSorted t = Within t s → (l : List ℕ) × IsOrder t l × IsSortedBy r l

  none_sorted : HasSorted empty
  none_sorted within = ([], record { members = λ v. (λ h. absurd h, λ h. clash h (empty_lacks v)); once = tt }, tt)

  more_sorted : (t : NameSet) (x : ℕ) → Lacks t x → HasSorted t → HasSorted (insert t x)
  more_sorted t x lacks before within =
      let old = before (λ y h. within y (insert_old t x y h)) in
      let put = put_in x (within x (insert_new t x)) old.0
      (λ y h. within y (insert_old t x y ((old.1.members y).0 h)))
      (λ h. clash ((old.1.members x).0 h) lacks) old.1.once old.2 in (
        put.0,
        record {
          members = λ v. (
            λ h. elim (put.1.of_new v h) [
              | inl same ↦ subst (Has (insert t x)) (sym same) (insert_new t x)
              | inr there ↦ insert_old t x v ((old.1.members v).0 there)
            ],
            λ h. put.1.in_new v (elim (of_insert t x v h) [ inl same ↦ inl same | inr there ↦ inr ((old.1.members v).1 there) ]),
          );
          once = put.1.once;
        },
        put.1.sorted,
      )

  pub sorted_order : (l : List ℕ) × IsOrder s l × IsSortedBy r l
  sorted_order = over_sets HasSorted none_sorted more_sorted s (λ x h. h)
