-- Lists that are filled up to some number of items: what is read of them, and what a write or an item more makes of them.
use Rattle.std.proofs.Common.{◌≡◌, ℕ, suc, ◌-◌, ◌<◌, ◌≤◌, List, [], ◌∷◌, ◌++◌, length, get_or, replicate, set, Option, None, is_some, IsSome, refl, sym, ◌∙◌, ap, inl, inr, arith, length-append}
use Rattle.std.proofs.Math.Seq.{set-append_seam}
use Rattle.std.proofs.lemmas.Bool.{cases_lt}
use Rattle.std.proofs.lemmas.List.{append_assoc, get_or_append_left, get_or-append_right, get_or-replicate, get_or_past, get_or_read, length-set, length-replicate, set-append_left}
use Rattle.md_lists.specs.Store.{filled_up}
use Rattle.md_lists.proofs.LinkLaws.{some_within}

pub get_or-all : {X : Type 0} → (n i : ℕ) (d : X) → get_or (replicate n d) i d ≡ d
get_or-all n i d = elim (cases_lt i n) [ inl low ↦ get_or-replicate n i d d low | inr high ↦ get_or_past (replicate n d) i d (let e = length-replicate n d in omega arith) ]

-- items that are the default, at the end of a list, are read where there are none too
get_or-default_end : {X : Type 0} → (xs : List X) (n i : ℕ) (d : X) → get_or (xs ++ replicate n d) i d ≡ get_or xs i d
get_or-default_end xs n i d =
    elim (cases_lt i (length xs)) [
      | inl within ↦ get_or_append_left xs (replicate n d) d i within
      | inr past ↦
          get_or-append_right xs (replicate n d) (length xs) i d refl past
          ∙ get_or-all n (i - length xs) d
          ∙ sym (get_or_past xs i d past)
    ]

pub one_more_default : {X : Type 0} → (xs : List X) (i : ℕ) (d : X) → get_or (xs ++ d ∷ []) i d ≡ get_or xs i d
one_more_default xs i d = get_or-default_end xs 1 i d

pub length-filled_up : {X : Type 0} → (xs : List X) (rest : X) (n : ℕ) → length xs ≤ n → length (filled_up xs rest n) ≡ n
unfolding filled_up
length-filled_up xs rest n few = let e = length-append xs (replicate (n - length xs) rest) in let k = length-replicate (n - length xs) rest in omega arith

pub item-filled_up : {X : Type 0} → (xs : List X) (rest : X) (n i : ℕ) → get_or (filled_up xs rest n) i rest ≡ get_or xs i rest
unfolding filled_up
item-filled_up xs rest n i = get_or-default_end xs (n - length xs) i rest

-- there is no item
pub filled_up-none : {X : Type 0} → (rest : X) (n : ℕ) → filled_up [] rest n ≡ replicate n rest
unfolding filled_up
filled_up-none rest n = ap (λ k. replicate k rest) (let all : n - 0 ≡ n = omega arith in all)

pub filled_up-set : {X : Type 0} → (xs : List X) (rest : X) (n p : ℕ) (x : X) → p < length xs → filled_up (set xs p x) rest n ≡ set (filled_up xs rest n) p x
unfolding filled_up
filled_up-set xs rest n p x within =
    ap (λ k. set xs p x ++ replicate (n - k) rest) (length-set xs p x) ∙ sym (set-append_left xs (replicate (n - length xs) rest) p x within)

-- an item comes behind the others
pub filled_up-push : {X : Type 0} → (xs : List X) (rest : X) (n : ℕ) (x : X) → length xs < n → filled_up (xs ++ x ∷ []) rest n ≡ set (filled_up xs rest n) (length xs) x
unfolding filled_up
filled_up-push xs rest n x few = append_assoc xs (x ∷ []) (replicate (n - length (xs ++ x ∷ [])) rest) ∙ sym more
  where
    left : n - length xs ≡ suc (n - length (xs ++ x ∷ []))
    left = let e = length-append xs (x ∷ []) in omega arith

    more : set (xs ++ replicate (n - length xs) rest) (length xs) x ≡ xs ++ x ∷ replicate (n - length (xs ++ x ∷ [])) rest
    more = ap (λ k. set (xs ++ replicate k rest) (length xs) x) left ∙ set-append_seam xs rest (replicate (n - length (xs ++ x ∷ [])) rest) x

-- and is the same as what fills the list up
pub filled_up-more : {X : Type 0} → (xs : List X) (rest : X) (n : ℕ) → length xs < n → filled_up (xs ++ rest ∷ []) rest n ≡ filled_up xs rest n
unfolding filled_up
filled_up-more xs rest n few =
    append_assoc xs (rest ∷ []) (replicate (n - length (xs ++ rest ∷ [])) rest)
    ∙ ap (λ k. xs ++ replicate k rest) (let e = length-append xs (rest ∷ []) in let left : suc (n - length (xs ++ rest ∷ [])) ≡ n - length xs = omega arith in left)

-- what is read of a list that is filled up, where there is an item
pub filled_read : {X : Type 0} → (xs ys : List X) (rest : X) (n p : ℕ) (x : X) → filled_up xs rest n ≡ ys → p < length xs → x ≡ get_or xs p x → x ≡ get_or ys p rest
filled_read xs ys rest n p x is within read = get_or_read xs p x within read rest ∙ sym (item-filled_up xs rest n p) ∙ ap (λ z. get_or z p rest) is

-- what isn't none stands among the items
pub some_item : {X : Type 0} → (xs ys : List (Option X)) (n p : ℕ) → filled_up xs None n ≡ ys → IsSome (get_or ys p None) → p < length xs
some_item xs ys n p is some =
    some_within xs (length xs) p refl (ap is_some (sym (item-filled_up xs None n p) ∙ ap (λ z. get_or z p None) is) ∙ some)
