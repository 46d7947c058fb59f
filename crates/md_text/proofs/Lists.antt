-- The elements of a list, and what holds of each element and each later one, by the list's construction.
use Rattle.std.proofs.Common.{◌≡◌, ℕ, zero, suc, ◌<◌, ◌⊎◌, List, [], ◌∷◌, ◌++◌, length, get_or, Contains, AllPairs, refl, sym, subst, inl, inr, arith}
use Rattle.std.specs.Prelude.{⊤}

-- y is an element
abbrev pub In : {A : Type 0} → List A → A → Type 0
In [] y = ⊥
In (x ∷ xs) y = (y ≡ x) ⊎ In xs y

-- R holds of each element and each later one
abbrev pub Later : {A : Type 0} → (A → A → Type 0) → List A → Type 0
Later R [] = ⊤
Later R (x ∷ xs) = ((y : _) → In xs y → R x y) × Later R xs

module _ {A : Type 0} where
  in_at : (xs : List A) (y : A) (k : ℕ) → k < length xs → get_or xs k y ≡ y → In xs y
  in_at [] y k h e = let b : k < 0 = h in omega arith
  in_at (x ∷ xs) y zero h e = inl (sym e)
  in_at (x ∷ xs) y (suc k) h e = inr (in_at xs y k (let b : suc k < suc (length xs) = h in omega arith) e)

  pub of_contains : (xs : List A) (y : A) → Contains xs y → In xs y
  of_contains xs y c = in_at xs y c.0 c.1 c.2

  pub to_contains : (xs : List A) (y : A) → In xs y → Contains xs y
  to_contains [] y i = absurd i
  to_contains (x ∷ xs) y (inl e) = (zero, (let b : 0 < suc (length xs) = omega arith in b), sym e)
  to_contains (x ∷ xs) y (inr i) =
      let r : Contains xs y = to_contains xs y i in
      (suc r.0, (let b : r.0 < length xs = r.1 in let c : suc r.0 < suc (length xs) = omega arith in c), r.2)

  pub in_get : (xs : List A) (k : ℕ) (d : A) → k < length xs → In xs (get_or xs k d)
  in_get [] k d h = let b : k < 0 = h in omega arith
  in_get (x ∷ xs) zero d h = inl refl
  in_get (x ∷ xs) (suc k) d h = inr (in_get xs k d (let b : suc k < suc (length xs) = h in omega arith))

  -- the elements of two lists in a row
  pub in_left : (xs ys : List A) (y : A) → In xs y → In (xs ++ ys) y
  in_left [] ys y i = absurd i
  in_left (x ∷ xs) ys y (inl e) = inl e
  in_left (x ∷ xs) ys y (inr i) = inr (in_left xs ys y i)

  pub in_right : (xs ys : List A) (y : A) → In ys y → In (xs ++ ys) y
  in_right [] ys y i = i
  in_right (x ∷ xs) ys y i = inr (in_right xs ys y i)

  pub of_append : (xs ys : List A) (y : A) → In (xs ++ ys) y → In xs y ⊎ In ys y
  of_append [] ys y i = inr i
  of_append (x ∷ xs) ys y (inl e) = inl (inl e)
  of_append (x ∷ xs) ys y (inr i) = elim (of_append xs ys y i) [ inl l ↦ inl (inr l) | inr r ↦ inr r ]

  module _ (R : A → A → Type 0) where
    pub of_pairs : (xs : List A) → AllPairs R xs → Later R xs
    of_pairs [] p = tt
    of_pairs (x ∷ xs) p = (
      (λ y i.
          let c : Contains xs y = to_contains xs y i in
          subst (R x) c.2 (p 0 (suc c.0) y (omega arith) (let b : c.0 < length xs = c.1 in let d : suc c.0 < suc (length xs) = omega arith in d))),
      of_pairs xs (λ i j d l h. p (suc i) (suc j) d (let b : i < j = l in omega arith) (let b : j < length xs = h in let c : suc j < suc (length xs) = omega arith in c)),
    )

    pub to_pairs : (xs : List A) → Later R xs → AllPairs R xs
    to_pairs [] l i j d b h = let c : j < 0 = h in absurd (omega arith)
    to_pairs (x ∷ xs) l zero zero d b h = let c : zero < zero = b in absurd (omega arith)
    to_pairs (x ∷ xs) l zero (suc j) d b h = l.0 (get_or xs j d) (in_get xs j d (let c : suc j < suc (length xs) = h in omega arith))
    to_pairs (x ∷ xs) l (suc i) zero d b h = let c : suc i < zero = b in absurd (omega arith)
    to_pairs (x ∷ xs) l (suc i) (suc j) d b h =
        to_pairs xs l.1 i j d (let c : suc i < suc j = b in omega arith) (let c : suc j < suc (length xs) = h in omega arith)

    pub later_left : (xs ys : List A) → Later R (xs ++ ys) → Later R xs
    later_left [] ys l = tt
    later_left (x ∷ xs) ys l = ((λ y i. l.0 y (in_left xs ys y i)), later_left xs ys l.1)

    pub later_right : (xs ys : List A) → Later R (xs ++ ys) → Later R ys
    later_right [] ys l = l
    later_right (x ∷ xs) ys l = later_right xs ys l.1

    pub later_across : (xs ys : List A) → Later R (xs ++ ys) → (x y : A) → In xs x → In ys y → R x y
    later_across [] ys l x y i j = absurd i
    later_across (z ∷ xs) ys l x y (inl e) j = subst (λ w. R w y) (sym e) (l.0 y (in_right xs ys y j))
    later_across (z ∷ xs) ys l x y (inr i) j = later_across xs ys l.1 x y i j

    pub later_append : (xs ys : List A) → Later R xs → Later R ys → ((x y : A) → In xs x → In ys y → R x y) → Later R (xs ++ ys)
    later_append [] ys l r across = r
    later_append (x ∷ xs) ys l r across = (
      (λ y i. elim (of_append xs ys y i) [ inl a ↦ l.0 y a | inr b ↦ across x y (inl refl) b ]),
      later_append xs ys l.1 r (λ a b i j. across a b (inr i) j),
    )
