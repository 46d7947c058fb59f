-- What lists hold: appended, mapped, by place.
use Rattle.std.proofs.Common.{◌≡◌, ◌⊎◌, ℕ, zero, suc, ◌<◌, ◌≤◌, List, [], ◌∷◌, ◌++◌, map, length, slice_get, Option, Some, refl, sym, ap, subst, inl, inr, arith}
use Rattle.std.specs.Map.{keys_of}
use Rattle.md_forcing.specs.Lists.{Holds, NoRepeats}

module _ {X : Type 0} where
  pub holds_left : (xs ys : List X) (x : X) → Holds xs x → Holds (xs ++ ys) x
  holds_left [] ys x h = absurd h
  holds_left (y ∷ xs) ys x (inl e) = inl e
  holds_left (y ∷ xs) ys x (inr h) = inr (holds_left xs ys x h)

  pub holds_right : (xs ys : List X) (x : X) → Holds ys x → Holds (xs ++ ys) x
  holds_right [] ys x h = h
  holds_right (y ∷ xs) ys x h = inr (holds_right xs ys x h)

  pub of_append : (xs ys : List X) (x : X) → Holds (xs ++ ys) x → Holds xs x ⊎ Holds ys x
  of_append [] ys x h = inr h
  of_append (y ∷ xs) ys x (inl e) = inl (inl e)
  of_append (y ∷ xs) ys x (inr h) = elim (of_append xs ys x h) [ inl l ↦ inl (inr l) | inr r ↦ inr r ]

  pub once_append : (xs ys : List X) → NoRepeats xs → NoRepeats ys → ((x : X) → Holds xs x → Holds ys x → ⊥) → NoRepeats (xs ++ ys)
  once_append [] ys a b apart = b
  once_append (x ∷ xs) ys a b apart = (
    λ h. elim (of_append xs ys x h) [ inl l ↦ a.0 l | inr r ↦ apart x (inl refl) r ],
    once_append xs ys a.1 b (λ y l r. apart y (inr l) r),
  )

  pub once_push : (xs : List X) (x : X) → NoRepeats xs → (Holds xs x → ⊥) → NoRepeats (xs ++ x ∷ [])
  once_push xs x a new = once_append xs (x ∷ []) a (λ h. h, tt) (λ y l r. elim r [ inl e ↦ new (subst (Holds xs) e l) | inr h ↦ absurd h ])

  pub holds_at : (xs : List X) (i : ℕ) (x : X) → slice_get xs i ≡ Some x → Holds xs x
  holds_at [] i x e = cc
  holds_at (y ∷ xs) zero x e = inl (cc)
  holds_at (y ∷ xs) (suc i) x e = inr (holds_at xs i x e)

  pub place_in_list : (xs : List X) (x : X) → Holds xs x → (i : ℕ) × (slice_get xs i ≡ Some x)
  place_in_list [] x h = absurd h
  place_in_list (y ∷ xs) x (inl e) = (zero, ap Some (sym e))
  place_in_list (y ∷ xs) x (inr h) = let rest = place_in_list xs x h in (suc rest.0, rest.1)

  pub place_within : (xs : List X) (i : ℕ) (x : X) → slice_get xs i ≡ Some x → i < length xs
  place_within [] i x e = cc
  place_within (y ∷ xs) zero x e = omega arith
  place_within (y ∷ xs) (suc i) x e = let rest = place_within xs i x e in omega arith

  pub get_left : (xs ys : List X) (i : ℕ) (x : X) → slice_get xs i ≡ Some x → slice_get (xs ++ ys) i ≡ Some x
  get_left [] ys i x e = cc
  get_left (y ∷ xs) ys zero x e = e
  get_left (y ∷ xs) ys (suc i) x e = get_left xs ys i x e

  pub get_of_append : (xs ys : List X) (i : ℕ) (x : X) → slice_get (xs ++ ys) i ≡ Some x → (slice_get xs i ≡ Some x) ⊎ ((length xs ≤ i) × Holds ys x)
  get_of_append [] ys i x e = inr (omega arith, holds_at ys i x e)
  get_of_append (y ∷ xs) ys zero x e = inl e
  get_of_append (y ∷ xs) ys (suc i) x e =
      elim (get_of_append xs ys i x e) [
        | inl l ↦ inl l
        | inr r ↦ let more = r.0 in inr (omega arith, r.1)
      ]

  pub get_some : (xs : List X) (i : ℕ) → i < length xs → (x : X) × (slice_get xs i ≡ Some x)
  get_some [] i h = absurd (omega arith)
  get_some (x ∷ xs) zero h = (x, refl)
  get_some (x ∷ xs) (suc i) h = get_some xs i (omega arith)

  pub same_some : (x y : X) → ◌≡◌ {A = Option X} (Some x) (Some y) → x ≡ y
  same_some x y e = cc

module _ {X Y : Type 0} (f : X → Y) where
  pub holds_map : (xs : List X) (x : X) → Holds xs x → Holds (map f xs) (f x)
  holds_map [] x h = absurd h
  holds_map (y ∷ xs) x (inl e) = inl (ap f e)
  holds_map (y ∷ xs) x (inr h) = inr (holds_map xs x h)

  pub of_map : (xs : List X) (y : Y) → Holds (map f xs) y → (x : X) × Holds xs x × (y ≡ f x)
  of_map [] y h = absurd h
  of_map (x ∷ xs) y (inl e) = (x, inl refl, e)
  of_map (x ∷ xs) y (inr h) = let rest = of_map xs y h in (rest.0, inr rest.1, rest.2)

  pub once_map : (xs : List X) → ((x z : X) → Holds xs x → Holds xs z → f x ≡ f z → x ≡ z) → NoRepeats xs → NoRepeats (map f xs)
  once_map [] same once = tt
  once_map (x ∷ xs) same once = (
    λ h. let other = of_map xs (f x) h in once.0 (subst (Holds xs) (sym (same x other.0 (inl refl) (inr other.1) other.2)) other.1),
    once_map xs (λ z w l r e. same z w (inr l) (inr r) e) once.1,
  )

-- ---- keys

module _ {K V : Type 0} where
  pub keys-append : (es fs : List (K × V)) → keys_of (es ++ fs) ≡ keys_of es ++ keys_of fs
  keys-append [] fs = refl
  keys-append (e ∷ es) fs = ap (λ ks. e.0 ∷ ks) (keys-append es fs)

  pub key_at : (es : List (K × V)) (i : ℕ) (k : K) (v : V) → slice_get es i ≡ Some (k, v) → Holds (keys_of es) k
  key_at [] i k v e = cc
  key_at (x ∷ es) zero k v e = inl (ap (λ p. p.0) (sym (same_some x (k, v) e)))
  key_at (x ∷ es) (suc i) k v e = inr (key_at es i k v e)

  pub place_of_key : (es : List (K × V)) (k : K) → Holds (keys_of es) k → (i : ℕ) × (v : V) × (slice_get es i ≡ Some (k, v))
  place_of_key [] k h = absurd h
  place_of_key (x ∷ es) k (inl e) = (zero, x.1, λ i. Some (sym e i, x.1))
  place_of_key (x ∷ es) k (inr h) = let rest = place_of_key es k h in (suc rest.0, rest.1, rest.2)

  -- a key stands at one place
  pub one_place : (es : List (K × V)) (i j : ℕ) (k : K) (v w : V) → NoRepeats (keys_of es) → slice_get es i ≡ Some (k, v) → slice_get es j ≡ Some (k, w) → i ≡ j
  one_place [] i j k v w once a b = cc
  one_place (x ∷ es) zero zero k v w once a b = refl
  one_place (x ∷ es) zero (suc j) k v w once a b =
      absurd (once.0 (subst (Holds (keys_of es)) (ap (λ p. p.0) (sym (same_some x (k, v) a))) (key_at es j k w b)))
  one_place (x ∷ es) (suc i) zero k v w once a b =
      absurd (once.0 (subst (Holds (keys_of es)) (ap (λ p. p.0) (sym (same_some x (k, w) b))) (key_at es i k v a)))
  one_place (x ∷ es) (suc i) (suc j) k v w once a b = ap suc (one_place es i j k v w once.1 a b)
