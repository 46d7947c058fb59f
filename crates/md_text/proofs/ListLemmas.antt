-- Lists.
use Rattle.std.proofs.Common.{◌≡◌, ℕ, Bool, ◌||◌, List, [], ◌∷◌, ◌++◌, map, refl, ap, ◌∙◌}
use Rattle.std.specs.List.{All, flat_map, list_any, onto_first}
use Rattle.std.proofs.lemmas.List.Folds.{list_any-append}
use Rattle.std.proofs.lemmas.List.Elements.{All-nil, All-cons, All-head, All-tail}

-- each part keeps a fact on its elements where one with that fact is put onto the first
pub All-onto_first : (P : ℕ → Type 0) (byte : ℕ) (parts : List (List ℕ)) → P byte → All (All P) parts → All (All P) (onto_first byte parts)
All-onto_first P byte [] holds all = All-cons (All P) (byte ∷ []) [] (All-cons P byte [] holds (All-nil P)) (All-nil (All P))
All-onto_first P byte (part ∷ parts) holds all =
    All-cons (All P) (byte ∷ part) parts (All-cons P byte part holds (All-head (All P) part parts all)) (All-tail (All P) part parts all)

-- what holds of the elements of two lists in a row holds of those of each
pub All-front : {X : Type 0} (P : X → Type 0) (xs ys : List X) → All P (xs ++ ys) → All P xs
All-front P [] ys all = All-nil P
All-front P (x ∷ xs) ys all = All-cons P x xs (All-head P x (xs ++ ys) all) (All-front P xs ys (All-tail P x (xs ++ ys) all))

pub All-behind : {X : Type 0} (P : X → Type 0) (xs ys : List X) → All P (xs ++ ys) → All P ys
All-behind P [] ys all = all
All-behind P (x ∷ xs) ys all = All-behind P xs ys (All-tail P x (xs ++ ys) all)

-- whether some element passes, in other words
pub any_map : {X Y : Type 0} (p : Y → Bool) (f : X → Y) (xs : List X) → list_any p (map f xs) ≡ list_any (λ x. p (f x)) xs
any_map p f [] = refl
any_map p f (x ∷ xs) = ap (λ b. p (f x) || b) (any_map p f xs)

pub any_flat_map : {X Y : Type 0} (p : Y → Bool) (f : X → List Y) (xs : List X) → list_any p (flat_map f xs) ≡ list_any (λ x. list_any p (f x)) xs
any_flat_map p f [] = refl
any_flat_map p f (x ∷ xs) = list_any-append p (f x) (flat_map f xs) ∙ ap (λ b. list_any p (f x) || b) (any_flat_map p f xs)

pub any_alike : {X : Type 0} (p q : X → Bool) (xs : List X) → All (λ x. p x ≡ q x) xs → list_any p xs ≡ list_any q xs
any_alike p q [] all = refl
any_alike p q (x ∷ xs) all = λ i. All-head (λ x. p x ≡ q x) x xs all i || any_alike p q xs (All-tail (λ x. p x ≡ q x) x xs all) i
