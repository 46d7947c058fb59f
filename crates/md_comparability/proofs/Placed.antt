-- The places of names in a linear order; a list that has each name at its place is in this order.
use Rattle.std.proofs.Common.{◌≡◌, ℕ, zero, suc, ◌+◌, ◌<◌, ◌≤◌, Bool, true, List, [], ◌∷◌, length, slice_get, Some, refl, sym, ◌∙◌, ap, subst, inl, inr, arith}
use Rattle.std.proofs.lemmas.Bool.{false_from_ne_true}
use Rattle.std.specs.FinSet.{len, retain, remove, union, difference}
use Rattle.md_graph.specs.Sets.{NameSet, Has, Disjoint}
use Rattle.md_graph.proofs.SetLaws.{len-empty}
use Rattle.md_graph.proofs.SetLemmas.{remove_left, of_remove, retain_has, of_retain, retain_lacks, union_left, union_right, minus_has, same_members, if_empty}
use Rattle.md_graph.proofs.Search.{len_fewer, len_within, len_proper, len_union, len_minus}
use Rattle.md_forcing.specs.Lists.{Holds}
use Rattle.md_forcing.proofs.ListLemmas.{holds_at, place_in_list, same_some}
use Rattle.md_comparability.specs.Orders.{IsOrder, IsLinear, place_in}
use Rattle.md_comparability.proofs.Sorted.{IsSortedBy, sorted_order}

-- the members of two sets that share none
pub len_disjoint : (a b : NameSet) → Disjoint a b → len (union a b) ≡ len a + len b
len_disjoint a b apart =
    let most : len (union a b) ≤ len a + len b = len_union a b in
    let rest : len (difference (union a b) b) + len b ≤ len (union a b) = len_minus (union a b) b (union_right a b) in
    let within : len a ≤ len (difference (union a b) b) = len_within a (difference (union a b) b) (λ y h. minus_has (union a b) b y (union_left a b y h) (apart y h)) in
    omega arith

-- ---- the places of the items of an order

-- an order without its first name
rest_order : (s : NameSet) (x : ℕ) (xs : List ℕ) → IsOrder s (x ∷ xs) → IsOrder (remove s x) xs
rest_order s x xs is = record {
  members = λ v. (
    λ h. remove_left s x v (λ same. is.once.0 (subst (Holds xs) same h)) ((is.members v).0 (inr h)),
    λ h. let parts = of_remove s x v h in elim ((is.members v).1 parts.1) [ inl same ↦ absurd (parts.0 same) | inr behind ↦ behind ],
  );
  once = is.once.1;
}

order_length : (l : List ℕ) (s : NameSet) → IsOrder s l → length l ≡ len s
order_length [] s is = sym (ap len (if_empty s (λ y. false_from_ne_true _ (λ h. (is.members y).1 h))) ∙ len-empty)
order_length (x ∷ xs) s is =
    let rest = order_length xs (remove s x) (rest_order s x xs is) in
    let one = len_fewer s x ((is.members x).0 (inl refl)) in
    omega arith

same_items : (xs ys : List ℕ) → length xs ≡ length ys → ((i x : ℕ) → slice_get ys i ≡ Some x → slice_get xs i ≡ Some x) → xs ≡ ys
same_items [] [] size same = refl
same_items [] (y ∷ ys) size same = absurd (omega arith)
same_items (x ∷ xs) [] size same = absurd (omega arith)
same_items (x ∷ xs) (y ∷ ys) size same =
    let first : x ≡ y = same_some x y (same zero y refl) in
    let rest : xs ≡ ys = same_items xs ys (omega arith) (λ i z e. same (suc i) z e) in
    λ i. first i ∷ rest i

module _ (r : ℕ → ℕ → Bool) (one_way : (u v : ℕ) → r u v ≡ true → r v u ≡ true → ⊥) where
  first_place : (s : NameSet) (x : ℕ) (xs : List ℕ) → IsOrder s (x ∷ xs) → IsSortedBy r (x ∷ xs) → place_in r s x ≡ 0
  first_place s x xs is sorted =
      ap len (if_empty (retain s (λ u. r u x)) (λ u. false_from_ne_true _ (λ h.
      let parts = of_retain s (λ w. r w x) u h in
      elim ((is.members u).1 parts.0) [
        | inl same ↦ let loop = subst (λ k. r k x ≡ true) same parts.1 in one_way x x loop loop
        | inr behind ↦ one_way x u (sorted.0 u behind) parts.1
      ]))) ∙ len-empty

  next_place : (s : NameSet) (x v : ℕ) → Has s x → r x v ≡ true → place_in r (remove s x) v + 1 ≡ place_in r s v
  next_place s x v in_x before =
      let p : ℕ → Bool = λ u. r u v in
      let fewer : len (remove (retain s p) x) + 1 ≡ len (retain s p) = len_fewer (retain s p) x (retain_has s p x in_x before) in
      let same : remove (retain s p) x ≡ retain (remove s x) p = same_members (remove (retain s p) x) (retain (remove s x) p)
      (λ y h.
      let a = of_remove (retain s p) x y h in
      let b = of_retain s p y a.1 in
      retain_has (remove s x) p y (remove_left s x y a.0 b.0) b.1)
      (λ y h.
      let a = of_retain (remove s x) p y h in
      let b = of_remove s x y a.0 in
      remove_left (retain s p) x y b.0 (retain_has s p y b.1 a.1)) in
      let same_len : len (remove (retain s p) x) ≡ len (retain (remove s x) p) = ap len same in
      omega arith

  place_of_item : (l : List ℕ) (s : NameSet) → IsOrder s l → IsSortedBy r l → (k v : ℕ) → slice_get l k ≡ Some v → place_in r s v ≡ k
  place_of_item [] s is sorted k v e = cc
  place_of_item (x ∷ xs) s is sorted zero v e = subst (λ k. place_in r s k ≡ 0) (same_some x v e) (first_place s x xs is sorted)
  place_of_item (x ∷ xs) s is sorted (suc k) v e =
      let rest = place_of_item xs (remove s x) (rest_order s x xs is) sorted.1 k v e in
      let more = next_place s x v ((is.members x).0 (inl refl)) (sorted.0 v (holds_at xs k v e)) in
      omega arith

module _ (r : ℕ → ℕ → Bool) (s : NameSet) (linear : IsLinear r s) where
  pub place_within : (v : ℕ) → Has s v → place_in r s v < len s
  place_within v in_v =
      let p : ℕ → Bool = λ u. r u v in
      len_proper (retain s p) s v (λ y h. (of_retain s p y h).0) in_v (retain_lacks s p v (false_from_ne_true _ (λ h. linear.one_way v v h h)))

  -- the sorted order has each name at its place
  at_place : (v : ℕ) → Has s v → slice_get (sorted_order r s linear).0 (place_in r s v) ≡ Some v
  at_place v in_v =
      let known = sorted_order r s linear in
      let found = place_in_list known.0 v ((known.1.members v).1 in_v) in
      let place = place_of_item r linear.one_way known.0 s known.1 known.2 found.0 v found.1 in
      subst (λ k. slice_get known.0 k ≡ Some v) (sym place) found.1

  -- different names have different places
  pub one_at_place : (v x : ℕ) → Has s v → Has s x → place_in r s v ≡ place_in r s x → v ≡ x
  one_at_place v x in_v in_x e =
      same_some v x (sym (at_place v in_v) ∙ ap (slice_get (sorted_order r s linear).0) e ∙ at_place x in_x)

  pub placed_order : (list : List ℕ) → length list ≡ len s → ((v : ℕ) → Has s v → slice_get list (place_in r s v) ≡ Some v) → IsOrder s list × IsSortedBy r list
  placed_order list size placed =
      let known = sorted_order r s linear in
      let same : list ≡ known.0 = same_items list known.0 (size ∙ sym (order_length known.0 s known.1)) (λ i x e.
      let place = place_of_item r linear.one_way known.0 s known.1 known.2 i x e in
      subst (λ k. slice_get list k ≡ Some x) place (placed x ((known.1.members x).0 (holds_at known.0 i x e)))) in
      (subst (IsOrder s) (sym same) known.1, subst (IsSortedBy r) (sym same) known.2)
