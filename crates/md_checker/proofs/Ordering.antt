-- Lists that are orders, and the set of the names of their fronts.
use Rattle.std.proofs.Common.{◌≡◌, ◌↔◌, ℕ, ◌+◌, ◌<◌, Bool, IsTrue, false, List, [], ◌∷◌, ◌++◌, take, drop, length, get_or, refl, sym, ◌∙◌, ap, subst, inl, inr}
use Rattle.std.proofs.lemmas.List.{take_more, take-append-drop}
use Rattle.std.specs.FinSet.{empty, insert}
use Rattle.md_graph.specs.Sets.{NameSet, Has, Lacks}
use Rattle.md_graph.specs.declared.TheConstants.{NAMES}
use Rattle.md_graph.specs.NameSet.{ascending, AllBelow}
use Rattle.md_graph.proofs.SetLemmas.{clash, empty_if, insert_new, insert_old, of_insert, same_members, Has-along}
use Rattle.md_forcing.specs.Lists.{Holds, NoRepeats}
use Rattle.md_forcing.proofs.ListLemmas.{holds_left, holds_right, of_append, once_push}
use Rattle.md_forcing.proofs.NameLists.{of_ascending, in_ascending}
use Rattle.md_comparability.specs.Orders.{IsOrder}

-- ---- fronts

module _ {X : Type 0} where
  pub twice : (xs ys : List X) (x : X) → NoRepeats (xs ++ x ∷ ys) → Holds xs x → ⊥
  twice [] ys x once h = h
  twice (z ∷ xs) ys x once (inl same) = once.0 (holds_right xs (x ∷ ys) z (inl (sym same)))
  twice (z ∷ xs) ys x once (inr h) = twice xs ys x once.1 h

  pub split_at : (xs : List X) (i : ℕ) (d : X) → i < length xs → take i xs ++ get_or xs i d ∷ drop (i + 1) xs ≡ xs
  split_at xs i d below =
      sym (assoc (take i xs) (get_or xs i d) (drop (i + 1) xs)) ∙ ap (λ l. l ++ drop (i + 1) xs) (sym (take_more xs i d below)) ∙ take-append-drop (i + 1) xs
    where
      assoc : (l : List X) (x : X) (r : List X) → (l ++ x ∷ []) ++ r ≡ l ++ x ∷ r
      assoc [] x r = refl
      assoc (y ∷ l) x r = ap (λ k. y ∷ k) (assoc l x r)

  pub holds_item : (xs : List X) (i : ℕ) (d : X) → i < length xs → Holds xs (get_or xs i d)
  holds_item xs i d below = subst (λ l. Holds l (get_or xs i d)) (split_at xs i d below) (holds_right (take i xs) _ (get_or xs i d) (inl refl))

  pub new_item : (xs : List X) (i : ℕ) (d : X) → i < length xs → NoRepeats xs → Holds (take i xs) (get_or xs i d) → ⊥
  new_item xs i d below once h = twice (take i xs) (drop (i + 1) xs) (get_or xs i d) (subst NoRepeats (sym (split_at xs i d below)) once) h

-- ---- an order

-- the front has members of s, none twice, and these are seen
pub record IsFront (s seen : NameSet) (front : List ℕ) : Type 0 where
  pub members : (w : ℕ) → Has seen w ↔ Holds front w
  pub once : NoRepeats front
  pub within : (w : ℕ) → Holds front w → Has s w

pub members_start : (seen : NameSet) → seen ≡ empty → (w : ℕ) → Has seen w ↔ Holds [] w
members_start seen is w = (λ h. clash h (empty_if seen is w), λ h. absurd h)

pub members_more : (seen new : NameSet) (list : List ℕ) (i : ℕ) → i < length list → ((w : ℕ) → Has seen w ↔ Holds (take i list) w) → new ≡ insert seen (get_or list i 0) → (w : ℕ) → Has new w ↔ Holds (take (i + 1) list) w
members_more seen new list i below before made w =
    let x = get_or list i 0 in
    let is = take_more list i 0 below in (
      λ h. subst (λ l. Holds l w) (sym is) (elim (of_insert seen x w (Has-along _ _ made w h)) [
        | inl same ↦ holds_right (take i list) (x ∷ []) w (inl same)
        | inr old ↦ holds_left (take i list) (x ∷ []) w ((before w).0 old)
      ]),
      λ h. Has-along _ _ (sym made) w (elim (of_append (take i list) (x ∷ []) w (subst (λ l. Holds l w) is h)) [
        | inl old ↦ insert_old seen x w ((before w).1 old)
        | inr last ↦ elim last [
          | inl same ↦ subst (Has (insert seen x)) (sym same) (insert_new seen x)
          | inr none ↦ absurd none
        ]
      ]),
    )

pub front_start : (s seen : NameSet) → seen ≡ empty → IsFront s seen []
front_start s seen is = record { members = members_start seen is; once = tt; within = λ w h. absurd h }

pub front_more : (s seen new : NameSet) (list : List ℕ) (i : ℕ) → i < length list → IsFront s seen (take i list) → Has s (get_or list i 0) → Lacks seen (get_or list i 0) → new ≡ insert seen (get_or list i 0) → IsFront s new (take (i + 1) list)
front_more s seen new list i below before in_s lacks made =
    let x = get_or list i 0 in
    let is = take_more list i 0 below in
    record {
      members = members_more seen new list i below before.members made;
      once = subst NoRepeats (sym is) (once_push (take i list) x before.once (λ h. clash ((before.members x).1 h) lacks));
      within = λ w h. elim (of_append (take i list) (x ∷ []) w (subst (λ l. Holds l w) is h)) [
        | inl old ↦ before.within w old
        | inr last ↦ elim last [ inl same ↦ subst (Has s) (sym same) in_s | inr none ↦ absurd none ]
      ];
    }

pub stranger : (s : NameSet) (list : List ℕ) (i : ℕ) → i < length list → Lacks s (get_or list i 0) → IsOrder s list → ⊥
stranger s list i below lacks order = clash ((order.members _).0 (holds_item list i 0 below)) lacks

pub repeated : (s seen : NameSet) (list : List ℕ) (i : ℕ) → i < length list → IsFront s seen (take i list) → Has seen (get_or list i 0) → IsOrder s list → ⊥
repeated s seen list i below before known order =
    new_item list i 0 below order.once ((before.members _).0 known)

pub front_whole : (s seen : NameSet) (list : List ℕ) → IsFront s seen list → (seen ≡ s) ↔ IsOrder s list
front_whole s seen list front = (
  λ same. record {
    members = λ v. (λ h. front.within v h, λ h. (front.members v).0 (Has-along _ _ (sym same) v h));
    once = front.once;
  },
  λ order. same_members seen s (λ v h. front.within v ((front.members v).0 h)) (λ v h. (front.members v).1 ((order.members v).1 h)),
)

-- ---- answers

pub refused : {P : Type 0} → (P → ⊥) → IsTrue false ↔ P
refused none = (λ t. clash t refl, λ p. absurd (none p))

pub agreed : {b : Bool} {P Q : Type 0} → IsTrue b ↔ P → P ↔ Q → IsTrue b ↔ Q
agreed is same = (λ t. same.0 (is.0 t), λ q. is.1 (same.1 q))

-- ---- each member of a set

pub each_start : (s t : NameSet) (left : List ℕ) → left ≡ ascending s → s ≡ t → AllBelow s NAMES → (v : ℕ) → Holds left v ↔ Has t v
each_start s t left is same below v = (
  λ h. Has-along s t same v (of_ascending s NAMES v (subst (λ l. Holds l v) is h)).0,
  λ h. let here = Has-along t s (sym same) v h in subst (λ l. Holds l v) (sym is) (in_ascending s NAMES v here (below v here)),
)
