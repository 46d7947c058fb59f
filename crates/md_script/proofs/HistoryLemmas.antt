-- Histories, as edits and where items begin.
use Rattle.std.proofs.Common.{◌≡◌, ◌≢◌, ℕ, ◌+◌, ◌-◌, ◌<◌, ◌≤◌, List, [], ◌∷◌, ◌++◌, length, map, reverse, take, drop, get_or, option_to_list, Option, Some, None, IfSome, IfNone, IsSome, refl, sym, ◌∙◌, ap, ap₂, subst, inl, inr, arith}
use Rattle.std.proofs.lemmas.Bool.{cases_lt}
use Rattle.std.proofs.lemmas.List.{length-map, length-drop, length-append, length-reverse, length-take-le, map-append, reverse-append, drop_all, take_all, take_more, drop-append-le, take-append-le}
use Rattle.md_script.specs.declared.edit.Edit.{Edit}
use Rattle.md_script.specs.declared.past.PastOf.{PastOf}
use Rattle.md_script.specs.Pasts.{as_edit}
use Rattle.md_script.specs.Histories.{cut_items, AreStarts}

pub items_length : (edits : List Edit) (starts : List ℕ) → length (cut_items edits starts) ≡ length starts
items_length edits [] = refl
items_length edits (start ∷ starts) = let rest = items_length (take start edits) starts in omega arith

-- a list without its last item, and that item
pub last_apart : {X : Type 0} (xs : List X) (d : X) → 0 < length xs → xs ≡ take (length xs - 1) xs ++ get_or xs (length xs - 1) d ∷ []
last_apart xs d some =
    let whole : take (length xs - 1 + 1) xs ≡ xs = take_all (length xs - 1 + 1) xs (omega arith) in
    sym whole ∙ take_more xs (length xs - 1) d (omega arith)

pub last_place : (xs : List ℕ) → 0 < length xs → reverse xs ≡ get_or xs (length xs - 1) 0 ∷ reverse (take (length xs - 1) xs)
last_place xs some = ap reverse (last_apart xs 0 some) ∙ reverse-append (take (length xs - 1) xs) (get_or xs (length xs - 1) 0 ∷ [])

more_starts : (n m : ℕ) (starts : List ℕ) → n ≤ m → AreStarts n starts → AreStarts m starts
more_starts n m [] le at = tt
more_starts n m (start ∷ starts) le at = let first = at.0 in (omega arith, at.1)

-- a new item
pub opened : {w : ℕ} (edits : List (PastOf w)) (starts new : List ℕ) → new ≡ starts ++ length edits ∷ [] → cut_items (map as_edit edits) (reverse new) ≡ [] ∷ cut_items (map as_edit edits) (reverse starts)
opened edits starts new is =
    let seen = map as_edit edits in
    let all : length seen ≤ length edits = (let e = length-map edits as_edit in omega arith) in
    ap (λ s. cut_items seen (reverse s)) is ∙ ap (cut_items seen) (reverse-append starts (length edits ∷ []))
    ∙ ap₂ (λ (x y : List Edit). x ∷ cut_items y (reverse starts)) (drop_all (length edits) seen all) (take_all (length edits) seen all)

-- one edit more
pushed_item : (edits : List Edit) (e : Edit) (start : ℕ) (starts : List ℕ) → start ≤ length edits →
    cut_items (edits ++ e ∷ []) (start ∷ starts) ≡ (drop start edits ++ e ∷ []) ∷ cut_items (take start edits) starts
pushed_item edits e start starts le =
    ap₂ (λ (x y : List Edit). x ∷ cut_items y starts) (drop-append-le start edits (e ∷ []) le) (take-append-le start edits (e ∷ []) le)

pub pushed : (edits new : List Edit) (e : Edit) (starts : List ℕ) → new ≡ edits ++ e ∷ [] → AreStarts (length edits) starts → (last : List Edit) (others : List (List Edit)) → cut_items edits starts ≡ last ∷ others
    → cut_items new starts ≡ (last ++ e ∷ []) ∷ others
pushed edits new e [] is at last others same = absurd (cc)
pushed edits new e (start ∷ starts) is at last others same =
    let first : drop start edits ≡ last = cc in
    let rest : cut_items (take start edits) starts ≡ others = cc in
    ap (λ (l : List Edit). cut_items l (start ∷ starts)) is ∙ pushed_item edits e start starts at.0 ∙ ap₂ (λ (x : List Edit) (y : List (List Edit)). (x ++ e ∷ []) ∷ y) first rest

pub seen_push : {w : ℕ} (edits new : List (PastOf w)) (past : PastOf w) → new ≡ edits ++ past ∷ [] → map as_edit new ≡ map as_edit edits ++ as_edit past ∷ []
seen_push edits new past is = ap (map as_edit) is ∙ map-append as_edit edits (past ∷ [])

pub pushed_starts : (n m : ℕ) (starts : List ℕ) → n ≤ m → AreStarts n (reverse starts) → AreStarts m (reverse starts)
pushed_starts n m starts le at = more_starts n m (reverse starts) le at

pub seen_starts : {w : ℕ} (edits : List (PastOf w)) (starts : List ℕ) → AreStarts (length edits) (reverse starts) → AreStarts (length (map as_edit edits)) (reverse starts)
seen_starts edits starts at = subst (λ m. AreStarts m (reverse starts)) (sym (length-map edits as_edit)) at

-- ---- one edit less

pub empty_last : (items : List (List Edit)) (n : ℕ) → 0 < length items → ((last : List Edit) (others : List (List Edit)) → items ≡ last ∷ others → n ≡ length last) → n ≡ 0 → (others : List (List Edit)) × (items ≡ [] ∷ others)
empty_last [] n some len none = absurd (omega arith)
empty_last ([] ∷ others) n some len none = (others, refl)
empty_last ((e ∷ last) ∷ others) n some len none = let l = len (e ∷ last) others refl in absurd (omega arith)

-- the last item begins before the end
abbrev BeginsBefore : ℕ → List ℕ → Type 0
BeginsBefore n [] = ⊥
BeginsBefore n (start ∷ starts) = start < n

begins : (edits : List Edit) (starts : List ℕ) (items : List (List Edit)) (n : ℕ) → cut_items edits starts ≡ items → 0 < length items → ((last : List Edit) (others : List (List Edit)) → items ≡ last ∷ others → n ≡ length last)
    → n ≢ 0 → BeginsBefore (length edits) starts
begins edits [] items n is some len there = let none = ap length is in absurd (omega arith)
begins edits (start ∷ starts) items n is some len there =
    let l = len (drop start edits) (cut_items (take start edits) starts) (sym is) in
    let d = length-drop start edits in
    elim (cases_lt start (length edits)) [ inl below ↦ below | inr above ↦ absurd (there (omega arith)) ]

begun_starts : (n m : ℕ) (starts : List ℕ) → n ≡ m + 1 → BeginsBefore n starts → AreStarts n starts → AreStarts m starts
begun_starts n m [] is begun at = absurd begun
begun_starts n m (start ∷ starts) is begun at = (omega arith, at.1)

begun_item : (edits new : List Edit) (e : Edit) (starts : List ℕ) → edits ≡ new ++ e ∷ [] → BeginsBefore (length edits) starts
    → (last : List Edit) × (others : List (List Edit)) × (cut_items edits starts ≡ (last ++ e ∷ []) ∷ others) × (cut_items new starts ≡ last ∷ others)
begun_item edits new e [] is begun = absurd begun
begun_item edits new e (start ∷ starts) is begun =
    let l : length edits ≡ length new + 1 = ap length is ∙ length-append new (e ∷ []) in
    (drop start new, cut_items (take start new) starts, ap (λ (x : List Edit). cut_items x (start ∷ starts)) is ∙ pushed_item new e start starts (omega arith), refl)

module _ {w : ℕ} (edits new : List (PastOf w)) (starts : List ℕ) (items : List (List Edit)) (n : ℕ) (o : Option (PastOf w)) (view : cut_items (map as_edit edits) (reverse starts) ≡ items) (some : 0 < length items)
    (len : (last : List Edit) (others : List (List Edit)) → items ≡ last ∷ others → n ≡ length last) (there : n ≢ 0) where
  pub there_edits : 0 < length edits
  there_edits = by (reverse starts) (begins (map as_edit edits) (reverse starts) items n view some len there) where
    by : (ss : List ℕ) → BeginsBefore (length (map as_edit edits)) ss → 0 < length edits
    by [] begun = absurd begun
    by (start ∷ ss) begun = let e = length-map edits as_edit in omega arith

  pub popped_starts : AreStarts (length edits) (reverse starts) → length new + 1 ≡ length edits → AreStarts (length new) (reverse starts)
  popped_starts at less =
      begun_starts (length edits) (length new) (reverse starts) (sym less) (subst (λ m. BeginsBefore m (reverse starts)) (length-map edits as_edit) (begins (map as_edit edits) (reverse starts) items n view some len there)) at

  pub popped : edits ≡ new ++ option_to_list o → IfSome o (λ past. (last : List Edit) × (others : List (List Edit)) × (items ≡ (last ++ as_edit past ∷ []) ∷ others) × (cut_items (map as_edit new) (reverse starts) ≡ last ∷ others))
  popped is = by o is where
    by : (o : Option (PastOf w)) → edits ≡ new ++ option_to_list o → IfSome o (λ past. (last : List Edit) × (others : List (List Edit)) × (items ≡ (last ++ as_edit past ∷ []) ∷ others) × (cut_items (map as_edit new) (reverse starts) ≡ last ∷ others))
    by None is = tt
    by (Some past) is =
        let found = begun_item (map as_edit edits) (map as_edit new) (as_edit past) (reverse starts) (seen_push new edits past is) (begins (map as_edit edits) (reverse starts) items n view some len there) in
        (found.0, found.1, sym view ∙ found.2, found.3)

pub one_less : {X : Type 0} (old new : List X) (n : ℕ) → new ≡ take (n - 1) old → n ≡ length old → 0 < length old → length new + 1 ≡ length old
one_less old new n is len some =
    let l : length new ≡ n - 1 = ap length is ∙ length-take-le (n - 1) old (omega arith) in
    omega arith

pub not_none : {X : Type 0} (o : Option X) (P : Type 0) → IsSome o → IfNone o P
not_none None P is = absurd (cc)
not_none (Some x) P is = tt

-- ---- one item less

dropped_by : (edits : List Edit) (start : ℕ) (starts : List ℕ) (others : List (List Edit)) → start ≤ length edits → cut_items edits (start ∷ starts) ≡ [] ∷ others → (length edits ≡ start) × (cut_items edits starts ≡ others)
dropped_by edits start starts others le is =
    let none : drop start edits ≡ [] = cc in
    let rest : cut_items (take start edits) starts ≡ others = cc in
    let d : length edits - start ≡ 0 = sym (length-drop start edits) ∙ ap length none in
    let same : take start edits ≡ edits = take_all start edits (omega arith) in
    (omega arith, ap (λ (l : List Edit). cut_items l starts) (sym same) ∙ rest)

some_starts : (edits : List Edit) (starts : List ℕ) (others : List (List Edit)) → cut_items edits (reverse starts) ≡ [] ∷ others → 0 < length starts
some_starts edits starts others is =
    let a : length (reverse starts) ≡ length starts = length-reverse starts in
    let b = items_length edits (reverse starts) in
    let c = ap length is in
    omega arith

module _ {w : ℕ} (kept : List (PastOf w)) (starts new : List ℕ) (others : List (List Edit)) (at : AreStarts (length kept) (reverse starts)) (less : new ≡ take (length starts - 1) starts)
    (is : cut_items (map as_edit kept) (reverse starts) ≡ [] ∷ others) where
  both : AreStarts (length (map as_edit kept)) (reverse new) × (cut_items (map as_edit kept) (reverse new) ≡ others)
  both =
      let edits = map as_edit kept in
      let apart = last_place starts (some_starts edits starts others is) in
      let ends : reverse starts ≡ get_or starts (length starts - 1) 0 ∷ reverse new = apart ∙ ap (λ l. get_or starts (length starts - 1) 0 ∷ reverse l) (sym less) in
      let all : AreStarts (length edits) (get_or starts (length starts - 1) 0 ∷ reverse new) = subst (AreStarts (length edits)) ends (seen_starts kept starts at) in
      let told = dropped_by edits (get_or starts (length starts - 1) 0) (reverse new) others all.0 (ap (cut_items edits) (sym ends) ∙ is) in
      (subst (λ m. AreStarts m (reverse new)) (sym told.0) all.1, told.1)

  pub dropped_starts : AreStarts (length kept) (reverse new)
  dropped_starts = subst (λ m. AreStarts m (reverse new)) (length-map kept as_edit) both.0

  pub dropped : cut_items (map as_edit kept) (reverse new) ≡ others
  dropped = both.1
