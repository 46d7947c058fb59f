-- Links along a list: where they stay, where a list is put together or taken apart, and what is found by them.
use Rattle.std.proofs.Common.{◌≡◌, ◌≢◌, ℕ, ◌<◌, ◌≤◌, List, [], ◌∷◌, ◌++◌, length, get_or, set, Option, Some, None, refl, sym, ◌∙◌, ap, subst, inl, inr, arith}
use Rattle.std.proofs.lemmas.Bool.{cases_eq, eq-eqb, ne_eqb}
use Rattle.std.proofs.lemmas.List.{get_or-set_same, get_or-set_other, length-set}
use Rattle.md_lists.specs.declared.span.Span.{Span}
use Rattle.md_lists.specs.Words.{last_or, behind}
use Rattle.md_graph.specs.Linked.{first_or, Follow, times}
use Rattle.md_graph.proofs.LinkedLists.{walk-follow}
use Rattle.md_lists.specs.Spans.{span_of, Precede, linked, span_list}
use Rattle.md_lists.proofs.ListLaws.{times-first, times-other, first_or-append, last_in}

-- ---- one link

pub linked-other : (links : List (Option ℕ)) (place to : Option ℕ) (x : ℕ) → ((z : ℕ) → place ≡ Some z → z ≢ x) → get_or (linked links place to) x None ≡ get_or links x None
linked-other links None to x apart = refl
linked-other links (Some p) to x apart = get_or-set_other links p x to None (λ e. apart p refl (sym e))

pub length-linked : (links : List (Option ℕ)) (place to : Option ℕ) → length (linked links place to) ≡ length links
length-linked links None to = refl
length-linked links (Some p) to = length-set links p to

here : (x : ℕ) (xs : List ℕ) → 0 < times x (x ∷ xs)
here x xs = let e = times-first x xs in omega arith

later : (x y : ℕ) (xs : List ℕ) → 0 < times x xs → 0 < times x (y ∷ xs)
later x y xs some = omega arith

-- ---- links that stay

pub follow_same : (ns ms : List (Option ℕ)) (xs : List ℕ) (after : Option ℕ) → ((x : ℕ) → 0 < times x xs → get_or ms x None ≡ get_or ns x None) → Follow ns xs after → Follow ms xs after
follow_same ns ms [] after same h = tt
follow_same ns ms (x ∷ xs) after same h =
    (same x (here x xs) ∙ h.0, follow_same ns ms xs after (λ z some. same z (later z x xs some)) h.1)

pub precede_same : (ns ms : List (Option ℕ)) (before : Option ℕ) (xs : List ℕ) → ((x : ℕ) → 0 < times x xs → get_or ms x None ≡ get_or ns x None) → Precede ns before xs → Precede ms before xs
precede_same ns ms before [] same h = tt
precede_same ns ms before (x ∷ xs) same h =
    (same x (here x xs) ∙ h.0, precede_same ns ms (Some x) xs (λ z some. same z (later z x xs some)) h.1)

-- ---- lists apart and together

pub follow_apart : (ns : List (Option ℕ)) (xs ys : List ℕ) (after : Option ℕ) → Follow ns (xs ++ ys) after → Follow ns xs (first_or ys after) × Follow ns ys after
follow_apart ns [] ys after h = (tt, h)
follow_apart ns (x ∷ xs) ys after h =
    let rest = follow_apart ns xs ys after h.1 in ((h.0 ∙ first_or-append xs ys after, rest.0), rest.1)

pub follow_together : (ns : List (Option ℕ)) (xs ys : List ℕ) (after : Option ℕ) → Follow ns xs (first_or ys after) → Follow ns ys after → Follow ns (xs ++ ys) after
follow_together ns [] ys after left right = right
follow_together ns (x ∷ xs) ys after left right =
    (left.0 ∙ sym (first_or-append xs ys after), follow_together ns xs ys after left.1 right)

pub precede_apart : (ps : List (Option ℕ)) (before : Option ℕ) (xs ys : List ℕ) → Precede ps before (xs ++ ys) → Precede ps before xs × Precede ps (last_or xs before) ys
precede_apart ps before [] ys h = (tt, h)
precede_apart ps before (x ∷ xs) ys h =
    let rest = precede_apart ps (Some x) xs ys h.1 in ((h.0, rest.0), rest.1)

pub precede_together : (ps : List (Option ℕ)) (before : Option ℕ) (xs ys : List ℕ) → Precede ps before xs → Precede ps (last_or xs before) ys → Precede ps before (xs ++ ys)
precede_together ps before [] ys left right = right
precede_together ps before (x ∷ xs) ys left right = (left.0, precede_together ps (Some x) xs ys left.1 right)

-- ---- another list behind

relinked_from : (x : ℕ) (xs : List ℕ) (ns : List (Option ℕ)) (after other : Option ℕ) → Follow ns (x ∷ xs) after → ((p : ℕ) → times p (x ∷ xs) ≤ 1) → ((p : ℕ) → 0 < times p (x ∷ xs) → p < length ns) → Follow (linked ns (last_or xs (Some x)) other) (x ∷ xs) other
relinked_from x [] ns after other h once within = (get_or-set_same ns x other None (within x (here x [])), tt)
relinked_from x (y ∷ xs) ns after other h once within = (
  linked-other ns (last_or xs (Some y)) other x (λ z is same.
      let some : 0 < times z (y ∷ xs) = last_in (y ∷ xs) z is in
      let one = once z in
      let e = times-first z (y ∷ xs) in
      let both : times z (z ∷ y ∷ xs) ≤ 1 = subst (λ w. times z (w ∷ y ∷ xs) ≤ 1) (sym same) one in
      absurd (omega arith))
      ∙ h.0,
  relinked_from y xs ns after other h.1 (λ p. let o = once p in omega arith) (λ p some. within p (later p x (y ∷ xs) some)),
)

-- the last item leads elsewhere
pub relinked : (ns : List (Option ℕ)) (xs : List ℕ) (after other : Option ℕ) → Follow ns xs after → ((p : ℕ) → times p xs ≤ 1) → ((p : ℕ) → 0 < times p xs → p < length ns) → Follow (linked ns (last_or xs None) other) xs other
relinked ns [] after other h once within = tt
relinked ns (x ∷ xs) after other h once within = relinked_from x xs ns after other h once within

-- another item before the first
pub repreceded : (ps : List (Option ℕ)) (xs : List ℕ) (before other : Option ℕ) → Precede ps before xs → ((p : ℕ) → times p xs ≤ 1) → ((p : ℕ) → 0 < times p xs → p < length ps) → Precede (linked ps (first_or xs None) other) other xs
repreceded ps [] before other h once within = tt
repreceded ps (x ∷ xs) before other h once within = (
  get_or-set_same ps x other None (within x (here x xs)),
  precede_same ps (set ps x other) (Some x) xs
      (λ z some. get_or-set_other ps x z other None (λ same.
      let one = once z in
      let e = times-first z xs in
      let both : times z (z ∷ xs) ≤ 1 = subst (λ w. times z (w ∷ xs) ≤ 1) (sym same) one in
      absurd (omega arith)))
      h.1,
)

-- ---- what is found by links

pub follow_behind : (ns : List (Option ℕ)) (xs : List ℕ) (p : ℕ) → Follow ns xs None → 0 < times p xs → get_or ns p None ≡ behind p xs
follow_behind ns [] p h some = absurd (omega arith)
follow_behind ns (x ∷ xs) p h some =
    elim (cases_eq x p) [
      | inl same ↦ rw (eq-eqb x p same) (ap (λ z. get_or ns z None) (sym same) ∙ h.0)
      | inr other ↦ rw (ne_eqb x p other) (follow_behind ns xs p h.1 (let e = times-other p x xs other in omega arith))
    ]

pub span_list-is : (ns : List (Option ℕ)) (r : Span) (xs : List ℕ) → r ≡ span_of xs → Follow ns xs None → span_list ns r ≡ xs
span_list-is ns r xs is h = ap (span_list ns) is ∙ walk-follow ns xs h
