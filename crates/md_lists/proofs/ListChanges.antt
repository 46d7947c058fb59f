-- One list of children changes: its items, and the spans then.
use Rattle.std.proofs.Common.{◌≡◌, ◌≢◌, ℕ, ◌<◌, List, [], ◌∷◌, length, get_or, set, Some, None, refl, sym, ◌∙◌, ap, subst, inl, inr, arith}
use Rattle.std.proofs.lemmas.Bool.{cases_eq, eq-eqb, ne_eqb}
use Rattle.md_lists.specs.declared.span.Span.{Span}
use Rattle.md_lists.specs.Words.{last_or}
use Rattle.md_graph.specs.Linked.{first_or, times}
use Rattle.md_lists.specs.Spans.{span_of}
use Rattle.md_lists.specs.Links.{Links, children_at}
use Rattle.md_lists.proofs.ListLaws.{first_in, last_in}
use Rattle.md_lists.proofs.LinkLaws.{get_or-set}

pub alone : (x c : ℕ) → 0 < times x (c ∷ []) → x ≡ c
alone x c some = elim (cases_eq c x) [ inl same ↦ sym same | inr other ↦ absurd (let none : times x (c ∷ []) ≡ 0 = rw (ne_eqb c x other) refl in omega arith) ]

pub not_alone : (x c : ℕ) → times x (c ∷ []) ≡ 0 → x ≢ c
not_alone x c none same = let one : times x (c ∷ []) ≡ 1 = rw (eq-eqb c x (sym same)) refl in omega arith

-- an item of a list isn't one that stands in none of its places
pub not_last : (xs : List ℕ) (x z : ℕ) → times x xs ≡ 0 → last_or xs None ≡ Some z → z ≢ x
not_last xs x z none is same = let some : 0 < times x xs = subst (λ w. 0 < times w xs) same (last_in xs z is) in omega arith

pub not_first : (xs : List ℕ) (x z : ℕ) → times x xs ≡ 0 → first_or xs None ≡ Some z → z ≢ x
not_first xs x z none is same = let some : 0 < times x xs = subst (λ w. 0 < times w xs) same (first_in xs z is) in omega arith

-- the spans after one of them changes
pub spans_shown : (spans : List Span) (l m : Links) (q : ℕ) (r : Span) → q < length spans → ((p : ℕ) → get_or spans p (span_of []) ≡ span_of (children_at l p)) → ((p : ℕ) → p ≢ q → children_at m p ≡ children_at l p) → r ≡ span_of (children_at m q) → (p : ℕ) → get_or (set spans q r) p (span_of []) ≡ span_of (children_at m p)
spans_shown spans l m q r within old others new p =
    elim (cases_eq p q) [
      | inl here ↦ get_or-set spans q p r (span_of []) within ∙ rw (eq-eqb p q here) (new ∙ ap (λ z. span_of (children_at m z)) (sym here))
      | inr there ↦ get_or-set spans q p r (span_of []) within ∙ rw (ne_eqb p q there) (old p ∙ ap span_of (sym (others p there)))
    ]
