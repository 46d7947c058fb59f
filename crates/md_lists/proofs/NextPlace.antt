-- A place that is made where no place is left among the free ones that were made before.
use Rattle.std.proofs.Common.{vec_len, vec_capacity, ◌≡◌, ℕ, ◌+◌, ◌<◌, List, [], ◌∷◌, ◌++◌, Option, Some, None, IsSome, is_some, sym, ◌∙◌, ap, subst, inl, inr, arith, append-nil}
use Rattle.std.specs.Option.{option_to_list}
use Rattle.std.proofs.lemmas.Bool.{cases_lt, false≢true}
use Rattle.md_lists.specs.declared.kinds.PlaceKind.{PlaceKind}
use Rattle.md_lists.specs.declared.span.Span.{Span}
use Rattle.md_lists.specs.declared.TheConstants.{PLACES}
use Rattle.md_lists.specs.declared.lists.Lists.TheInside.{Inside}
use Rattle.md_lists.specs.Spans.{span_of}
use Rattle.md_lists.specs.Links.{Links, kind_at, spare_count, with_kind}
use Rattle.md_lists.specs.Store.{Store, Shows}
use Rattle.md_lists.specs.Kept.{store_of, links_kept, IsKept}
use Rattle.md_lists.proofs.KindChanges.{next_free, comes}
use Rattle.md_lists.proofs.Showing.{opened, sizes}

-- one item more fits in each field
pub record FitsOneMore (a : Inside) : Type 0 where
  pub in_kinds : vec_len a.kinds < vec_capacity a.kinds
  pub in_parents : vec_len a.parents < vec_capacity a.parents
  pub in_spans : vec_len a.spans < vec_capacity a.spans
  pub in_nexts : vec_len a.nexts < vec_capacity a.nexts
  pub in_previous : vec_len a.previous < vec_capacity a.previous
  pub in_tallies : vec_len a.tallies < vec_capacity a.tallies
  pub in_notes : vec_len a.notes < vec_capacity a.notes
  pub in_mark_nexts : vec_len a.mark_nexts < vec_capacity a.mark_nexts

none_left : (xs ys : List ℕ) (o : Option ℕ) → xs ≡ ys ++ option_to_list o → o ≡ None → ys ≡ xs
none_left xs ys o popped none = sym (popped ∙ ap (λ z. ys ++ option_to_list z) none ∙ append-nil ys)

module _ (a : Inside) (l : Links) (kept : IsKept a) (kept_is : links_kept a ≡ l) (o : Option ℕ) (none : o ≡ None) (tells : 0 < vec_len a.free → IsSome o) (some : 0 < spare_count l) where
  abbrev s : Shows (store_of a) l
  s = opened a l kept kept_is

  pub made_below : vec_len a.kinds < PLACES
  made_below =
      elim (cases_lt 0 (vec_len a.free)) [
        | inl left ↦ absurd (false≢true (sym (ap is_some none) ∙ tells left))
        | inr used ↦ let long = a.free.ok.0 in let count = s.free_count in omega arith
      ]

  pub fits_one_more : FitsOneMore a
  fits_one_more =
      let few = made_below in
      let z = sizes a l s in
      let room = kept.0 in
      record {
        in_kinds = let r = room.0 in omega arith;
        in_parents = let r = room.1 in let e = z.parents_size in omega arith;
        in_spans = let r = room.2 in let e = z.spans_size in omega arith;
        in_nexts = let r = room.3 in let e = z.nexts_size in omega arith;
        in_previous = let r = room.4 in let e = z.previous_size in omega arith;
        in_tallies = let r = room.5 in let e = z.tallies_size in omega arith;
        in_notes = let r = room.6 in let e = z.notes_size in omega arith;
        in_mark_nexts = let r = room.7 in let e = z.mark_nexts_size in omega arith;
      }

  module _ (p : ℕ) (p_is : p ≡ vec_len a.kinds) (k : PlaceKind) where
    pub next_is_free : kind_at l p ≡ None
    next_is_free = ap (λ z. kind_at l z) p_is ∙ next_free (store_of a) l s k made_below

    pub comes_next : (g : Store) → g.made ≡ vec_len a.kinds + 1 → g.kinds ≡ a.kinds.items ++ Some k ∷ [] → g.parents ≡ a.parents.items ++ None ∷ [] → (r : Span) → r ≡ span_of [] → g.spans ≡ a.spans.items ++ r ∷ [] → g.nexts ≡ a.nexts.items ++ None ∷ [] → g.previous ≡ a.previous.items ++ None ∷ [] → g.tallies ≡ a.tallies.items ++ 0 ∷ [] → g.notes ≡ a.notes.items ++ 0 ∷ [] → g.marks ≡ a.marks → g.mark_nexts ≡ a.mark_nexts.items ++ None ∷ [] → a.free.items ≡ g.free ++ option_to_list o → Shows g (with_kind l p (Some k))
    comes_next g made kinds parents r r_is spans nexts previous tallies notes marks mark_nexts popped =
        subst (λ z. Shows g (with_kind l z (Some k))) (sym p_is)
        (comes (store_of a) l s k made_below g made kinds parents (spans ∙ ap (λ z. a.spans.items ++ z ∷ []) r_is) nexts previous tallies notes marks mark_nexts (none_left a.free.items g.free o popped none))
