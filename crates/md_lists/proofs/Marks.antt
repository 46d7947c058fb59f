-- The list of marked places: its first, and what is left without it.
use Rattle.std.proofs.Common.{vec_len, ◌≡◌, ◌≢◌, ℕ, cond, ◌==◌, ◌+◌, ◌<◌, ◌≤◌, List, [], ◌∷◌, ◌++◌, get_or, set, Option, Some, None, IfSome, refl, sym, ◌∙◌, ap, subst, arith}
use Rattle.std.proofs.lemmas.Option.{none-some, same_Some}
use Rattle.std.proofs.lemmas.List.{get_or_read}
use Rattle.md_lists.specs.declared.span.Span.{Span}
use Rattle.md_lists.specs.declared.TheConstants.{PLACES}
use Rattle.md_lists.specs.declared.lists.Lists.TheInside.{Inside}
use Rattle.md_lists.specs.Words.{last_or}
use Rattle.md_graph.specs.Linked.{first_or, Follow}
use Rattle.md_lists.specs.Spans.{span_of, linked}
use Rattle.md_lists.specs.Links.{Links, tally_at, note_at, IsLive, raised, noted, unmarked_first, unmarked}
use Rattle.md_lists.specs.Store.{Shows}
use Rattle.md_lists.specs.Kept.{store_of, links_kept, IsKept}
use Rattle.md_lists.proofs.ListLaws.{first_in, last_low}
use Rattle.md_lists.proofs.LinkLaws.{few_marked}
use Rattle.md_lists.proofs.MadePlaces.{mark_made}
use Rattle.md_lists.proofs.Showing.{HasItems, opened, place_items, tally_read, note_read}
use Rattle.md_lists.proofs.MarkChanges.{unmarks, raises, writes_note}

-- a list with a first item
starts_with : (xs : List ℕ) (p : ℕ) → first_or xs None ≡ Some p → (rest : List ℕ) × (xs ≡ p ∷ rest)
starts_with [] p is = absurd (none-some p is)
starts_with (x ∷ xs) p is = (xs, ap (λ z. z ∷ xs) (same_Some x p is))

no_first : (xs : List ℕ) → first_or xs None ≡ None → xs ≡ []
no_first [] is = refl
no_first (x ∷ xs) is = absurd (none-some x (sym is))

module _ (a : Inside) (l : Links) (kept : IsKept a) (kept_is : links_kept a ≡ l) where
  abbrev s : Shows (store_of a) l
  s = opened a l kept kept_is

  pub marks_first : a.marks.first ≡ first_or l.marked None
  marks_first = ap (λ (r : Span). r.first) s.marks

  pub marks_none : a.marks.first ≡ None → l.marked ≡ []
  marks_none none = no_first l.marked (sym marks_first ∙ none)

  -- the last of them has a link, and one more can be counted
  pub marks_last : IfSome a.marks.last (λ p. p < vec_len a.mark_nexts)
  marks_last = last_low a.marks.last l.marked (vec_len a.mark_nexts) (ap (λ (r : Span). r.last) s.marks) (λ x some. (place_items a l s x (mark_made (store_of a) l s x some)).in_mark_nexts)

  pub marks_count : a.marks.count ≤ PLACES
  marks_count = let e = ap (λ (r : Span). r.count) s.marks in let few = few_marked l s.links in omega arith

  module _ (p : ℕ) (is : a.marks.first ≡ Some p) where
    first_made : p < vec_len a.kinds
    first_made = mark_made (store_of a) l s p (first_in l.marked p (sym marks_first ∙ is))

    pub first_items : HasItems a p
    first_items = place_items a l s p first_made

    pub left_marked : (rest : List ℕ) × (l.marked ≡ p ∷ rest)
    left_marked = starts_with l.marked p (sym marks_first ∙ is)

    pub unmarks_first : (o : Option ℕ) (r : Span) → o ≡ get_or a.mark_nexts.items p o → ((xs ys : List ℕ) (x : ℕ) → a.marks ≡ span_of (xs ++ x ∷ ys) → None ≡ last_or xs None → o ≡ first_or ys None → r ≡ span_of (xs ++ ys)) → Shows (record (store_of a) { tallies = set a.tallies.items p 0; notes = set a.notes.items p 0; marks = r }) (unmarked l)
    unmarks_first o r read made =
        let rest = left_marked.0 in
        let whole = left_marked.1 in
        let next = get_or_read a.mark_nexts.items p o (let w = first_made in let e = s.mark_nexts_len in omega arith) read None in
        let follows = subst (λ z. Follow a.mark_nexts.items z None) whole s.mark_forward in
        subst (Shows (record (store_of a) { tallies = set a.tallies.items p 0; notes = set a.notes.items p 0; marks = r })) (ap (unmarked_first l) (sym whole))
        (unmarks (store_of a) l s p rest r whole (made [] rest p (s.marks ∙ ap span_of whole) refl (next ∙ follows.0)))

  module _ (p : ℕ) (live : IsLive l p) (t n : ℕ) (t_read : t ≡ get_or a.tallies.items p t) (n_read : n ≡ get_or a.notes.items p n) (r : Span) (ms : List (Option ℕ)) (span : (xs : List ℕ) → a.marks ≡ span_of xs → r ≡ span_of (cond (t + n == 0) (xs ++ p ∷ []) xs)) (nexts : ms ≡ cond (t + n == 0) (set (linked a.mark_nexts.items a.marks.last (Some p)) p None) a.mark_nexts.items) where
    t_is : t ≡ tally_at l p
    t_is = tally_read a l kept kept_is p live t t_read

    n_is : n ≡ note_at l p
    n_is = note_read a l kept kept_is p live n n_read

    span_is : r ≡ span_of (cond (tally_at l p + note_at l p == 0) (l.marked ++ p ∷ []) l.marked)
    span_is = span l.marked s.marks ∙ (λ i. span_of (cond (t_is i + n_is i == 0) (l.marked ++ p ∷ []) l.marked))

    nexts_are : ms ≡ cond (tally_at l p + note_at l p == 0) (set (linked a.mark_nexts.items a.marks.last (Some p)) p None) a.mark_nexts.items
    nexts_are = nexts ∙ (λ i. cond (t_is i + n_is i == 0) (set (linked a.mark_nexts.items a.marks.last (Some p)) p None) a.mark_nexts.items)

    pub raises_mark : Shows (record (store_of a) { tallies = set a.tallies.items p (t + 1); marks = r; mark_nexts = ms }) (raised l p)
    raises_mark = raises (store_of a) l s p live r ms span_is nexts_are t t_is

    pub notes_mark : (note : ℕ) → note ≢ 0 → Shows (record (store_of a) { notes = set a.notes.items p note; marks = r; mark_nexts = ms }) (noted l p note)
    notes_mark note some = writes_note (store_of a) l s p live r ms span_is nexts_are note some
