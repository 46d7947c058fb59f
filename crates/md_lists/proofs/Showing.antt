-- Store that keep links: what is read of them.
use Rattle.std.proofs.Common.{vec_len, ◌≡◌, ℕ, ◌<◌, ◌≤◌, [], map, get_or, Option, Some, None, refl, sym, ◌∙◌, ap, subst, arith}
use Rattle.std.proofs.Math.ListN.{get_or-map}
use Rattle.std.proofs.lemmas.List.{ext_get_or, length-map, get_or_read}
use Rattle.md_lists.specs.declared.kinds.PlaceKind.{PlaceKind}
use Rattle.md_lists.specs.declared.span.Span.{Span}
use Rattle.md_lists.specs.declared.TheConstants.{PLACES}
use Rattle.md_lists.specs.declared.lists.Lists.TheInside.{Inside}
use Rattle.md_lists.specs.Words.{behind}
use Rattle.md_lists.specs.Spans.{span_of, span_list}
use Rattle.md_lists.specs.Links.{Links, kind_at, parent_at, children_at, tally_at, note_at, siblings, IsLive, AreLinks}
use Rattle.md_lists.specs.Store.{Store, filled_up, links_of, Shows}
use Rattle.md_lists.specs.Kept.{store_of, links_kept, IsKept}
use Rattle.md_lists.proofs.Following.{follow_behind, span_list-is}
use Rattle.md_lists.proofs.LinkLaws.{parent_child}
use Rattle.md_lists.proofs.FilledUp.{length-filled_up, item-filled_up, filled_read}
use Rattle.md_lists.proofs.MadePlaces.{live_made}

-- fields show one value
pub shown : (f : Store) (l : Links) → Shows f l → links_of f ≡ l
unfolding links_of
shown f l s = λ i. record {
  kinds = s.kinds i;
  parents = s.parents i;
  children = children i;
  tallies = s.tallies i;
  notes = s.notes i;
  marked = span_list-is f.mark_nexts f.marks l.marked s.marks s.mark_forward i;
}
  where
    children : filled_up (map (span_list f.nexts) f.spans) [] PLACES ≡ l.children
    children =
        ext_get_or [] (filled_up (map (span_list f.nexts) f.spans) [] PLACES) l.children
        (length-filled_up (map (span_list f.nexts) f.spans) [] PLACES (let e = length-map f.spans (span_list f.nexts) in let k = s.spans_len in let few = s.made_few in omega arith) ∙ sym s.links.children_len)
        (λ p within.
        item-filled_up (map (span_list f.nexts) f.spans) [] PLACES p
        ∙ ap (get_or (map (span_list f.nexts) f.spans) p) (sym (span_list-is f.nexts (span_of []) [] refl tt))
        ∙ get_or-map (span_list f.nexts) f.spans p (span_of [])
        ∙ span_list-is f.nexts (get_or f.spans p (span_of [])) (children_at l p) (s.spans p) (s.forward p))

pub links_shown : (f : Store) (l : Links) → Shows f l → AreLinks (links_of f)
links_shown f l s = subst AreLinks (sym (shown f l s)) s.links

-- what kept fields show
pub opened : (a : Inside) (l : Links) → IsKept a → links_kept a ≡ l → Shows (store_of a) l
opened a l kept is = let was = kept.1 in subst (Shows (store_of a)) (sym (shown (store_of a) was.0 was.1) ∙ is) was.1

-- each field has an item for each place that was made
pub record Sizes (a : Inside) : Type 0 where
  pub parents_size : vec_len a.parents ≡ vec_len a.kinds
  pub spans_size : vec_len a.spans ≡ vec_len a.kinds
  pub nexts_size : vec_len a.nexts ≡ vec_len a.kinds
  pub previous_size : vec_len a.previous ≡ vec_len a.kinds
  pub tallies_size : vec_len a.tallies ≡ vec_len a.kinds
  pub notes_size : vec_len a.notes ≡ vec_len a.kinds
  pub mark_nexts_size : vec_len a.mark_nexts ≡ vec_len a.kinds

pub sizes : (a : Inside) (l : Links) → Shows (store_of a) l → Sizes a
sizes a l s = record {
  parents_size = a.parents.ok.0 ∙ s.parents_len;
  spans_size = a.spans.ok.0 ∙ s.spans_len;
  nexts_size = a.nexts.ok.0 ∙ s.nexts_len;
  previous_size = a.previous.ok.0 ∙ s.previous_len;
  tallies_size = a.tallies.ok.0 ∙ s.tallies_len;
  notes_size = a.notes.ok.0 ∙ s.notes_len;
  mark_nexts_size = a.mark_nexts.ok.0 ∙ s.mark_nexts_len;
}

-- a place has an item in each field
pub record HasItems (a : Inside) (p : ℕ) : Type 0 where
  pub in_kinds : p < vec_len a.kinds
  pub in_parents : p < vec_len a.parents
  pub in_spans : p < vec_len a.spans
  pub in_nexts : p < vec_len a.nexts
  pub in_previous : p < vec_len a.previous
  pub in_tallies : p < vec_len a.tallies
  pub in_notes : p < vec_len a.notes
  pub in_mark_nexts : p < vec_len a.mark_nexts

pub place_items : (a : Inside) (l : Links) → Shows (store_of a) l → (p : ℕ) → p < vec_len a.kinds → HasItems a p
place_items a l s p within =
    let z = sizes a l s in
    let w = within in
    record {
      in_kinds = w;
      in_parents = let e = z.parents_size in omega arith;
      in_spans = let e = z.spans_size in omega arith;
      in_nexts = let e = z.nexts_size in omega arith;
      in_previous = let e = z.previous_size in omega arith;
      in_tallies = let e = z.tallies_size in omega arith;
      in_notes = let e = z.notes_size in omega arith;
      in_mark_nexts = let e = z.mark_nexts_size in omega arith;
    }

-- there is room where there was
pub same_room : (m n : ℕ) → PLACES ≤ m → n ≡ m → PLACES ≤ n
same_room m n room same = omega arith

-- what is read of a live place
module _ (a : Inside) (l : Links) (kept : IsKept a) (is : links_kept a ≡ l) (p : ℕ) (live : IsLive l p) where
  abbrev s : Shows (store_of a) l
  s = opened a l kept is

  within : p < vec_len a.kinds
  within = live_made (store_of a) l s p live

  pub live_items : HasItems a p
  live_items = place_items a l s p within

  pub kind_read : (o : Option PlaceKind) → o ≡ get_or a.kinds.items p o → o ≡ kind_at l p
  kind_read o read = filled_read a.kinds.items l.kinds None PLACES p o s.kinds (let w = within in let e = s.kinds_len in omega arith) read

  pub parent_read : (o : Option ℕ) → o ≡ get_or a.parents.items p o → o ≡ parent_at l p
  parent_read o read = filled_read a.parents.items l.parents None PLACES p o s.parents (let w = within in let e = s.parents_len in omega arith) read

  pub tally_read : (t : ℕ) → t ≡ get_or a.tallies.items p t → t ≡ tally_at l p
  tally_read t read = filled_read a.tallies.items l.tallies 0 PLACES p t s.tallies (let w = within in let e = s.tallies_len in omega arith) read

  pub note_read : (n : ℕ) → n ≡ get_or a.notes.items p n → n ≡ note_at l p
  note_read n read = filled_read a.notes.items l.notes 0 PLACES p n s.notes (let w = within in let e = s.notes_len in omega arith) read

  pub span_read : (r : Span) → r ≡ get_or a.spans.items p r → r ≡ span_of (children_at l p)
  span_read r read = let w = within in let e = s.spans_len in get_or_read a.spans.items p r (omega arith) read (span_of []) ∙ s.spans p

  pub next_read : (o : Option ℕ) → o ≡ get_or a.nexts.items p o → o ≡ behind p (siblings l (parent_at l p))
  next_read o read =
      let w = within in
      let e = s.nexts_len in
      get_or_read a.nexts.items p o (omega arith) read None ∙ go (parent_at l p) refl
    where
      go : (q : Option ℕ) → parent_at l p ≡ q → get_or a.nexts.items p None ≡ behind p (siblings l q)
      go None none = s.loose p none
      go (Some q) some = follow_behind a.nexts.items (children_at l q) p (s.forward q) (let one = parent_child l s.links q p some in omega arith)
