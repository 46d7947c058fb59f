-- A child, and what its links are; the fields after a child comes, leaves, or has another in its place.
use Rattle.std.proofs.Common.{vec_len, ◌≡◌, ℕ, ◌<◌, ◌≤◌, List, [], ◌∷◌, ◌++◌, get_or, set, is_some, Option, Some, None, IsSome, IfSome, sym, ◌∙◌, ap, arith}
use Rattle.std.proofs.lemmas.Bool.{false≢true}
use Rattle.std.proofs.lemmas.Option.{same_Some}
use Rattle.std.proofs.lemmas.List.{get_or_read}
use Rattle.md_lists.specs.declared.span.Span.{Span}
use Rattle.md_lists.specs.declared.TheConstants.{PLACES}
use Rattle.md_lists.specs.declared.lists.Lists.TheInside.{Inside}
use Rattle.md_lists.specs.Words.{last_or}
use Rattle.md_graph.specs.Linked.{first_or}
use Rattle.md_lists.specs.Spans.{span_of, linked}
use Rattle.md_lists.specs.Links.{Links, parent_at, children_at, IsLive, attached, detached, replaced}
use Rattle.md_lists.specs.Store.{Shows}
use Rattle.md_lists.specs.Kept.{store_of, links_kept, IsKept}
use Rattle.md_lists.proofs.ListLaws.{some_items, last_low}
use Rattle.md_lists.proofs.LinkLaws.{parent_child, few_children}
use Rattle.md_lists.proofs.FilledUp.{filled_read}
use Rattle.md_lists.proofs.MadePlaces.{parent_made, child_made, owner_made}
use Rattle.md_lists.proofs.Showing.{HasItems, opened, sizes, place_items, span_read}
use Rattle.md_lists.proofs.ChildDetached.{before_low, after_low, detaches, replaces}
use Rattle.md_lists.proofs.ChildAttached.{attaches}

module _ (a : Inside) (l : Links) (kept : IsKept a) (kept_is : links_kept a ≡ l) (c : ℕ) (some : IsSome (parent_at l c)) where
  abbrev s : Shows (store_of a) l
  s = opened a l kept kept_is

  c_made : c < vec_len a.kinds
  c_made = parent_made (store_of a) l s c some

  pub child_items : HasItems a c
  child_items = place_items a l s c c_made

  previous_is : (o : Option ℕ) → o ≡ get_or a.previous.items c o → o ≡ get_or a.previous.items c None
  previous_is o read = get_or_read a.previous.items c o (let w = c_made in let e = s.previous_len in omega arith) read None

  next_is : (o : Option ℕ) → o ≡ get_or a.nexts.items c o → o ≡ get_or a.nexts.items c None
  next_is o read = get_or_read a.nexts.items c o (let w = c_made in let e = s.nexts_len in omega arith) read None

  parent_is : (o : Option ℕ) → o ≡ get_or a.parents.items c o → o ≡ parent_at l c
  parent_is o read = filled_read a.parents.items l.parents None PLACES c o s.parents (let w = c_made in let e = s.parents_len in omega arith) read

  -- a child has a parent
  pub not_none : (o : Option ℕ) → o ≡ get_or a.parents.items c o → o ≡ None → ⊥
  not_none o read none = let e = parent_is o read in false≢true (sym (ap is_some (sym e ∙ none)) ∙ some)

  module _ (o : Option ℕ) (q : ℕ) (read : o ≡ get_or a.parents.items c o) (found : o ≡ Some q) where
    owner_is : parent_at l c ≡ Some q
    owner_is = sym (parent_is o read) ∙ found

    pub owner_only : (p : ℕ) → parent_at l c ≡ Some p → q ≡ p
    owner_only p is = same_Some q p (sym owner_is ∙ is)

    q_made : q < vec_len a.kinds
    q_made = owner_made (store_of a) l s q c owner_is

    pub owner_items : HasItems a q
    owner_items = place_items a l s q q_made

    pub low_before : (b : Option ℕ) → b ≡ get_or a.previous.items c b → IfSome b (λ p. p < vec_len a.nexts)
    low_before b at = before_low (store_of a) l s q c owner_is b (vec_len a.nexts) (previous_is b at) (let e = (sizes a l s).nexts_size in omega arith)

    pub low_after : (b : Option ℕ) → b ≡ get_or a.nexts.items c b → IfSome b (λ p. p < vec_len a.previous)
    low_after b at = after_low (store_of a) l s q c owner_is b (vec_len a.previous) (next_is b at) (let e = (sizes a l s).previous_size in omega arith)

    span_is : (r : Span) → r ≡ get_or a.spans.items q r → r ≡ span_of (children_at l q)
    span_is r at = get_or_read a.spans.items q r (let w = q_made in let e = s.spans_len in omega arith) at (span_of []) ∙ s.spans q

    pub some_children : (r : Span) → r ≡ get_or a.spans.items q r → 0 < r.count
    some_children r at =
        let e = ap (λ (w : Span). w.count) (span_is r at) in
        let long = some_items c (children_at l q) (let one = parent_child l s.links q c owner_is in omega arith) in
        omega arith

    -- the fields after the child leaves
    pub detaches_child : (before after : Option ℕ) (r0 r : Span) (ns ps : List (Option ℕ)) → before ≡ get_or a.previous.items c before → after ≡ get_or a.nexts.items c after → r0 ≡ get_or a.spans.items q r0 → ((us vs : List ℕ) (x : ℕ) → r0 ≡ span_of (us ++ x ∷ vs) → before ≡ last_or us None → after ≡ first_or vs None → r ≡ span_of (us ++ vs)) → ns ≡ set (linked a.nexts.items before after) c None → ps ≡ linked a.previous.items after before → Shows (record (store_of a) { parents = set a.parents.items c None; spans = set a.spans.items q r; nexts = ns; previous = ps }) (detached l q c)
    detaches_child before after r0 r ns ps prev next span made nexts prevs =
        detaches (store_of a) l s q c owner_is before after r0 r ns ps (previous_is before prev) (next_is after next) (span_is r0 span) made nexts prevs

    -- the fields after another place stands where the child stood
    pub replaces_child : (n : ℕ) → IsLive l n → parent_at l n ≡ None → (before after : Option ℕ) (r0 r : Span) (parents ns ps : List (Option ℕ)) → parents ≡ set (set a.parents.items c None) n (Some q) → before ≡ get_or a.previous.items c before → after ≡ get_or a.nexts.items c after → r0 ≡ get_or a.spans.items q r0 → ((us vs : List ℕ) (x : ℕ) → r0 ≡ span_of (us ++ x ∷ vs) → before ≡ last_or us None → after ≡ first_or vs None → r ≡ span_of (us ++ n ∷ vs)) → ns ≡ set (set (linked a.nexts.items before (Some n)) n after) c None → ps ≡ set (linked a.previous.items after (Some n)) n before → Shows (record (store_of a) { parents = parents; spans = set a.spans.items q r; nexts = ns; previous = ps }) (replaced l q c n)
    replaces_child n live loose before after r0 r parents ns ps parents_are prev next span made nexts prevs =
        replaces (store_of a) l s q c owner_is n live loose before after r0 r parents ns ps parents_are (previous_is before prev) (next_is after next) (span_is r0 span) made nexts prevs

-- ---- a place that becomes the last child of another

module _ (a : Inside) (l : Links) (kept : IsKept a) (kept_is : links_kept a ≡ l) (q : ℕ) (parent : IsLive l q) (r0 : Span) (read : r0 ≡ get_or a.spans.items q r0) where
  abbrev t : Shows (store_of a) l
  t = opened a l kept kept_is

  is : r0 ≡ span_of (children_at l q)
  is = span_read a l kept kept_is q parent r0 read

  pub low_last : IfSome r0.last (λ p. p < vec_len a.nexts)
  low_last =
      last_low r0.last (children_at l q) (vec_len a.nexts) (ap (λ (r : Span). r.last) is)
      (λ x some. (place_items a l t x (child_made (store_of a) l t q x some)).in_nexts)

  pub few_before : r0.count ≤ PLACES
  few_before = let e = ap (λ (r : Span). r.count) is in let few = few_children l t.links q in omega arith

  pub attaches_child : (c : ℕ) → IsLive l c → parent_at l c ≡ None → (r : Span) (ns ps : List (Option ℕ)) → ((xs : List ℕ) → r0 ≡ span_of xs → r ≡ span_of (xs ++ c ∷ [])) → ns ≡ linked a.nexts.items r0.last (Some c) → ps ≡ linked a.previous.items (Some c) r0.last → Shows (record (store_of a) { parents = set a.parents.items c (Some q); spans = set a.spans.items q r; nexts = ns; previous = ps }) (attached l q c)
  attaches_child c live loose r ns ps made nexts prevs = attaches (store_of a) l t q c parent live loose r0 r ns ps is (made (children_at l q) is) nexts prevs
