-- A place that is live, has a parent or children, or is marked, is one of those that were made.
use Rattle.std.proofs.Common.{◌≡◌, ℕ, ◌<◌, [], get_or, Some, is_some, IsSome, sym, ◌∙◌, ap, inl, inr, arith}
use Rattle.std.proofs.lemmas.Bool.{cases_lt}
use Rattle.std.proofs.lemmas.List.{get_or_past}
use Rattle.md_lists.specs.declared.span.Span.{Span}
use Rattle.md_lists.specs.declared.TheConstants.{PLACES}
use Rattle.md_graph.specs.Linked.{times}
use Rattle.md_lists.specs.Spans.{span_of}
use Rattle.md_lists.specs.Links.{Links, parent_at, children_at, tally_at, note_at, IsLive}
use Rattle.md_lists.specs.Store.{Store, Shows}
use Rattle.md_lists.proofs.ListLaws.{some_items}
use Rattle.md_lists.proofs.LinkLaws.{parent_child, child_parent}
use Rattle.md_lists.proofs.FilledUp.{item-filled_up, some_item}

module _ (f : Store) (l : Links) (s : Shows f l) where
  pub live_made : (p : ℕ) → IsLive l p → p < f.made
  live_made p live = let w = some_item f.kinds l.kinds PLACES p s.kinds live in let e = s.kinds_len in omega arith

  pub parent_made : (c : ℕ) → IsSome (parent_at l c) → c < f.made
  parent_made c some = let w = some_item f.parents l.parents PLACES c s.parents some in let e = s.parents_len in omega arith

  pub child_made : (q c : ℕ) → 0 < times c (children_at l q) → c < f.made
  child_made q c some = parent_made c (ap is_some (child_parent l s.links q c some))

  -- a parent was made
  pub owner_made : (q c : ℕ) → parent_at l c ≡ Some q → q < f.made
  owner_made q c is =
      elim (cases_lt q f.made) [
        | inl within ↦ within
        | inr past ↦
            let none = ap (λ (r : Span). r.count) (sym (get_or_past f.spans q (span_of []) (let e = s.spans_len in omega arith)) ∙ s.spans q) in
            let some = some_items c (children_at l q) (let one = parent_child l s.links q c is in omega arith) in
            absurd (omega arith)
      ]

  pub mark_made : (p : ℕ) → 0 < times p l.marked → p < f.made
  mark_made p some =
      elim (cases_lt p f.made) [
        | inl within ↦ within
        | inr past ↦
            let t : tally_at l p ≡ 0 = ap (λ z. get_or z p 0) (sym s.tallies) ∙ item-filled_up f.tallies 0 PLACES p ∙ get_or_past f.tallies p 0 (let e = s.tallies_len in omega arith) in
            let n : note_at l p ≡ 0 = ap (λ z. get_or z p 0) (sym s.notes) ∙ item-filled_up f.notes 0 PLACES p ∙ get_or_past f.notes p 0 (let e = s.notes_len in omega arith) in
            let e = s.links.marks p in
            absurd (omega arith)
      ]
