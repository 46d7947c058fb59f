-- Lists of which nothing but tallies, notes and marks differs.
use Rattle.std.proofs.Common.{◌≡◌, ℕ, cond, [], None, is_some, refl, sym, ◌∙◌, ap, arith}
use Rattle.std.specs.List.{count_by}
use Rattle.std.proofs.Common.{get_or, is_none}
use Rattle.std.proofs.lemmas.Grind.{same_number_lists}
use Rattle.md_lists.specs.Words.{holds_once}
use Rattle.md_graph.specs.Linked.{times}
use Rattle.md_lists.specs.Links.{Links, kind_at, parent_at, tally_at, note_at, AreLinks, spare_count}
use Rattle.md_cotree.specs.PlaceTrees.{PlaceTrees}
use Rattle.md_cotree_edit.specs.Counts.{kind_code}
use Rattle.md_cotree_edit.specs.Contexts.{AreTreesKept}
use Rattle.md_cotree_edit.specs.Marks.{AreStill}

pub still_refl : (l : Links) → AreStill l l
still_refl l = (refl, refl, refl)

pub still_trans : (l k m : Links) → AreStill l k → AreStill k m → AreStill l m
still_trans l k m a b = (b.0 ∙ a.0, b.1 ∙ a.1, b.2 ∙ a.2)

pub still_kind : (l k : Links) → AreStill l k → (p : ℕ) → kind_at k p ≡ kind_at l p
still_kind l k still p = ap (λ xs. get_or xs p None) still.0

pub still_parent : (l k : Links) → AreStill l k → (p : ℕ) → parent_at k p ≡ parent_at l p
still_parent l k still p = ap (λ xs. get_or xs p None) still.1

pub still_spare : (l k : Links) → AreStill l k → spare_count k ≡ spare_count l
still_spare l k still = ap (count_by is_none) still.0

-- what is kept is kept
pub kept_still : (l k : Links) (ts : PlaceTrees) → AreStill l k → AreTreesKept l ts → AreTreesKept k ts
kept_still l k ts still kept = record {
  each = λ p. kept.each p ∙ ap (λ o. cond (is_some o) 1 0) (sym (still_kind l k still p));
  kinds = λ p. kept.kinds p ∙ ap kind_code (sym (still_kind l k still p));
  links = λ p c. kept.links p c ∙ ap (λ o. holds_once o p) (sym (still_parent l k still c));
}

-- where nothing is marked all tallies and notes are 0
pub unmarked_tally : (l : Links) → AreLinks l → l.marked ≡ [] → (p : ℕ) → tally_at l p ≡ 0
unmarked_tally l ok none p = let e = ok.marks p in let f = ap (times p) none in omega arith

pub unmarked_note : (l : Links) → AreLinks l → l.marked ≡ [] → (p : ℕ) → note_at l p ≡ 0
unmarked_note l ok none p = let e = ok.marks p in let f = ap (times p) none in omega arith

-- where nothing is marked they are the same
pub still_same : (l k : Links) → AreLinks l → AreLinks k → AreStill l k → l.marked ≡ [] → k.marked ≡ [] → k ≡ l
still_same l k ok_l ok_k still none_l none_k = λ i. record {
  kinds = still.0 i;
  parents = still.1 i;
  children = still.2 i;
  tallies = tallies i;
  notes = notes i;
  marked = (none_k ∙ sym none_l) i;
}
  where
    tallies : k.tallies ≡ l.tallies
    tallies = same_number_lists k.tallies l.tallies (ok_k.tallies_len ∙ sym ok_l.tallies_len) (λ p low. unmarked_tally k ok_k none_k p ∙ sym (unmarked_tally l ok_l none_l p))

    notes : k.notes ≡ l.notes
    notes = same_number_lists k.notes l.notes (ok_k.notes_len ∙ sym ok_l.notes_len) (λ p low. unmarked_note k ok_k none_k p ∙ sym (unmarked_note l ok_l none_l p))
