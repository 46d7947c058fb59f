-- Store after a tally, a note or the list of marked places changes, and the links that it keeps then.
use Rattle.std.proofs.Common.{◌≡◌, ◌≢◌, ℕ, ◌+◌, ◌<◌, cond, ◌==◌, List, [], ◌∷◌, ◌++◌, length, set, Option, Some, None, refl, sym, ◌∙◌, ap, subst, inl, inr, arith}
use Rattle.std.proofs.lemmas.Bool.{cases_eq, cases_Bool, eq-eqb, ne_eqb}
use Rattle.std.proofs.lemmas.List.{get_or-set_same, get_or-set_other, length-set}
use Rattle.md_lists.specs.declared.span.Span.{Span}
use Rattle.md_lists.specs.declared.TheConstants.{PLACES}
use Rattle.md_lists.specs.Words.{last_or, added_once}
use Rattle.md_graph.specs.Linked.{Follow, times}
use Rattle.md_lists.specs.Spans.{span_of, linked}
use Rattle.md_lists.specs.Links.{Links, tally_at, note_at, IsLive, raised, noted, unmarked_first}
use Rattle.md_lists.specs.Store.{Store, ShowsMarked, Shows}
use Rattle.md_lists.proofs.ListLaws.{times-first}
use Rattle.md_lists.proofs.FilledUp.{filled_up-set}
use Rattle.md_lists.proofs.MadePlaces.{live_made, mark_made}
use Rattle.md_lists.proofs.Following.{length-linked, follow_same, follow_together, relinked}
use Rattle.md_lists.proofs.LinkLaws.{mark_once, raised_links, noted_links, unmarked_links}

module _ (f : Store) (l : Links) (s : Shows f l) where
  -- a place that comes onto the list of marked places if it isn't there
  module _ (p : ℕ) (live : IsLive l p) (r : Span) (ms : List (Option ℕ)) (span : r ≡ span_of (cond (tally_at l p + note_at l p == 0) (l.marked ++ p ∷ []) l.marked)) (nexts : ms ≡ cond (tally_at l p + note_at l p == 0) (set (linked f.mark_nexts f.marks.last (Some p)) p None) f.mark_nexts) where
    same_test : (times p l.marked == 0) ≡ (tally_at l p + note_at l p == 0)
    same_test =
        let m = s.links.marks p in
        elim (cases_eq (tally_at l p + note_at l p) 0) [
          | inl none ↦ rw (eq-eqb (tally_at l p + note_at l p) 0 none) (eq-eqb (times p l.marked) 0 (omega arith))
          | inr some ↦ rw (ne_eqb (tally_at l p + note_at l p) 0 some) (ne_eqb (times p l.marked) 0 (λ e. some (omega arith)))
        ]

    joined_nexts : ms ≡ cond (times p l.marked == 0) (set (linked f.mark_nexts f.marks.last (Some p)) p None) f.mark_nexts
    joined_nexts = nexts ∙ ap (λ b. cond b (set (linked f.mark_nexts f.marks.last (Some p)) p None) f.mark_nexts) (sym same_test)

    joined_forward : Follow ms (added_once p l.marked) None
    joined_forward =
        elim (cases_eq (times p l.marked) 0) [
          | inl none ↦
              let is : ms ≡ set longer p None = joined_nexts ∙ rw (eq-eqb (times p l.marked) 0 none) (ap (λ o. set (linked f.mark_nexts o (Some p)) p None) (ap (λ (w : Span). w.last) s.marks)) in
              rw (eq-eqb (times p l.marked) 0 none)
              (subst (λ z. Follow z (l.marked ++ p ∷ []) None) (sym is)
              (follow_together (set longer p None) l.marked (p ∷ []) None
              (follow_same longer (set longer p None) l.marked (Some p)
              (λ x some. get_or-set_other longer p x None None (λ same. let h : 0 < times p l.marked = subst (λ z. 0 < times z l.marked) same some in omega arith))
              (relinked f.mark_nexts l.marked None (Some p) s.mark_forward (mark_once l s.links) (λ x some. let w = mark_made f l s x some in let e = s.mark_nexts_len in omega arith)))
              (get_or-set_same longer p None None (let w = live_made f l s p live in let e = length-linked f.mark_nexts (last_or l.marked None) (Some p) in let n = s.mark_nexts_len in omega arith), tt)))
          | inr some ↦
              let is : ms ≡ f.mark_nexts = joined_nexts ∙ rw (ne_eqb (times p l.marked) 0 some) refl in
              rw (ne_eqb (times p l.marked) 0 some) (subst (λ z. Follow z l.marked None) (sym is) s.mark_forward)
        ]
      where
        longer : List (Option ℕ)
        longer = linked f.mark_nexts (last_or l.marked None) (Some p)

    joins : ShowsMarked f.made (added_once p l.marked) r ms
    joins = record {
      mark_nexts_len = ap length joined_nexts ∙ elim (cases_Bool (times p l.marked == 0)) [
        | inl t ↦ rw t (length-set (linked f.mark_nexts f.marks.last (Some p)) p None ∙ length-linked f.mark_nexts f.marks.last (Some p) ∙ s.mark_nexts_len)
        | inr t ↦ rw t s.mark_nexts_len
      ];
      marks = span ∙ ap (λ b. span_of (cond b (l.marked ++ p ∷ []) l.marked)) (sym same_test);
      mark_forward = joined_forward;
    }

    pub raises : (t : ℕ) → t ≡ tally_at l p → Shows (record f { tallies = set f.tallies p (t + 1); marks = r; mark_nexts = ms }) (raised l p)
    raises t is =
        record {
          links = raised_links l s.links p live;
          kinds = s.kinds;
          parents = s.parents;
          kinds_len = s.kinds_len;
          parents_len = s.parents_len;
          tallies_len = length-set f.tallies p (t + 1) ∙ s.tallies_len;
          notes_len = s.notes_len;
          tallies = filled_up-set f.tallies 0 PLACES p (t + 1) (let w = live_made f l s p live in let e = s.tallies_len in omega arith) ∙ (λ i. set (s.tallies i) p (is i + 1));
          notes = s.notes;
          children = s.children;
          marked = joins;
          spare = s.spare;
        }

    pub writes_note : (note : ℕ) → note ≢ 0 → Shows (record f { notes = set f.notes p note; marks = r; mark_nexts = ms }) (noted l p note)
    writes_note note some =
        record {
          links = noted_links l s.links p note live some;
          kinds = s.kinds;
          parents = s.parents;
          tallies = s.tallies;
          kinds_len = s.kinds_len;
          parents_len = s.parents_len;
          tallies_len = s.tallies_len;
          notes_len = length-set f.notes p note ∙ s.notes_len;
          notes = filled_up-set f.notes 0 PLACES p note (let w = live_made f l s p live in let e = s.notes_len in omega arith) ∙ ap (λ z. set z p note) s.notes;
          children = s.children;
          marked = joins;
          spare = s.spare;
        }

  pub unmarks : (p : ℕ) (rest : List ℕ) (r : Span) → l.marked ≡ p ∷ rest → r ≡ span_of rest → Shows (record f { tallies = set f.tallies p 0; notes = set f.notes p 0; marks = r }) (unmarked_first l (p ∷ rest))
  unmarks p rest r is span =
      record {
        links = unmarked_links l s.links p rest is;
        kinds = s.kinds;
        parents = s.parents;
        kinds_len = s.kinds_len;
        parents_len = s.parents_len;
        tallies_len = length-set f.tallies p 0 ∙ s.tallies_len;
        notes_len = length-set f.notes p 0 ∙ s.notes_len;
        tallies = filled_up-set f.tallies 0 PLACES p 0 (let w = first_made in let e = s.tallies_len in omega arith) ∙ ap (λ z. set z p 0) s.tallies;
        notes = filled_up-set f.notes 0 PLACES p 0 (let w = first_made in let e = s.notes_len in omega arith) ∙ ap (λ z. set z p 0) s.notes;
        children = s.children;
        marked = record {
          mark_nexts_len = s.mark_nexts_len;
          marks = span;
          mark_forward = (subst (λ z. Follow f.mark_nexts z None) is s.mark_forward).1;
        };
        spare = s.spare;
      }
    where
      first_made : p < f.made
      first_made = mark_made f l s p (let e = ap (times p) is in let one = times-first p rest in omega arith)
