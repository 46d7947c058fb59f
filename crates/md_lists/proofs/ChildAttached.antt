-- Store after a place becomes the last child of another, and the links that it keeps then.
use Rattle.std.proofs.Common.{◌≡◌, ◌≢◌, ℕ, List, [], ◌∷◌, ◌++◌, length, get_or, set, Option, Some, None, refl, sym, ◌∙◌, ap, subst, arith, append-nil}
use Rattle.std.proofs.lemmas.Bool.{eq-eqb, ne_eqb}
use Rattle.std.proofs.lemmas.List.{get_or-set_same, get_or-set_other, length-set}
use Rattle.md_lists.specs.declared.span.Span.{Span}
use Rattle.md_lists.specs.declared.TheConstants.{PLACES}
use Rattle.md_lists.specs.Words.{last_or}
use Rattle.md_graph.specs.Linked.{Follow, times}
use Rattle.md_lists.specs.Spans.{span_of, linked}
use Rattle.md_lists.specs.Links.{Links, parent_at, children_at, IsLive, attached}
use Rattle.md_lists.specs.Store.{Store, Shows}
use Rattle.md_lists.proofs.Following.{linked-other, length-linked, relinked}
use Rattle.md_lists.proofs.LinkLaws.{child_once, loose_child, attached_other, attached_children, attached_links}
use Rattle.md_lists.proofs.FilledUp.{filled_up-set}
use Rattle.md_lists.proofs.MadePlaces.{live_made, child_made}
use Rattle.md_lists.proofs.Splicing.{Spliced, spliced_forward, spliced_loose, spliced_back}
use Rattle.md_lists.proofs.ListChanges.{alone, not_alone, not_last, spans_shown}

module _ (f : Store) (l : Links) (s : Shows f l) where
  module _ (q c : ℕ) (parent : IsLive l q) (child : IsLive l c) (loose : parent_at l c ≡ None) where
    abbrev xs : List ℕ
    xs = children_at l q

    abbrev new : Links
    new = attached l q c

    attached_others : (p : ℕ) → p ≢ q → children_at new p ≡ children_at l p
    attached_others p other = attached_children l s.links q c parent child loose p ∙ rw (ne_eqb p q other) refl

    attached_here : children_at new q ≡ xs ++ c ∷ []
    attached_here = attached_children l s.links q c parent child loose q ∙ rw (eq-eqb q q refl) refl

    attached_spliced : Spliced l new q xs [] (c ∷ []) []
    attached_spliced = record {
      links = s.links;
      new_links = attached_links l s.links q c parent child loose;
      was = sym (append-nil xs);
      now = attached_here;
      others = attached_others;
      parents = λ x gone came. attached_other l s.links q c parent child loose x (not_alone x c came);
      loose = λ x came. ap (λ z. parent_at l z) (alone x c came) ∙ loose;
    }

    pub attaches : (r0 r : Span) (ns ps : List (Option ℕ)) → r0 ≡ span_of xs → r ≡ span_of (xs ++ c ∷ []) → ns ≡ linked f.nexts r0.last (Some c) → ps ≡ linked f.previous (Some c) r0.last → Shows (record f { parents = set f.parents c (Some q); spans = set f.spans q r; nexts = ns; previous = ps }) new
    attaches r0 r ns ps read made nexts prevs =
        record {
          links = attached_links l s.links q c parent child loose;
          kinds = s.kinds;
          kinds_len = s.kinds_len;
          parents_len = length-set f.parents c (Some q) ∙ s.parents_len;
          tallies_len = s.tallies_len;
          notes_len = s.notes_len;
          parents = filled_up-set f.parents None PLACES c (Some q) (let w = live_made f l s c child in let e = s.parents_len in omega arith) ∙ ap (λ z. set z c (Some q)) s.parents;
          tallies = s.tallies;
          notes = s.notes;
          children = record {
            spans_len = length-set f.spans q r ∙ s.spans_len;
            nexts_len = ap length nexts ∙ length-linked f.nexts r0.last (Some c) ∙ s.nexts_len;
            previous_len = ap length prevs ∙ length-set f.previous c r0.last ∙ s.previous_len;
            spans = spans_shown f.spans l new q r (let w = live_made f l s q parent in let e = s.spans_len in omega arith) s.spans attached_others (made ∙ ap span_of (sym attached_here));
            forward = spliced_forward l new q xs [] (c ∷ []) [] attached_spliced f.nexts ns same s.forward at_left (at_c, tt);
            back = spliced_back l new q xs [] (c ∷ []) [] attached_spliced f.previous ps same_back s.back (prev_c, tt);
            loose = spliced_loose l new q xs [] (c ∷ []) [] attached_spliced f.nexts ns same s.loose (λ x none. absurd (omega arith));
          };
          marked = s.marked;
          spare = s.spare;
        }
      where
        last_is : r0.last ≡ last_or xs None
        last_is = ap (λ (w : Span). w.last) read

        ns_is : ns ≡ linked f.nexts (last_or xs None) (Some c)
        ns_is = nexts ∙ ap (λ o. linked f.nexts o (Some c)) last_is

        same_at : (x : ℕ) → times x xs ≡ 0 → get_or ns x None ≡ get_or f.nexts x None
        same_at x none = ap (λ z. get_or z x None) ns_is ∙ linked-other f.nexts (last_or xs None) (Some c) x (λ z is. not_last xs x z none is)

        same : (x : ℕ) → times x xs ≡ 0 → times x [] ≡ 0 → times x (c ∷ []) ≡ 0 → get_or ns x None ≡ get_or f.nexts x None
        same x none gone came = same_at x none

        at_left : Follow ns xs (Some c)
        at_left = subst (λ z. Follow z xs (Some c)) (sym ns_is) (relinked f.nexts xs None (Some c) (s.forward q) (child_once l s.links q) (λ p some. let w = child_made f l s q p some in let e = s.nexts_len in omega arith))

        at_c : get_or ns c None ≡ None
        at_c = same_at c (loose_child l s.links q c loose) ∙ s.loose c loose

        same_back : (x : ℕ) → times x [] ≡ 0 → times x (c ∷ []) ≡ 0 → times x [] ≡ 0 → get_or ps x None ≡ get_or f.previous x None
        same_back x gone came right = ap (λ z. get_or z x None) prevs ∙ get_or-set_other f.previous c x r0.last None (not_alone x c came)

        prev_c : get_or ps c None ≡ last_or xs None
        prev_c = ap (λ z. get_or z c None) prevs ∙ get_or-set_same f.previous c r0.last None (let w = live_made f l s c child in let e = s.previous_len in omega arith) ∙ last_is
