-- Store after a place leaves its parent, or another comes in its stead, and the links that it keeps then.
use Rattle.std.proofs.Common.{◌≡◌, ◌≢◌, ℕ, ◌+◌, ◌<◌, ◌≤◌, List, [], ◌∷◌, ◌++◌, length, get_or, set, Option, Some, None, IfSome, is_some, refl, sym, ◌∙◌, ap, subst, arith}
use Rattle.std.proofs.lemmas.Bool.{eq-eqb, ne_eqb}
use Rattle.std.proofs.lemmas.List.{get_or-set_same, get_or-set_other, length-set}
use Rattle.md_lists.specs.declared.span.Span.{Span}
use Rattle.md_lists.specs.declared.TheConstants.{PLACES}
use Rattle.md_lists.specs.Words.{last_or, without, exchanged}
use Rattle.md_graph.specs.Linked.{first_or, Follow, times}
use Rattle.md_lists.specs.Spans.{span_of, linked, Precede}
use Rattle.md_lists.specs.Links.{Links, parent_at, children_at, IsLive, detached, replaced}
use Rattle.md_lists.specs.Store.{Store, filled_up, Shows}
use Rattle.md_lists.proofs.ListLaws.{times-split, first_low, last_low, without-split, exchanged-split, SplitsAt, split_once}
use Rattle.md_lists.proofs.Following.{linked-other, length-linked, follow_same, follow_apart, precede_same, precede_apart, relinked, repreceded}
use Rattle.md_lists.proofs.LinkLaws.{child_once, parent_child, loose_child, detached_parent, detached_children, detached_links, replaced_differ, replaced_parent, replaced_children, replaced_links}
use Rattle.md_lists.proofs.FilledUp.{filled_up-set}
use Rattle.md_lists.proofs.MadePlaces.{live_made, parent_made, child_made, owner_made}
use Rattle.md_lists.proofs.Splicing.{Spliced, spliced_forward, spliced_loose, spliced_back}
use Rattle.md_lists.proofs.ListChanges.{alone, not_alone, not_last, not_first, spans_shown}

module _ (f : Store) (l : Links) (s : Shows f l) where
  -- ---- what stands beside a child

  module _ (q c : ℕ) (is : parent_at l c ≡ Some q) where
    pub split_child : (left right : List ℕ) × SplitsAt (children_at l q) c left right
    split_child = split_once c (children_at l q) (parent_child l s.links q c is)

    abbrev left : List ℕ
    left = split_child.0

    abbrev right : List ℕ
    right = split_child.1

    pub child_next : Follow f.nexts left (Some c) × (get_or f.nexts c None ≡ first_or right None)
    child_next =
        let parts = follow_apart f.nexts left (c ∷ right) None (subst (λ z. Follow f.nexts z None) split_child.2.whole (s.forward q)) in
        (parts.0, parts.1.0)

    pub child_previous : (get_or f.previous c None ≡ last_or left None) × Precede f.previous (Some c) right
    child_previous = (precede_apart f.previous None left (c ∷ right) (subst (λ z. Precede f.previous None z) split_child.2.whole (s.back q))).1

    c_made : c < f.made
    c_made = parent_made f l s c (ap is_some is)

    left_once : (p : ℕ) → times p left ≤ 1
    left_once p = let o = child_once l s.links q p in let e = ap (times p) split_child.2.whole ∙ times-split p c left right in omega arith

    right_once : (p : ℕ) → times p right ≤ 1
    right_once p = let o = child_once l s.links q p in let e = ap (times p) split_child.2.whole ∙ times-split p c left right in omega arith

    left_made : (p : ℕ) → 0 < times p left → p < f.made
    left_made p some = let e = ap (times p) split_child.2.whole ∙ times-split p c left right in child_made f l s q p (omega arith)

    right_made : (p : ℕ) → 0 < times p right → p < f.made
    right_made p some = let e = ap (times p) split_child.2.whole ∙ times-split p c left right in child_made f l s q p (omega arith)

    -- no item stands on both sides
    apart : (x : ℕ) → 0 < times x right → times x left ≡ 0
    apart x some = let o = child_once l s.links q x in let e = ap (times x) split_child.2.whole ∙ times-split x c left right in omega arith

    in_left : (x : ℕ) → 0 < times x left → x ≢ c
    in_left x some same = let e = split_child.2.left in let h : 0 < times c left = subst (λ z. 0 < times z left) same some in omega arith

    in_right : (x : ℕ) → 0 < times x right → x ≢ c
    in_right x some same = let e = split_child.2.right in let h : 0 < times c right = subst (λ z. 0 < times z right) same some in omega arith

    -- what stands beside it was made
    pub before_low : (o : Option ℕ) (n : ℕ) → o ≡ get_or f.previous c None → f.made ≤ n → IfSome o (λ p. p < n)
    before_low o n is_before high = last_low o left n (is_before ∙ child_previous.0) (λ x some. let w = left_made x some in omega arith)

    pub after_low : (o : Option ℕ) (n : ℕ) → o ≡ get_or f.nexts c None → f.made ≤ n → IfSome o (λ p. p < n)
    after_low o n is_after high = first_low o right n (is_after ∙ child_next.1) (λ x some. let w = right_made x some in omega arith)

    -- ---- a place leaves its parent

    abbrev gone : Links
    gone = detached l q c

    detached_others : (p : ℕ) → p ≢ q → children_at gone p ≡ children_at l p
    detached_others p other = detached_children l s.links q c is p ∙ rw (ne_eqb p q other) refl

    detached_here : children_at gone q ≡ left ++ right
    detached_here =
        detached_children l s.links q c is q ∙ rw (eq-eqb q q refl) (ap (without c) split_child.2.whole ∙ without-split c left right split_child.2.left split_child.2.right)

    detached_spliced : Spliced l gone q left (c ∷ []) [] right
    detached_spliced = record {
      links = s.links;
      new_links = detached_links l s.links q c is;
      was = split_child.2.whole;
      now = detached_here;
      others = detached_others;
      parents = λ x went came. detached_parent l s.links q c is x ∙ rw (ne_eqb x c (not_alone x c went)) refl;
      loose = λ x came. absurd (omega arith);
    }

    pub detaches : (before after : Option ℕ) (r0 r : Span) (ns ps : List (Option ℕ)) → before ≡ get_or f.previous c None → after ≡ get_or f.nexts c None → r0 ≡ span_of (children_at l q) → ((us vs : List ℕ) (x : ℕ) → r0 ≡ span_of (us ++ x ∷ vs) → before ≡ last_or us None → after ≡ first_or vs None → r ≡ span_of (us ++ vs)) → ns ≡ set (linked f.nexts before after) c None → ps ≡ linked f.previous after before → Shows (record f { parents = set f.parents c None; spans = set f.spans q r; nexts = ns; previous = ps }) gone
    detaches before after r0 r ns ps prev next read made nexts prevs =
        record {
          links = detached_links l s.links q c is;
          kinds = s.kinds;
          kinds_len = s.kinds_len;
          parents_len = length-set f.parents c None ∙ s.parents_len;
          tallies_len = s.tallies_len;
          notes_len = s.notes_len;
          parents = filled_up-set f.parents None PLACES c None (let w = c_made in let e = s.parents_len in omega arith) ∙ ap (λ z. set z c None) s.parents;
          tallies = s.tallies;
          notes = s.notes;
          children = record {
            spans_len = length-set f.spans q r ∙ s.spans_len;
            nexts_len = ap length nexts ∙ length-set (linked f.nexts before after) c None ∙ length-linked f.nexts before after ∙ s.nexts_len;
            previous_len = ap length prevs ∙ length-linked f.previous after before ∙ s.previous_len;
            spans = spans_shown f.spans l gone q r (let w = owner_made f l s q c is in let e = s.spans_len in omega arith) s.spans detached_others (made left right c (read ∙ ap span_of split_child.2.whole) before_is after_is ∙ ap span_of (sym detached_here));
            forward = spliced_forward l gone q left (c ∷ []) [] right detached_spliced f.nexts ns same s.forward at_left tt;
            back = spliced_back l gone q left (c ∷ []) [] right detached_spliced f.previous ps same_back s.back at_right;
            loose = spliced_loose l gone q left (c ∷ []) [] right detached_spliced f.nexts ns same s.loose (λ x some. ap (λ z. get_or ns z None) (alone x c some) ∙ at_c);
          };
          marked = s.marked;
          spare = s.spare;
        }
      where
        before_is : before ≡ last_or left None
        before_is = prev ∙ child_previous.0

        after_is : after ≡ first_or right None
        after_is = next ∙ child_next.1

        ns_is : ns ≡ set (linked f.nexts (last_or left None) (first_or right None)) c None
        ns_is = nexts ∙ (λ i. set (linked f.nexts (before_is i) (after_is i)) c None)

        ps_is : ps ≡ linked f.previous (first_or right None) (last_or left None)
        ps_is = prevs ∙ (λ i. linked f.previous (after_is i) (before_is i))

        at_c : get_or ns c None ≡ None
        at_c =
            ap (λ z. get_or z c None) ns_is
            ∙ get_or-set_same (linked f.nexts (last_or left None) (first_or right None)) c None None (let w = c_made in let e = length-linked f.nexts (last_or left None) (first_or right None) in let n = s.nexts_len in omega arith)

        beside_c : (x : ℕ) → x ≢ c → get_or ns x None ≡ get_or (linked f.nexts (last_or left None) (first_or right None)) x None
        beside_c x other = ap (λ z. get_or z x None) ns_is ∙ get_or-set_other (linked f.nexts (last_or left None) (first_or right None)) c x None None other

        same : (x : ℕ) → times x left ≡ 0 → times x (c ∷ []) ≡ 0 → times x [] ≡ 0 → get_or ns x None ≡ get_or f.nexts x None
        same x none went came = beside_c x (not_alone x c went) ∙ linked-other f.nexts (last_or left None) (first_or right None) x (λ z e. not_last left x z none e)

        at_left : Follow ns left (first_or right None)
        at_left =
            follow_same (linked f.nexts (last_or left None) (first_or right None)) ns left (first_or right None) (λ x some. beside_c x (in_left x some))
            (relinked f.nexts left (Some c) (first_or right None) child_next.0 left_once (λ p some. let w = left_made p some in let e = s.nexts_len in omega arith))

        same_back : (x : ℕ) → times x (c ∷ []) ≡ 0 → times x [] ≡ 0 → times x right ≡ 0 → get_or ps x None ≡ get_or f.previous x None
        same_back x went came none = ap (λ z. get_or z x None) ps_is ∙ linked-other f.previous (first_or right None) (last_or left None) x (λ z e. not_first right x z none e)

        at_right : Precede ps (last_or left None) right
        at_right =
            subst (λ z. Precede z (last_or left None) right) (sym ps_is)
            (repreceded f.previous right (Some c) (last_or left None) child_previous.1 right_once (λ p some. let w = right_made p some in let e = s.previous_len in omega arith))

    -- ---- another place stands there

    module _ (n : ℕ) (live : IsLive l n) (loose : parent_at l n ≡ None) where
      abbrev put : Links
      put = replaced l q c n

      abbrev one : List (Option ℕ)
      one = linked f.nexts (last_or left None) (Some n)

      abbrev two : List (Option ℕ)
      two = set one n (first_or right None)

      abbrev back_one : List (Option ℕ)
      back_one = linked f.previous (first_or right None) (Some n)

      replaced_others : (p : ℕ) → p ≢ q → children_at put p ≡ children_at l p
      replaced_others p other = replaced_children l s.links q c n is live loose p ∙ rw (ne_eqb p q other) refl

      replaced_here : children_at put q ≡ left ++ n ∷ right
      replaced_here =
          replaced_children l s.links q c n is live loose q ∙ rw (eq-eqb q q refl) (ap (exchanged c n) split_child.2.whole ∙ exchanged-split c n left right split_child.2.left split_child.2.right)

      replaced_spliced : Spliced l put q left (c ∷ []) (n ∷ []) right
      replaced_spliced = record {
        links = s.links;
        new_links = replaced_links l s.links q c n is live loose;
        was = split_child.2.whole;
        now = replaced_here;
        others = replaced_others;
        parents = λ x went came.
            replaced_parent l s.links q c n is live loose x ∙ rw (ne_eqb x n (not_alone x n came), ne_eqb x c (not_alone x c went)) refl;
        loose = λ x came. ap (λ z. parent_at l z) (alone x n came) ∙ loose;
      }

      pub replaces : (before after : Option ℕ) (r0 r : Span) (parents ns ps : List (Option ℕ)) → parents ≡ set (set f.parents c None) n (Some q) → before ≡ get_or f.previous c None → after ≡ get_or f.nexts c None → r0 ≡ span_of (children_at l q) → ((us vs : List ℕ) (x : ℕ) → r0 ≡ span_of (us ++ x ∷ vs) → before ≡ last_or us None → after ≡ first_or vs None → r ≡ span_of (us ++ n ∷ vs)) → ns ≡ set (set (linked f.nexts before (Some n)) n after) c None → ps ≡ set (linked f.previous after (Some n)) n before → Shows (record f { parents = parents; spans = set f.spans q r; nexts = ns; previous = ps }) put
      replaces before after r0 r parents ns ps parents_are prev next read made nexts prevs =
          record {
            links = replaced_links l s.links q c n is live loose;
            kinds = s.kinds;
            kinds_len = s.kinds_len;
            parents_len = ap length parents_are ∙ length-set (set f.parents c None) n (Some q) ∙ length-set f.parents c None ∙ s.parents_len;
            tallies_len = s.tallies_len;
            notes_len = s.notes_len;
            parents =
                ap (λ z. filled_up z None PLACES) parents_are
                ∙ filled_up-set (set f.parents c None) None PLACES n (Some q) (let w = n_made in let e = s.parents_len in let k = length-set f.parents c None in omega arith)
                ∙ ap (λ z. set z n (Some q)) (filled_up-set f.parents None PLACES c None (let w = c_made in let e = s.parents_len in omega arith))
                ∙ ap (λ z. set (set z c None) n (Some q)) s.parents;
            tallies = s.tallies;
            notes = s.notes;
            children = record {
              spans_len = length-set f.spans q r ∙ s.spans_len;
              nexts_len = ap length nexts ∙ length-set (set (linked f.nexts before (Some n)) n after) c None ∙ length-set (linked f.nexts before (Some n)) n after ∙ length-linked f.nexts before (Some n) ∙ s.nexts_len;
              previous_len = ap length prevs ∙ length-set (linked f.previous after (Some n)) n before ∙ length-linked f.previous after (Some n) ∙ s.previous_len;
              spans = spans_shown f.spans l put q r (let w = owner_made f l s q c is in let e = s.spans_len in omega arith) s.spans replaced_others (made left right c (read ∙ ap span_of split_child.2.whole) before_is after_is ∙ ap span_of (sym replaced_here));
              forward = spliced_forward l put q left (c ∷ []) (n ∷ []) right replaced_spliced f.nexts ns same s.forward at_left (at_n, tt);
              back = spliced_back l put q left (c ∷ []) (n ∷ []) right replaced_spliced f.previous ps same_back s.back (prev_n, at_right);
              loose = spliced_loose l put q left (c ∷ []) (n ∷ []) right replaced_spliced f.nexts ns same s.loose (λ x some. ap (λ z. get_or ns z None) (alone x c some) ∙ at_c);
            };
            marked = s.marked;
            spare = s.spare;
          }
        where
          differ : n ≢ c
          differ = replaced_differ l s.links q c n is live loose

          before_is : before ≡ last_or left None
          before_is = prev ∙ child_previous.0

          after_is : after ≡ first_or right None
          after_is = next ∙ child_next.1

          one_len : length one ≡ f.made
          one_len = length-linked f.nexts (last_or left None) (Some n) ∙ s.nexts_len

          two_len : length two ≡ f.made
          two_len = length-set one n (first_or right None) ∙ one_len

          ns_is : ns ≡ set two c None
          ns_is = nexts ∙ (λ i. set (set (linked f.nexts (before_is i) (Some n)) n (after_is i)) c None)

          back_len : length back_one ≡ f.made
          back_len = length-linked f.previous (first_or right None) (Some n) ∙ s.previous_len

          ps_is : ps ≡ set back_one n (last_or left None)
          ps_is = prevs ∙ (λ i. set (linked f.previous (after_is i) (Some n)) n (before_is i))

          n_made : n < f.made
          n_made = live_made f l s n live

          at_c : get_or ns c None ≡ None
          at_c = ap (λ z. get_or z c None) ns_is ∙ get_or-set_same two c None None (let w = c_made in let e = two_len in omega arith)

          at_n : get_or ns n None ≡ first_or right None
          at_n =
              ap (λ z. get_or z n None) ns_is ∙ get_or-set_other two c n None None differ
              ∙ get_or-set_same one n (first_or right None) None (let w = n_made in let e = one_len in omega arith)

          beside : (x : ℕ) → x ≢ c → x ≢ n → get_or ns x None ≡ get_or one x None
          beside x other apart_n =
              ap (λ z. get_or z x None) ns_is ∙ get_or-set_other two c x None None other ∙ get_or-set_other one n x (first_or right None) None apart_n

          same : (x : ℕ) → times x left ≡ 0 → times x (c ∷ []) ≡ 0 → times x (n ∷ []) ≡ 0 → get_or ns x None ≡ get_or f.nexts x None
          same x none went came =
              beside x (not_alone x c went) (not_alone x n came) ∙ linked-other f.nexts (last_or left None) (Some n) x (λ z e. not_last left x z none e)

          not_n : (x : ℕ) → 0 < times x left + times x right → x ≢ n
          not_n x some e =
              let none = loose_child l s.links q n loose in
              let parts = ap (times n) split_child.2.whole ∙ times-split n c left right in
              let here : 0 < times n left + times n right = subst (λ z. 0 < times z left + times z right) e some in
              omega arith

          at_left : Follow ns left (Some n)
          at_left =
              follow_same one ns left (Some n) (λ x some. beside x (in_left x some) (not_n x (omega arith)))
              (relinked f.nexts left (Some c) (Some n) child_next.0 left_once (λ p some. let w = left_made p some in let e = s.nexts_len in omega arith))

          same_back : (x : ℕ) → times x (c ∷ []) ≡ 0 → times x (n ∷ []) ≡ 0 → times x right ≡ 0 → get_or ps x None ≡ get_or f.previous x None
          same_back x went came none =
              ap (λ z. get_or z x None) ps_is ∙ get_or-set_other back_one n x (last_or left None) None (not_alone x n came)
              ∙ linked-other f.previous (first_or right None) (Some n) x (λ z e. not_first right x z none e)

          prev_n : get_or ps n None ≡ last_or left None
          prev_n = ap (λ z. get_or z n None) ps_is ∙ get_or-set_same back_one n (last_or left None) None (let w = n_made in let e = back_len in omega arith)

          at_right : Precede ps (Some n) right
          at_right =
              precede_same back_one ps (Some n) right
              (λ x some. ap (λ z. get_or z x None) ps_is ∙ get_or-set_other back_one n x (last_or left None) None (not_n x (omega arith)))
              (repreceded f.previous right (Some c) (Some n) child_previous.1 right_once (λ p some. let w = right_made p some in let e = s.previous_len in omega arith))
