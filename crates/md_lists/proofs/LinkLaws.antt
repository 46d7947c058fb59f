-- What holds of links, and that each call leaves links.
use Rattle.std.proofs.Common.{◌≡◌, ◌≢◌, ℕ, ◌+◌, ◌<◌, ◌≤◌, Bool, true, false, cond, ◌==◌, List, [], ◌∷◌, ◌++◌, length, get_or, set, Option, Some, None, is_some, IsSome, refl, sym, ◌∙◌, ap, subst, inl, inr, arith}
use Rattle.std.proofs.lemmas.Bool.{cases_eq, cases_lt, eq-eqb, ne_eqb, false≢true}
use Rattle.std.proofs.lemmas.Option.{none-some, same_Some}
use Rattle.std.proofs.lemmas.List.{get_or-set_same, get_or-set_other, get_or_past, length-set}
use Rattle.md_lists.specs.declared.kinds.PlaceKind.{PlaceKind}
use Rattle.md_lists.specs.declared.TheConstants.{PLACES}
use Rattle.md_lists.specs.Words.{holds_once, without, exchanged, added_once}
use Rattle.md_graph.specs.Linked.{times}
use Rattle.md_lists.specs.Links.{Links, kind_at, parent_at, children_at, tally_at, note_at, IsLive, IsBare, AreLinks, with_kind, attached, detached, replaced, raised, noted, unmarked_first}
use Rattle.md_lists.proofs.ListLaws.{times-split, times-first, times-without, exchanged-split, times-joined-same, times-joined-other, few, split_once}

-- ---- items that change

pub get_or-set : {X : Type 0} → (xs : List X) (i j : ℕ) (v d : X) → i < length xs → get_or (set xs i v) j d ≡ cond (j == i) v (get_or xs j d)
get_or-set xs i j v d within =
    elim (cases_eq j i) [
      | inl same ↦ rw (eq-eqb j i same) (ap (λ k. get_or (set xs i v) k d) same ∙ get_or-set_same xs i v d within)
      | inr other ↦ rw (ne_eqb j i other) (get_or-set_other xs i j v d other)
    ]

none_either : {X : Type 0} (b : Bool) (d v : X) → v ≡ d → cond b d v ≡ d
none_either true d v e = refl
none_either false d v e = e

-- ---- places live and free

pub not_alive : {X : Type 0} → (o : Option X) → ◌≡◌ {A = ℕ} (cond (is_some o) 1 0) 0 → o ≡ None
not_alive None e = refl
not_alive (Some k) e = absurd (omega arith)

-- ---- numbers of places

pub some_within : {X : Type 0} → (xs : List (Option X)) (n p : ℕ) → length xs ≡ n → IsSome (get_or xs p None) → p < n
some_within xs n p long some =
    elim (cases_lt p n) [
      | inl within ↦ within
      | inr past ↦ absurd (false≢true (sym (ap is_some (get_or_past xs p None (omega arith))) ∙ some))
    ]

holds-once-le : (o : Option ℕ) (p : ℕ) → holds_once o p ≤ 1
holds-once-le None p = omega arith
holds-once-le (Some q) p = elim (cases_eq q p) [ inl same ↦ rw (eq-eqb q p same) (omega arith) | inr other ↦ rw (ne_eqb q p other) (omega arith) ]

pub holds-once-same : (q : ℕ) → holds_once (Some q) q ≡ 1
holds-once-same q = rw (eq-eqb q q refl) refl

pub holds-once-other : (q p : ℕ) → q ≢ p → holds_once (Some q) p ≡ 0
holds-once-other q p other = rw (ne_eqb q p other) refl

pub held : (o : Option ℕ) (p : ℕ) → 0 < holds_once o p → o ≡ Some p
held None p some = absurd (omega arith)
held (Some q) p some = elim (cases_eq q p) [ inl same ↦ ap Some same | inr other ↦ absurd (let e = holds-once-other q p other in omega arith) ]

module _ (l : Links) (ok : AreLinks l) where
  pub live_within : (p : ℕ) → IsLive l p → p < PLACES
  live_within p live = some_within l.kinds PLACES p ok.kinds_len live

  pub parent_within : (c q : ℕ) → parent_at l c ≡ Some q → c < PLACES
  parent_within c q is = some_within l.parents PLACES c ok.parents_len (ap is_some is)

  pub child_once : (p c : ℕ) → times c (children_at l p) ≤ 1
  child_once p c = let e = ok.agree p c in let low = holds-once-le (parent_at l c) p in omega arith

  pub child_parent : (p c : ℕ) → 0 < times c (children_at l p) → parent_at l c ≡ Some p
  child_parent p c some = held (parent_at l c) p (let e = ok.agree p c in omega arith)

  pub parent_child : (p c : ℕ) → parent_at l c ≡ Some p → times c (children_at l p) ≡ 1
  parent_child p c is = ok.agree p c ∙ ap (λ o. holds_once o p) is ∙ holds-once-same p

  pub loose_child : (p c : ℕ) → parent_at l c ≡ None → times c (children_at l p) ≡ 0
  loose_child p c is = ok.agree p c ∙ ap (λ o. holds_once o p) is

  pub child_within : (p c : ℕ) → 0 < times c (children_at l p) → c < PLACES
  child_within p c some = parent_within c p (child_parent p c some)

  -- a place is a child of one place
  pub one_parent : (p q c : ℕ) → 0 < times c (children_at l p) → 0 < times c (children_at l q) → p ≡ q
  one_parent p q c a b = same_Some p q (sym (child_parent p c a) ∙ child_parent q c b)

  -- there are no more children than places
  pub few_children : (p : ℕ) → length (children_at l p) ≤ PLACES
  few_children p = few PLACES (children_at l p) (child_once p) (λ c above.
      elim (cases_lt 0 (times c (children_at l p))) [
        | inl some ↦ absurd (let in_it = child_within p c some in omega arith)
        | inr none ↦ omega arith
      ])

  pub mark_once : (p : ℕ) → times p l.marked ≤ 1
  mark_once p = let e = ok.marks p in omega arith

  pub mark_within : (p : ℕ) → 0 < times p l.marked → p < PLACES
  mark_within p some =
      elim (cases_lt p PLACES) [
        | inl within ↦ within
        | inr past ↦
            let t = get_or_past l.tallies p 0 (let e = ok.tallies_len in omega arith) in
            let n = get_or_past l.notes p 0 (let e = ok.notes_len in omega arith) in
            let e = ok.marks p in
            absurd (omega arith)
      ]

  pub few_marked : length l.marked ≤ PLACES
  few_marked = few PLACES l.marked mark_once (λ p above.
      elim (cases_lt 0 (times p l.marked)) [
        | inl some ↦ absurd (let in_it = mark_within p some in omega arith)
        | inr none ↦ omega arith
      ])

  -- a place is live, and another free
  pub live_not_free : (p x : ℕ) → IsLive l p → kind_at l x ≡ None → x ≢ p
  live_not_free p x live free = λ e. false≢true (sym (ap is_some free) ∙ subst (λ z. IsLive l z) (sym e) live)

  -- a parent is a place
  pub owner_within : (q c : ℕ) → parent_at l c ≡ Some q → q < PLACES
  owner_within q c is =
      elim (cases_lt q PLACES) [
        | inl within ↦ within
        | inr past ↦
            let none : children_at l q ≡ [] = get_or_past l.children q [] (let e = ok.children_len in omega arith) in
            let one = parent_child q c is in
            let zero_times = ap (times c) none in
            absurd (omega arith)
      ]

  -- a parent isn't free
  owner_not_free : (q c : ℕ) → parent_at l c ≡ Some q → (p : ℕ) → kind_at l p ≡ None → p ≡ q → ⊥
  owner_not_free q c is p free same =
      let none = (ok.bare p free).no_children in
      let one = parent_child q c is in
      let zero_times = ap (times c) (ap (λ z. children_at l z) (sym same) ∙ none) in
      omega arith

  -- ---- a place becomes the last child of another

  module _ (q c : ℕ) (parent : IsLive l q) (child : IsLive l c) (loose : parent_at l c ≡ None) where
    pub attached_parent : (x : ℕ) → parent_at (attached l q c) x ≡ cond (x == c) (Some q) (parent_at l x)
    attached_parent x = get_or-set l.parents c x (Some q) None (let w = live_within c child in let e = ok.parents_len in omega arith)

    pub attached_child : parent_at (attached l q c) c ≡ Some q
    attached_child = attached_parent c ∙ rw (eq-eqb c c refl) refl

    pub attached_other : (x : ℕ) → x ≢ c → parent_at (attached l q c) x ≡ parent_at l x
    attached_other x other = attached_parent x ∙ rw (ne_eqb x c other) refl

    pub attached_children : (p : ℕ) → children_at (attached l q c) p ≡ cond (p == q) (children_at l q ++ c ∷ []) (children_at l p)
    attached_children p = get_or-set l.children q p (children_at l q ++ c ∷ []) [] (let w = live_within q parent in let e = ok.children_len in omega arith)

    attached_agree : (p x : ℕ) → times x (cond (p == q) (children_at l q ++ c ∷ []) (children_at l p)) ≡ holds_once (cond (x == c) (Some q) (parent_at l x)) p
    attached_agree p x =
        elim (cases_eq p q) [
          | inl here ↦ elim (cases_eq x c) [
            | inl same ↦
                rw (eq-eqb p q here, eq-eqb x c same)
                (times-split x c (children_at l q) [] ∙ rw (eq-eqb c x (sym same), eq-eqb q p (sym here)) (ap (λ n. n + 1) (ap (λ z. times z (children_at l q)) same ∙ loose_child q c loose)))
            | inr other ↦
                rw (eq-eqb p q here, ne_eqb x c other)
                (times-split x c (children_at l q) [] ∙ rw (ne_eqb c x (λ e. other (sym e))) (let e = ok.agree q x in subst (λ z. times x (children_at l q) + 0 ≡ holds_once (parent_at l x) z) (sym here) (omega arith)))
          ]
          | inr there ↦ elim (cases_eq x c) [
            | inl same ↦
                rw (ne_eqb p q there, eq-eqb x c same)
                (ap (λ z. times z (children_at l p)) same ∙ loose_child p c loose ∙ sym (holds-once-other q p (λ e. there (sym e))))
            | inr other ↦ rw (ne_eqb p q there, ne_eqb x c other) (ok.agree p x)
          ]
        ]

    pub attached_links : AreLinks (attached l q c)
    attached_links = record {
      kinds_len = ok.kinds_len;
      parents_len = length-set l.parents c (Some q) ∙ ok.parents_len;
      children_len = length-set l.children q (children_at l q ++ c ∷ []) ∙ ok.children_len;
      tallies_len = ok.tallies_len;
      notes_len = ok.notes_len;
      agree = λ p x. ap (times x) (attached_children p) ∙ attached_agree p x ∙ sym (ap (λ o. holds_once o p) (attached_parent x));
      marks = ok.marks;
      bare = λ p free.
          let was = ok.bare p free in
          let not_child : p ≢ c = λ e. false≢true (sym (ap is_some free) ∙ subst (λ z. IsLive l z) (sym e) child) in
          let not_parent : p ≢ q = λ e. false≢true (sym (ap is_some free) ∙ subst (λ z. IsLive l z) (sym e) parent) in
          record {
            no_parent = attached_parent p ∙ rw (ne_eqb p c not_child) was.no_parent;
            no_children = attached_children p ∙ rw (ne_eqb p q not_parent) was.no_children;
            no_tally = was.no_tally;
            no_note = was.no_note;
          };
    }

  -- ---- a place leaves its parent

  module _ (q c : ℕ) (is : parent_at l c ≡ Some q) where
    pub detached_parent : (x : ℕ) → parent_at (detached l q c) x ≡ cond (x == c) None (parent_at l x)
    detached_parent x = get_or-set l.parents c x None None (let w = parent_within c q is in let e = ok.parents_len in omega arith)

    pub detached_children : (p : ℕ) → children_at (detached l q c) p ≡ cond (p == q) (without c (children_at l q)) (children_at l p)
    detached_children p = get_or-set l.children q p (without c (children_at l q)) [] (let w = owner_within q c is in let e = ok.children_len in omega arith)

    detached_agree : (p x : ℕ) → times x (cond (p == q) (without c (children_at l q)) (children_at l p)) ≡ holds_once (cond (x == c) None (parent_at l x)) p
    detached_agree p x =
        elim (cases_eq p q) [
          | inl here ↦ elim (cases_eq x c) [
            | inl same ↦ rw (eq-eqb p q here, eq-eqb x c same) (times-without x c (children_at l q) ∙ rw (eq-eqb x c same) refl)
            | inr other ↦
                rw (eq-eqb p q here, ne_eqb x c other)
                (times-without x c (children_at l q) ∙ rw (ne_eqb x c other) (ok.agree q x ∙ ap (holds_once (parent_at l x)) (sym here)))
          ]
          | inr there ↦ elim (cases_eq x c) [
            | inl same ↦
                rw (ne_eqb p q there, eq-eqb x c same)
                (ap (λ z. times z (children_at l p)) same ∙ ok.agree p c ∙ ap (λ o. holds_once o p) is ∙ holds-once-other q p (λ e. there (sym e)))
            | inr other ↦ rw (ne_eqb p q there, ne_eqb x c other) (ok.agree p x)
          ]
        ]

    pub detached_links : AreLinks (detached l q c)
    detached_links = record {
      kinds_len = ok.kinds_len;
      parents_len = length-set l.parents c None ∙ ok.parents_len;
      children_len = length-set l.children q (without c (children_at l q)) ∙ ok.children_len;
      tallies_len = ok.tallies_len;
      notes_len = ok.notes_len;
      agree = λ p x. ap (times x) (detached_children p) ∙ detached_agree p x ∙ sym (ap (λ o. holds_once o p) (detached_parent x));
      marks = ok.marks;
      bare = λ p free.
          let was = ok.bare p free in
          let not_parent : p ≢ q = owner_not_free q c is p free in
          record {
            no_parent = detached_parent p ∙ none_either (p == c) None (parent_at l p) was.no_parent;
            no_children = detached_children p ∙ rw (ne_eqb p q not_parent) was.no_children;
            no_tally = was.no_tally;
            no_note = was.no_note;
          };
    }

  -- ---- a place stands where another stood

  module _ (q c n : ℕ) (is : parent_at l c ≡ Some q) (live : IsLive l n) (loose : parent_at l n ≡ None) where
    pub replaced_differ : n ≢ c
    replaced_differ e = none-some q (sym loose ∙ ap (λ z. parent_at l z) e ∙ is)

    pub replaced_parent : (x : ℕ) → parent_at (replaced l q c n) x ≡ cond (x == n) (Some q) (cond (x == c) None (parent_at l x))
    replaced_parent x =
        let w = parent_within c q is in
        let v = live_within n live in
        let e = ok.parents_len in
        let f = length-set l.parents c None in
        get_or-set (set l.parents c None) n x (Some q) None (omega arith)
        ∙ ap (λ o. cond (x == n) (Some q) o) (get_or-set l.parents c x None None (omega arith))

    pub replaced_children : (p : ℕ) → children_at (replaced l q c n) p ≡ cond (p == q) (exchanged c n (children_at l q)) (children_at l p)
    replaced_children p = get_or-set l.children q p (exchanged c n (children_at l q)) [] (let w = owner_within q c is in let e = ok.children_len in omega arith)

    times_replaced : (x : ℕ) → times x (exchanged c n (children_at l q)) ≡ holds_once (cond (x == n) (Some q) (cond (x == c) None (parent_at l x))) q
    times_replaced x =
        let at = split_once c (children_at l q) (parent_child q c is) in
        let new : times x (exchanged c n (children_at l q)) ≡ times x at.0 + (cond (n == x) 1 0 + times x at.1) =
        ap (λ l. times x (exchanged c n l)) at.2.whole ∙ ap (times x) (exchanged-split c n at.0 at.1 at.2.left at.2.right) ∙ times-split x n at.0 at.1 in
        let was : times x at.0 + (cond (c == x) 1 0 + times x at.1) ≡ holds_once (parent_at l x) q =
        sym (ap (times x) at.2.whole ∙ times-split x c at.0 at.1) ∙ ok.agree q x in
        new ∙ elim (cases_eq x n) [
          | inl same ↦
              let none : holds_once (parent_at l x) q ≡ 0 = ap (λ z. holds_once (parent_at l z) q) same ∙ ap (λ o. holds_once o q) loose in
              rw (eq-eqb n x (sym same), eq-eqb x n same) (let one = holds-once-same q in omega arith)
          | inr other ↦ elim (cases_eq x c) [
            | inl here ↦
                let one : holds_once (parent_at l x) q ≡ 1 = ap (λ z. holds_once (parent_at l z) q) here ∙ ap (λ o. holds_once o q) is ∙ holds-once-same q in
                let counted : times x at.0 + (1 + times x at.1) ≡ holds_once (parent_at l x) q = rw (eq-eqb c x (sym here)) at was in
                rw (ne_eqb n x (λ e. other (sym e)), ne_eqb x n other, eq-eqb x c here) (omega arith)
            | inr there ↦
                let counted : times x at.0 + (0 + times x at.1) ≡ holds_once (parent_at l x) q = rw (ne_eqb c x (λ e. there (sym e))) at was in
                rw (ne_eqb n x (λ e. other (sym e)), ne_eqb x n other, ne_eqb x c there) counted
          ]
        ]

    replaced_agree : (p x : ℕ) → times x (cond (p == q) (exchanged c n (children_at l q)) (children_at l p)) ≡ holds_once (cond (x == n) (Some q) (cond (x == c) None (parent_at l x))) p
    replaced_agree p x =
        elim (cases_eq p q) [
          | inl here ↦ rw (eq-eqb p q here) (times_replaced x ∙ ap (holds_once (cond (x == n) (Some q) (cond (x == c) None (parent_at l x)))) (sym here))
          | inr there ↦ rw (ne_eqb p q there) (elim (cases_eq x n) [
            | inl same ↦
                rw (eq-eqb x n same)
                (ap (λ z. times z (children_at l p)) same ∙ loose_child p n loose ∙ sym (holds-once-other q p (λ e. there (sym e))))
            | inr other ↦ elim (cases_eq x c) [
              | inl same ↦
                  rw (ne_eqb x n other, eq-eqb x c same)
                  (ap (λ z. times z (children_at l p)) same ∙ ok.agree p c ∙ ap (λ o. holds_once o p) is ∙ holds-once-other q p (λ e. there (sym e)))
              | inr apart ↦ rw (ne_eqb x n other, ne_eqb x c apart) (ok.agree p x)
            ]
          ])
        ]

    pub replaced_links : AreLinks (replaced l q c n)
    replaced_links = record {
      kinds_len = ok.kinds_len;
      parents_len = length-set (set l.parents c None) n (Some q) ∙ length-set l.parents c None ∙ ok.parents_len;
      children_len = length-set l.children q (exchanged c n (children_at l q)) ∙ ok.children_len;
      tallies_len = ok.tallies_len;
      notes_len = ok.notes_len;
      agree = λ p x. ap (times x) (replaced_children p) ∙ replaced_agree p x ∙ sym (ap (λ o. holds_once o p) (replaced_parent x));
      marks = ok.marks;
      bare = λ p free.
          let was = ok.bare p free in
          record {
            no_parent = replaced_parent p ∙ rw (ne_eqb p n (live_not_free n p live free)) (none_either (p == c) None (parent_at l p) was.no_parent);
            no_children = replaced_children p ∙ rw (ne_eqb p q (owner_not_free q c is p free)) was.no_children;
            no_tally = was.no_tally;
            no_note = was.no_note;
          };
    }

  -- ---- a place has another kind, or is free

  pub kind-with_kind : (p x : ℕ) (k : Option PlaceKind) → p < PLACES → kind_at (with_kind l p k) x ≡ cond (x == p) k (kind_at l x)
  kind-with_kind p x k within = get_or-set l.kinds p x k None (let e = ok.kinds_len in omega arith)

  pub bare-with_kind : (p : ℕ) (k : Option PlaceKind) (x : ℕ) → IsBare l x → IsBare (with_kind l p k) x
  bare-with_kind p k x b = record { no_parent = b.no_parent; no_children = b.no_children; no_tally = b.no_tally; no_note = b.no_note }

  pub with_kind_links : (p : ℕ) (k : Option PlaceKind) → p < PLACES → (k ≡ None → IsBare l p) → AreLinks (with_kind l p k)
  with_kind_links p k within bare = record {
    kinds_len = length-set l.kinds p k ∙ ok.kinds_len;
    parents_len = ok.parents_len;
    children_len = ok.children_len;
    tallies_len = ok.tallies_len;
    notes_len = ok.notes_len;
    agree = ok.agree;
    marks = ok.marks;
    bare = λ x free. bare-with_kind p k x (was x free);
  }
    where
      was : (x : ℕ) → kind_at (with_kind l p k) x ≡ None → IsBare l x
      was x free =
          elim (cases_eq x p) [
            | inl same ↦
                subst (IsBare l) (sym same) (bare (let e : kind_at (with_kind l p k) x ≡ k = kind-with_kind p x k within ∙ rw (eq-eqb x p same) refl in sym e ∙ free))
            | inr other ↦
                ok.bare x (let e : kind_at (with_kind l p k) x ≡ kind_at l x = kind-with_kind p x k within ∙ rw (ne_eqb x p other) refl in sym e ∙ free)
          ]

  -- ---- marks

  -- a live place is marked from now on, whatever its tally and its note are, if they aren't both 0
  marked_links : (p : ℕ) (tallies notes : List ℕ) → IsLive l p → length tallies ≡ PLACES → length notes ≡ PLACES → 0 < get_or tallies p 0 + get_or notes p 0 → ((x : ℕ) → x ≢ p → get_or tallies x 0 ≡ tally_at l x) → ((x : ℕ) → x ≢ p → get_or notes x 0 ≡ note_at l x) → AreLinks (record l { tallies = tallies; notes = notes; marked = added_once p l.marked })
  marked_links p tallies notes live tallies_len notes_len some tally note = record {
    kinds_len = ok.kinds_len;
    parents_len = ok.parents_len;
    children_len = ok.children_len;
    tallies_len = tallies_len;
    notes_len = notes_len;
    agree = ok.agree;
    marks = λ x. elim (cases_eq x p) [
      | inl same ↦
          let here : 0 < get_or tallies x 0 + get_or notes x 0 = subst (λ z. 0 < get_or tallies z 0 + get_or notes z 0) (sym same) some in
          let one : times x (added_once p l.marked) ≡ 1 = ap (λ z. times z (added_once p l.marked)) same ∙ times-joined-same p l.marked (mark_once p) in
          omega arith
      | inr other ↦
          let t = tally x other in
          let n = note x other in
          let e = times-joined-other x p l.marked other in
          let m = ok.marks x in
          omega arith
    ];
    bare = λ x free.
        let b = ok.bare x free in
        let other = live_not_free p x live free in
        record { no_parent = b.no_parent; no_children = b.no_children; no_tally = tally x other ∙ b.no_tally; no_note = note x other ∙ b.no_note };
  }

  pub raised_links : (p : ℕ) → IsLive l p → AreLinks (raised l p)
  raised_links p live =
      let e = get_or-set_same l.tallies p (tally_at l p + 1) 0 (let w = live_within p live in let long = ok.tallies_len in omega arith) in
      marked_links p (set l.tallies p (tally_at l p + 1)) l.notes live (length-set l.tallies p (tally_at l p + 1) ∙ ok.tallies_len) ok.notes_len (omega arith)
      (λ x other. get_or-set_other l.tallies p x (tally_at l p + 1) 0 other)
      (λ x other. refl)

  pub noted_links : (p note : ℕ) → IsLive l p → note ≢ 0 → AreLinks (noted l p note)
  noted_links p note live some =
      let e = get_or-set_same l.notes p note 0 (let w = live_within p live in let long = ok.notes_len in omega arith) in
      marked_links p l.tallies (set l.notes p note) live ok.tallies_len (length-set l.notes p note ∙ ok.notes_len) (omega arith)
      (λ x other. refl)
      (λ x other. get_or-set_other l.notes p x note 0 other)

  pub unmarked_links : (p : ℕ) (rest : List ℕ) → l.marked ≡ p ∷ rest → AreLinks (unmarked_first l (p ∷ rest))
  unmarked_links p rest is = record {
    kinds_len = ok.kinds_len;
    parents_len = ok.parents_len;
    children_len = ok.children_len;
    tallies_len = length-set l.tallies p 0 ∙ ok.tallies_len;
    notes_len = length-set l.notes p 0 ∙ ok.notes_len;
    agree = ok.agree;
    marks = λ x.
        let m = ok.marks x in
        let all : times x l.marked ≡ cond (p == x) 1 0 + times x rest = ap (times x) is in
        let t = tally x in
        let n = note x in
        elim (cases_eq x p) [
          | inl same ↦
              let once = mark_once x in
              let here = rw (eq-eqb p x (sym same)) at all in
              rw (tally x, note x, eq-eqb x p same) (omega arith)
          | inr other ↦
              let there = rw (ne_eqb p x (λ e. other (sym e))) at all in
              rw (tally x, note x, ne_eqb x p other) (omega arith)
        ];
    bare = λ x free.
        let b = ok.bare x free in
        record {
          no_parent = b.no_parent;
          no_children = b.no_children;
          no_tally = tally x ∙ none_either (x == p) 0 (tally_at l x) b.no_tally;
          no_note = note x ∙ none_either (x == p) 0 (note_at l x) b.no_note;
        };
  }
    where
      here : p < PLACES
      here = mark_within p (let e : times p l.marked ≡ times p (p ∷ rest) = ap (times p) is in let f = times-first p rest in omega arith)

      tally : (x : ℕ) → get_or (set l.tallies p 0) x 0 ≡ cond (x == p) 0 (tally_at l x)
      tally x = get_or-set l.tallies p x 0 0 (let w = here in let e = ok.tallies_len in omega arith)

      note : (x : ℕ) → get_or (set l.notes p 0) x 0 ≡ cond (x == p) 0 (note_at l x)
      note x = get_or-set l.notes p x 0 0 (let w = here in let e = ok.notes_len in omega arith)
