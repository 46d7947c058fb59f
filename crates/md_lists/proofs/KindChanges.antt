-- Store after a place gets a kind or another one, or is freed, and the links that it keeps then.
use Rattle.std.proofs.Common.{◌≡◌, ◌≢◌, ℕ, ◌+◌, ◌-◌, ◌<◌, ◌≤◌, cond, ◌==◌, List, [], ◌∷◌, ◌++◌, length, get_or, set, Option, Some, None, IsSome, is_some, is_none, refl, sym, ◌∙◌, ap, inl, inr, arith, length-append}
use Rattle.std.proofs.lemmas.Bool.{cases_eq, cases_lt, eq-eqb, ne_eqb, false≢true}
use Rattle.std.proofs.lemmas.Option.{none-some}
use Rattle.std.proofs.lemmas.List.{get_or_past, length-set}
use Rattle.std.proofs.lemmas.List.Sums.{sum_by-set, count_by-le-length}
use Rattle.md_lists.specs.declared.kinds.PlaceKind.{PlaceKind}
use Rattle.md_lists.specs.declared.TheConstants.{PLACES}
use Rattle.md_graph.specs.Linked.{times}
use Rattle.md_lists.specs.Spans.{span_of}
use Rattle.md_lists.specs.Links.{Links, alive, kind_at, children_at, IsLive, IsBare, with_kind}
use Rattle.md_lists.specs.Store.{Store, filled_up, ShowsFree, Shows}
use Rattle.md_lists.proofs.ListLaws.{times-split}
use Rattle.md_lists.proofs.Following.{follow_same, precede_same}
use Rattle.md_lists.proofs.FilledUp.{one_more_default, item-filled_up, filled_up-set, filled_up-push, filled_up-more}
use Rattle.md_lists.proofs.MadePlaces.{live_made}
use Rattle.md_lists.proofs.LinkLaws.{not_alive, live_within, kind-with_kind, with_kind_links}

not_free : (o : Option PlaceKind) → IsSome o → ◌≡◌ {A = ℕ} (cond (is_none o) 1 0) 0
not_free None e = absurd (false≢true e)
not_free (Some k) e = refl

-- an item more at the end of a list
others_stay : (xs ys : List ℕ) (p : ℕ) → ys ≡ xs ++ p ∷ [] → (x : ℕ) → x ≢ p → times x ys ≡ times x xs
others_stay xs ys p is x other =
    let e : times x ys ≡ times x xs + 0 = ap (times x) is ∙ times-split x p xs [] ∙ rw (ne_eqb p x (λ i. other (sym i))) refl in
    omega arith

module _ (f : Store) (l : Links) (s : Shows f l) where
  -- ---- places live and free

  alive-with_kind : (p x : ℕ) (k : Option PlaceKind) → p < PLACES → alive (with_kind l p k) x ≡ cond (is_some (cond (x == p) k (kind_at l x))) 1 0
  alive-with_kind p x k within = ap (λ (o : Option PlaceKind). cond (is_some o) 1 0) (kind-with_kind l s.links p x k within)

  -- the free places where p has another kind, or none, and no more places are made but p: only p comes to them or leaves them
  free_after : (made p : ℕ) (k : Option PlaceKind) (fs : List ℕ) → f.made ≤ made → made ≤ PLACES → p < made → ((x : ℕ) → x ≢ p → x < made → x < f.made) → times p fs + cond (is_some k) 1 0 ≡ 1 → ((x : ℕ) → x ≢ p → times x fs ≡ times x f.free) → length fs + (PLACES - made) + cond (is_none (kind_at l p)) 1 0 ≡ length f.free + (PLACES - f.made) + cond (is_none k) 1 0 → ShowsFree made (set l.kinds p k) fs
  free_after made p k fs more few within before here others long = record {
    made_few = few;
    free_once = λ x low. elim (cases_eq x p) [
      | inl same ↦
          let e : times x fs ≡ times p fs = ap (λ z. times z fs) same in
          let a : alive (with_kind l p k) x ≡ cond (is_some k) 1 0 = alive-with_kind p x k (omega arith) ∙ rw (eq-eqb x p same) refl in
          omega arith
      | inr other ↦
          let was = s.free_once x (before x other low) in
          let e = others x other in
          let a : alive (with_kind l p k) x ≡ alive l x = alive-with_kind p x k (omega arith) ∙ rw (ne_eqb x p other) refl in
          omega arith
    ];
    free_within = λ x high. let was = s.free_within x (omega arith) in let e = others x (λ same. let w = within in omega arith) in omega arith;
    free_count =
        let set_one = sum_by-set (λ (o : Option PlaceKind). cond (is_none o) 1 0) l.kinds p k None (let e = s.links.kinds_len in let w = within in omega arith) in
        let was = s.free_count in
        let e = long in
        omega arith;
  }

  rekinds : (p : ℕ) (k : Option PlaceKind) (fs : List ℕ) → p < f.made → (k ≡ None → IsBare l p) → ShowsFree f.made (set l.kinds p k) fs → Shows (record f { kinds = set f.kinds p k; free = fs }) (with_kind l p k)
  rekinds p k fs within bare spare = record {
    links = with_kind_links l s.links p k (let few = s.made_few in let w = within in omega arith) bare;
    kinds_len = length-set f.kinds p k ∙ s.kinds_len;
    parents_len = s.parents_len;
    tallies_len = s.tallies_len;
    notes_len = s.notes_len;
    kinds = filled_up-set f.kinds None PLACES p k (let e = s.kinds_len in let w = within in omega arith) ∙ ap (λ z. set z p k) s.kinds;
    parents = s.parents;
    tallies = s.tallies;
    notes = s.notes;
    children = s.children;
    marked = s.marked;
    spare = spare;
  }

  -- a free place that was made before has a kind
  pub makes : (fs : List ℕ) (p : ℕ) (k : PlaceKind) → f.free ≡ fs ++ p ∷ [] → (p < f.made) × (kind_at l p ≡ None) × Shows (record f { kinds = set f.kinds p (Some k); free = fs }) (with_kind l p (Some k))
  makes fs p k popped = (
    within,
    is_free,
    rekinds p (Some k) fs within (λ e. absurd (none-some k (sym e))) (free_after f.made p (Some k) fs (omega arith) s.made_few within (λ x other low. low) (let e = left_out in omega arith) others long),
  )
    where
      counted : (x : ℕ) → times x f.free ≡ times x fs + (cond (p == x) 1 0 + 0)
      counted x = ap (times x) popped ∙ times-split x p fs []

      counted_p : times p f.free ≡ times p fs + 1
      counted_p = counted p ∙ rw (eq-eqb p p refl) refl

      within : p < f.made
      within = elim (cases_lt p f.made) [ inl low ↦ low | inr high ↦ absurd (let none = s.free_within p high in let e = counted_p in omega arith) ]

      left_out : times p fs ≡ 0
      left_out = let once = s.free_once p within in let e = counted_p in omega arith

      is_free : kind_at l p ≡ None
      is_free = not_alive (kind_at l p) (let once = s.free_once p within in let e = counted_p in omega arith)

      others : (x : ℕ) → x ≢ p → times x fs ≡ times x f.free
      others x other = sym (others_stay fs f.free p popped x other)

      long : length fs + (PLACES - f.made) + cond (is_none (kind_at l p)) 1 0 ≡ length f.free + (PLACES - f.made) + 0
      long =
          let none_one : ◌≡◌ {A = ℕ} (cond (is_none (kind_at l p)) 1 0) 1 = ap (λ (o : Option PlaceKind). cond (is_none o) 1 0) is_free in
          let e = ap length popped ∙ length-append fs (p ∷ []) in
          omega arith

  -- the next place is made, with a kind
  module _ (k : PlaceKind) (few : f.made < PLACES) where
    pub next_free : kind_at l f.made ≡ None
    next_free = ap (λ z. get_or z f.made None) (sym s.kinds) ∙ item-filled_up f.kinds None PLACES f.made ∙ get_or_past f.kinds f.made None (let e = s.kinds_len in omega arith)

    pub comes : (g : Store) → g.made ≡ f.made + 1 → g.kinds ≡ f.kinds ++ Some k ∷ [] → g.parents ≡ f.parents ++ None ∷ [] → g.spans ≡ f.spans ++ span_of [] ∷ [] → g.nexts ≡ f.nexts ++ None ∷ [] → g.previous ≡ f.previous ++ None ∷ [] → g.tallies ≡ f.tallies ++ 0 ∷ [] → g.notes ≡ f.notes ++ 0 ∷ [] → g.marks ≡ f.marks → g.mark_nexts ≡ f.mark_nexts ++ None ∷ [] → g.free ≡ f.free → Shows g (with_kind l f.made (Some k))
    comes g made kinds parents spans nexts previous tallies notes marks mark_nexts free = record {
      links = with_kind_links l s.links f.made (Some k) few (λ e. absurd (none-some k (sym e)));
      kinds_len = longer f.kinds g.kinds (Some k) kinds s.kinds_len;
      parents_len = longer f.parents g.parents None parents s.parents_len;
      tallies_len = longer f.tallies g.tallies 0 tallies s.tallies_len;
      notes_len = longer f.notes g.notes 0 notes s.notes_len;
      kinds =
          ap (λ z. filled_up z None PLACES) kinds
          ∙ filled_up-push f.kinds None PLACES (Some k) (let e = s.kinds_len in omega arith)
          ∙ (λ i. set (s.kinds i) (s.kinds_len i) (Some k));
      parents = ap (λ z. filled_up z None PLACES) parents ∙ filled_up-more f.parents None PLACES (let e = s.parents_len in omega arith) ∙ s.parents;
      tallies = ap (λ z. filled_up z 0 PLACES) tallies ∙ filled_up-more f.tallies 0 PLACES (let e = s.tallies_len in omega arith) ∙ s.tallies;
      notes = ap (λ z. filled_up z 0 PLACES) notes ∙ filled_up-more f.notes 0 PLACES (let e = s.notes_len in omega arith) ∙ s.notes;
      children = record {
        spans_len = longer f.spans g.spans (span_of []) spans s.spans_len;
        nexts_len = longer f.nexts g.nexts None nexts s.nexts_len;
        previous_len = longer f.previous g.previous None previous s.previous_len;
        spans = λ p. same f.spans g.spans (span_of []) spans p ∙ s.spans p;
        forward = λ p. follow_same f.nexts g.nexts (children_at l p) None (λ x some. same f.nexts g.nexts None nexts x) (s.forward p);
        back = λ p. precede_same f.previous g.previous None (children_at l p) (λ x some. same f.previous g.previous None previous x) (s.back p);
        loose = λ c none. same f.nexts g.nexts None nexts c ∙ s.loose c none;
      };
      marked = record {
        mark_nexts_len = longer f.mark_nexts g.mark_nexts None mark_nexts s.mark_nexts_len;
        marks = marks ∙ s.marks;
        mark_forward = follow_same f.mark_nexts g.mark_nexts l.marked None (λ x some. same f.mark_nexts g.mark_nexts None mark_nexts x) s.mark_forward;
      };
      spare =
          let none_one : ◌≡◌ {A = ℕ} (cond (is_none (kind_at l f.made)) 1 0) 1 = ap (λ (o : Option PlaceKind). cond (is_none o) 1 0) next_free in
          let none = s.free_within f.made (omega arith) in
          let alike : (x : ℕ) → times x g.free ≡ times x f.free = λ x. ap (times x) free in
          let here = alike f.made in
          let long = ap length free in
          let m = made in
          free_after g.made f.made (Some k) g.free (omega arith) (omega arith) (omega arith) (λ x other low. let o = other in omega arith) (omega arith) (λ x other. alike x) (omega arith);
    }
      where
        longer : {X : Type 0} → (xs ys : List X) (d : X) → ys ≡ xs ++ d ∷ [] → length xs ≡ f.made → length ys ≡ g.made
        longer xs ys d is was = let e = ap length is ∙ length-append xs (d ∷ []) in let m = made in omega arith

        same : {X : Type 0} → (xs ys : List X) (d : X) → ys ≡ xs ++ d ∷ [] → (p : ℕ) → get_or ys p d ≡ get_or xs p d
        same xs ys d is p = ap (λ z. get_or z p d) is ∙ one_more_default xs p d

  -- a live place is among no free ones
  pub live_alive : (p : ℕ) → IsLive l p → alive l p ≡ 1
  live_alive p live = rw live refl

  -- there is room for a live place among the free ones
  pub spare_room : (p : ℕ) → IsLive l p → length f.free < PLACES
  spare_room p live =
      let w = live_within l s.links p live in
      let long = s.links.kinds_len in
      let set_one = sum_by-set (λ (o : Option PlaceKind). cond (is_none o) 1 0) l.kinds p None None (omega arith) in
      let not_none = not_free (kind_at l p) live in
      let most = count_by-le-length is_none (set l.kinds p None) in
      let same = length-set l.kinds p None in
      let was = s.free_count in
      omega arith

  pub frees : (fs : List ℕ) (p : ℕ) → IsLive l p → IsBare l p → fs ≡ f.free ++ p ∷ [] → Shows (record f { kinds = set f.kinds p None; free = fs }) (with_kind l p None)
  frees fs p live is_bare pushed = rekinds p None fs within (λ e. is_bare) (free_after f.made p None fs (omega arith) s.made_few within (λ x other low. low) here (others_stay f.free fs p pushed) long)
    where
      within : p < f.made
      within = live_made f l s p live

      counted : (x : ℕ) → times x fs ≡ times x f.free + (cond (p == x) 1 0 + 0)
      counted x = ap (times x) pushed ∙ times-split x p f.free []

      here : times p fs + 0 ≡ 1
      here =
          let was = s.free_once p within in
          let one = live_alive p live in
          let e : times p fs ≡ times p f.free + 1 = counted p ∙ rw (eq-eqb p p refl) refl in
          omega arith

      long : length fs + (PLACES - f.made) + cond (is_none (kind_at l p)) 1 0 ≡ length f.free + (PLACES - f.made) + 1
      long = let not_none = not_free (kind_at l p) live in let e = ap length pushed ∙ length-append f.free (p ∷ []) in omega arith

  pub renames : (p : ℕ) (k : PlaceKind) → IsLive l p → Shows (record f { kinds = set f.kinds p (Some k) }) (with_kind l p (Some k))
  renames p k live =
      let within = live_made f l s p live in
      let was = s.free_once p within in
      let one = live_alive p live in
      let not_none = not_free (kind_at l p) live in
      rekinds p (Some k) f.free within (λ e. absurd (none-some k (sym e))) (free_after f.made p (Some k) f.free (omega arith) s.made_few within (λ x other low. low) (omega arith) (λ x other. refl) (omega arith))
