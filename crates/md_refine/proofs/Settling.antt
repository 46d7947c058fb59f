-- A class is settled: its touched names stand alone, or get a place before the others.
use Rattle.std.proofs.Common.{◌≡◌, ◌≢◌, ◌⊎◌, ℕ, ◌+◌, ◌*◌, ◌<◌, ◌≤◌, true, false, not, ◌&&◌, ◌==◌, if◌then◌else◌, List, [], ◌∷◌, map, length, vec_len, get_or, set, Option, Some, None, refl, sym, ◌∙◌, ap, subst, inl, inr, arith}
use Rattle.std.specs.List.{filter, flat_map}
use Rattle.std.specs.FinSet as sets
use Rattle.std.proofs.lemmas.Bool.{and_right, cases_eq, eq-eqb, ne_eqb, eqb-true, false≢true, false_from_ne_true, and_parts, not-true}
use Rattle.std.proofs.lemmas.Bool.Decides.{nat_tests}
use Rattle.std.proofs.lemmas.List.{get_or-set_same, get_or-set_other, length-set, get_or_read}
use Rattle.std.proofs.lemmas.List.Elements.{filter_agree}
use Rattle.std.proofs.lemmas.List.Kept.{AllPairs-filter}
use Rattle.md_graph.specs.declared.TheConstants.{NAMES}
use Rattle.md_graph.specs.Sets.{NameSet, Has}
use Rattle.md_graph.proofs.SetLemmas.{remove_left, of_remove, Has-along}
use Rattle.md_graph.specs.NameSet.{IsLeastFrom}
use Rattle.md_refine.specs.declared.partition.Partition.TheInside.{Inside}
use Rattle.md_refine.specs.Partitions.{is_in, class_with, parts, settled_by, settled}
use Rattle.md_refine.specs.Slots.{MarkStore, numbers, home, owner, main, half, is_mark_of, is_half, stands, marked, place_names, IsPlaceOrder, ArePlaceMarks, IsHome, Keeps}
use Rattle.md_graph.specs.Linked.{times}
use Rattle.md_refine.specs.Kept.{marks_kept, KeepsPartition}
use Rattle.md_refine.proofs.Lists.{filter_twice, filter_all, filter_none, filter_same, in_some, least_first, numbers_order, place_in, few}
use Rattle.md_refine.proofs.Refining.{one_part}
use Rattle.md_refine.proofs.Showing.{where_true, seen, with_at, low_order, order_low, name_within, marked_home, stands_home, in_names, in_touched, at_home}
use Rattle.md_refine.proofs.Counts.{counted_one, some_counted}
use Rattle.md_refine.proofs.Inserting.{inserted, order_inserted, classes_inserted, classes_same}

-- where no name is the least touched one of a class, nothing is touched
pub none_touched : (s : MarkStore) (order : List ℕ) (k : Keeps s order) → ((w : ℕ) → Has s.leads w → w < s.low) → filter (marked s) (numbers NAMES) ≡ []
none_touched s order k none =
    filter_none (marked s) (numbers NAMES) (λ v _. false_from_ne_true (marked s v) (λ t. let l = k.leads_all v t in let h = none l.0 l.1 in let low = k.leads_low l.0 l.1 in omega arith))

-- v is the least touched name, i its mark, p its place, and m the other mark of that
pub record Turn (s : MarkStore) (v i p m : ℕ) : Type 0 where
  pub is : home s v ≡ Some i
  pub lead : Has s.leads v
  pub least : (w : ℕ) → Has s.leads w → v ≤ w
  pub p_is : p ≡ owner s i
  pub m_is : m ≡ main s p

module _ (s : MarkStore) (order : List ℕ) (k : Keeps s order) (v i p m : ℕ) (turn : Turn s v i p m) (ls : NameSet) (ls_are : ls ≡ sets.remove s.leads v) where
  pub place_low : p < s.used
  place_low = let h = (k.homes v i turn.is).place in omega arith

  its_marks : ArePlaceMarks s.owners s.mains s.halves s.used p
  its_marks = k.marks p place_low

  half_is : half s p ≡ i
  half_is = ap (half s) turn.p_is ∙ eqb-true (half s (owner s i)) i (sym (ap (is_half s) turn.is) ∙ k.leads_marked v turn.lead)

  pub mark_low : i < 2 * s.used
  mark_low = (k.homes v i turn.is).low

  pub main_low : m < 2 * s.used
  main_low = let l = its_marks.main_low in omega arith

  main_owner : owner s m ≡ p
  main_owner = ap (owner s) turn.m_is ∙ its_marks.main_owner

  differ : m ≢ i
  differ e = its_marks.differ (sym turn.m_is ∙ e ∙ sym half_is)

  -- a mark of the place, which a name has, is one of the two
  of_place : (w j : ℕ) → home s w ≡ Some j → owner s j ≡ p → (j ≡ m) ⊎ (j ≡ i)
  of_place w j e o =
      elim ((k.homes w j e).own) [
        | inl first ↦ inl (first ∙ ap (main s) o ∙ sym turn.m_is)
        | inr second ↦ inr (second ∙ ap (half s) o ∙ half_is)
      ]

  -- a touched name of the class has the mark i
  both : (w : ℕ) → marked s w ≡ true → stands s p w ≡ true → home s w ≡ Some i
  both w t st =
      let h = stands_home s order k p w st in
      let same : half s (owner s h.0) ≡ h.0 = eqb-true (half s (owner s h.0)) h.0 (sym (ap (is_half s) h.1) ∙ t) in
      h.1 ∙ ap (λ z. Some z) (sym same ∙ ap (half s) (sym h.2) ∙ half_is)

  v_stands : stands s p v ≡ true
  v_stands = ap (is_mark_of s.owners p) turn.is ∙ eq-eqb p (owner s i) turn.p_is

  least_marked : (w : ℕ) → marked s w ≡ true → v ≤ w
  least_marked w t = let l = k.leads_all w t in let a = turn.least l.0 l.1 in let b = l.2 in omega arith

  pub first_touched : (rest : List ℕ) × (filter (marked s) (numbers NAMES) ≡ v ∷ rest)
  first_touched =
      least_first (filter (marked s) (numbers NAMES)) v (AllPairs-filter (λ x y. x < y) (marked s) (numbers NAMES) (numbers_order NAMES))
      (in_touched s order k v ∙ k.leads_marked v turn.lead)
      (λ w t. least_marked w (sym (in_touched s order k w) ∙ t))

  own_class : class_with v (map (place_names s) order) ≡ place_names s p
  own_class = with_at (place_names s) v p (λ q. at_home s order k v i turn.is q ∙ ap (λ z. q == z) (sym turn.p_is)) order (low_order s order k p place_low)

  -- what a class becomes
  abbrev turned : List ℕ → List (List ℕ)
  turned c = if is_in c v then parts (is_in (filter (marked s) (numbers NAMES))) c else c ∷ []

  in_class : (q : ℕ) → is_in (place_names s q) v ≡ (q == p)
  in_class q = at_home s order k v i turn.is q ∙ ap (λ z. q == z) (sym turn.p_is)

  turned_other : (q : ℕ) → q ≢ p → turned (place_names s q) ≡ place_names s q ∷ []
  turned_other q other = rw (in_class q, ne_eqb q p other) refl

  turned_own : turned (place_names s p) ≡ parts (is_in (filter (marked s) (numbers NAMES))) (place_names s p)
  turned_own = rw (in_class p, eq-eqb p p refl) refl

  -- ---- what is seen of a store that keeps the homes, and where the names of the class are untouched

  module _ (t : MarkStore) (places : List ℕ) (marked_t : (w : ℕ) → marked t w ≡ (marked s w && not (stands s p w))) where
    touched_t : filter (marked t) (numbers NAMES) ≡ filter (λ w. not (is_in (class_with v (map (place_names s) order)) w)) (filter (marked s) (numbers NAMES))
    touched_t =
        filter_agree (marked t) (λ w. marked s w && not (is_in (place_names s p) w)) (λ w. marked_t w ∙ ap (λ b. marked s w && not b) (sym (in_names s order k p w))) (numbers NAMES)
        ∙ sym (filter_twice (marked s) (λ w. not (is_in (place_names s p) w)) (numbers NAMES))
        ∙ ap (λ c. filter (λ w. not (is_in c w)) (filter (marked s) (numbers NAMES))) (sym own_class)

    shows : map (place_names t) places ≡ flat_map turned (map (place_names s) order) → seen t places ≡ settled (seen s order)
    shows classes =
        (λ j. record { classes = classes j; touched = touched_t j })
        ∙ sym (ap (λ ts. settled_by ts (seen s order)) first_touched.1)

    module _ (homes_are : (w : ℕ) → home t w ≡ home s w) (leads_are : t.leads ≡ ls) where
      along : (w : ℕ) → Has t.leads w → Has (sets.remove s.leads v) w
      along = Has-along t.leads (sets.remove s.leads v) (leads_are ∙ ls_are)

      t_marked : (w : ℕ) → Has t.leads w → marked t w ≡ true
      t_marked w h =
          let old = of_remove s.leads v w (along w h) in
          let m_w = k.leads_marked w old.1 in
          let out : stands s p w ≡ false = false_from_ne_true (stands s p w) (λ st. old.0 (k.leads_once w v old.1 turn.lead (both w m_w st ∙ sym turn.is))) in
          marked_t w ∙ rw (m_w, out) refl

      t_led : (w : ℕ) → marked t w ≡ true → (l : ℕ) × Has t.leads l × (l ≤ w) × (home t l ≡ home t w)
      t_led w h =
          let parts_w = and_parts (marked s w) (not (stands s p w)) (sym (marked_t w) ∙ h) in
          let out = not-true (stands s p w) parts_w.1 in
          let l = k.leads_all w parts_w.0 in
          let other : l.0 ≢ v = λ e. false≢true (sym out ∙ ap (is_mark_of s.owners p) (sym l.3 ∙ ap (home s) e ∙ turn.is) ∙ eq-eqb p (owner s i) turn.p_is) in
          (l.0, Has-along (sets.remove s.leads v) t.leads (sym (leads_are ∙ ls_are)) l.0 (remove_left s.leads v l.0 other l.1), l.2, homes_are l.0 ∙ l.3 ∙ sym (homes_are w))

      t_low : (w : ℕ) → Has t.leads w → v ≤ w
      t_low w h = turn.least w (of_remove s.leads v w (along w h)).1

      t_once : (w z : ℕ) → Has t.leads w → Has t.leads z → home t w ≡ home t z → w ≡ z
      t_once w z a b e = k.leads_once w z (of_remove s.leads v w (along w a)).1 (of_remove s.leads v z (along z b)).1 (sym (homes_are w) ∙ e ∙ homes_are z)

  -- ---- all names of the class are touched

  module _ (none : get_or s.counts m 0 ≡ 0) where
    abbrev pub whole_store : MarkStore
    whole_store = record s { mains = set s.mains p i; halves = set s.halves p m; leads = ls; low = v }

    no_main : (w : ℕ) → home s w ≡ Some m → ⊥
    no_main w e =
        let c = k.counted m (let l = main_low in let most = k.is_order.within in let long = k.nexts_len in omega arith) in
        let one = counted_one m s.homes w e in
        omega arith

    its_mark : (w j : ℕ) → home s w ≡ Some j → owner s j ≡ p → j ≡ i
    its_mark w j e o = elim (of_place w j e o) [ inl first ↦ absurd (no_main w (e ∙ ap (λ z. Some z) first)) | inr second ↦ second ]

    main_here : get_or (set s.mains p i) p 0 ≡ i
    main_here = get_or-set_same s.mains p i 0 (let l = place_low in let most = k.is_order.within in let long = k.nexts_len in let e = k.mains_len in omega arith)

    half_here : get_or (set s.halves p m) p 0 ≡ m
    half_here = get_or-set_same s.halves p m 0 (let l = place_low in let most = k.is_order.within in let long = k.nexts_len in let e = k.halves_len in omega arith)

    main_there : (q : ℕ) → q ≢ p → get_or (set s.mains p i) q 0 ≡ main s q
    main_there q other = get_or-set_other s.mains p q i 0 other

    half_there : (q : ℕ) → q ≢ p → get_or (set s.halves p m) q 0 ≡ half s q
    half_there q other = get_or-set_other s.halves p q m 0 other

    whole_marked : (w : ℕ) → marked whole_store w ≡ (marked s w && not (stands s p w))
    whole_marked w = go (home s w) refl
      where
        go : (o : Option ℕ) → home s w ≡ o → is_half whole_store o ≡ (is_half s o && not (is_mark_of s.owners p o))
        go None e = refl
        go (Some j) e =
            elim (cases_eq p (owner s j)) [
              | inl here ↦
                  let j_is = its_mark w j e (sym here) in
                  let off : (get_or (set s.halves p m) (owner s j) 0 == j) ≡ false = ne_eqb (get_or (set s.halves p m) (owner s j) 0) j (λ q. differ (sym half_here ∙ ap (λ z. get_or (set s.halves p m) z 0) here ∙ q ∙ j_is)) in
                  off ∙ rw (eq-eqb p (owner s j) here) (sym (and_right (half s (owner s j) == j) false refl))
              | inr other ↦
                  ap (λ z. z == j) (half_there (owner s j) (λ q. other (sym q))) ∙ rw (ne_eqb p (owner s j) other) (sym (where_true (half s (owner s j) == j) true (λ _. refl)))
            ]

    pub whole_keeps : Keeps whole_store order
    whole_keeps = record {
      homes_few = k.homes_few;
      size_few = k.size_few;
      owners_len = k.owners_len;
      counts_len = k.counts_len;
      mains_len = length-set s.mains p i ∙ k.mains_len;
      halves_len = length-set s.halves p m ∙ k.halves_len;
      nexts_len = k.nexts_len;
      fits = k.fits;
      is_order = k.is_order;
      homes = homes;
      marks = marks;
      some = k.some;
      counted = k.counted;
      leads_marked = t_marked whole_store order whole_marked (λ _. refl) refl;
      leads_all = t_led whole_store order whole_marked (λ _. refl) refl;
      leads_low = t_low whole_store order whole_marked (λ _. refl) refl;
      leads_once = t_once whole_store order whole_marked (λ _. refl) refl;
    }
      where
        homes : (w j : ℕ) → home s w ≡ Some j → IsHome s.owners (set s.mains p i) (set s.halves p m) s.used j
        homes w j e =
            let h = k.homes w j e in
            record {
              low = h.low;
              place = h.place;
              own = elim (cases_eq (owner s j) p) [
                | inl here ↦ inl (its_mark w j e here ∙ sym main_here ∙ ap (λ z. get_or (set s.mains p i) z 0) (sym here))
                | inr other ↦ elim (h.own) [
                  | inl first ↦ inl (first ∙ sym (main_there (owner s j) other))
                  | inr second ↦ inr (second ∙ sym (half_there (owner s j) other))
                ]
              ];
            }

        marks : (q : ℕ) → q < s.used → ArePlaceMarks s.owners (set s.mains p i) (set s.halves p m) s.used q
        marks q low =
            elim (cases_eq q p) [
              | inl here ↦ subst (ArePlaceMarks s.owners (set s.mains p i) (set s.halves p m) s.used) (sym here) (record {
                main_owner = ap (owner s) main_here ∙ sym turn.p_is;
                half_owner = ap (owner s) half_here ∙ main_owner;
                differ = λ e. differ (sym half_here ∙ sym e ∙ main_here);
                main_low = (let h = main_here in let l = mark_low in omega arith);
                half_low = (let h = half_here in let l = main_low in omega arith);
              })
              | inr other ↦
                  let h = k.marks q low in
                  record {
                    main_owner = ap (owner s) (main_there q other) ∙ h.main_owner;
                    half_owner = ap (owner s) (half_there q other) ∙ h.half_owner;
                    differ = λ e. h.differ (sym (main_there q other) ∙ e ∙ half_there q other);
                    main_low = (let e = main_there q other in let l = h.main_low in omega arith);
                    half_low = (let e = half_there q other in let l = h.half_low in omega arith);
                  }
            ]

    all_touched : (w : ℕ) → is_in (place_names s p) w ≡ true → is_in (filter (marked s) (numbers NAMES)) w ≡ true
    all_touched w st =
        let h = stands_home s order k p w (sym (in_names s order k p w) ∙ st) in
        let j_is = its_mark w h.0 h.1 (sym h.2) in
        in_touched s order k w ∙ ap (is_half s) h.1 ∙ eq-eqb (half s (owner s h.0)) h.0 (ap (half s) (sym h.2) ∙ half_is ∙ sym j_is)

    pub whole_shows : seen whole_store order ≡ settled (seen s order)
    whole_shows = shows whole_store order whole_marked (classes_same p p (place_names s) turned all order)
      where
        own : parts (is_in (filter (marked s) (numbers NAMES))) (place_names s p) ≡ place_names s p ∷ []
        own =
            rw (
              filter_all (is_in (filter (marked s) (numbers NAMES))) (place_names s p) all_touched,
              filter_none (λ w. not (is_in (filter (marked s) (numbers NAMES)) w)) (place_names s p) (λ w h. ap not (all_touched w h)),
              one_part (place_names s p) (in_some (place_names s p) v (in_names s order k p v ∙ v_stands)),
            )
            refl

        all : (q : ℕ) → turned (place_names s q) ≡ place_names s q ∷ []
        all q = elim (cases_eq q p) [
          | inl here ↦ ap (λ z. turned (place_names s z)) here ∙ turned_own ∙ own ∙ ap (λ z. place_names s z ∷ []) (sym here)
          | inr other ↦ turned_other q other
        ]

  -- ---- some names of the class aren't touched: they get a place of their own, behind

  module _ (nx : Option ℕ) (nx_is : nx ≡ get_or s.nexts p None) (some : get_or s.counts m 0 ≢ 0) where
    most : s.used ≤ s.size
    most = let l = k.is_order.within in let e = k.nexts_len in omega arith

    other_name : (w : ℕ) × (home s w ≡ Some m)
    other_name = some_counted m s.homes (λ e. some (k.counted m (let l = main_low in let h = most in omega arith) ∙ e))

    -- the place of a name then, which shows that there is room for one more
    abbrev place_then : Option ℕ → ℕ
    place_then None = 0
    place_then (Some j) = if j == m then s.used else owner s j

    then_other : (j : ℕ) → j ≢ m → place_then (Some j) ≡ owner s j
    then_other j other = rw (ne_eqb j m other) refl

    then_main : place_then (Some m) ≡ s.used
    then_main = rw (eq-eqb m m refl) refl

    -- the places then, by the places in the list of names
    abbrev place_of_name : ℕ → ℕ
    place_of_name z = place_then (home s (get_or k.fits.0 z 0))

    by_name : (w j q : ℕ) → home s w ≡ Some j → place_then (Some j) ≡ q → (z : ℕ) × (z < length k.fits.0) × (place_of_name z ≡ q)
    by_name w j q e is =
        let at = place_in k.fits.0 w (k.fits.2 w j e) in
        (at.0, at.1, ap (λ z. place_then (home s z)) at.2 ∙ ap place_then e ∙ is)

    pub room : s.used + 1 ≤ s.size
    room = let named = few (length k.fits.0) (s.used + 1) place_of_name onto in let most_names = k.fits.1 in omega arith
      where
        onto : (q : ℕ) → q < s.used + 1 → (z : ℕ) × (z < length k.fits.0) × (place_of_name z ≡ q)
        onto q low =
            elim (cases_eq q s.used) [
              | inl last ↦ by_name other_name.0 m q other_name.1 (then_main ∙ sym last)
              | inr before ↦ elim (cases_eq q p) [
                | inl here ↦ by_name v i q turn.is (then_other i (λ e. differ (sym e)) ∙ sym turn.p_is ∙ sym here)
                | inr there ↦
                    let w = k.some q (omega arith) in
                    let h = stands_home s order k q w.0 w.1 in
                    by_name w.0 h.0 q h.1 (then_other h.0 (λ e. there (h.2 ∙ ap (owner s) e ∙ main_owner)) ∙ sym h.2)
              ]
            ]

    abbrev pub part_store : MarkStore
    part_store = record s {
      owners = set (set (set s.owners m s.used) (2 * s.used) p) (2 * s.used + 1) s.used;
      mains = set (set s.mains p i) s.used m;
      halves = set (set s.halves p (2 * s.used)) s.used (2 * s.used + 1);
      nexts = set (set s.nexts s.used nx) p (Some s.used);
      used = s.used + 1;
      leads = ls;
      low = v;
    }

    owner_odd : owner part_store (2 * s.used + 1) ≡ s.used
    owner_odd =
        get_or-set_same (set (set s.owners m s.used) (2 * s.used) p) (2 * s.used + 1) s.used 0
        (let a = length-set s.owners m s.used in let b = length-set (set s.owners m s.used) (2 * s.used) p in let h = room in let e = k.owners_len in omega arith)

    owner_even : owner part_store (2 * s.used) ≡ p
    owner_even =
        get_or-set_other (set (set s.owners m s.used) (2 * s.used) p) (2 * s.used + 1) (2 * s.used) s.used 0 (λ e. omega arith)
        ∙ get_or-set_same (set s.owners m s.used) (2 * s.used) p 0 (let a = length-set s.owners m s.used in let h = room in let e = k.owners_len in omega arith)

    owner_before : (j : ℕ) → j < 2 * s.used → owner part_store j ≡ get_or (set s.owners m s.used) j 0
    owner_before j low =
        get_or-set_other (set (set s.owners m s.used) (2 * s.used) p) (2 * s.used + 1) j s.used 0 (λ e. omega arith)
        ∙ get_or-set_other (set s.owners m s.used) (2 * s.used) j p 0 (λ e. omega arith)

    owner_main : owner part_store m ≡ s.used
    owner_main = owner_before m main_low ∙ get_or-set_same s.owners m s.used 0 (let l = main_low in let h = most in let e = k.owners_len in omega arith)

    owner_other : (j : ℕ) → j < 2 * s.used → j ≢ m → owner part_store j ≡ owner s j
    owner_other j low other = owner_before j low ∙ get_or-set_other s.owners m j s.used 0 other

    not_new : (q : ℕ) → q < s.used → q ≢ s.used
    not_new q low e = omega arith

    main_new : main part_store s.used ≡ m
    main_new = get_or-set_same (set s.mains p i) s.used m 0 (let a = length-set s.mains p i in let h = room in let e = k.mains_len in omega arith)

    main_here2 : main part_store p ≡ i
    main_here2 =
        get_or-set_other (set s.mains p i) s.used p m 0 (not_new p place_low)
        ∙ get_or-set_same s.mains p i 0 (let l = place_low in let h = room in let e = k.mains_len in omega arith)

    main_there2 : (q : ℕ) → q ≢ p → q ≢ s.used → main part_store q ≡ main s q
    main_there2 q first second = get_or-set_other (set s.mains p i) s.used q m 0 second ∙ get_or-set_other s.mains p q i 0 first

    half_new : half part_store s.used ≡ 2 * s.used + 1
    half_new = get_or-set_same (set s.halves p (2 * s.used)) s.used (2 * s.used + 1) 0 (let a = length-set s.halves p (2 * s.used) in let h = room in let e = k.halves_len in omega arith)

    half_here2 : half part_store p ≡ 2 * s.used
    half_here2 =
        get_or-set_other (set s.halves p (2 * s.used)) s.used p (2 * s.used + 1) 0 (not_new p place_low)
        ∙ get_or-set_same s.halves p (2 * s.used) 0 (let l = place_low in let h = room in let e = k.halves_len in omega arith)

    half_there2 : (q : ℕ) → q ≢ p → q ≢ s.used → half part_store q ≡ half s q
    half_there2 q first second = get_or-set_other (set s.halves p (2 * s.used)) s.used q (2 * s.used + 1) 0 second ∙ get_or-set_other s.halves p q (2 * s.used) 0 first

    -- what is known of a mark that a name has: it is m, or i, or one of another place
    data Mark (j : ℕ) : Type 0 where
      is_main : j ≡ m → Mark j
      is_own : j ≡ i → owner part_store j ≡ p → Mark j
      is_far : owner s j ≢ p → owner s j < s.used → j ≢ m → owner part_store j ≡ owner s j → Mark j

    mark_of : (w j : ℕ) → home s w ≡ Some j → Mark j
    mark_of w j e =
        let h = k.homes w j e in
        elim (cases_eq j m) [
          | inl here ↦ is_main here
          | inr other ↦ elim (cases_eq (owner s j) p) [
            | inl own ↦ elim (of_place w j e own) [ inl first ↦ absurd (other first) | inr second ↦ is_own second (owner_other j h.low other ∙ own) ]
            | inr far ↦ is_far far h.place other (owner_other j h.low other)
          ]
        ]

    half_main : (half s p == m) ≡ false
    half_main = ne_eqb (half s p) m (λ e. differ (sym e ∙ half_is))

    -- the four tests of a mark
    part_marked_at : (w j : ℕ) → home s w ≡ Some j → Mark j → (half part_store (owner part_store j) == j) ≡ ((half s (owner s j) == j) && not (p == owner s j))
    part_marked_at w j e (is_main here) =
        let l = main_low in
        let off : (half part_store (owner part_store j) == j) ≡ false = ne_eqb (half part_store (owner part_store j)) j (λ q. let a = ap (λ z. half part_store (owner part_store z)) here ∙ ap (half part_store) owner_main ∙ half_new in omega arith) in
        let own : (p == owner s j) ≡ true = eq-eqb p (owner s j) (sym (ap (owner s) here ∙ main_owner)) in
        off ∙ rw own (sym (and_right (half s (owner s j) == j) false refl))
    part_marked_at w j e (is_own here own_t) =
        let l = (k.homes w j e).low in
        let off : (half part_store (owner part_store j) == j) ≡ false = ne_eqb (half part_store (owner part_store j)) j (λ q. let a = ap (half part_store) own_t ∙ half_here2 in omega arith) in
        let own : (p == owner s j) ≡ true = eq-eqb p (owner s j) (turn.p_is ∙ ap (owner s) (sym here)) in
        off ∙ rw own (sym (and_right (half s (owner s j) == j) false refl))
    part_marked_at w j e (is_far far low other same) =
        ap (λ z. z == j) (ap (half part_store) same ∙ half_there2 (owner s j) far (not_new (owner s j) low))
        ∙ rw (ne_eqb p (owner s j) (λ q. far (sym q))) (sym (where_true (half s (owner s j) == j) true (λ _. refl)))

    part_marked : (w : ℕ) → marked part_store w ≡ (marked s w && not (stands s p w))
    part_marked w = go (home s w) refl
      where
        go : (o : Option ℕ) → home s w ≡ o → is_half part_store o ≡ (is_half s o && not (is_mark_of s.owners p o))
        go None e = refl
        go (Some j) e = part_marked_at w j e (mark_of w j e)

    part_far_at : (q w j : ℕ) → q ≢ p → q ≢ s.used → Mark j → (q == owner part_store j) ≡ (q == owner s j)
    part_far_at q w j first second (is_main here) =
        ne_eqb q (owner part_store j) (λ e. second (e ∙ ap (owner part_store) here ∙ owner_main))
        ∙ sym (ne_eqb q (owner s j) (λ e. first (e ∙ ap (owner s) here ∙ main_owner)))
    part_far_at q w j first second (is_own here own_t) =
        ne_eqb q (owner part_store j) (λ e. first (e ∙ own_t))
        ∙ sym (ne_eqb q (owner s j) (λ e. first (e ∙ ap (owner s) here ∙ sym turn.p_is)))
    part_far_at q w j first second (is_far far low other same) = ap (λ z. q == z) same

    part_far : (q w : ℕ) → q ≢ p → q ≢ s.used → stands part_store q w ≡ stands s q w
    part_far q w first second = go (home s w) refl
      where
        go : (o : Option ℕ) → home s w ≡ o → is_mark_of part_store.owners q o ≡ is_mark_of s.owners q o
        go None e = refl
        go (Some j) e = part_far_at q w j first second (mark_of w j e)

    part_own_at : (j : ℕ) → Mark j → (p == owner part_store j) ≡ ((p == owner s j) && (half s (owner s j) == j))
    part_own_at j (is_main here) =
        let off : (half s (owner s j) == j) ≡ false = ap (λ z. half s (owner s z) == z) here ∙ ap (λ z. half s z == m) main_owner ∙ half_main in
        ne_eqb p (owner part_store j) (λ e. not_new p place_low (e ∙ ap (owner part_store) here ∙ owner_main))
        ∙ rw off (sym (and_right (p == owner s j) false refl))
    part_own_at j (is_own here own_t) =
        let own : (p == owner s j) ≡ true = eq-eqb p (owner s j) (turn.p_is ∙ ap (owner s) (sym here)) in
        let on : (half s (owner s j) == j) ≡ true = eq-eqb (half s (owner s j)) j (ap (half s) (ap (owner s) here ∙ sym turn.p_is) ∙ half_is ∙ sym here) in
        eq-eqb p (owner part_store j) (sym own_t) ∙ rw (own, on) refl
    part_own_at j (is_far far low other same) =
        ap (λ z. p == z) same ∙ rw (ne_eqb p (owner s j) (λ q. far (sym q))) refl

    part_own : (w : ℕ) → stands part_store p w ≡ (stands s p w && marked s w)
    part_own w = go (home s w) refl
      where
        go : (o : Option ℕ) → home s w ≡ o → is_mark_of part_store.owners p o ≡ (is_mark_of s.owners p o && is_half s o)
        go None e = refl
        go (Some j) e = part_own_at j (mark_of w j e)

    part_new_at : (j : ℕ) → Mark j → (s.used == owner part_store j) ≡ ((p == owner s j) && not (half s (owner s j) == j))
    part_new_at j (is_main here) =
        let off : (half s (owner s j) == j) ≡ false = ap (λ z. half s (owner s z) == z) here ∙ ap (λ z. half s z == m) main_owner ∙ half_main in
        let own : (p == owner s j) ≡ true = eq-eqb p (owner s j) (sym (ap (owner s) here ∙ main_owner)) in
        eq-eqb s.used (owner part_store j) (sym (ap (owner part_store) here ∙ owner_main)) ∙ rw (own, off) refl
    part_new_at j (is_own here own_t) =
        let own : (p == owner s j) ≡ true = eq-eqb p (owner s j) (turn.p_is ∙ ap (owner s) (sym here)) in
        let on : (half s (owner s j) == j) ≡ true = eq-eqb (half s (owner s j)) j (ap (half s) (ap (owner s) here ∙ sym turn.p_is) ∙ half_is ∙ sym here) in
        ne_eqb s.used (owner part_store j) (λ e. not_new p place_low (sym own_t ∙ sym e)) ∙ rw (own, on) refl
    part_new_at j (is_far far low other same) =
        ne_eqb s.used (owner part_store j) (λ e. not_new (owner s j) low (sym same ∙ sym e))
        ∙ rw (ne_eqb p (owner s j) (λ q. far (sym q))) refl

    part_new : (w : ℕ) → stands part_store s.used w ≡ (stands s p w && not (marked s w))
    part_new w = go (home s w) refl
      where
        go : (o : Option ℕ) → home s w ≡ o → is_mark_of part_store.owners s.used o ≡ (is_mark_of s.owners p o && not (is_half s o))
        go None e = refl
        go (Some j) e = part_new_at j (mark_of w j e)

    part_order : IsPlaceOrder (set (set s.nexts s.used nx) p (Some s.used)) s.first (inserted p s.used order) (s.used + 1)
    part_order =
        let l = place_low in
        let h = room in
        let e = k.nexts_len in
        subst (λ z. IsPlaceOrder (set (set s.nexts s.used z) p (Some s.used)) s.first (inserted p s.used order) (s.used + 1)) (sym nx_is)
        (order_inserted p s.used s.nexts (omega arith) (omega arith) (not_new p place_low) s.first order k.is_order place_low)

    u_main : marked s other_name.0 ≡ false
    u_main = ap (is_half s) other_name.1 ∙ ap (λ z. half s z == m) main_owner ∙ half_main

    u_stands : stands s p other_name.0 ≡ true
    u_stands = ap (is_mark_of s.owners p) other_name.1 ∙ eq-eqb p (owner s m) (sym main_owner)

    u_new : stands part_store s.used other_name.0 ≡ true
    u_new = part_new other_name.0 ∙ rw (u_stands, u_main) refl

    v_own : stands part_store p v ≡ true
    v_own = part_own v ∙ rw (v_stands, k.leads_marked v turn.lead) refl

    part_home : (j : ℕ) → j < 2 * s.used → Mark j → ((j ≡ main s (owner s j)) ⊎ (j ≡ half s (owner s j))) → IsHome part_store.owners part_store.mains part_store.halves (s.used + 1) j
    part_home j low (is_main here) own = record {
      low = omega arith;
      place = (let e = ap (owner part_store) here ∙ owner_main in omega arith);
      own = inl (here ∙ sym main_new ∙ ap (main part_store) (sym (ap (owner part_store) here ∙ owner_main)));
    }
    part_home j low (is_own here own_t) own = record {
      low = omega arith;
      place = (let e = own_t in let l = place_low in omega arith);
      own = inl (here ∙ sym main_here2 ∙ ap (main part_store) (sym own_t));
    }
    part_home j low (is_far far less other same) own = record {
      low = omega arith;
      place = (let e = same in omega arith);
      own = elim own [
        | inl first ↦ inl (first ∙ sym (ap (main part_store) same ∙ main_there2 (owner s j) far (not_new (owner s j) less)))
        | inr second ↦ inr (second ∙ sym (ap (half part_store) same ∙ half_there2 (owner s j) far (not_new (owner s j) less)))
      ];
    }

    part_marks : (q : ℕ) → q < s.used + 1 → ArePlaceMarks part_store.owners part_store.mains part_store.halves (s.used + 1) q
    part_marks q low =
        elim (cases_eq q s.used) [
          | inl last ↦ subst (ArePlaceMarks part_store.owners part_store.mains part_store.halves (s.used + 1)) (sym last) (record {
            main_owner = ap (owner part_store) main_new ∙ owner_main;
            half_owner = ap (owner part_store) half_new ∙ owner_odd;
            differ = λ e. let a = main_new in let b = half_new in let l = main_low in omega arith;
            main_low = (let a = main_new in let l = main_low in omega arith);
            half_low = (let b = half_new in omega arith);
          })
          | inr before ↦ elim (cases_eq q p) [
            | inl here ↦ subst (ArePlaceMarks part_store.owners part_store.mains part_store.halves (s.used + 1)) (sym here) (record {
              main_owner = ap (owner part_store) main_here2 ∙ owner_other i mark_low (λ e. differ (sym e)) ∙ sym turn.p_is;
              half_owner = ap (owner part_store) half_here2 ∙ owner_even;
              differ = λ e. let a = main_here2 in let b = half_here2 in let l = mark_low in omega arith;
              main_low = (let a = main_here2 in let l = mark_low in omega arith);
              half_low = (let b = half_here2 in omega arith);
            })
            | inr there ↦
                let h = k.marks q (omega arith) in
                let main_is = main_there2 q there before in
                let half_q = half_there2 q there before in
                let main_l = h.main_low in
                let half_l = h.half_low in
                record {
                  main_owner = ap (owner part_store) main_is ∙ owner_other (main s q) main_l (λ e. there (sym h.main_owner ∙ ap (owner s) e ∙ main_owner)) ∙ h.main_owner;
                  half_owner = ap (owner part_store) half_q ∙ owner_other (half s q) half_l (λ e. there (sym h.half_owner ∙ ap (owner s) e ∙ main_owner)) ∙ h.half_owner;
                  differ = λ e. h.differ (sym main_is ∙ e ∙ half_q);
                  main_low = omega arith;
                  half_low = omega arith;
                }
          ]
        ]

    part_some : (q : ℕ) → q < s.used + 1 → (w : ℕ) × (stands part_store q w ≡ true)
    part_some q low =
        elim (cases_eq q s.used) [
          | inl last ↦ (other_name.0, ap (λ z. stands part_store z other_name.0) last ∙ u_new)
          | inr before ↦ elim (cases_eq q p) [
            | inl here ↦ (v, ap (λ z. stands part_store z v) here ∙ v_own)
            | inr there ↦ let w = k.some q (omega arith) in (w.0, part_far q w.0 there before ∙ w.1)
          ]
        ]

    pub part_keeps : Keeps part_store (inserted p s.used order)
    part_keeps = record {
      homes_few = k.homes_few;
      size_few = k.size_few;
      owners_len = length-set (set (set s.owners m s.used) (2 * s.used) p) (2 * s.used + 1) s.used ∙ length-set (set s.owners m s.used) (2 * s.used) p ∙ length-set s.owners m s.used ∙ k.owners_len;
      counts_len = k.counts_len;
      mains_len = length-set (set s.mains p i) s.used m ∙ length-set s.mains p i ∙ k.mains_len;
      halves_len = length-set (set s.halves p (2 * s.used)) s.used (2 * s.used + 1) ∙ length-set s.halves p (2 * s.used) ∙ k.halves_len;
      nexts_len = length-set (set s.nexts s.used nx) p (Some s.used) ∙ length-set s.nexts s.used nx ∙ k.nexts_len;
      fits = k.fits;
      is_order = part_order;
      homes = λ w j e. let h = k.homes w j e in part_home j h.low (mark_of w j e) h.own;
      marks = part_marks;
      some = part_some;
      counted = k.counted;
      leads_marked = t_marked part_store (inserted p s.used order) part_marked (λ _. refl) refl;
      leads_all = t_led part_store (inserted p s.used order) part_marked (λ _. refl) refl;
      leads_low = t_low part_store (inserted p s.used order) part_marked (λ _. refl) refl;
      leads_once = t_once part_store (inserted p s.used order) part_marked (λ _. refl) refl;
    }

    own_names : filter (is_in (filter (marked s) (numbers NAMES))) (place_names s p) ≡ place_names part_store p
    own_names =
        filter_same (is_in (filter (marked s) (numbers NAMES))) (marked s) (place_names s p) (λ w _. in_touched s order k w)
        ∙ filter_twice (stands s p) (marked s) (numbers NAMES)
        ∙ sym (filter_agree (stands part_store p) (λ w. stands s p w && marked s w) part_own (numbers NAMES))

    new_names : filter (λ w. not (is_in (filter (marked s) (numbers NAMES)) w)) (place_names s p) ≡ place_names part_store s.used
    new_names =
        filter_same (λ w. not (is_in (filter (marked s) (numbers NAMES)) w)) (λ w. not (marked s w)) (place_names s p) (λ w _. ap not (in_touched s order k w))
        ∙ filter_twice (stands s p) (λ w. not (marked s w)) (numbers NAMES)
        ∙ sym (filter_agree (stands part_store s.used) (λ w. stands s p w && not (marked s w)) part_new (numbers NAMES))

    pub part_shows : seen part_store (inserted p s.used order) ≡ settled (seen s order)
    part_shows =
        shows part_store (inserted p s.used order) part_marked
        (classes_inserted p s.used (place_names s) (place_names part_store) turned same here turned_other order once new)
      where
        same : (q : ℕ) → q ≢ p → q ≢ s.used → place_names part_store q ≡ place_names s q
        same q first second = filter_agree (stands part_store q) (stands s q) (λ w. part_far q w first second) (numbers NAMES)

        here : turned (place_names s p) ≡ place_names part_store p ∷ place_names part_store s.used ∷ []
        here =
            let first = in_some (place_names part_store p) v (in_names part_store (inserted p s.used order) part_keeps p v ∙ v_own) in
            let second = in_some (place_names part_store s.used) other_name.0 (in_names part_store (inserted p s.used order) part_keeps s.used other_name.0 ∙ u_new) in
            turned_own ∙ rw (own_names, new_names, one_part (place_names part_store p) first, one_part (place_names part_store s.used) second) refl

        once : times p order ≤ 1
        once = let o = k.is_order.once p in grind (arith, nat_tests)

        new : (q : ℕ) → is_in order q ≡ true → q ≢ s.used
        new q t e = let l = order_low s order k q t in omega arith

-- ---- what `settle` reads

pub lead_within : (a : Inside) (kept : KeepsPartition a) (v : ℕ) → Has a.leads v → v < length a.homes.items
lead_within a kept v lead =
    let h = marked_home (marks_kept a) kept.0 kept.1 v (kept.1.leads_marked v lead) in
    name_within (marks_kept a) kept.0 kept.1 v h.0 h.1

module _ (a : Inside) (kept : KeepsPartition a) (v i : ℕ) (o : Option ℕ) (found : IsLeastFrom a.leads a.low v) (read : o ≡ get_or a.homes.items v o) (o_is : o ≡ Some i) where
  read_home : home (marks_kept a) v ≡ Some i
  read_home = sym (get_or_read a.homes.items v o (let w = lead_within a kept v found.member in omega arith) read None) ∙ o_is

  used_most : a.used ≤ vec_len a.nexts
  used_most = let l = kept.1.is_order.within in let e = kept.1.nexts_len in omega arith

  pub half_fits : i < 2 * vec_len a.nexts
  half_fits = let h = (kept.1.homes v i read_home).low in let u = used_most in omega arith

  module _ (p : ℕ) (p_read : p ≡ get_or a.owners.items i p) where
    place_is : p ≡ owner (marks_kept a) i
    place_is = get_or_read a.owners.items i p (let e = kept.1.owners_len in let h = half_fits in omega arith) p_read 0

    pub place_fits : p < vec_len a.nexts
    place_fits = let h = (kept.1.homes v i read_home).place in let e = place_is in let u = used_most in omega arith

    module _ (m : ℕ) (m_read : m ≡ get_or a.mains.items p m) where
      pub turn_read : Turn (marks_kept a) v i p m
      turn_read = record {
        is = read_home;
        lead = found.member;
        least = λ w h. found.first w h (kept.1.leads_low w h);
        p_is = place_is;
        m_is = get_or_read a.mains.items p m (let e = kept.1.mains_len in let h = place_fits in omega arith) m_read 0;
      }

      pub main_fits : m < 2 * vec_len a.nexts
      main_fits = let h = main_low (marks_kept a) kept.0 kept.1 v i p m turn_read (sets.remove a.leads v) refl in let u = used_most in omega arith

      module _ (n : ℕ) (n_read : n ≡ get_or a.counts.items m n) where
        count_is : n ≡ get_or a.counts.items m 0
        count_is = get_or_read a.counts.items m n (let e = kept.1.counts_len in let h = main_fits in omega arith) n_read 0

        pub whole_read : n ≡ 0 → get_or a.counts.items m 0 ≡ 0
        whole_read e = sym count_is ∙ e

        pub part_read : (n ≡ 0 → ⊥) → get_or a.counts.items m 0 ≢ 0
        part_read e z = e (count_is ∙ z)

        pub room_fits : (n ≡ 0 → ⊥) → a.used < vec_len a.nexts
        room_fits e = let r = room (marks_kept a) kept.0 kept.1 v i p m turn_read (sets.remove a.leads v) refl (get_or a.nexts.items p None) refl (part_read e) in omega arith
