-- A name becomes touched: it gets the other mark of its place.
use Rattle.std.proofs.Common.{Option, None, ◌*◌, ◌≤◌, ◌≡◌, ◌≢◌, ℕ, ◌+◌, ◌-◌, ◌<◌, true, false, ◌==◌, if◌then◌else◌, List, [], ◌∷◌, map, length, vec_len, get_or, set, Some, is_some, refl, sym, ◌∙◌, ap, subst, inl, inr, arith, min}
use Rattle.std.specs.List.{count_by}
use Rattle.std.specs.FinSet as sets
use Rattle.std.proofs.lemmas.Bool.{cases_eq, eq-eqb, ne_eqb, false≢true, false_from_ne_true}
use Rattle.std.proofs.lemmas.Option.{same_Some}
use Rattle.std.proofs.lemmas.List.{get_or-set_same, get_or-set_other, length-set, get_or_read}
use Rattle.std.proofs.lemmas.List.Elements.{filter_agree}
use Rattle.std.proofs.lemmas.List.Sums.{count_by-le-length}
use Rattle.md_graph.specs.declared.TheConstants.{NAMES}
use Rattle.md_graph.specs.Sets.{NameSet, Has}
use Rattle.md_graph.proofs.SetLemmas.{insert_new, insert_old, of_insert, Has-along}
use Rattle.md_refine.specs.declared.partition.Partition.TheInside.{Inside}
use Rattle.md_refine.specs.Partitions.{Classes, is_in, is_name, touching}
use Rattle.md_refine.specs.Slots.{MarkStore, numbers, home, owner, half, is_mark_of, is_half, is_mark, stands, marked, place_names, ArePlaceMarks, IsHome, MarksFit, Keeps, partition_of}
use Rattle.md_refine.specs.Kept.{marks_kept, partition_kept, KeepsPartition}
use Rattle.md_refine.proofs.Lists.{one_more}
use Rattle.md_refine.proofs.Showing.{seen, shown, name_within, name_low, named, in_touched, opened, opened_partition}
use Rattle.md_refine.proofs.Counts.{counted_one, some_counted, counted_less, counted_more, counted_same}

-- ---- maps

pub map_same : (f g : ℕ → List ℕ) (xs : List ℕ) → ((x : ℕ) → f x ≡ g x) → map f xs ≡ map g xs
map_same f g [] same = refl
map_same f g (x ∷ xs) same = λ i. same x i ∷ map_same f g xs same i

-- what is kept where v gets the mark h in place of i; x and y are the counts that were read, ls and
-- low the leads then
abbrev pub touched_with : MarkStore → (v i h x y low : ℕ) → NameSet → MarkStore
touched_with s v i h x y low ls = record s { homes = set s.homes v (Some h); counts = set (set s.counts i (x - 1)) h (y + 1); leads = ls; low = low }

-- ---- a name that can be touched

module _ (a : Inside) (p : Classes) (kept : KeepsPartition a) (is : partition_kept a ≡ p) (v : ℕ) where
  has_mark : is_name p.classes v ≡ true → is_some (home (marks_kept a) v) ≡ true
  has_mark name =
      sym (named (marks_kept a) kept.0 kept.1 v) ∙ sym (ap (λ (q : Classes). is_name q.classes v) (opened a p kept is)) ∙ name

  above_marked : ((w : ℕ) → is_in p.touched w ≡ true → w < v) → (w : ℕ) → marked (marks_kept a) w ≡ true → w < v
  above_marked above w m =
      above w (ap (λ (q : Classes). is_in q.touched w) (opened a p kept is) ∙ in_touched (marks_kept a) kept.0 kept.1 w ∙ m)

module _ (s : MarkStore) (order : List ℕ) (k : Keeps s order) (v i : ℕ) (is : home s v ≡ Some i) (above : (w : ℕ) → marked s w ≡ true → w < v) where
  touch_low : v < length s.homes
  touch_low = name_within s order k v i is

  mark_low : i < 2 * s.size
  mark_low = let h = k.homes v i is in let low = h.low in let most = k.is_order.within in let long = k.nexts_len in omega arith

  place_low : owner s i < s.size
  place_low = let h = k.homes v i is in let low = h.place in let most = k.is_order.within in let long = k.nexts_len in omega arith

  its_marks : ArePlaceMarks s.owners s.mains s.halves s.used (owner s i)
  its_marks = k.marks (owner s i) (k.homes v i is).place

  half_low : half s (owner s i) < 2 * s.size
  half_low = let low = its_marks.half_low in let most = k.is_order.within in let long = k.nexts_len in omega arith

  untouched : marked s v ≡ false
  untouched = false_from_ne_true (marked s v) (λ m. let h = above v m in omega arith)

  differ : i ≢ half s (owner s i)
  differ e = false≢true (sym untouched ∙ ap (is_half s) is ∙ eq-eqb (half s (owner s i)) i (sym e))

  count_some : 1 ≤ get_or s.counts i 0
  count_some = let e = k.counted i mark_low in let one = counted_one i s.homes v is in omega arith

  count_most : (j : ℕ) → j < 2 * s.size → get_or s.counts j 0 ≤ NAMES
  count_most j low = let e = k.counted j low in let most = count_by-le-length (is_mark j) s.homes in let long = k.homes_few in omega arith

  module _ (x y low : ℕ) (ls : NameSet) (low_is : low ≡ min s.low v) (x_is : x ≡ get_or s.counts i 0) (y_is : y ≡ get_or (set s.counts i (x - 1)) (half s (owner s i)) 0)
      (ls_are : ls ≡ (if get_or s.counts (half s (owner s i)) 0 == 0 then sets.insert s.leads v else s.leads)) where
    -- what is kept then
    abbrev pub touched_store : MarkStore
    touched_store = record s { homes = set s.homes v (Some (half s (owner s i))); counts = set (set s.counts i (x - 1)) (half s (owner s i)) (y + 1); leads = ls; low = low }

    home_here : home touched_store v ≡ Some (half s (owner s i))
    home_here = get_or-set_same s.homes v (Some (half s (owner s i))) None touch_low

    home_there : (w : ℕ) → w ≢ v → home touched_store w ≡ home s w
    home_there w other = get_or-set_other s.homes v w (Some (half s (owner s i))) None other

    stands_same : (q w : ℕ) → stands touched_store q w ≡ stands s q w
    stands_same q w =
        elim (cases_eq w v) [
          | inl here ↦
              ap (λ z. is_mark_of s.owners q (home touched_store z)) here
              ∙ ap (is_mark_of s.owners q) home_here
              ∙ ap (λ z. q == z) its_marks.half_owner
              ∙ sym (ap (λ z. is_mark_of s.owners q (home s z)) here ∙ ap (is_mark_of s.owners q) is)
          | inr other ↦ ap (is_mark_of s.owners q) (home_there w other)
        ]

    marked_here : marked touched_store v ≡ true
    marked_here =
        ap (is_half s) home_here ∙ eq-eqb (half s (owner s (half s (owner s i)))) (half s (owner s i)) (ap (half s) its_marks.half_owner)

    marked_there : (w : ℕ) → w ≢ v → marked touched_store w ≡ marked s w
    marked_there w other = ap (is_half s) (home_there w other)

    not_here : (w : ℕ) → marked s w ≡ true → w ≢ v
    not_here w m e = let h = above w m in omega arith

    homes_kept : (w j : ℕ) → home touched_store w ≡ Some j → IsHome s.owners s.mains s.halves s.used j
    homes_kept w j e =
        elim (cases_eq w v) [
          | inl here ↦
              subst (IsHome s.owners s.mains s.halves s.used) (same_Some (half s (owner s i)) j (sym home_here ∙ sym (ap (home touched_store) here) ∙ e))
              (record {
                low = its_marks.half_low;
                place = (let o = its_marks.half_owner in let h = (k.homes v i is).place in omega arith);
                own = inr (sym (ap (half s) its_marks.half_owner));
              })
          | inr other ↦ k.homes w j (sym (home_there w other) ∙ e)
        ]

    counted_kept : (j : ℕ) → j < 2 * s.size → get_or (set (set s.counts i (x - 1)) (half s (owner s i)) (y + 1)) j 0 ≡ count_by (is_mark j) (set s.homes v (Some (half s (owner s i))))
    counted_kept j low =
        let long = length-set s.counts i (x - 1) in
        let counts_long = k.counts_len in
        let ilow = mark_low in
        let dlow = half_low in
        let within = touch_low in
        let before = k.counted j low in
        elim (cases_eq j (half s (owner s i))) [
          | inl here ↦
              let read = ap (λ z. get_or (set (set s.counts i (x - 1)) (half s (owner s i)) (y + 1)) z 0) here ∙ get_or-set_same (set s.counts i (x - 1)) (half s (owner s i)) (y + 1) 0 (omega arith) in
              let had = y_is ∙ get_or-set_other s.counts i (half s (owner s i)) (x - 1) 0 (λ e. differ (sym e)) ∙ k.counted (half s (owner s i)) half_low in
              let more = counted_more s.homes v i (half s (owner s i)) within is differ in
              read ∙ ap (λ z. z + 1) had ∙ sym more ∙ ap (λ z. count_by (is_mark z) (set s.homes v (Some (half s (owner s i))))) (sym here)
          | inr other ↦
              let past = get_or-set_other (set s.counts i (x - 1)) (half s (owner s i)) j (y + 1) 0 other in
              elim (cases_eq j i) [
                | inl here ↦
                    let read = ap (λ z. get_or (set s.counts i (x - 1)) z 0) here ∙ get_or-set_same s.counts i (x - 1) 0 (omega arith) in
                    let less = counted_less s.homes v i (half s (owner s i)) within is differ in
                    let had = x_is ∙ k.counted i mark_low in
                    past ∙ read ∙ (let e : x - 1 ≡ count_by (is_mark i) (set s.homes v (Some (half s (owner s i)))) = omega arith in e)
                    ∙ ap (λ z. count_by (is_mark z) (set s.homes v (Some (half s (owner s i))))) (sym here)
                | inr there ↦
                    past ∙ get_or-set_other s.counts i j (x - 1) 0 there ∙ before
                    ∙ sym (counted_same s.homes v i (half s (owner s i)) within is differ j (λ e. there (sym e)) (λ e. other (sym e)))
              ]
        ]

    -- no lead is v, before
    lead_there : (l : ℕ) → Has s.leads l → l ≢ v
    lead_there l m = not_here l (k.leads_marked l m)

    no_half : get_or s.counts (half s (owner s i)) 0 ≡ 0 → (w : ℕ) → home s w ≡ Some (half s (owner s i)) → ⊥
    no_half none w e = let c = k.counted (half s (owner s i)) half_low in let one = counted_one (half s (owner s i)) s.homes w e in omega arith

    -- a lead of the mark, where it has a name
    some_lead : get_or s.counts (half s (owner s i)) 0 ≢ 0 → (l : ℕ) × Has s.leads l × (l ≤ v) × (home s l ≡ Some (half s (owner s i)))
    some_lead some =
        let w = some_counted (half s (owner s i)) s.homes (λ e. some (k.counted (half s (owner s i)) half_low ∙ e)) in
        let m : marked s w.0 ≡ true = ap (is_half s) w.1 ∙ eq-eqb (half s (owner s (half s (owner s i)))) (half s (owner s i)) (ap (half s) its_marks.half_owner) in
        let l = k.leads_all w.0 m in
        let less = above w.0 m in
        let most = l.2 in
        (l.0, l.1, omega arith, l.3 ∙ w.1)

    record Leads : Type 0 where
      all_marked : (w : ℕ) → Has ls w → marked touched_store w ≡ true
      all_led : (w : ℕ) → marked touched_store w ≡ true → (l : ℕ) × Has ls l × (l ≤ w) × (home touched_store l ≡ home touched_store w)
      all_once : (w z : ℕ) → Has ls w → Has ls z → home touched_store w ≡ home touched_store z → w ≡ z
      all_low : (w : ℕ) → Has ls w → low ≤ w

    old_led : (w : ℕ) → w ≢ v → marked touched_store w ≡ true → (l : ℕ) × Has s.leads l × (l ≤ w) × (home touched_store l ≡ home touched_store w)
    old_led w other m =
        let l = k.leads_all w (sym (marked_there w other) ∙ m) in
        (l.0, l.1, l.2, home_there l.0 (lead_there l.0 l.1) ∙ l.3 ∙ sym (home_there w other))

    old_once : (w z : ℕ) → Has s.leads w → Has s.leads z → home touched_store w ≡ home touched_store z → w ≡ z
    old_once w z m n e = k.leads_once w z m n (sym (home_there w (lead_there w m)) ∙ e ∙ home_there z (lead_there z n))

    leads_first : get_or s.counts (half s (owner s i)) 0 ≡ 0 → Leads
    leads_first none =
        let are : ls ≡ sets.insert s.leads v = ls_are ∙ rw (eq-eqb (get_or s.counts (half s (owner s i)) 0) 0 none) refl in
        record {
          all_marked = λ w m. elim (of_insert s.leads v w (Has-along ls (sets.insert s.leads v) are w m)) [
            | inl here ↦ ap (marked touched_store) here ∙ marked_here
            | inr old ↦ marked_there w (lead_there w old) ∙ k.leads_marked w old
          ];
          all_led = λ w m. elim (cases_eq w v) [
            | inl here ↦ (v, Has-along (sets.insert s.leads v) ls (sym are) v (insert_new s.leads v), (let e = here in omega arith), ap (home touched_store) (sym here))
            | inr other ↦ let l = old_led w other m in (l.0, Has-along (sets.insert s.leads v) ls (sym are) l.0 (insert_old s.leads v l.0 l.1), l.2, l.3)
          ];
          all_once = λ w z m n e. elim (of_insert s.leads v w (Has-along ls (sets.insert s.leads v) are w m)) [
            | inl here ↦ elim (of_insert s.leads v z (Has-along ls (sets.insert s.leads v) are z n)) [
              | inl too ↦ here ∙ sym too
              | inr old ↦ absurd (no_half none z (sym (home_there z (lead_there z old)) ∙ sym e ∙ ap (home touched_store) here ∙ home_here))
            ]
            | inr old ↦ elim (of_insert s.leads v z (Has-along ls (sets.insert s.leads v) are z n)) [
              | inl too ↦ absurd (no_half none w (sym (home_there w (lead_there w old)) ∙ e ∙ ap (home touched_store) too ∙ home_here))
              | inr both ↦ old_once w z old both e
            ]
          ];
          all_low = λ w m. elim (of_insert s.leads v w (Has-along ls (sets.insert s.leads v) are w m)) [
            | inl here ↦ omega arith
            | inr old ↦ let l = k.leads_low w old in omega arith
          ];
        }

    leads_more : get_or s.counts (half s (owner s i)) 0 ≢ 0 → Leads
    leads_more some =
        let are : ls ≡ s.leads = ls_are ∙ rw (ne_eqb (get_or s.counts (half s (owner s i)) 0) 0 some) refl in
        record {
          all_marked = λ w m. let old = Has-along ls s.leads are w m in marked_there w (lead_there w old) ∙ k.leads_marked w old;
          all_led = λ w m. elim (cases_eq w v) [
            | inl here ↦
                let l = some_lead some in
                let low = l.2 in
                (l.0, Has-along s.leads ls (sym are) l.0 l.1, (let e = here in omega arith), home_there l.0 (lead_there l.0 l.1) ∙ l.3 ∙ sym (ap (home touched_store) here ∙ home_here))
            | inr other ↦ let l = old_led w other m in (l.0, Has-along s.leads ls (sym are) l.0 l.1, l.2, l.3)
          ];
          all_once = λ w z m n e. old_once w z (Has-along ls s.leads are w m) (Has-along ls s.leads are z n) e;
          all_low = λ w m. let l = k.leads_low w (Has-along ls s.leads are w m) in omega arith;
        }

    leads_kept : Leads
    leads_kept = elim (cases_eq (get_or s.counts (half s (owner s i)) 0) 0) [ inl none ↦ leads_first none | inr some ↦ leads_more some ]

    fits_kept : MarksFit touched_store.homes s.size
    fits_kept = (
      k.fits.0,
      k.fits.1,
      λ w j e. elim (cases_eq w v) [
        | inl here ↦ ap (is_in k.fits.0) here ∙ k.fits.2 v i is
        | inr other ↦ k.fits.2 w j (sym (home_there w other) ∙ e)
      ],
    )

    touch_keeps : Keeps touched_store order
    touch_keeps = record {
      homes_few = (let e = length-set s.homes v (Some (half s (owner s i))) in let few = k.homes_few in omega arith);
      size_few = k.size_few;
      owners_len = k.owners_len;
      counts_len = length-set (set s.counts i (x - 1)) (half s (owner s i)) (y + 1) ∙ length-set s.counts i (x - 1) ∙ k.counts_len;
      mains_len = k.mains_len;
      halves_len = k.halves_len;
      nexts_len = k.nexts_len;
      fits = fits_kept;
      is_order = k.is_order;
      homes = homes_kept;
      marks = k.marks;
      some = λ q h. let w = k.some q h in (w.0, stands_same q w.0 ∙ w.1);
      counted = counted_kept;
      leads_marked = leads_kept.all_marked;
      leads_all = leads_kept.all_led;
      leads_low = leads_kept.all_low;
      leads_once = leads_kept.all_once;
    }

    touch_shows : seen touched_store order ≡ touching (seen s order) v
    touch_shows =
        let same = map_same (place_names touched_store) (place_names s) order (λ q. filter_agree (stands touched_store q) (stands s q) (stands_same q) (numbers NAMES)) in
        let more = one_more (marked s) (marked touched_store) NAMES v (name_low s order k v i is) untouched marked_here marked_there above in
        λ j. record { classes = same j; touched = more j }

  count_fits : (h x y : ℕ) → h ≡ half s (owner s i) → y ≡ get_or (set s.counts i (x - 1)) h 0 → y ≤ NAMES
  count_fits h x y h_is y_is =
      let other = get_or-set_other s.counts i (half s (owner s i)) (x - 1) 0 (λ e. differ (sym e)) in
      let same = y_is ∙ ap (λ z. get_or (set s.counts i (x - 1)) z 0) h_is ∙ other in
      let most = count_most (half s (owner s i)) half_low in
      omega arith

  -- the same, where the other mark of the place was read as h
  module _ (h x y low : ℕ) (ls : NameSet) (low_is : low ≡ min s.low v) (h_is : h ≡ half s (owner s i)) (x_is : x ≡ get_or s.counts i 0) (y_is : y ≡ get_or (set s.counts i (x - 1)) h 0)
      (ls_are : ls ≡ (if get_or s.counts h 0 == 0 then sets.insert s.leads v else s.leads)) where
    y_here : y ≡ get_or (set s.counts i (x - 1)) (half s (owner s i)) 0
    y_here = y_is ∙ ap (λ z. get_or (set s.counts i (x - 1)) z 0) h_is

    ls_here : ls ≡ (if get_or s.counts (half s (owner s i)) 0 == 0 then sets.insert s.leads v else s.leads)
    ls_here = ls_are ∙ ap (λ z. if get_or s.counts z 0 == 0 then sets.insert s.leads v else s.leads) h_is

    keeps_with : Keeps (touched_with s v i h x y low ls) order
    keeps_with = subst (λ z. Keeps (touched_with s v i z x y low ls) order) (sym h_is) (touch_keeps x y low ls low_is x_is y_here ls_here)

    shows_with : seen (touched_with s v i h x y low ls) order ≡ touching (seen s order) v
    shows_with = subst (λ z. seen (touched_with s v i z x y low ls) order ≡ touching (seen s order) v) (sym h_is) (touch_shows x y low ls low_is x_is y_here ls_here)

-- ---- what `touch` reads

module _ (a : Inside) (p : Classes) (kept : KeepsPartition a) (is : partition_kept a ≡ p) (v : ℕ) (name : is_name p.classes v ≡ true) (above : (w : ℕ) → is_in p.touched w ≡ true → w < v) where
  pub name_fits : v < NAMES
  name_fits = (opened_partition a p kept is).names v name

  pub name_kept : v < vec_len a.homes
  name_kept = go (home (marks_kept a) v) refl (has_mark a p kept is v name)
    where
      go : (o : Option ℕ) → home (marks_kept a) v ≡ o → is_some o ≡ true → v < vec_len a.homes
      go None e t = absurd (false≢true t)
      go (Some i) e t = let w = name_within (marks_kept a) kept.0 kept.1 v i e in let long = a.homes.ok.0 in omega arith

  module _ (o : Option ℕ) (read : o ≡ get_or a.homes.items v o) where
    o_is : o ≡ home (marks_kept a) v
    o_is = get_or_read a.homes.items v o (let w = name_kept in let long = a.homes.ok.0 in omega arith) read None

    pub some_read : o ≡ None → ⊥
    some_read none = false≢true (ap is_some (sym none ∙ o_is) ∙ has_mark a p kept is v name)

    module _ (i : ℕ) (i_is : o ≡ Some i) where
      read_home : home (marks_kept a) v ≡ Some i
      read_home = sym o_is ∙ i_is

      all_above : (w : ℕ) → marked (marks_kept a) w ≡ true → w < v
      all_above = above_marked a p kept is v above

      pub mark_fits : i < 2 * vec_len a.nexts
      mark_fits = mark_low (marks_kept a) kept.0 kept.1 v i read_home all_above

      module _ (q : ℕ) (q_read : q ≡ get_or a.owners.items i q) where
        place_is : q ≡ owner (marks_kept a) i
        place_is = get_or_read a.owners.items i q (let e = kept.1.owners_len in let l = mark_fits in omega arith) q_read 0

        pub place_fits : q < vec_len a.nexts
        place_fits = let e = place_is in let l = place_low (marks_kept a) kept.0 kept.1 v i read_home all_above in omega arith

        module _ (h : ℕ) (h_read : h ≡ get_or a.halves.items q h) where
          half_is : h ≡ half (marks_kept a) (owner (marks_kept a) i)
          half_is = get_or_read a.halves.items q h (let e = kept.1.halves_len in let l = place_fits in omega arith) h_read 0 ∙ ap (half (marks_kept a)) place_is

          pub half_fits : h < 2 * vec_len a.nexts
          half_fits = let e = half_is in let l = half_low (marks_kept a) kept.0 kept.1 v i read_home all_above in omega arith

          module _ (x : ℕ) (x_read : x ≡ get_or a.counts.items i x) where
            x_is : x ≡ get_or a.counts.items i 0
            x_is = get_or_read a.counts.items i x (let e = kept.1.counts_len in let l = mark_fits in omega arith) x_read 0

            pub less_fits : 1 ≤ x
            less_fits = let e = x_is in let l = count_some (marks_kept a) kept.0 kept.1 v i read_home all_above in omega arith

            module _ (y : ℕ) (y_read : y ≡ get_or (set a.counts.items i (x - 1)) h y) where
              y_is : y ≡ get_or (set a.counts.items i (x - 1)) h 0
              y_is = get_or_read (set a.counts.items i (x - 1)) h y (let e = kept.1.counts_len in let f = length-set a.counts.items i (x - 1) in let l = half_fits in omega arith) y_read 0

              pub more_fits : y ≤ NAMES
              more_fits = count_fits (marks_kept a) kept.0 kept.1 v i read_home all_above h x y half_is y_is

              module _ (n low : ℕ) (ls : NameSet) (n_read : n ≡ get_or a.counts.items h n) (low_is : low ≡ min a.low v) (ls_are : ls ≡ (if n == 0 then sets.insert a.leads v else a.leads)) where
                leads_are : ls ≡ (if get_or a.counts.items h 0 == 0 then sets.insert a.leads v else a.leads)
                leads_are = ls_are ∙ ap (λ z. if z == 0 then sets.insert a.leads v else a.leads) (get_or_read a.counts.items h n (let e = kept.1.counts_len in let l = half_fits in omega arith) n_read 0)

                pub touch_kept : Keeps (touched_with (marks_kept a) v i h x y low ls) kept.0
                touch_kept = keeps_with (marks_kept a) kept.0 kept.1 v i read_home all_above h x y low ls low_is half_is x_is y_is leads_are

                pub touch_seen : partition_of (touched_with (marks_kept a) v i h x y low ls) ≡ touching p v
                touch_seen =
                    shown (touched_with (marks_kept a) v i h x y low ls) kept.0 touch_kept
                    ∙ shows_with (marks_kept a) kept.0 kept.1 v i read_home all_above h x y low ls low_is half_is x_is y_is leads_are
                    ∙ ap (λ z. touching z v) (sym (opened a p kept is))
