-- The partition of one class.
use Rattle.std.proofs.Common.{◌≡◌, ℕ, zero, suc, ◌+◌, ◌*◌, ◌<◌, ◌≤◌, Bool, true, false, cond, min, max, ◌&&◌, ◌==◌, nat_le, if◌then◌else◌, ltb, List, [], ◌∷◌, ◌++◌, map, length, replicate, get_or, set, Option, Some, None, refl, sym, ◌∙◌, ap, inl, inr, arith, add-one, length-append, append-nil}
use Rattle.std.specs.List.{filter, count_by}
use Rattle.std.specs.FinSet as sets
use Rattle.std.proofs.lemmas.Bool.{cases_eq, eq-eqb, ne_eqb, le-leb, cases_lt, lt-ltb, ltb-true, ltb-false, and_from, false≢true, false_from_ne_true}
use Rattle.std.proofs.lemmas.Bool.Decides.{nat_tests}
use Rattle.std.proofs.lemmas.Option.{none-some, same_Some}
use Rattle.std.proofs.lemmas.List.{get_or-replicate, get_or_past, length-replicate, length-set, nil_from_length, get_or-set_same, get_or-set_other}
use Rattle.std.proofs.lemmas.List.Elements.{filter-append}
use Rattle.std.proofs.lemmas.List.Sums.{sum_by_push}
use Rattle.md_graph.specs.declared.TheConstants.{NAMES}
use Rattle.md_graph.specs.Sets.{NameSet, Has, HasSome}
use Rattle.md_graph.specs.NameSet.{AllBelow, ascending, ascending_between}
use Rattle.md_graph.proofs.BitWords.{get_or-zeros}
use Rattle.md_graph.proofs.SetLaws.{len-empty}
use Rattle.md_graph.proofs.SetLemmas.{if_empty, empty_lacks}
use Rattle.md_graph.proofs.Search.{decide_has_some, some_len}
use Rattle.md_graph.proofs.NameLemmas.{few_below, length-ascending}
use Rattle.md_refine.specs.Partitions.{unless_empty, one_class}
use Rattle.md_refine.specs.Slots.{MarkStore, numbers, home, is_mark_of, is_half, is_mark, stands, marked, place_names, partition_of, IsPlaceOrder, ArePlaceMarks, Keeps}
use Rattle.md_refine.proofs.Limits.{some_names}
use Rattle.md_refine.proofs.Lists.{filter_same, filter_none, in_some}
use Rattle.md_refine.proofs.Refining.{one_part, in_ascending}
use Rattle.md_refine.proofs.Showing.{seen, shown}

-- one more name, with the mark 0 or none
pub counts_more : (i n : ℕ) (s : NameSet) (homes : List (Option ℕ)) (o : Option ℕ) → count_by (is_mark i) homes ≡ (if i == 0 then length (ascending_between s 0 n) else 0) → o ≡ (if sets.contains s n then Some 0 else None) → count_by (is_mark i) (homes ++ o ∷ []) ≡ (if i == 0 then length (ascending_between s 0 (n + 1)) else 0)
unfolding ascending_between
counts_more i n s homes o before is =
    sum_by_push (λ x. cond (is_mark i x) 1 0) homes o
    ∙ rw (before, add-one, is) (last i n (ascending_between s 0 n) (sets.contains s n))
  where
    last : (i n : ℕ) (xs : List ℕ) (b : Bool) → (if i == 0 then length xs else 0) + cond (is_mark i (if b then Some 0 else None)) 1 0 ≡ (if i == 0 then length (xs ++ (if nat_le 0 n && b then n ∷ [] else [])) else 0)
    last i n xs b =
        let low : nat_le 0 n ≡ true = le-leb 0 n (omega arith) in
        rw low (elim b as (λ b. (if i == 0 then length xs else 0) + cond (is_mark i (if b then Some 0 else None)) 1 0 ≡ (if i == 0 then length (xs ++ (if b then n ∷ [] else [])) else 0)) [
          | true ↦ rw (length-append xs (n ∷ [])) (elim (cases_eq i 0) [
            | inl none ↦ rw (eq-eqb i 0 none, eq-eqb 0 i (sym none)) refl
            | inr some ↦ rw (ne_eqb i 0 some, ne_eqb 0 i (λ e. some (sym e))) refl
          ])
          | false ↦ rw append-nil (omega arith)
        ])

pub counts_none : (i : ℕ) (s : NameSet) → count_by (is_mark i) [] ≡ (if i == 0 then length (ascending_between s 0 0) else 0)
unfolding ascending_between
counts_none i s = elim (i == 0) as (λ b. ◌≡◌ {A = ℕ} 0 (if b then 0 else 0)) [ true ↦ refl | false ↦ refl ]

-- ---- the store that is made

ascending_filter : (s : NameSet) (n : ℕ) → ascending_between s 0 n ≡ filter (sets.contains s) (numbers n)
unfolding ascending_between numbers
ascending_filter s zero = refl
ascending_filter s (suc n) =
    let low : nat_le 0 n ≡ true = le-leb 0 n (omega arith) in
    sym (filter-append (sets.contains s) (numbers n) (n ∷ []) ∙ rw (← ascending_filter s n, low) refl)

-- there are no more names than numbers below the limit, and one at least
pub size_low : (names : NameSet) → AllBelow names NAMES → (cnt size : ℕ) → cnt ≡ sets.len names → size ≡ max cnt 1 → size ≤ NAMES
size_low names below cnt size cnt_is size_is =
    let most = few_below names 0 NAMES in let e = length-ascending names NAMES below in let some = some_names in omega arith

module _ (names : NameSet) (n : ℕ) (below : AllBelow names n) (few : n ≤ NAMES) (s : MarkStore) (cnt size : ℕ)
    (cnt_is : cnt ≡ sets.len names)
    (size_is : size ≡ max cnt 1)
    (sized : s.size ≡ size)
    (homes_len : length s.homes ≡ n)
    (homes_are : (k : ℕ) → k < n → get_or s.homes k None ≡ (if sets.contains names k then Some 0 else None))
    (homes_count : (i : ℕ) → count_by (is_mark i) s.homes ≡ (if i == 0 then length (ascending_between names 0 n) else 0))
    (owners : s.owners ≡ replicate (2 * size) 0)
    (counts : s.counts ≡ set (replicate (2 * size) 0) 0 cnt)
    (mains : s.mains ≡ replicate size 0)
    (halves : s.halves ≡ replicate size 1)
    (nexts : s.nexts ≡ replicate size None)
    (first : s.first ≡ (if ltb 0 cnt then Some 0 else None))
    (used : s.used ≡ min cnt 1)
    (leads : s.leads ≡ sets.empty) where
  some_size : 0 < size
  some_size = let e = size_is in omega arith

  owner_is : (i : ℕ) → get_or s.owners i 0 ≡ 0
  owner_is i = ap (λ xs. get_or xs i 0) owners ∙ get_or-zeros (2 * size) i

  home_is : (k i : ℕ) → home s k ≡ Some i → (i ≡ 0) × Has names k
  home_is k i is =
      elim (cases_lt k n) [
        | inr high ↦ absurd (none-some i (sym (get_or_past s.homes k None (omega arith)) ∙ is))
        | inl low ↦ go (sets.contains names k) refl (sym (homes_are k low) ∙ is)
      ]
    where
      go : (b : Bool) → sets.contains names k ≡ b → (if b then Some 0 else None) ≡ Some i → (i ≡ 0) × Has names k
      go true e h = (sym (same_Some 0 i h), e)
      go false e h = absurd (none-some i h)

  some_name : 0 < cnt → HasSome names
  some_name more =
      elim (decide_has_some names) [
        | inl some ↦ some
        | inr none ↦ absurd (let e = ap sets.len (if_empty names (λ y. false_from_ne_true (sets.contains names y) (λ m. none (y, m)))) ∙ len-empty in omega arith)
      ]

  not_marked : (v : ℕ) → marked s v ≡ false
  not_marked v = go (home s v) refl
    where
      go : (o : Option ℕ) → home s v ≡ o → is_half s o ≡ false
      go None e = refl
      go (Some i) e =
          let z = (home_is v i e).0 in
          let h : get_or s.halves (get_or s.owners i 0) 0 ≡ 1 = ap (λ p. get_or s.halves p 0) (owner_is i) ∙ ap (λ xs. get_or xs 0 0) halves ∙ get_or-replicate size 0 1 0 some_size in
          ne_eqb _ i (λ q. omega arith)

  no_touched : filter (marked s) (numbers NAMES) ≡ []
  no_touched = filter_none (marked s) (numbers NAMES) (λ v _. not_marked v)

  home_of : (v : ℕ) → home s v ≡ (if sets.contains names v then Some 0 else None)
  home_of v =
      elim (cases_lt v n) [
        | inl low ↦ homes_are v low
        | inr high ↦
            let none : sets.contains names v ≡ false = false_from_ne_true (sets.contains names v) (λ m. let low = below v m in omega arith) in
            get_or_past s.homes v None (omega arith) ∙ sym (ap (λ b. if b then Some 0 else None) none)
      ]

  stands_is : (v : ℕ) → stands s 0 v ≡ sets.contains names v
  stands_is v = ap (is_mark_of s.owners 0) (home_of v) ∙ go (sets.contains names v)
    where
      go : (b : Bool) → is_mark_of s.owners 0 (if b then Some 0 else None) ≡ b
      go true = eq-eqb 0 _ (sym (owner_is 0))
      go false = refl

  names_are : place_names s 0 ≡ ascending names
  names_are =
      filter_same (stands s 0) (sets.contains names) (numbers NAMES) (λ v m. stands_is v)
      ∙ sym (ascending_filter names NAMES)

  low : AllBelow names NAMES
  low v h = let b = below v h in omega arith

  used_one : (k i : ℕ) → home s k ≡ Some i → s.used ≡ 1
  used_one k i is = let some = some_len names k (home_is k i is).1 in omega arith

  is_order : (b : Bool) → ltb 0 cnt ≡ b → IsPlaceOrder s.nexts s.first (if b then 0 ∷ [] else []) s.used
  is_order true e =
      let more = ltb-true 0 cnt e in
      let one : s.used ≡ 1 = omega arith in
      record {
        begins = first ∙ ap (λ b. if b then Some 0 else None) e;
        follow = (ap (λ xs. get_or xs 0 None) nexts ∙ get_or-replicate size 0 None None some_size, tt);
        once = λ p. elim (cases_eq 0 p) [ inl here ↦ grind (arith, nat_tests) | inr other ↦ grind (arith, nat_tests) ];
        long = sym one;
        within = (let l = ap length nexts ∙ length-replicate {A = Option ℕ} size None in let more = some_size in omega arith);
      }
  is_order false e =
      let less = ltb-false 0 cnt e in
      let zero_used : s.used ≡ 0 = omega arith in
      record {
        begins = first ∙ ap (λ b. if b then Some 0 else None) e;
        follow = tt;
        once = λ p. grind (arith, nat_tests);
        long = sym zero_used;
        within = omega arith;
      }

  count_is : (i : ℕ) → get_or s.counts i 0 ≡ count_by (is_mark i) s.homes
  count_is i =
      ap (λ xs. get_or xs i 0) counts ∙ elim (cases_eq i 0) [
        | inl here ↦
            ap (λ j. get_or (set (replicate (2 * size) 0) 0 cnt) j 0) here
            ∙ get_or-set_same (replicate (2 * size) 0) 0 cnt 0 (let l = length-replicate {A = ℕ} (2 * size) 0 in let more = some_size in omega arith)
            ∙ cnt_is ∙ sym (length-ascending names n below)
            ∙ sym (homes_count i ∙ rw (eq-eqb i 0 here) refl)
        | inr other ↦
            get_or-set_other (replicate (2 * size) 0) 0 i cnt 0 other
            ∙ get_or-zeros (2 * size) i
            ∙ sym (homes_count i ∙ rw (ne_eqb i 0 other) refl)
      ]

  marks_are : (p : ℕ) → p < s.used → ArePlaceMarks s.owners s.mains s.halves s.used p
  marks_are p h =
      let here : p ≡ 0 = omega arith in
      let main : get_or s.mains p 0 ≡ 0 = ap (λ xs. get_or xs p 0) mains ∙ get_or-zeros size p in
      let half : get_or s.halves p 0 ≡ 1 = ap (λ xs. get_or xs p 0) halves ∙ get_or-replicate size p 1 0 (let more = some_size in omega arith) in
      record {
        main_owner = owner_is _ ∙ sym here;
        half_owner = owner_is _ ∙ sym here;
        differ = λ e. omega arith;
        main_low = omega arith;
        half_low = omega arith;
      }

  pub starts : Keeps s (if ltb 0 cnt then 0 ∷ [] else [])
  starts = record {
    homes_few = (let e = homes_len in omega arith);
    size_few = (let most = size_low names low cnt size cnt_is size_is in let z = sized in omega arith);
    owners_len = ap length owners ∙ length-replicate {A = ℕ} (2 * size) 0 ∙ ap (λ z. 2 * z) (sym sized);
    counts_len = ap length counts ∙ length-set {A = ℕ} (replicate (2 * size) 0) 0 cnt ∙ length-replicate {A = ℕ} (2 * size) 0 ∙ ap (λ z. 2 * z) (sym sized);
    mains_len = ap length mains ∙ length-replicate {A = ℕ} size 0 ∙ sym sized;
    halves_len = ap length halves ∙ length-replicate {A = ℕ} size 1 ∙ sym sized;
    nexts_len = ap length nexts ∙ length-replicate {A = Option ℕ} size None ∙ sym sized;
    fits = (
      ascending names,
      (let all = length-ascending names NAMES low in let is = cnt_is in let e = size_is in let z = sized in omega arith),
      λ v i is. let h = (home_is v i is).1 in in_ascending names NAMES v ∙ and_from _ _ (lt-ltb v NAMES (low v h)) h,
    );
    is_order = is_order (ltb 0 cnt) refl;
    homes = λ v i is.
        let here = (home_is v i is).0 in
        let one = used_one v i is in
        record {
          low = omega arith;
          place = (let e = owner_is i in omega arith);
          own = inl (here ∙ sym (ap (λ xs. get_or xs (get_or s.owners i 0) 0) mains ∙ get_or-zeros size (get_or s.owners i 0)));
        };
    marks = marks_are;
    some = λ p h.
        let here : p ≡ 0 = omega arith in
        let w = some_name (omega arith) in
        (w.0, ap (λ q. stands s q w.0) here ∙ stands_is w.0 ∙ w.1);
    counted = λ i _. count_is i;
    leads_marked = λ v m. absurd (false≢true (sym (empty_lacks v) ∙ sym (ap (λ z. sets.contains z v) leads) ∙ m));
    leads_all = λ v m. absurd (false≢true (sym (not_marked v) ∙ m));
    leads_low = λ v m. absurd (false≢true (sym (empty_lacks v) ∙ sym (ap (λ z. sets.contains z v) leads) ∙ m));
    leads_once = λ v w m. absurd (false≢true (sym (empty_lacks v) ∙ sym (ap (λ z. sets.contains z v) leads) ∙ m));
  }

  starts_whole : seen s (if ltb 0 cnt then 0 ∷ [] else []) ≡ one_class names
  starts_whole = λ i. record { classes = classes (ltb 0 cnt) refl i; touched = no_touched i }
    where
      classes : (b : Bool) → ltb 0 cnt ≡ b → map (place_names s) (if b then 0 ∷ [] else []) ≡ unless_empty (ascending names)
      classes true e =
          let w = some_name (ltb-true 0 cnt e) in
          ap (λ c. c ∷ []) names_are ∙ sym (one_part (ascending names) (in_some (ascending names) w.0 (in_ascending names NAMES w.0 ∙ and_from _ _ (lt-ltb w.0 NAMES (low w.0 w.1)) w.1)))
      classes false e =
          let none : length (ascending names) ≡ 0 = length-ascending names NAMES low ∙ sym cnt_is ∙ (let less = ltb-false 0 cnt e in omega arith) in
          sym (ap unless_empty (nil_from_length (ascending names) none))

  pub starts_view : partition_of s ≡ one_class names
  starts_view = shown s (if ltb 0 cnt then 0 ∷ [] else []) starts ∙ starts_whole
