-- The lowest mixed node of a tree that a vertex can be taken into.
use Rattle.std.proofs.Common.{◌≡◌, ℕ, ◌+◌, ◌-◌, ◌*◌, ◌<◌, ◌≤◌, min, Bool, true, false, List, [], ◌∷◌, ◌++◌, refl, sym, ap, subst, inl, inr, arith}
use Rattle.std.proofs.lemmas.Bool.{cases_lt}
use Rattle.md_cotree.specs.PlaceTrees.{PlaceTree, tip, inner, PlaceTrees, no_more, then, row_length, Alternates}
use Rattle.md_cotree_edit.specs.Contexts.{Frame, fill, plug}
use Rattle.md_cotree_edit.specs.Marks.{AreNameMarks, hits_in, hits_row, full_in, full_count, mixed_in, mixed_count, Passes, CanTake, AllCanTake, AreBesideIt, AreReady, AreHalves}
use Rattle.md_cotree_edit.proofs.Trees.SameRows.{SameTree, plug_last}
use Rattle.md_cotree_edit.proofs.Marks.SameMarks.{SameMarks, AreAlike, AlikeTree, alike_refl, alike_trans, alike_first, alike_inner, ahead_more}
use Rattle.md_cotree_edit.proofs.Marks.MarksAroundHole.{full_low, count_full}
use Rattle.md_cotree_edit.proofs.Climbs.NotedChildren.{not_mixed}

-- a mixed tree isn't full, and has a marked name
pub mixed_parts : (f h : ℕ) → f ≤ 1 → 0 < (1 - f) * min 1 h → (f ≡ 0) × (0 < h)
mixed_parts f h low some =
    elim (cases_lt 0 f) [
      | inl full ↦ absurd (let e : 1 - f ≡ 0 = omega arith in let z = ap (λ x. x * min 1 h) e in omega arith)
      | inr not ↦ elim (cases_lt 0 h) [
        | inl has ↦ (omega arith, has)
        | inr none ↦ absurd (let e : min 1 h ≡ 0 = omega arith in let z = ap (λ x. (1 - f) * x) e in omega arith)
      ]
    ]

-- where none is mixed and none is full, none has a marked name
pub none_hit : (m : ℕ → ℕ) (ts : PlaceTrees) → mixed_count m ts ≡ 0 → full_count m ts ≡ 0 → hits_row m ts ≡ 0
none_hit m no_more mixed full = refl
none_hit m (then t ts) mixed full =
    let a = not_mixed m t (first _ _ mixed) (omega arith) in
    let b = none_hit m ts (rest _ _ mixed) (omega arith) in
    omega arith
  where
    first : (a b : ℕ) → a + b ≡ 0 → a ≡ 0
    first a b e = omega arith

    rest : (a b : ℕ) → a + b ≡ 0 → b ≡ 0
    rest a b e = omega arith

pub ready_last : (m : ℕ → ℕ) (fs : List Frame) (f : Frame) → AreReady m fs → AreBesideIt m f.series f.others → AreReady m (fs ++ f ∷ [])
ready_last m [] f ready beside = (beside, tt)
ready_last m (g ∷ fs) f ready beside = (ready.0, ready_last m fs f ready.1 beside)

record HasLowest (m : ℕ → ℕ) (t : PlaceTree) : Type 0 where
  frames : List Frame
  place : ℕ
  series : Bool
  children : PlaceTrees
  alike : AlikeTree t (plug frames (inner place series children))
  ready : AreReady m frames
  halves : AreHalves m children

module _ (m : ℕ → ℕ) (marks : AreNameMarks m) where
  beside_it : (k : Bool) (ts : PlaceTrees) (s : PlaceTree) (us : PlaceTrees) → AreAlike ts (then s us) → mixed_count m ts ≤ 1 → 0 < mixed_in m s → Passes k (full_count m ts) (row_length ts) → AreBesideIt m k us
  beside_it k ts s us alike one mixed passes = go k passes
    where
      parts : (full_in m s ≡ 0) × (0 < hits_in m s)
      parts = mixed_parts (full_in m s) (hits_in m s) (full_low m marks s) mixed

      same : SameMarks m m ts (then s us)
      same = alike.marks m m

      no_others : (a b c : ℕ) → a + b ≡ c → c ≤ 1 → 0 < a → b ≡ 0
      no_others a b c e f g = omega arith

      go : (k : Bool) → Passes k (full_count m ts) (row_length ts) → AreBesideIt m k us
      go true passes = count_full m marks us (let a = same.counted in let b = alike.same.long in let c = parts.0 in omega arith)
      go false passes = none_hit m us (no_others (mixed_in m s) (mixed_count m us) (mixed_count m ts) same.mixed one mixed) (let a = same.counted in let c = parts.0 in omega arith)

  mutual
    lowest_in : (t : PlaceTree) → CanTake m t → 0 < hits_in m t → full_in m t ≡ 0 → HasLowest m t
    lowest_in (tip p v) can some not = absurd (omega arith)
    lowest_in (inner p k ts) can some not =
        elim (cases_lt 0 (mixed_count m ts)) [
          | inl mixed ↦
              let low = lowest_among ts can.2 mixed in
              let one : mixed_count m ts ≡ 1 = only (mixed_count m ts) can.0 mixed in
              let f : Frame = record { place = p; series = k; others = low.1 } in
              let h = low.4 in
              record {
                frames = h.frames ++ f ∷ [];
                place = h.place;
                series = h.series;
                children = h.children;
                alike = subst (AlikeTree (inner p k ts)) (sym (plug_last h.frames f (inner h.place h.series h.children)))
                    (alike_trans (then (inner p k ts) no_more) (then (fill f low.0) no_more) (then (fill f (plug h.frames (inner h.place h.series h.children))) no_more)
                    (alike_inner p k ts (then low.0 low.1) low.2)
                    (alike_inner p k (then low.0 low.1) (then (plug h.frames (inner h.place h.series h.children)) low.1)
                    (alike_first low.0 (plug h.frames (inner h.place h.series h.children)) low.1 h.alike)));
                ready = ready_last m h.frames f h.ready (beside_it k ts low.0 low.1 low.2 can.0 low.3 (can.1 one));
                halves = h.halves;
              }
          | inr none ↦
              let zero_mixed : mixed_count m ts ≡ 0 = no_less (mixed_count m ts) none in
              record {
                frames = [];
                place = p;
                series = k;
                children = ts;
                alike = alike_refl (then (inner p k ts) no_more);
                ready = tt;
                halves = record {
                  none_mixed = zero_mixed;
                  some = elim (cases_lt 0 (full_count m ts)) [
                    | inl full ↦ full
                    | inr without ↦ absurd (let e = none_hit m ts zero_mixed (omega arith) in omega arith)
                  ];
                  not_all = not;
                };
              }
        ]
      where
        only : (n : ℕ) → n ≤ 1 → 0 < n → n ≡ 1
        only n low some = omega arith

        no_less : (n : ℕ) → n ≤ 0 → n ≡ 0
        no_less n low = omega arith

    lowest_among : (ts : PlaceTrees) → AllCanTake m ts → 0 < mixed_count m ts → (s : PlaceTree) × (us : PlaceTrees) × AreAlike ts (then s us) × (0 < mixed_in m s) × HasLowest m s
    lowest_among no_more can some = absurd (omega arith)
    lowest_among (then t ts) can some =
        elim (cases_lt 0 (mixed_in m t)) [
          | inl here ↦
              let parts = mixed_parts (full_in m t) (hits_in m t) (full_low m marks t) here in
              (t, ts, alike_refl (then t ts), here, lowest_in t can.0 parts.1 parts.0)
          | inr none ↦
              let rest = lowest_among ts can.1 (later (mixed_in m t) (mixed_count m ts) none some) in
              let ahead = ahead_more t rest.0 ts (record { others = rest.1; alike = rest.2 }) in
              (rest.0, ahead.others, ahead.alike, rest.3, rest.4)
        ]
      where
        later : (a b : ℕ) → a ≤ 0 → 0 < a + b → 0 < b
        later a b e f = omega arith

pub find_lowest : (m : ℕ → ℕ) (t : PlaceTree) → AreNameMarks m → Alternates t → CanTake m t → 0 < hits_in m t → full_in m t ≡ 0 →
    (fs : List Frame) × (p : ℕ) × (k : Bool) × (ts : PlaceTrees) × SameTree t (plug fs (inner p k ts)) × ((w : ℕ → ℕ) → SameMarks m w (then t no_more) (then (plug fs (inner p k ts)) no_more)) × AreReady m fs × AreHalves m ts
find_lowest m t marks alternates can some not =
    let h = lowest_in m marks t can some not in
    (h.frames, h.place, h.series, h.children, h.alike.same, (λ w. h.alike.marks m w), h.ready, h.halves)
