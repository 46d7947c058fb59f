-- The full children of a node move to another, while the marked places are walked over.
use Rattle.std.proofs.Common.{◌≡◌, ◌≢◌, ℕ, ◌+◌, ◌*◌, ◌<◌, ◌≤◌, Bool, true, false, cond, ◌&&◌, ◌==◌, List, [], ◌∷◌, ◌++◌, length, Option, Some, None, is_some, refl, sym, ◌∙◌, ap, subst, inl, inr, arith, append_assoc}
use Rattle.std.proofs.lemmas.Bool.{cases_eq, cases_lt, eq-eqb, ne_eqb}
use Rattle.std.proofs.lemmas.Option.{none-some, same_Some}
use Rattle.md_lists.specs.declared.kinds.PlaceKind.{PlaceKind}
use Rattle.md_lists.specs.Words.{holds_once, behind}
use Rattle.md_graph.specs.Linked.{first_or, times}
use Rattle.md_lists.specs.Links.{Links, kind_at, parent_at, children_at, note_at, IsLive, IsMarked, AreLinks, attached, detached}
use Rattle.md_lists.proofs.ListLaws.{times-append, times-first, times-other}
use Rattle.md_lists.proofs.LinkLaws.{held, holds-once-same, child_parent, parent_child, mark_once, detached_parent, detached_links}
use Rattle.md_cotree.specs.PlaceTrees.{PlaceTree, inner, PlaceTrees, no_more, then, place_of, roots, row_length}
use Rattle.md_cotree.proofs.Frames.{hit}
use Rattle.md_cotree_edit.specs.Counts.{name_row, pair_row}
use Rattle.md_cotree_edit.specs.Contexts.{Frame, plug, AreTreesKept}
use Rattle.md_cotree_edit.specs.Marks.{AreNameMarks, full_in, full_row, full_count, mixed_in, mixed_count, LowestView, whole}
use Rattle.md_cotree_edit.specs.Relinks.{moved_if, IsRowSplit, AreNoted, CanPart, IsParted}
use Rattle.md_cotree_edit.proofs.Trees.SameRows.{SameRow, same_refl, same_trans, same_swap, same_rest, same_first, same_inner, same_plug}
use Rattle.md_cotree_edit.proofs.Trees.LocalCounts.{cond_no, cond_yes}
use Rattle.md_cotree_edit.proofs.Trees.KeptTrees.{kept_live, kept_along}
use Rattle.md_cotree_edit.proofs.Trees.ListCalls.{linked_plug, linked_parent, kept_detached}
use Rattle.md_cotree_edit.proofs.Trees.AdoptedTrees.{same_turn, attach_done, kept_children}
use Rattle.md_cotree_edit.proofs.Marks.MarksAroundHole.{full_low}
use Rattle.md_cotree_edit.proofs.Climbs.WalkedList.{marked_live}
use Rattle.md_cotree.proofs.Emitting.{behind_front}
use Rattle.md_cotree_edit.proofs.Climbs.LowestMixed.{none_hit}

-- ---- a row without one of its trees

-- the tree whose root is c, as it is full or not
abbrev pub full_at : (ℕ → ℕ) → ℕ → PlaceTrees → ℕ
full_at m c no_more = 0
full_at m c (then t ts) = cond (place_of t == c) (full_in m t) 0 + full_at m c ts

-- a row, one of its trees, and the others
record IsOut (n m : ℕ → ℕ) (ts : PlaceTrees) (t : PlaceTree) (others : PlaceTrees) : Type 0 where
  same : SameRow ts (then t others)
  full : full_row m ts ≡ full_in m t * full_row m others
  mixed : mixed_count m ts ≡ mixed_in m t + mixed_count m others
  noted : AreNoted n m ts → (n (place_of t) ≡ full_in m t) × AreNoted n m others
  low : (c : ℕ) → full_at m c others ≤ full_at m c ts

turn_product : (u t o : ℕ) → u * (t * o) ≡ t * (u * o)
turn_product u t o = omega arith

turn_sum : (u t o a : ℕ) → a ≡ t + o → u + a ≡ t + (u + o)
turn_sum u t o a e = omega arith

module _ (n m : ℕ → ℕ) where
  out_more : (u t : PlaceTree) (us others : PlaceTrees) → IsOut n m us t others → IsOut n m (then u us) t (then u others)
  out_more u t us others o = record {
    same = same_trans (then u us) (then u (then t others)) (then t (then u others)) (same_rest u us (then t others) o.same) (same_swap u t others);
    full = ap (λ z. full_in m u * z) o.full ∙ turn_product (full_in m u) (full_in m t) (full_row m others);
    mixed = turn_sum (mixed_in m u) (mixed_in m t) (mixed_count m others) (mixed_count m us) o.mixed;
    noted = λ all. let rest = o.noted all.1 in (rest.0, (all.0, rest.1));
    low = λ c. let e = o.low c in omega arith;
  }

  out_root : (ts : PlaceTrees) (c : ℕ) → 0 < times c (roots ts) → (t : PlaceTree) × (others : PlaceTrees) × (place_of t ≡ c) × IsOut n m ts t others
  out_root no_more c some = absurd (omega arith)
  out_root (then t ts) c some =
      elim (cases_eq (place_of t) c) [
        | inl same ↦ (t, ts, same, record { same = same_refl (then t ts); full = refl; mixed = refl; noted = λ all. all; low = λ c. omega arith })
        | inr other ↦
            let rest = out_root ts c (let e = times-other c (place_of t) (roots ts) other in omega arith) in
            (rest.0, then t rest.1, rest.2, out_more t rest.0 ts rest.1 rest.3)
      ]

  at_absent : (c : ℕ) (ts : PlaceTrees) → times c (roots ts) ≡ 0 → full_at m c ts ≡ 0
  at_absent c no_more none = refl
  at_absent c (then t ts) none =
      elim (cases_eq (place_of t) c) [
        | inl same ↦ absurd (let h = hit (place_of t) c same in omega arith)
        | inr other ↦
            let e = cond_no (place_of t) c (full_in m t) other in
            let rest = at_absent c ts (omega arith) in
            omega arith
      ]

  module _ (marks : AreNameMarks m) where
    -- where a place isn't noted as full, no tree with its root there is full
    at_other : (c : ℕ) → (n c ≡ 1 → ⊥) → (ts : PlaceTrees) → AreNoted n m ts → full_at m c ts ≡ 0
    at_other c other no_more noted = refl
    at_other c other (then t ts) noted =
        let rest = at_other c other ts noted.1 in
        elim (cases_eq (place_of t) c) [
          | inl same ↦
              let e = cond_yes (place_of t) c (full_in m t) same in
              let f : full_in m t ≡ n c = sym noted.0 ∙ ap n same in
              let low = full_low m marks t in
              let none : full_in m t ≡ 0 = elim (cases_eq (full_in m t) 1) [ inl one ↦ absurd (other (sym f ∙ one)) | inr not ↦ omega arith ] in
              omega arith
          | inr differ ↦ let e = cond_no (place_of t) c (full_in m t) differ in omega arith
        ]

    none_full : (ts : PlaceTrees) → ((c : ℕ) → full_at m c ts ≡ 0) → full_count m ts ≡ 0
    none_full no_more none = refl
    none_full (then t ts) none =
        let rest = none_full ts (λ c. let e = none c in omega arith) in
        let here = none (place_of t) in
        let e = cond_yes (place_of t) (place_of t) (full_in m t) refl in
        omega arith

-- ---- one tree more on the other side

split_begin : (ts : PlaceTrees) → IsRowSplit ts no_more ts
split_begin ts = record {
  tips = λ p v. omega arith;
  named = λ v. omega arith;
  pairs = λ a b. omega arith;
  edges = λ a b. omega arith;
  leaves = omega arith;
  none = λ k none. (tt, none);
  alternates = λ all. (tt, all);
}

split_step : (ts us vs others : PlaceTrees) (t : PlaceTree) → IsRowSplit ts us vs → SameRow vs (then t others) → IsRowSplit ts (then t us) others
split_step ts us vs others t split same = record {
  tips = λ p v. let e = split.tips p v in let f = same.tips p v in omega arith;
  named = λ v. let e = split.named v in let f = same.named v in omega arith;
  pairs = λ a b.
      split.pairs a b ∙ (λ i. (pair_row a b us + sym (same.pairs a b) i) + (name_row a us * sym (same.named b) i + name_row b us * sym (same.named a) i)) ∙ omega arith;
  edges = λ a b. let e = split.edges a b in let f = same.edges a b in omega arith;
  leaves = let e = split.leaves in let f = same.leaves in omega arith;
  none = λ k none. let both = split.none k none in let out = same.none k both.1 in ((out.0, both.0), out.1);
  alternates = λ all. let both = split.alternates all in let out = same.alternates both.1 in ((out.0, both.0), out.1);
}

module _ (l : Links) (ok : AreLinks l) (fs : List Frame) (from to : ℕ) (k : Bool) (us vs others : PlaceTrees) (t : PlaceTree) (same : SameRow vs (then t others))
    (kept : AreTreesKept l (then (inner to k us) (then (plug fs (inner from k vs)) no_more))) where
  move_front : AreTreesKept l (then (plug fs (inner from k (then t others))) (then (inner to k us) no_more))
  move_front =
      kept_along l (then (inner to k us) (then (plug fs (inner from k vs)) no_more)) (then (plug fs (inner from k (then t others))) (then (inner to k us) no_more))
      (same_trans (then (inner to k us) (then (plug fs (inner from k vs)) no_more)) (then (plug fs (inner from k vs)) (then (inner to k us) no_more)) (then (plug fs (inner from k (then t others))) (then (inner to k us) no_more))
      (same_swap (inner to k us) (plug fs (inner from k vs)) no_more)
      (same_first (plug fs (inner from k vs)) (plug fs (inner from k (then t others))) (then (inner to k us) no_more)
      (same_plug fs (inner from k vs) (inner from k (then t others)) (same_inner from k vs (then t others) same))))
      kept

  move_parent : parent_at l (place_of t) ≡ Some from
  move_parent =
      linked_parent l ok from (place_of t) (then (plug fs (inner from k others)) (then t (then (inner to k us) no_more))) (then (plug fs (inner from k (then t others))) (then (inner to k us) no_more)) move_front
      (linked_plug fs from k others (then (inner to k us) no_more) t)

  move_links : AreLinks (detached l from (place_of t))
  move_links = detached_links l ok from (place_of t) move_parent

  moved_kept : AreTreesKept (attached (detached l from (place_of t)) to (place_of t)) (then (inner to k (then t us)) (then (plug fs (inner from k others)) no_more))
  moved_kept =
      let node = inner to k us in
      let tree = plug fs (inner from k others) in
      attach_done (detached l from (place_of t)) move_links [] to k us (then tree no_more) t
      (kept_along (detached l from (place_of t)) (then tree (then t (then node no_more))) (then node (then t (then tree no_more)))
      (same_trans (then tree (then t (then node no_more))) (then node (then tree (then t no_more))) (then node (then t (then tree no_more)))
      (same_turn tree t node no_more) (same_rest node (then tree (then t no_more)) (then t (then tree no_more)) (same_swap tree t no_more)))
      (kept_detached l ok from (place_of t) (then tree (then t (then node no_more))) (then (plug fs (inner from k (then t others))) (then node no_more)) move_front (linked_plug fs from k others (then node no_more) t)))

-- ---- a place that has left its parent

pub gone_live : (l m : Links) (q c p : ℕ) → m ≡ detached l q c → IsLive l p → IsLive m p
gone_live l m q c p gone live = subst (λ z. IsLive z p) (sym gone) live

pub gone_loose : (l : Links) → AreLinks l → (q c : ℕ) → parent_at l c ≡ Some q → (m : Links) → m ≡ detached l q c → parent_at m c ≡ None
gone_loose l ok q c is m gone = ap (λ z. parent_at z c) gone ∙ detached_parent l ok q c is c ∙ ap (λ b. cond b None (parent_at l c)) (eq-eqb c c refl)

-- ---- some of them have moved

-- the full children that are still to move are among those left
pub record IsHalfway (l : Links) (to : ℕ) (d : LowestView) (n : ℕ → ℕ) (left : List ℕ) : Type 0 where
  pub us : PlaceTrees
  pub vs : PlaceTrees
  pub kept : AreTreesKept l (then (inner to d.series us) (then (plug d.frames (inner d.place d.series vs)) no_more))
  pub split : IsRowSplit d.children us vs
  pub full : full_row d.marks us ≡ 1
  pub none_mixed : mixed_count d.marks vs ≡ 0
  pub not_all : full_row d.marks vs ≡ 0
  pub some : 0 < row_length us + full_count d.marks vs
  pub noted : AreNoted n d.marks vs
  pub late : (c : ℕ) → times c left ≡ 0 → full_at d.marks c vs ≡ 0

module _ (old now : Links) (ok : AreLinks now) (to p : ℕ) (d : LowestView) (marks : AreNameMarks d.marks) (left : List ℕ) (h : IsHalfway now to d (note_at old) (p ∷ left)) where
  later : (vs : PlaceTrees) → ((c : ℕ) → times c (p ∷ left) ≡ 0 → full_at d.marks c vs ≡ 0) → full_at d.marks p vs ≡ 0 → (c : ℕ) → times c left ≡ 0 → full_at d.marks c vs ≡ 0
  later vs late here c none =
      elim (cases_eq c p) [
        | inl same ↦ ap (λ z. full_at d.marks z vs) same ∙ here
        | inr other ↦ late c (times-other c p left (λ e. other (sym e)) ∙ none)
      ]

  stays : full_at d.marks p h.vs ≡ 0 → IsHalfway now to d (note_at old) left
  stays here = record {
    us = h.us;
    vs = h.vs;
    kept = h.kept;
    split = h.split;
    full = h.full;
    none_mixed = h.none_mixed;
    not_all = h.not_all;
    some = h.some;
    noted = h.noted;
    late = later h.vs h.late here;
  }

  kids : times p (roots h.vs) ≡ times p (children_at now d.place)
  kids =
      kept_children now ok d.frames d.place d.series h.vs (then (inner to d.series h.us) no_more)
      (kept_along now (then (inner to d.series h.us) (then (plug d.frames (inner d.place d.series h.vs)) no_more)) (then (plug d.frames (inner d.place d.series h.vs)) (then (inner to d.series h.us) no_more))
      (same_swap (inner to d.series h.us) (plug d.frames (inner d.place d.series h.vs)) no_more) h.kept)
      p

  no_child : (parent_at now p ≡ Some d.place → ⊥) → times p (roots h.vs) ≡ 0
  no_child other =
      elim (cases_lt 0 (times p (roots h.vs))) [
        | inl some ↦ absurd (other (child_parent now ok d.place p (let e = kids in omega arith)))
        | inr none ↦ omega arith
      ]

  module _ (is : parent_at now p ≡ Some d.place) (note : note_at old p ≡ 1) where
    one_child : times p (roots h.vs) ≡ 1
    one_child = kids ∙ parent_child now ok d.place p is

    abbrev out : (t : PlaceTree) × (others : PlaceTrees) × (place_of t ≡ p) × IsOut (note_at old) d.marks h.vs t others
    out = out_root (note_at old) d.marks h.vs p (let e = one_child in omega arith)

    is_full : full_in d.marks out.0 ≡ 1
    is_full = sym (out.3.noted h.noted).0 ∙ ap (note_at old) out.2 ∙ note

    gone : times p (roots out.1) ≡ 0
    gone = let e = one_child in let f = out.3.same.roots_same p in let g = hit (place_of out.0) p out.2 in omega arith

    moves : IsHalfway (attached (detached now d.place p) to p) to d (note_at old) left
    moves = record {
      us = then out.0 h.us;
      vs = out.1;
      kept = subst (λ z. AreTreesKept (attached (detached now d.place z) to z) (then (inner to d.series (then out.0 h.us)) (then (plug d.frames (inner d.place d.series out.1)) no_more))) out.2
          (moved_kept now ok d.frames d.place to d.series h.us h.vs out.1 out.0 out.3.same h.kept);
      split = split_step d.children h.us h.vs out.1 out.0 h.split out.3.same;
      full = (λ i. is_full i * h.full i) ∙ omega arith;
      none_mixed = second (mixed_in d.marks out.0) (mixed_count d.marks out.1) (mixed_count d.marks h.vs) out.3.mixed h.none_mixed;
      not_all = other_zero (full_in d.marks out.0) (full_row d.marks out.1) is_full (sym out.3.full ∙ h.not_all);
      some = omega arith;
      noted = (out.3.noted h.noted).1;
      late = later out.1 (λ c none. let e = h.late c none in let f = out.3.low c in omega arith) (at_absent (note_at old) d.marks p out.1 gone);
    }
      where
        second : (a b c : ℕ) → c ≡ a + b → c ≡ 0 → b ≡ 0
        second a b c e f = omega arith

        other_zero : (a b : ℕ) → a ≡ 1 → a * b ≡ 0 → b ≡ 0
        other_zero a b e f = let g : 1 * b ≡ 0 = ap (λ z. z * b) (sym e) ∙ f in omega arith

  -- the place moves, or stays
  halfway_step : note_at now p ≡ note_at old p → IsHalfway (moved_if now p d.place to) to d (note_at old) left
  halfway_step same =
      elim (cases_eq (note_at now p) 1) [
        | inl one ↦ elim (cases_eq (holds_once (parent_at now p) d.place) 1) [
          | inl child ↦
              subst (λ b. IsHalfway (cond b (attached (detached now d.place p) to p) now) to d (note_at old) left) (λ i. sym (eq-eqb (note_at now p) 1 one) i && sym (eq-eqb (holds_once (parent_at now p) d.place) 1 child) i)
              (moves (held (parent_at now p) d.place (omega arith)) (sym same ∙ one))
          | inr other ↦
              subst (λ b. IsHalfway (cond b (attached (detached now d.place p) to p) now) to d (note_at old) left) (λ i. sym (eq-eqb (note_at now p) 1 one) i && sym (ne_eqb (holds_once (parent_at now p) d.place) 1 other) i)
              (stays (at_absent (note_at old) d.marks p h.vs (no_child (λ is. other (ap (λ o. holds_once o d.place) is ∙ holds-once-same d.place)))))
        ]
        | inr other ↦
            subst (λ b. IsHalfway (cond b (attached (detached now d.place p) to p) now) to d (note_at old) left) (λ i. sym (ne_eqb (note_at now p) 1 other) i && (holds_once (parent_at now p) d.place == 1))
            (stays (at_other (note_at old) d.marks marks p (λ e. other (same ∙ e)) h.vs h.noted))
      ]

-- ---- the walk

-- the places that are left of a list, where the next one is known
pub record AreLeft (xs : List ℕ) (next : Option ℕ) (left : List ℕ) : Type 0 where
  pub done : List ℕ
  pub whole : xs ≡ done ++ left
  pub at : next ≡ first_or left None

left_step : (xs : List ℕ) (p : ℕ) (left : List ℕ) → times p xs ≤ 1 → AreLeft xs (Some p) (p ∷ left) → (next : Option ℕ) → next ≡ behind p xs → AreLeft xs next left
left_step xs p left once walk next is = record {
  done = walk.done ++ p ∷ [];
  whole = walk.whole ∙ sym (append_assoc walk.done (p ∷ []) left);
  at = is ∙ ap (behind p) walk.whole
      ∙ behind_front p walk.done left (let e = ap (times p) walk.whole in let a = times-append p walk.done (p ∷ left) in let one = times-first p left in omega arith);
}

pub record IsMoving (old now : Links) (from to : ℕ) (next : Option ℕ) (start steps : ℕ) : Type 0 where
  pub links : AreLinks now
  pub marked : now.marked ≡ old.marked
  pub notes : now.notes ≡ old.notes
  pub kinds : now.kinds ≡ old.kinds
  pub left : List ℕ
  pub walk : AreLeft old.marked next left
  pub count : steps + 5 * length left ≤ start + 1 + 5 * length old.marked
  pub trees : (d : LowestView) → CanPart old to d → from ≡ d.place → IsHalfway now to d (note_at old) left

module _ (old : Links) (ok : AreLinks old) (from to start : ℕ) where
  pub moving_begin : (next : Option ℕ) (steps : ℕ) → next ≡ first_or old.marked None → steps ≡ start + 1 → IsMoving old old from to next start steps
  moving_begin next steps first one = record {
    links = ok;
    marked = refl;
    notes = refl;
    kinds = refl;
    left = old.marked;
    walk = record { done = []; whole = refl; at = first };
    count = omega arith;
    trees = λ d can at. record {
      us = no_more;
      vs = d.children;
      kept = can.kept;
      split = split_begin d.children;
      full = refl;
      none_mixed = can.halves.none_mixed;
      not_all = can.halves.not_all;
      some = let s = can.halves.some in omega arith;
      noted = can.noted;
      late = λ c none. at_other (note_at old) d.marks can.marks c (λ e. let m = ok.marks c in omega arith) d.children can.noted;
    };
  }

  module _ (now : Links) (steps p : ℕ) (moving : IsMoving old now from to (Some p) start steps) where
    left_is : (left : List ℕ) → AreLeft old.marked (Some p) left → (rest : List ℕ) × (left ≡ p ∷ rest)
    left_is [] walk = absurd (none-some p (sym walk.at))
    left_is (x ∷ left) walk = (left, ap (λ z. z ∷ left) (sym (same_Some p x walk.at)))

    abbrev rest : List ℕ
    rest = (left_is moving.left moving.walk).0

    walk_rest : AreLeft old.marked (Some p) (p ∷ rest)
    walk_rest = subst (AreLeft old.marked (Some p)) (left_is moving.left moving.walk).1 moving.walk

    some_marked : 0 < times p old.marked
    some_marked = let e = ap (times p) walk_rest.whole in let a = times-append p walk_rest.done (p ∷ rest) in let one = times-first p rest in omega arith

    pub moving_live : IsLive now p
    moving_live = marked_live now moving.links p (let e = ap (times p) moving.marked in let s = some_marked in omega arith)

    moved_marked : (m : Links) → m ≡ moved_if now p from to → m.marked ≡ old.marked
    moved_marked m is = ap (λ (z : Links). z.marked) is ∙ go ((note_at now p == 1) && (holds_once (parent_at now p) from == 1)) ∙ moving.marked
      where
        go : (b : Bool) → (cond b (attached (detached now from p) to p) now).marked ≡ now.marked
        go true = refl
        go false = refl

    pub moving_marked : (m : Links) → m ≡ moved_if now p from to → IsMarked m p
    moving_marked m is = let e = ap (times p) (moved_marked m is) in let s = some_marked in let o = mark_once old ok p in omega arith

    pub moving_to : (d : LowestView) → CanPart old to d → IsLive now to
    moving_to d can =
        ap (λ xs. is_some (kind_in_list xs)) moving.kinds ∙ kept_live old (then (inner to d.series no_more) (then (whole d) no_more)) can.kept to (let h = hit to to refl in omega arith)
      where
        kind_in_list : List (Option PlaceKind) → Option PlaceKind
        kind_in_list xs = kind_at (record old { kinds = xs }) to

    pub moving_differ : (d : LowestView) → CanPart old to d → to ≢ p
    moving_differ d can same = let none = can.unmarked in let some = some_marked in let e = ap (λ z. times z old.marked) same in omega arith

    pub moving_room : steps + 5 ≤ start + 1 + 5 * length old.marked
    moving_room = let e = ap length (left_is moving.left moving.walk).1 in let c = moving.count in omega arith

    pub moving_step : (m : Links) (next : Option ℕ) (more : ℕ) → m ≡ moved_if now p from to → AreLinks m → next ≡ behind p m.marked → more ≤ steps + 5 → IsMoving old m from to next start more
    moving_step m next more is ok_m at few = record {
      links = ok_m;
      marked = moved_marked m is;
      notes = ap (λ (z : Links). z.notes) is ∙ (moved_same ((note_at now p == 1) && (holds_once (parent_at now p) from == 1))).0 ∙ moving.notes;
      kinds = ap (λ (z : Links). z.kinds) is ∙ (moved_same ((note_at now p == 1) && (holds_once (parent_at now p) from == 1))).1 ∙ moving.kinds;
      left = rest;
      walk = left_step old.marked p rest (mark_once old ok p) walk_rest next (at ∙ ap (behind p) (moved_marked m is));
      count = let e = ap length (left_is moving.left moving.walk).1 in let c = moving.count in omega arith;
      trees = λ d can from_is.
          subst (λ z. IsHalfway z to d (note_at old) rest) (ap (λ z. moved_if now p z to) (sym from_is) ∙ sym is)
          (halfway_step old now moving.links to p d can.marks rest (subst (IsHalfway now to d (note_at old)) (left_is moving.left moving.walk).1 (moving.trees d can from_is)) (ap (λ xs. note_in_list xs) moving.notes));
    }
      where
        note_in_list : List ℕ → ℕ
        note_in_list xs = note_at (record old { notes = xs }) p

        moved_same : (b : Bool) → ((cond b (attached (detached now from p) to p) now).notes ≡ now.notes) × ((cond b (attached (detached now from p) to p) now).kinds ≡ now.kinds)
        moved_same true = (refl, refl)
        moved_same false = (refl, refl)

  pub moving_end : (now : Links) (steps : ℕ) (next : Option ℕ) → next ≡ None → IsMoving old now from to next start steps → (d : LowestView) → CanPart old to d → from ≡ d.place → IsParted now to d
  moving_end now steps next none moving d can at =
      let h = subst (IsHalfway now to d (note_at old)) (nothing_left moving.left moving.walk) (moving.trees d can at) in
      let count = none_full (note_at old) d.marks can.marks h.vs (λ c. h.late c refl) in
      record {
        full = h.us;
        rest = h.vs;
        kept = h.kept;
        split = h.split;
        all_full = h.full;
        none_marked = none_hit d.marks h.vs h.none_mixed count;
        some_full = let s = h.some in omega arith;
        some_rest = some_row h.vs h.not_all;
      }
    where
      nothing_left : (left : List ℕ) → AreLeft old.marked next left → left ≡ []
      nothing_left [] walk = refl
      nothing_left (x ∷ left) walk = absurd (none-some x (sym none ∙ walk.at))

      some_row : (vs : PlaceTrees) → full_row d.marks vs ≡ 0 → 0 < row_length vs
      some_row no_more e = absurd (omega arith)
      some_row (then t vs) e = omega arith
