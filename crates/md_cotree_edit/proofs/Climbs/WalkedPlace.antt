-- A marked place is walked over: what its parent is told then, and what shows that a vertex can't be taken in.
use Rattle.std.proofs.Common.{◌≡◌, ℕ, ◌+◌, ◌-◌, ◌*◌, ◌<◌, ◌≤◌, min, Bool, cond, ◌==◌, List, [], ◌∷◌, ◌++◌, length, Some, None, refl, sym, ◌∙◌, ap, subst, inl, inr, arith}
use Rattle.std.proofs.lemmas.Bool.{cases_eq, cases_lt, eq-eqb, ne_eqb}
use Rattle.md_lists.specs.Words.{holds_once}
use Rattle.md_graph.specs.Linked.{times}
use Rattle.md_lists.specs.Links.{Links, kind_at, parent_at, children_at, tally_at, note_at, IsMarked, AreLinks, noted}
use Rattle.md_lists.proofs.ListLaws.{times-split}
use Rattle.md_lists.proofs.LinkLaws.{mark_once, get_or-set, holds-once-same, holds-once-other, owner_within}
use Rattle.md_cotree.specs.PlaceTrees.{PlaceTree, tip, inner, PlaceTrees, no_more, then, place_of, place_kind, roots, row_length}
use Rattle.md_cotree.proofs.Frames.{hit, miss}
use Rattle.md_cotree_edit.specs.Counts.{child_in, child_row}
use Rattle.md_cotree_edit.specs.Marks.{more, hits_in, full_in, full_row, full_count, mixed_count, walked_count, note_in, note_row, Passes, CanTake, AllCanTake, Walked, AllWalked, TellMarks, none_walked, WalkView, AreWalkedOver, CanWalk, walked_on, ClimbView, CanClimb, walked_to, marked_walked}
use Rattle.md_cotree_edit.proofs.Trees.LocalCounts.{cond_no, cond_yes}
use Rattle.md_cotree_edit.proofs.Trees.CountsAtNode.{Sub, SubRow, sub_refl, sub_trans, take_sub, walked_sub, at_in, at_row, nothing, node_child, node_kind, node_length, node_tally, node_note, tip_note, find_parent}
use Rattle.md_cotree_edit.proofs.Climbs.WalkedList.{IsPassing, pass_seen, pass_fresh}
use Rattle.md_cotree_edit.proofs.Marks.MarkedBelow.{bit, full_walked, hit_mark, are_shown, walk_hit, walks_low, walks_high}
use Rattle.md_cotree_edit.proofs.Marks.MarksAroundHole.{fulls_low, walked_none}

-- one place
abbrev pub only : ℕ → ℕ → ℕ
only c p = cond (c == p) 1 0

spread : (a x y : ℕ) → a * (x + y) ≡ a * x + a * y
spread a x y = omega arith

module _ (m w : ℕ → ℕ) (c : ℕ) where
  pub more_count : (ts : PlaceTrees) → walked_count m (more w c) ts ≡ walked_count m (only c) ts + walked_count m w ts
  more_count no_more = refl
  more_count (then t ts) =
      let here = spread (1 - full_in m t) (cond (c == place_of t) 1 0) (w (place_of t)) in
      let rest = more_count ts in
      omega arith

  mutual
    note_more : (p : ℕ) (t : PlaceTree) → note_in m (more w c) p t ≡ note_in m w p t + 2 * at_in (λ v. 0) (λ k ts. walked_count m (only c) ts) p t
    note_more p (tip q v) = let e = nothing (q == p) in omega arith
    note_more p (inner q k ts) =
        let rest = notes_more p ts in
        let count = more_count ts in
        elim (cases_eq q p) [
          | inl same ↦
              let x = cond_yes q p (full_row m ts + 2 * walked_count m (more w c) ts) same in
              let y = cond_yes q p (full_row m ts + 2 * walked_count m w ts) same in
              let z = cond_yes q p (walked_count m (only c) ts) same in
              omega arith
          | inr other ↦
              let x = cond_no q p (full_row m ts + 2 * walked_count m (more w c) ts) other in
              let y = cond_no q p (full_row m ts + 2 * walked_count m w ts) other in
              let z = cond_no q p (walked_count m (only c) ts) other in
              omega arith
        ]

    notes_more : (p : ℕ) (ts : PlaceTrees) → note_row m (more w c) p ts ≡ note_row m w p ts + 2 * at_row (λ v. 0) (λ k us. walked_count m (only c) us) p ts
    notes_more p no_more = refl
    notes_more p (then t ts) = let first = note_more p t in let rest = notes_more p ts in omega arith

-- how often a place stands as a child that isn't full
module _ (m : ℕ → ℕ) (c u : ℕ) where
  pub lean_row : (ts : PlaceTrees) → ((s : PlaceTree) → SubRow s ts → place_of s ≡ c → 1 - full_in m s ≡ u) → walked_count m (only c) ts ≡ u * times c (roots ts)
  lean_row no_more each = omega arith
  lean_row (then t ts) each =
      let rest = lean_row ts (λ s sub. each s (inr sub)) in
      elim (cases_eq (place_of t) c) [
        | inl same ↦
            let e = each t (inl (sub_refl t)) same in
            let a : (1 - full_in m t) * cond (c == place_of t) 1 0 ≡ u * 1 = λ i. e i * hit c (place_of t) (sym same) i in
            let b : u * (cond (place_of t == c) 1 0 + times c (roots ts)) ≡ u * (1 + times c (roots ts)) = ap (λ z. u * (z + times c (roots ts))) (hit (place_of t) c same) in
            omega arith
        | inr other ↦
            let a : (1 - full_in m t) * cond (c == place_of t) 1 0 ≡ (1 - full_in m t) * 0 = ap (λ z. (1 - full_in m t) * z) (miss c (place_of t) (λ e. other (sym e))) in
            let b : u * (cond (place_of t == c) 1 0 + times c (roots ts)) ≡ u * (0 + times c (roots ts)) = ap (λ z. u * (z + times c (roots ts))) (miss (place_of t) c other) in
            omega arith
      ]

  module _ (p : ℕ) where
    mutual
      pub lean_in : (t : PlaceTree) → ((s : PlaceTree) → Sub s t → place_of s ≡ c → 1 - full_in m s ≡ u) → at_in (λ v. 0) (λ k ts. walked_count m (only c) ts) p t ≡ u * child_in p c t
      lean_in (tip q v) each = let e = nothing (q == p) in omega arith
      lean_in (inner q k ts) each =
          let row = lean_row ts (λ s sub. each s (inr sub)) in
          let rest = leans_in ts (λ s sub. each s (inr sub)) in
          elim (cases_eq q p) [
            | inl same ↦
                let x = cond_yes q p (walked_count m (only c) ts) same in
                let y : u * (cond (q == p) (times c (roots ts)) 0 + child_row p c ts) ≡ u * (times c (roots ts) + child_row p c ts) = ap (λ z. u * (z + child_row p c ts)) (cond_yes q p (times c (roots ts)) same) in
                omega arith
            | inr other ↦
                let x = cond_no q p (walked_count m (only c) ts) other in
                let y : u * (cond (q == p) (times c (roots ts)) 0 + child_row p c ts) ≡ u * (0 + child_row p c ts) = ap (λ z. u * (z + child_row p c ts)) (cond_no q p (times c (roots ts)) other) in
                omega arith
          ]

      leans_in : (ts : PlaceTrees) → ((s : PlaceTree) → SubRow s ts → place_of s ≡ c → 1 - full_in m s ≡ u) → at_row (λ v. 0) (λ k us. walked_count m (only c) us) p ts ≡ u * child_row p c ts
      leans_in no_more each = omega arith
      leans_in (then t ts) each =
          let first = lean_in t (λ s sub. each s (inl sub)) in
          let rest = leans_in ts (λ s sub. each s (inr sub)) in
          omega arith

-- ---- from all nodes to the tree

mutual
  pub walked_from : (m w : ℕ → ℕ) (t : PlaceTree) →
      ((q : ℕ) (k : Bool) (us : PlaceTrees) → Sub (inner q k us) t → (walked_count m w us ≤ 1) × (walked_count m w us ≡ 1 → Passes k (full_count m us) (row_length us))) → Walked m w t
  walked_from m w (tip p v) each = tt
  walked_from m w (inner p k ts) each = let e = each p k ts (inl refl) in (e.0, e.1, walked_from_row m w ts (λ q j us sub. each q j us (inr sub)))

  walked_from_row : (m w : ℕ → ℕ) (ts : PlaceTrees) →
      ((q : ℕ) (k : Bool) (us : PlaceTrees) → SubRow (inner q k us) ts → (walked_count m w us ≤ 1) × (walked_count m w us ≡ 1 → Passes k (full_count m us) (row_length us))) → AllWalked m w ts
  walked_from_row m w no_more each = tt
  walked_from_row m w (then t ts) each = (walked_from m w t (λ q j us sub. each q j us (inl sub)), walked_from_row m w ts (λ q j us sub. each q j us (inr sub)))

mutual
  pub take_from : (m : ℕ → ℕ) (t : PlaceTree) →
      ((q : ℕ) (k : Bool) (us : PlaceTrees) → Sub (inner q k us) t → (mixed_count m us ≤ 1) × (mixed_count m us ≡ 1 → Passes k (full_count m us) (row_length us))) → CanTake m t
  take_from m (tip p v) each = tt
  take_from m (inner p k ts) each = let e = each p k ts (inl refl) in (e.0, e.1, take_from_row m ts (λ q j us sub. each q j us (inr sub)))

  take_from_row : (m : ℕ → ℕ) (ts : PlaceTrees) →
      ((q : ℕ) (k : Bool) (us : PlaceTrees) → SubRow (inner q k us) ts → (mixed_count m us ≤ 1) × (mixed_count m us ≡ 1 → Passes k (full_count m us) (row_length us))) → AllCanTake m ts
  take_from_row m no_more each = tt
  take_from_row m (then t ts) each = (take_from m t (λ q j us sub. each q j us (inl sub)), take_from_row m ts (λ q j us sub. each q j us (inr sub)))

pub none_walks : (m : ℕ → ℕ) (t : PlaceTree) → Walked m none_walked t
none_walks m t = walked_from m none_walked t (λ q k us sub. (let e = walked_none m us in omega arith, λ one. absurd (let e = walked_none m us in omega arith)))

-- ---- one turn

module _ (l : Links) (ok : AreLinks l) (d : WalkView) (is : AreWalkedOver l d) where
  abbrev m : ℕ → ℕ
  m = d.marks

  abbrev w : ℕ → ℕ
  w = d.walked

  abbrev t : PlaceTree
  t = d.tree

  -- a place with the note of a full one is full, and no other one is
  full_one : (c : ℕ) → note_at l c ≡ 1 → (s : PlaceTree) → Sub s t → place_of s ≡ c → 1 - full_in m s ≡ 0
  full_one c note (tip q v) sub at = let e = tip_note l t is.kept m w is.told q v sub in let f = ap (note_at l) at in omega arith
  full_one c note (inner q k us) sub at = let e = node_note l t is.kept m w is.told q k us sub in let f = ap (note_at l) at in omega arith

  full_none : (c : ℕ) → (note_at l c ≡ 1 → ⊥) → (s : PlaceTree) → Sub s t → place_of s ≡ c → 1 - full_in m s ≡ 1
  full_none c note (tip q v) sub at =
      let e = tip_note l t is.kept m w is.told q v sub in
      let f = ap (note_at l) at in
      elim (bit (m v) (is.marks v)) [ inl nope ↦ omega arith | inr yep ↦ absurd (note (omega arith)) ]
  full_none c note (inner q k us) sub at =
      let e = node_note l t is.kept m w is.told q k us sub in
      let f = ap (note_at l) at in
      elim (bit (full_row m us) (fulls_low m is.marks us)) [
        | inl nope ↦ omega arith
        | inr yep ↦ absurd (note (let walk = full_walked m is.marks w us yep in omega arith))
      ]

  module _ (c u : ℕ) (each : (s : PlaceTree) → Sub s t → place_of s ≡ c → 1 - full_in m s ≡ u) where
    -- a place comes to what was walked over of a row
    lean_node : (q : ℕ) (k : Bool) (us : PlaceTrees) → Sub (inner q k us) t → walked_count m (only c) us ≡ u * holds_once (parent_at l c) q
    lean_node q k us sub =
        lean_row m c u us (λ s at. each s (sub_trans s (inner q k us) t (inr at) sub)) ∙ ap (λ z. u * z) (node_child l t is.kept q k us sub c)

    note_turn : (p : ℕ) → note_in m (more w c) p t ≡ note_in m w p t + 2 * (u * holds_once (parent_at l c) p)
    note_turn p =
        let e : child_in p c t ≡ holds_once (parent_at l c) p = let k = is.kept.links p c in omega arith in
        note_more m w c p t ∙ ap (λ z. note_in m w p t + 2 * z) (lean_in m c u p t each ∙ ap (λ z. u * z) e)

    -- nothing is told to a parent where the place is full, or has none
    same_turn : ((p : ℕ) → u * holds_once (parent_at l c) p ≡ 0) → AreWalkedOver l (walked_on d c)
    same_turn none = record {
      kept = is.kept;
      marks = is.marks;
      alternates = is.alternates;
      told = record {
        tallies = is.told.tallies;
        notes = λ p. let e = is.told.notes p in let f = note_turn p in let z = none p in omega arith;
      };
      walked = walked_from m (more w c) t (λ q k us sub.
          let was = walked_sub m w (inner q k us) t sub is.walked in
          let e = more_count m w c us in
          let f = lean_node q k us sub in
          let z = none q in
          (let low = was.0 in omega arith, λ one. was.1 (omega arith)));
    }

  pub full_turn : (c : ℕ) → note_at l c ≡ 1 → AreWalkedOver l (walked_on d c)
  full_turn c note = same_turn c 0 (full_one c note) (λ p. omega arith)

  pub root_turn : (c : ℕ) → (note_at l c ≡ 1 → ⊥) → parent_at l c ≡ None → AreWalkedOver l (walked_on d c)
  root_turn c note root = same_turn c 1 (full_none c note) (λ p. let e = ap (λ o. holds_once o p) root in omega arith)

  -- the parent of a place that isn't full
  module _ (c q : ℕ) (lean : note_at l c ≡ 1 → ⊥) (up : parent_at l c ≡ Some q) where
    held_here : holds_once (parent_at l c) q ≡ 1
    held_here = ap (λ o. holds_once o q) up ∙ holds-once-same q

    only_one : (k : Bool) (us : PlaceTrees) → Sub (inner q k us) t → walked_count m (only c) us ≡ 1
    only_one k us sub = let e = lean_node c 1 (full_none c lean) q k us sub in let h = held_here in omega arith

    pub parent_note : (k : Bool) (us : PlaceTrees) → Sub (inner q k us) t → note_at l q ≡ 2 * walked_count m w us
    parent_note k us sub =
        let e = node_note l t is.kept m w is.told q k us sub in
        let one = only_one k us sub in
        elim (bit (full_row m us) (fulls_low m is.marks us)) [
          | inl nope ↦ omega arith
          | inr yep ↦ absurd (let none = full_walked m is.marks (only c) us yep in omega arith)
        ]

    pub parent_kind : (k : Bool) × (kind_at l q ≡ Some (place_kind k))
    parent_kind = let row = find_parent l t is.kept q c up in (row.0, node_kind l t is.kept q row.0 row.1 row.2)

    -- what the parent of a place says
    row_passes : (k : Bool) (us : PlaceTrees) → Sub (inner q k us) t → Passes k (tally_at l q) (length (children_at l q)) → Passes k (full_count m us) (row_length us)
    row_passes k us sub pass =
        subst (λ z. Passes k z (row_length us)) (node_tally l t is.kept m w is.told q k us sub)
        (subst (λ z. Passes k (tally_at l q) z) (node_length l t is.kept ok q k us sub) pass)

    passes_row : (k : Bool) (us : PlaceTrees) → Sub (inner q k us) t → Passes k (full_count m us) (row_length us) → Passes k (tally_at l q) (length (children_at l q))
    passes_row k us sub pass =
        subst (λ z. Passes k z (length (children_at l q))) (sym (node_tally l t is.kept m w is.told q k us sub))
        (subst (λ z. Passes k (full_count m us) z) (sym (node_length l t is.kept ok q k us sub)) pass)

    -- the parent is noted
    module _ (fresh : note_at l q ≡ 2 → ⊥) where
      no_note : (k : Bool) (us : PlaceTrees) → Sub (inner q k us) t → walked_count m w us ≡ 0
      no_note k us sub =
          let e = parent_note k us sub in
          let low = (walked_sub m w (inner q k us) t sub is.walked).0 in
          elim (bit (walked_count m w us) low) [ inl nope ↦ nope | inr yep ↦ absurd (fresh (omega arith)) ]

      note_zero : note_at l q ≡ 0
      note_zero = let row = find_parent l t is.kept q c up in let e = parent_note row.0 row.1 row.2 in let z = no_note row.0 row.1 row.2 in omega arith

      pub noted_turn : ((k : Bool) → kind_at l q ≡ Some (place_kind k) → Passes k (tally_at l q) (length (children_at l q))) → AreWalkedOver (noted l q 2) (walked_on d c)
      noted_turn pass = record {
        kept = record { each = is.kept.each; kinds = is.kept.kinds; links = is.kept.links };
        marks = is.marks;
        alternates = is.alternates;
        told = record {
          tallies = is.told.tallies;
          notes = λ p.
              let now : note_at (noted l q 2) p ≡ cond (p == q) 2 (note_at l p) = get_or-set l.notes q p 2 0 (let in_it = owner_within l ok q c up in let e = ok.notes_len in omega arith) in
              let e = is.told.notes p in
              let f = note_turn c 1 (full_none c lean) p in
              elim (cases_eq p q) [
                | inl same ↦
                    let y : note_at (noted l q 2) p ≡ 2 = now ∙ ap (λ b. cond b 2 (note_at l p)) (eq-eqb p q same) in
                    let z : note_at l p ≡ 0 = ap (note_at l) same ∙ note_zero in
                    let h : holds_once (parent_at l c) p ≡ 1 = ap (holds_once (parent_at l c)) same ∙ held_here in
                    omega arith
                | inr other ↦
                    let y : note_at (noted l q 2) p ≡ note_at l p = now ∙ ap (λ b. cond b 2 (note_at l p)) (ne_eqb p q other) in
                    let h : holds_once (parent_at l c) p ≡ 0 = ap (λ o. holds_once o p) up ∙ holds-once-other q p (λ e. other (sym e)) in
                    omega arith
              ];
        };
        walked = walked_from m (more w c) t (λ p k us sub.
            let was = walked_sub m w (inner p k us) t sub is.walked in
            let e = more_count m w c us in
            elim (cases_eq p q) [
              | inl same ↦
                  let here : Sub (inner q k us) t = subst (λ z. Sub (inner z k us) t) same sub in
                  let one = only_one k us here in
                  let none = no_note k us here in
                  (omega arith, λ x. row_passes k us here (pass k (node_kind l t is.kept q k us here)))
              | inr other ↦
                  let f = lean_node c 1 (full_none c lean) p k us sub in
                  let h : holds_once (parent_at l c) p ≡ 0 = ap (λ o. holds_once o p) up ∙ holds-once-other q p (λ e. other (sym e)) in
                  (let low = was.0 in omega arith, λ x. was.1 (omega arith))
            ]);
      }

    -- a breach
    module _ (seen : (p : ℕ) → w p ≤ times p l.marked) (marked : IsMarked l c) where
      hit_all : (v : ℕ → ℕ) → ((p : ℕ) → v p ≤ times p l.marked) → (k : Bool) (us : PlaceTrees) → Sub (inner q k us) t → walked_count m v us ≤ mixed_count m us
      hit_all v each k us sub =
          walks_low m v us (λ s at.
          walk_hit (λ p. tally_at l p + note_at l p) m w (λ p. let e = ok.marks p in let f = seen p in omega arith) t (are_shown l t is.kept m w is.told) is.alternates v
          (λ p. let e = ok.marks p in let f = each p in omega arith) s (sub_trans s (inner q k us) t (inr at) sub))

      only_low : (p : ℕ) → only c p ≤ times p l.marked
      only_low p =
          elim (cases_eq c p) [
            | inl same ↦ let h = hit c p same in let e : times p l.marked ≡ 1 = ap (λ z. times z l.marked) (sym same) ∙ marked in omega arith
            | inr other ↦ let h = miss c p other in omega arith
          ]

      pub breach_noted : w c ≡ 0 → note_at l q ≡ 2 → CanTake m t → ⊥
      breach_noted new note can =
          let row = find_parent l t is.kept q c up in
          let e = parent_note row.0 row.1 row.2 in
          let one = only_one row.0 row.1 row.2 in
          let count = more_count m w c row.1 in
          let low = hit_all (more w c) more_low row.0 row.1 row.2 in
          let take = (take_sub m (inner q row.0 row.1) t row.2 can).0 in
          omega arith
        where
          more_low : (p : ℕ) → more w c p ≤ times p l.marked
          more_low p =
              elim (cases_eq c p) [
                | inl same ↦ let h = hit c p same in let e : times p l.marked ≡ 1 = ap (λ z. times z l.marked) (sym same) ∙ marked in let f : w p ≡ 0 = ap w (sym same) ∙ new in omega arith
                | inr other ↦ let h = miss c p other in let f = seen p in omega arith
              ]

      pub breach_fails : ((k : Bool) → kind_at l q ≡ Some (place_kind k) → Passes k (tally_at l q) (length (children_at l q)) → ⊥) → CanTake m t → ⊥
      breach_fails fail can =
          let row = find_parent l t is.kept q c up in
          let one = only_one row.0 row.1 row.2 in
          let low = hit_all (only c) only_low row.0 row.1 row.2 in
          let take = take_sub m (inner q row.0 row.1) t row.2 can in
          let most = take.0 in
          fail row.0 (node_kind l t is.kept q row.0 row.1 row.2) (passes_row row.0 row.1 row.2 (take.1 (omega arith)))

  -- all marked places were walked over
  module _ (all : (p : ℕ) → w p ≡ times p l.marked) where
    all_low : (p : ℕ) → w p ≤ min 1 (tally_at l p + note_at l p)
    all_low p = let e = ok.marks p in let a = all p in omega arith

    all_hit : (s : PlaceTree) → Sub s t → w (place_of s) ≤ min 1 (hits_in m s)
    all_hit s sub =
        walk_hit (λ p. tally_at l p + note_at l p) m w (λ p. let e = all_low p in omega arith) t (are_shown l t is.kept m w is.told) is.alternates w all_low s sub

    hit_all_marked : (s : PlaceTree) → Sub s t → min 1 (hits_in m s) ≤ w (place_of s)
    hit_all_marked s sub =
        elim (cases_lt 0 (hits_in m s)) [
          | inl some ↦
              let mark = hit_mark (λ p. tally_at l p + note_at l p) m w is.marks (λ p x. let e = ok.marks p in let a = all p in omega arith) s
              (λ r at. are_shown l t is.kept m w is.told r (sub_trans r s t at sub)) some in
              let e = ok.marks (place_of s) in
              let a = all (place_of s) in
              omega arith
          | inr none ↦ omega arith
        ]

    pub walked_takes : CanTake m t
    walked_takes =
        take_from m t (λ q k us sub.
        let was = walked_sub m w (inner q k us) t sub is.walked in
        let few = was.0 in
        let low = walks_low m w us (λ s at. all_hit s (sub_trans s (inner q k us) t (inr at) sub)) in
        let high = walks_high m w us (λ s at. hit_all_marked s (sub_trans s (inner q k us) t (inr at) sub)) in
        (omega arith, λ one. was.1 (omega arith)))

-- ---- the whole walk

pub climb_begin : (l : Links) (d : ClimbView) → CanClimb l d → AreWalkedOver l (walked_to d [])
climb_begin l d can = record { kept = can.kept; marks = can.marks; alternates = can.alternates; told = can.told; walked = none_walks d.marks d.tree }

pub climb_next : (l : Links) (d : ClimbView) (done : List ℕ) (c : ℕ) → AreWalkedOver l (walked_on (walked_to d done) c) → AreWalkedOver l (walked_to d (done ++ c ∷ []))
climb_next l d done c is = subst (AreWalkedOver l) (λ i. record { marks = d.marks; walked = λ p. same p i; tree = d.tree }) is
  where
    same : (p : ℕ) → more (λ x. times x done) c p ≡ times p (done ++ c ∷ [])
    same p = let e = times-split p c done [] in omega arith

pub climb_at : (l : Links) (ok : AreLinks l) (d : ClimbView) (done : List ℕ) (c : ℕ) → IsPassing done l.marked (Some c) → AreWalkedOver l (walked_to d done) → CanWalk l c (walked_to d done)
climb_at l ok d done c pass is = record {
  walked = is;
  seen = pass_seen done l.marked c pass;
  fresh = pass_fresh done l.marked c pass (mark_once l ok c);
}

pub climb_marked : (l : Links) (ok : AreLinks l) (c : ℕ) → 0 < times c l.marked → IsMarked l c
climb_marked l ok c some = let once = mark_once l ok c in omega arith

pub climb_told : (l : Links) (d : ClimbView) (done : List ℕ) → l.marked ≡ done → AreWalkedOver l (walked_to d done) → TellMarks l d.marks (marked_walked l) d.tree
climb_told l d done all is = subst (λ xs. TellMarks l d.marks (λ p. times p xs) d.tree) (sym all) is.told

pub climb_takes : (l : Links) (ok : AreLinks l) (d : ClimbView) (done : List ℕ) → l.marked ≡ done → AreWalkedOver l (walked_to d done) → CanTake d.marks d.tree
climb_takes l ok d done all is = walked_takes l ok (walked_to d done) is (λ p. sym (ap (times p) all))
