-- A leaf is marked, and from there on up each node that is full then.
use Rattle.std.proofs.Common.{◌≡◌, ℕ, ◌+◌, ◌*◌, ◌<◌, ◌≤◌, Bool, true, false, cond, ◌==◌, List, [], ◌∷◌, ◌++◌, length, Some, None, refl, sym, ◌∙◌, ap, subst, inl, inr, arith}
use Rattle.std.proofs.lemmas.Bool.{cases_eq, cases_lt, eq-eqb, ne_eqb, eqb-true}
use Rattle.std.proofs.lemmas.Option.{none-some, same_Some}
use Rattle.md_lists.specs.declared.TheConstants.{PLACES}
use Rattle.md_graph.specs.Linked.{times}
use Rattle.md_lists.specs.Links.{Links, parent_at, children_at, tally_at, note_at, IsLive, AreLinks, raised, noted}
use Rattle.md_lists.proofs.LinkLaws.{get_or-set, held, live_within, few_children, raised_links}
use Rattle.md_cotree.specs.PlaceTrees.{PlaceTree, tip, inner, PlaceTrees, no_more, then, place_of, roots, times_in, times_among, leaves_in, leaves_among, row_length}
use Rattle.md_cotree.proofs.Frames.{hit, some_of}
use Rattle.md_cotree.proofs.Room.{room}
use Rattle.md_cotree_edit.specs.Counts.{name_in, name_row}
use Rattle.md_cotree_edit.specs.Contexts.{Frame, fill, plug, AreTreesKept}
use Rattle.md_cotree_edit.specs.Marks.{more, full_in, full_row, full_count, full_nodes, tally_in, note_in, note_row, none_walked, TellMarks, AreStill, MarkView, CanMark}
use Rattle.md_cotree_edit.proofs.Trees.SameRows.{plug_last, tree_name}
use Rattle.md_cotree_edit.proofs.Trees.LocalCounts.{cond_zero, cond_no, cond_yes, child_plug, sum_no}
use Rattle.md_cotree_edit.proofs.Trees.KeptTrees.{kept_once, kept_live, kept_loose, to_fits, kept_along}
use Rattle.md_cotree_edit.proofs.Trees.AdoptedTrees.{kept_count}
use Rattle.md_cotree_edit.proofs.Marks.OnlyMarksDiffer.{kept_still}
use Rattle.md_cotree_edit.proofs.Marks.SameMarks.{AreAlike, AlikeTree, alike_refl, alike_trans, alike_first, alike_inner, ahead_more, marks_back, told_same, tree_nodes}
use Rattle.md_cotree_edit.proofs.Marks.MarksAroundHole.{frames_times, times_hole, frames_names, name_hole, frames_tally, frames_note, frames_nodes, tally_hole, note_fill, note_hole, nodes_hole, AreUnmoved, unmoved_row, frames_tally_same, frames_note_same, frames_nodes_same, tally_none, tallies_none, note_none, notes_none, frames_tally_none, frames_note_none, full_count_low, count_full, count_less, node_hole, nodes_low, frames_nodes_low, more_marks}
use Rattle.md_cotree_edit.proofs.Marks.MarkedBelow.{left_zero, right_zero}

-- ---- a tree around one of its leaves

pub record AtLeaf (t : PlaceTree) (p v : ℕ) : Type 0 where
  pub frames : List Frame
  pub alike : AlikeTree t (plug frames (tip p v))

is_leaf : (q p w v : ℕ) → 0 < leaves_in p v (tip q w) → (q ≡ p) × (w ≡ v)
is_leaf q p w v some = let both = some_of (q == p) (w == v) some in (eqb-true q p both.0, eqb-true w v both.1)

mutual
  pub at_leaf : (t : PlaceTree) (p v : ℕ) → 0 < leaves_in p v t → AtLeaf t p v
  at_leaf (tip q w) p v some =
      let is = is_leaf q p w v some in
      record { frames = []; alike = subst (λ s. AlikeTree (tip q w) s) (λ i. tip (is.0 i) (is.1 i)) (alike_refl (then (tip q w) no_more)) }
  at_leaf (inner q k ts) p v some =
      let low = leaf_among ts p v some in
      let f : Frame = record { place = q; series = k; others = low.1 } in
      record {
        frames = low.2.frames ++ f ∷ [];
        alike = subst (AlikeTree (inner q k ts)) (sym (plug_last low.2.frames f (tip p v)))
            (alike_trans (then (inner q k ts) no_more) (then (fill f low.0) no_more) (then (fill f (plug low.2.frames (tip p v))) no_more)
            (alike_inner q k ts (then low.0 low.1) low.3)
            (alike_inner q k (then low.0 low.1) (then (plug low.2.frames (tip p v)) low.1) (alike_first low.0 (plug low.2.frames (tip p v)) low.1 low.2.alike)));
      }

  leaf_among : (ts : PlaceTrees) (p v : ℕ) → 0 < leaves_among p v ts → (t : PlaceTree) × (us : PlaceTrees) × AtLeaf t p v × AreAlike ts (then t us)
  leaf_among no_more p v some = absurd (omega arith)
  leaf_among (then t ts) p v some =
      elim (cases_lt 0 (leaves_in p v t)) [
        | inl here ↦ (t, ts, at_leaf t p v here, alike_refl (then t ts))
        | inr none ↦
            let rest = leaf_among ts p v (omega arith) in
            let ahead = ahead_more t rest.0 ts (record { others = rest.1; alike = rest.3 }) in
            (rest.0, ahead.others, rest.2, ahead.alike)
      ]

-- ---- what raising and noting make of tallies and notes

module _ (l : Links) (ok : AreLinks l) (p : ℕ) (live : IsLive l p) where
  pub raised_tally : (x : ℕ) → tally_at (raised l p) x ≡ tally_at l x + cond (p == x) 1 0
  raised_tally x =
      get_or-set l.tallies p x (tally_at l p + 1) 0 (let w = live_within l ok p live in let e = ok.tallies_len in omega arith)
      ∙ elim (cases_eq x p) [
        | inl same ↦ rw (eq-eqb x p same, eq-eqb p x (sym same)) (let e = ap (tally_at l) same in omega arith)
        | inr other ↦ rw (ne_eqb x p other, ne_eqb p x (λ e. other (sym e))) (omega arith)
      ]

  pub noted_note : (note x : ℕ) → note_at (noted l p note) x ≡ cond (x == p) note (note_at l x)
  noted_note note x = get_or-set l.notes p x note 0 (let w = live_within l ok p live in let e = ok.notes_len in omega arith)

  -- where there was no note
  pub noted_more : (note x : ℕ) → note_at l p ≡ 0 → note_at (noted l p note) x ≡ note_at l x + cond (p == x) note 0
  noted_more note x none =
      noted_note note x
      ∙ elim (cases_eq x p) [
        | inl same ↦ rw (eq-eqb x p same, eq-eqb p x (sym same)) (let e = ap (note_at l) same in omega arith)
        | inr other ↦ rw (ne_eqb x p other, ne_eqb p x (λ e. other (sym e))) (omega arith)
      ]

-- ---- the node around a subtree

module _ (l : Links) (ok : AreLinks l) (f : Frame) (fs : List Frame) (sub : PlaceTree) (kept : AreTreesKept l (then (plug (f ∷ fs) sub) no_more)) where
  frame_once : times_in f.place (plug fs (fill f sub)) ≤ 1
  frame_once = let o = kept_once l (then (plug fs (fill f sub)) no_more) kept f.place in omega arith

  frame_parent : parent_at l (place_of sub) ≡ Some f.place
  frame_parent =
      let h = hit f.place f.place refl in
      let g = hit (place_of sub) (place_of sub) refl in
      let low = child_plug fs f.place (place_of sub) (fill f sub) (omega arith) frame_once in
      let here = cond_yes f.place f.place (times (place_of sub) (roots (then sub f.others))) refl in
      let e = kept.links f.place (place_of sub) in
      held (parent_at l (place_of sub)) f.place (omega arith)

  frame_live : IsLive l f.place
  frame_live =
      kept_live l (then (plug fs (fill f sub)) no_more) kept f.place (let e = times_hole fs f.place (fill f sub) in let h = hit f.place f.place refl in omega arith)

  frame_apart : (times_in f.place sub ≡ 0) × (times_among f.place f.others ≡ 0) × (frames_times f.place fs ≡ 0)
  frame_apart =
      let e = times_hole fs f.place (fill f sub) in
      let h = hit f.place f.place refl in
      let o = frame_once in
      (omega arith, omega arith, omega arith)

  frame_long : length (children_at l f.place) ≡ 1 + row_length f.others
  frame_long = kept_count l ok fs f.place f.series (then sub f.others) no_more kept

-- ---- on the way up

-- the subtree in the hole is full now, and wasn't; above it tallies and notes are as they were
pub record IsRiseAt (l : Links) (m : ℕ → ℕ) (n : ℕ) (t : PlaceTree) (place begun steps : ℕ) (fs : List Frame) (sub : PlaceTree) : Type 0 where
  pub root : place_of sub ≡ place
  pub alike : AlikeTree t (plug fs sub)
  pub here : name_in n sub ≡ 1
  pub full : full_in (more m n) sub ≡ 1
  pub was : full_in m sub ≡ 0
  pub tallies : (p : ℕ) → tally_at l p ≡ tally_in (more m n) p sub + frames_tally m p fs 0
  pub notes : (p : ℕ) → note_at l p ≡ note_in (more m n) none_walked p sub + frames_note m p fs 0
  pub few : steps + 5 * full_nodes m t ≤ begun + 1 + 5 * (full_nodes (more m n) sub + frames_nodes m fs 0)

abbrev pub IsRising : Links → (ℕ → ℕ) → ℕ → PlaceTree → ℕ → ℕ → ℕ → Type 0
IsRising l m n t place begun steps = (fs : List Frame) × (sub : PlaceTree) × IsRiseAt l m n t place begun steps fs sub

module _ (l0 : Links) (ok0 : AreLinks l0) (leaf : ℕ) (d : MarkView) (can : CanMark l0 leaf d) where
  abbrev m : ℕ → ℕ
  m = d.marks

  abbrev n : ℕ
  n = d.name

  abbrev t : PlaceTree
  t = d.tree

  abbrev k : ℕ → ℕ
  k = more d.marks d.name

  start : AtLeaf t leaf n
  start = at_leaf t leaf n (let e = can.leaf in omega arith)

  start_kept : AreTreesKept l0 (then (plug start.frames (tip leaf n)) no_more)
  start_kept = kept_along l0 (then t no_more) (then (plug start.frames (tip leaf n)) no_more) start.alike.same can.kept

  pub mark_live : IsLive l0 leaf
  mark_live = kept_live l0 (then (plug start.frames (tip leaf n)) no_more) start_kept leaf (let e = times_hole start.frames leaf (tip leaf n) in let h = hit leaf leaf refl in omega arith)

  start_apart : frames_times leaf start.frames ≡ 0
  start_apart =
      let e = times_hole start.frames leaf (tip leaf n) in
      let h = hit leaf leaf refl in
      let o = kept_once l0 (then (plug start.frames (tip leaf n)) no_more) start_kept leaf in
      omega arith

  start_told : TellMarks l0 m none_walked (plug start.frames (tip leaf n))
  start_told = told_same l0 m none_walked t (plug start.frames (tip leaf n)) can.told (start.alike.marks m none_walked)

  more_here : k n ≡ 1
  more_here = let e = can.fresh in let h = hit n n refl in omega arith

  start_note : (p : ℕ) → note_at l0 p ≡ frames_note m p start.frames 0
  start_note p =
      start_told.notes p ∙ note_hole m p start.frames (tip leaf n)
      ∙ sum_no _ _ _ tip_note (ap (frames_note m p start.frames) can.fresh)
    where
      tip_note : cond (leaf == p) (m n) 0 ≡ 0
      tip_note = elim (cases_eq leaf p) [ inl same ↦ cond_yes leaf p (m n) same ∙ can.fresh | inr other ↦ cond_no leaf p (m n) other ]

  pub mark_begun : (l : Links) → l ≡ noted l0 leaf 1 → (begun steps : ℕ) → steps ≡ begun + 1 → IsRising l m n t leaf begun steps
  mark_begun l is begun steps one = (
    start.frames,
    tip leaf n,
    record {
      root = refl;
      alike = start.alike;
      here = hit n n refl;
      full = more_here;
      was = can.fresh;
      tallies = λ p. ap (λ (z : Links). tally_at z p) is ∙ start_told.tallies p ∙ tally_hole m p start.frames (tip leaf n) ∙ ap (λ b. 0 + frames_tally m p start.frames b) can.fresh;
      notes = λ p.
          ap (λ (z : Links). note_at z p) is ∙ noted_more l0 ok0 leaf mark_live 1 p (start_note leaf ∙ frames_note_none m leaf start.frames 0 start_apart)
          ∙ turned _ _ _ _ (start_note p) (ap (λ b. cond (leaf == p) b 0) more_here);
      few =
          let e : full_nodes m (plug start.frames (tip leaf n)) ≡ 0 + frames_nodes m start.frames 0 = nodes_hole m start.frames (tip leaf n) ∙ ap (λ b. 0 + frames_nodes m start.frames b) can.fresh in
          let s = tree_nodes m none_walked t (plug start.frames (tip leaf n)) (start.alike.marks m none_walked) in
          omega arith;
    },
  )
    where
      turned : (a b c e : ℕ) → a ≡ b → c ≡ e → a + e ≡ c + b
      turned a b c e f g = omega arith

  -- there are no more steps than places allow
  pub rise_low : (l : Links) (place begun steps : ℕ) → IsRising l m n t place begun steps → steps ≤ begun + 1 + 5 * PLACES
  rise_low l place begun steps is =
      let at = is.2 in
      let fits = to_fits l0 ok0 t can.kept in
      let all = room l0 (then fits.0 no_more) ok0 fits.1 in
      let a = fits.2.nodes in
      let b = at.alike.same.nodes in
      let c = node_hole is.0 is.1 in
      let low = nodes_low k (more_marks m n can.marks can.fresh) is.1 in
      let around = frames_nodes_low m can.marks is.0 0 (omega arith) in
      let few = at.few in
      omega arith

  module _ (l : Links) (ok : AreLinks l) (still : AreStill l0 l) (place begun steps : ℕ) where
    told_back : (s : PlaceTree) → AlikeTree t s → TellMarks l k none_walked s → TellMarks l k none_walked t
    told_back s alike told = told_same l k none_walked s t told (marks_back k none_walked (then t no_more) (then s no_more) (alike.marks k none_walked))

    whole_kept : (s : PlaceTree) → AlikeTree t s → AreTreesKept l (then s no_more)
    whole_kept s alike = kept_along l (then t no_more) (then s no_more) alike.same (kept_still l0 l (then t no_more) still can.kept)

    -- at the root
    pub rise_end : parent_at l place ≡ None → IsRising l m n t place begun steps → TellMarks l k none_walked t × (steps + 5 * full_nodes m t ≤ begun + 1 + 5 * full_nodes k t)
    rise_end none is = go is.0 is.1 is.2
      where
        go : (fs : List Frame) (sub : PlaceTree) → IsRiseAt l m n t place begun steps fs sub → TellMarks l k none_walked t × (steps + 5 * full_nodes m t ≤ begun + 1 + 5 * full_nodes k t)
        go [] sub at = (
          told_back sub at.alike (record { tallies = λ p. at.tallies p ∙ omega arith; notes = λ p. at.notes p ∙ omega arith }),
          let s = tree_nodes k none_walked t sub (at.alike.marks k none_walked) in let e = at.few in omega arith,
        )
        go (f ∷ fs) sub at = absurd (none-some f.place (sym none ∙ ap (parent_at l) (sym at.root) ∙ frame_parent l ok f fs sub (whole_kept (plug (f ∷ fs) sub) at.alike)))

    -- below a node
    module _ (f : Frame) (fs : List Frame) (sub : PlaceTree) (at : IsRiseAt l m n t place begun steps (f ∷ fs) sub) where
      kept : AreTreesKept l (then (plug (f ∷ fs) sub) no_more)
      kept = whole_kept (plug (f ∷ fs) sub) at.alike

      live : IsLive l f.place
      live = frame_live l ok f fs sub kept

      apart : (times_in f.place sub ≡ 0) × (times_among f.place f.others ≡ 0) × (frames_times f.place fs ≡ 0)
      apart = frame_apart l ok f fs sub kept

      no_names : (name_row n f.others ≡ 0) × (frames_names n fs ≡ 0)
      no_names =
          let e = name_hole fs n (fill f sub) in
          let o = tree_name t (plug (f ∷ fs) sub) at.alike.same n in
          let one = can.once in
          let here = at.here in
          (omega arith, omega arith)

      beside : AreUnmoved m k f.others
      beside = unmoved_row m n f.others no_names.0

      turn_tally : tally_at l f.place ≡ full_count m f.others
      turn_tally =
          let a = tally_none k f.place sub apart.0 in
          let b = tallies_none m f.place f.others apart.1 in
          let c = frames_tally_none m f.place fs (0 * full_row m f.others) apart.2 in
          let here = cond_yes f.place f.place (0 + full_count m f.others) refl in
          let e = at.tallies f.place in
          omega arith

      turn_room : tally_at l f.place < PLACES
      turn_room =
          let e = turn_tally in
          let low = full_count_low m can.marks f.others in
          let long = frame_long l ok f fs sub kept in
          let few = few_children l ok f.place in
          omega arith

      turn_note : note_at l f.place ≡ 0
      turn_note =
          at.notes f.place
          ∙ sum_none _ _ _ _ (note_none k none_walked f.place sub apart.0) (cond_yes f.place f.place (0 * full_row m f.others) refl ∙ left_zero 0 (full_row m f.others) refl)
          (notes_none m none_walked f.place f.others apart.1) (frames_note_none m f.place fs (0 * full_row m f.others) apart.2)
        where
          sum_none : (a b c e : ℕ) → a ≡ 0 → b ≡ 0 → c ≡ 0 → e ≡ 0 → a + ((b + c) + e) ≡ 0
          sum_none a b c e f g h i = omega arith

      -- with the node's tally raised
      tally_turned : (x : ℕ) → tally_at (raised l f.place) x ≡ tally_in k x (fill f sub) + frames_tally m x fs 0
      tally_turned x =
          raised_tally l ok f.place live x
          ∙ add_up _ _ _ _ _ _ _ _ _ _ (at.tallies x) (λ i. cond (f.place == x) (at.full i + beside.counted i) 0) (one_more (f.place == x) (full_count m f.others)) (beside.tallies x)
          (ap (frames_tally m x fs) (left_zero 0 (full_row m f.others) refl))
        where
          one_more : (b : Bool) (c : ℕ) → ◌≡◌ {A = ℕ} (cond b (1 + c) 0) (cond b (0 + c) 0 + cond b 1 0)
          one_more true c = omega arith
          one_more false c = refl

          add_up : (tally low here row rest one turned more after row2 : ℕ) → tally ≡ low + ((here + row) + rest) → turned ≡ more → more ≡ here + one → row2 ≡ row → rest ≡ after → tally + one ≡ (turned + (low + row2)) + after
          add_up tally low here row rest one turned more after row2 a b c e g = omega arith

      -- with a note at the node, if it is full
      note_turned : (v : ℕ) → full_in k sub * full_row k f.others ≡ v → (x : ℕ) → note_at l x + cond (f.place == x) v 0 ≡ note_in k none_walked x (fill f sub) + frames_note m x fs 0
      note_turned v is x =
          add_up _ _ _ _ _ _ _ _ _ (at.notes x) (cond_zero (f.place == x) (0 * full_row m f.others) (left_zero 0 (full_row m f.others) refl)) (beside.notes x)
          (ap (frames_note m x fs) (left_zero 0 (full_row m f.others) refl)) (note_fill k x f sub ∙ ap (λ z. cond (f.place == x) z 0 + (note_in k none_walked x sub + note_row k none_walked x f.others)) is)
        where
          add_up : (note low here row rest one after row2 turned : ℕ) → note ≡ low + ((here + row) + rest) → here ≡ 0 → row2 ≡ row → rest ≡ after → turned ≡ one + (low + row2) → note + one ≡ turned + after
          add_up note low here row rest one after row2 turned a b c e g = omega arith

      nodes_turned : (v : ℕ) → full_in k sub * full_row k f.others ≡ v → full_nodes k (fill f sub) + frames_nodes m fs 0 ≡ v + (full_nodes k sub + frames_nodes m (f ∷ fs) 0)
      nodes_turned v is = add_up _ _ _ _ _ _ _ _ is beside.nodes (left_zero 0 (full_row m f.others) refl) (ap (frames_nodes m fs) (left_zero 0 (full_row m f.others) refl))
        where
          add_up : (full v low row row2 after zero_times rest : ℕ) → full ≡ v → row2 ≡ row → zero_times ≡ 0 → rest ≡ after → (full + (low + row2)) + after ≡ v + (low + ((zero_times + row) + rest))
          add_up full v low row row2 after zero_times rest a b c e = omega arith

      module _ (j : Links) (is : j ≡ raised l f.place) (tally count : ℕ) (is_tally : tally ≡ tally_at j f.place) (is_count : count ≡ length (children_at j f.place)) where
        count_is : (tally ≡ 1 + full_count m f.others) × (count ≡ 1 + row_length f.others)
        count_is =
            let a = raised_tally l ok f.place live f.place in
            let h = hit f.place f.place refl in
            let b = turn_tally in
            let e : tally_at j f.place ≡ tally_at (raised l f.place) f.place = ap (λ (z : Links). tally_at z f.place) is in
            let c : length (children_at j f.place) ≡ length (children_at l f.place) = ap (λ (z : Links). length (children_at z f.place)) is in
            let long = frame_long l ok f fs sub kept in
            (omega arith, omega arith)

        turn_out : (tally ≡ count → ⊥) → TellMarks j k none_walked t × (steps + 5 * full_nodes m t ≤ begun + 1 + 5 * full_nodes k t)
        turn_out other = (
          told_on,
          (let a = tree_nodes k none_walked t (plug fs (fill f sub)) (at.alike.marks k none_walked) in
              let b : full_nodes k (plug fs (fill f sub)) ≡ full_nodes k (fill f sub) + frames_nodes m fs 0 =
              nodes_hole k fs (fill f sub) ∙ ap (λ z. full_nodes k (fill f sub) + z) (ap (frames_nodes k fs) none ∙ frames_nodes_same m n fs 0 no_names.1) in
              let c = nodes_turned 0 none in
              let e = at.few in
              few_turned _ _ _ _ _ _ _ a b c e),
        )
          where
            none : full_in k sub * full_row k f.others ≡ 0
            none =
                let low = full_count_low m can.marks f.others in
                let e = count_is in
                let less : full_count m f.others < row_length f.others = fewer tally count (full_count m f.others) (row_length f.others) low count_is.0 count_is.1 other in
                ap (λ z. full_in k sub * z) (beside.full ∙ count_less m can.marks f.others less) ∙ right_zero (full_in k sub) 0 refl
              where
                fewer : (a b c e : ℕ) → c ≤ e → a ≡ 1 + c → b ≡ 1 + e → (a ≡ b → ⊥) → c < e
                fewer a b c e low is_a is_b other = elim (cases_lt c e) [ inl less ↦ less | inr not ↦ absurd (other (omega arith)) ]

            few_turned : (steps f_m f_k begun f_whole low after : ℕ) → f_whole ≡ f_k → f_whole ≡ low → low ≡ 0 + after → steps + 5 * f_m ≤ begun + 1 + 5 * after → steps + 5 * f_m ≤ begun + 1 + 5 * f_k
            few_turned steps f_m f_k begun f_whole low after a b c e = omega arith

            plus_zero : (a b c : ℕ) → b ≡ 0 → a + b ≡ c → a ≡ c
            plus_zero a b c e f = omega arith

            told_on : TellMarks j k none_walked t
            told_on =
                subst (λ z. TellMarks z k none_walked t) (sym is)
                (told_same (raised l f.place) k none_walked (plug fs (fill f sub)) t
                (record {
                  tallies = λ p. tally_turned p ∙ ap (λ z. tally_in k p (fill f sub) + z) (sym (ap (frames_tally k p fs) none ∙ frames_tally_same m n fs p 0 no_names.1)) ∙ sym (tally_hole k p fs (fill f sub));
                  notes = λ p.
                      plus_zero _ _ _ (cond_zero (f.place == p) 0 refl) (note_turned 0 none p)
                      ∙ ap (λ z. note_in k none_walked p (fill f sub) + z) (sym (ap (frames_note k p fs) none ∙ frames_note_same m n fs p 0 no_names.1)) ∙ sym (note_hole k p fs (fill f sub));
                })
                (marks_back k none_walked (then t no_more) (then (plug fs (fill f sub)) no_more) (at.alike.marks k none_walked)))

        turn_on : tally ≡ count → (i : Links) → i ≡ noted j f.place 1 → IsRiseAt i m n t f.place begun (steps + 5) fs (fill f sub)
        turn_on same i noted_is = record {
          root = refl;
          alike = at.alike;
          here = let a = at.here in let b = no_names.0 in omega arith;
          full = all;
          was = ap (λ z. z * full_row m f.others) at.was ∙ left_zero 0 (full_row m f.others) refl;
          tallies = λ p. ap (λ (z : Links). tally_at z p) whole ∙ tally_turned p;
          notes = λ p. ap (λ (z : Links). note_at z p) whole ∙ noted_more (raised l f.place) (raised_links l ok f.place live) f.place live 1 p turn_note ∙ note_turned 1 all p;
          few = few_turned _ _ _ _ _ at.few (nodes_turned 1 all);
        }
          where
            whole : i ≡ noted (raised l f.place) f.place 1
            whole = noted_is ∙ ap (λ z. noted z f.place 1) is

            all : full_in k sub * full_row k f.others ≡ 1
            all =
                let e = count_is in
                let full : full_count m f.others ≡ row_length f.others = omega arith in
                let row = beside.full ∙ count_full m can.marks f.others full in
                λ i. at.full i * row i

            few_turned : (steps f_m begun low after : ℕ) → steps + 5 * f_m ≤ begun + 1 + 5 * low → after ≡ 1 + low → (steps + 5) + 5 * f_m ≤ begun + 1 + 5 * after
            few_turned steps f_m begun low after a b = omega arith

    -- the parent is that node
    module _ (above : ℕ) (up : parent_at l place ≡ Some above) (is : IsRising l m n t place begun steps) where
      found : (f : Frame) × (fs : List Frame) × (sub : PlaceTree) × IsRiseAt l m n t place begun steps (f ∷ fs) sub × (f.place ≡ above)
      found = go is.0 is.1 is.2
        where
          go : (fs : List Frame) (sub : PlaceTree) → IsRiseAt l m n t place begun steps fs sub →
              (f : Frame) × (gs : List Frame) × (s : PlaceTree) × IsRiseAt l m n t place begun steps (f ∷ gs) s × (f.place ≡ above)
          go [] sub at = absurd (none-some above (sym (kept_loose l sub no_more (whole_kept sub at.alike)) ∙ ap (parent_at l) at.root ∙ up))
          go (f ∷ fs) sub at =
              (f, fs, sub, at, same_Some f.place above (sym (frame_parent l ok f fs sub (whole_kept (plug (f ∷ fs) sub) at.alike)) ∙ ap (parent_at l) at.root ∙ up))

      pub rise_live : IsLive l above
      rise_live = subst (IsLive l) found.4 (live found.0 found.1 found.2 found.3)

      pub rise_room : tally_at l above < PLACES
      rise_room = subst (λ z. tally_at l z < PLACES) found.4 (turn_room found.0 found.1 found.2 found.3)

      module _ (j : Links) (raised_is : j ≡ raised l above) (tally count : ℕ) (is_tally : tally ≡ tally_at j above) (is_count : count ≡ length (children_at j above)) where
        pub rise_out : (tally ≡ count → ⊥) → TellMarks j k none_walked t × (steps + 5 * full_nodes m t ≤ begun + 1 + 5 * full_nodes k t)
        rise_out other =
            turn_out found.0 found.1 found.2 found.3 j (raised_is ∙ ap (raised l) (sym found.4)) tally count (is_tally ∙ ap (tally_at j) (sym found.4)) (is_count ∙ ap (λ z. length (children_at j z)) (sym found.4)) other

        pub rise_on : tally ≡ count → (i : Links) → i ≡ noted j above 1 → IsRising i m n t above begun (steps + 5)
        rise_on same i noted_is = (
          found.1,
          fill found.0 found.2,
          subst (λ z. IsRiseAt i m n t z begun (steps + 5) found.1 (fill found.0 found.2)) found.4
              (turn_on found.0 found.1 found.2 found.3 j (raised_is ∙ ap (raised l) (sym found.4)) tally count (is_tally ∙ ap (tally_at j) (sym found.4)) (is_count ∙ ap (λ z. length (children_at j z)) (sym found.4)) same
              i (noted_is ∙ ap (λ z. noted j z 1) (sym found.4))),
        )
