-- What is counted of marked names around a hole of a tree.
use Rattle.std.proofs.Common.{◌≡◌, ℕ, ◌+◌, ◌*◌, ◌<◌, ◌≤◌, cond, ◌==◌, List, [], ◌∷◌, refl, sym, ◌∙◌, ap, inl, inr, arith}
use Rattle.std.proofs.lemmas.Bool.{cases_eq, cases_lt}
use Rattle.md_cotree.specs.PlaceTrees.{PlaceTree, tip, inner, PlaceTrees, no_more, then, times_in, times_among, node_count, node_counts, row_length}
use Rattle.md_cotree.proofs.Frames.{hit, miss}
use Rattle.md_cotree_edit.specs.Counts.{name_in, name_row}
use Rattle.md_cotree_edit.specs.Contexts.{Frame, fill, plug}
use Rattle.md_cotree_edit.specs.Marks.{AreNameMarks, more, full_in, full_row, full_count, full_nodes, full_nodes_row, walked_count, tally_in, tally_row, note_in, note_row, none_walked}
use Rattle.md_cotree_edit.proofs.Trees.SameRows.{plus_none}
use Rattle.md_cotree_edit.proofs.Trees.LocalCounts.{cond_no, not_at, sum_none}

-- ---- places and names around a hole

abbrev pub frames_times : ℕ → List Frame → ℕ
frames_times p [] = 0
frames_times p (f ∷ fs) = (cond (f.place == p) 1 0 + times_among p f.others) + frames_times p fs

pub times_hole : (fs : List Frame) (p : ℕ) (t : PlaceTree) → times_in p (plug fs t) ≡ times_in p t + frames_times p fs
times_hole [] p t = omega arith
times_hole (f ∷ fs) p t = let rest = times_hole fs p (fill f t) in omega arith

abbrev pub frames_names : ℕ → List Frame → ℕ
frames_names x [] = 0
frames_names x (f ∷ fs) = name_row x f.others + frames_names x fs

pub name_hole : (fs : List Frame) (x : ℕ) (t : PlaceTree) → name_in x (plug fs t) ≡ name_in x t + frames_names x fs
name_hole [] x t = omega arith
name_hole (f ∷ fs) x t = let rest = name_hole fs x (fill f t) in omega arith

abbrev pub frames_count : List Frame → ℕ
frames_count [] = 0
frames_count (f ∷ fs) = (1 + node_counts f.others) + frames_count fs

pub node_hole : (fs : List Frame) (t : PlaceTree) → node_count (plug fs t) ≡ node_count t + frames_count fs
node_hole [] t = omega arith
node_hole (f ∷ fs) t = let rest = node_hole fs (fill f t) in omega arith

-- ---- where nothing was walked over

pub walked_none : (m : ℕ → ℕ) (ts : PlaceTrees) → walked_count m none_walked ts ≡ 0
walked_none m no_more = refl
walked_none m (then t ts) = sum_up _ _ (walked_none m ts)
  where
    sum_up : (a b : ℕ) → b ≡ 0 → a * 0 + b ≡ 0
    sum_up a b e = omega arith

-- ---- tallies, notes and full nodes around a hole; b is 1 where the hole is full

abbrev pub frames_tally : (ℕ → ℕ) → ℕ → List Frame → ℕ → ℕ
frames_tally m p [] b = 0
frames_tally m p (f ∷ fs) b = (cond (f.place == p) (b + full_count m f.others) 0 + tally_row m p f.others) + frames_tally m p fs (b * full_row m f.others)

abbrev pub frames_note : (ℕ → ℕ) → ℕ → List Frame → ℕ → ℕ
frames_note m p [] b = 0
frames_note m p (f ∷ fs) b = (cond (f.place == p) (b * full_row m f.others) 0 + note_row m none_walked p f.others) + frames_note m p fs (b * full_row m f.others)

abbrev pub frames_nodes : (ℕ → ℕ) → List Frame → ℕ → ℕ
frames_nodes m [] b = 0
frames_nodes m (f ∷ fs) b = (b * full_row m f.others + full_nodes_row m f.others) + frames_nodes m fs (b * full_row m f.others)

turn_sum : (all here low beside rest : ℕ) → all ≡ (here + (low + beside)) + rest → all ≡ low + ((here + beside) + rest)
turn_sum all here low beside rest e = omega arith

pub tally_hole : (m : ℕ → ℕ) (p : ℕ) (fs : List Frame) (t : PlaceTree) → tally_in m p (plug fs t) ≡ tally_in m p t + frames_tally m p fs (full_in m t)
tally_hole m p [] t = omega arith
tally_hole m p (f ∷ fs) t = turn_sum _ _ _ _ _ (tally_hole m p fs (fill f t))

pub note_fill : (m : ℕ → ℕ) (p : ℕ) (f : Frame) (t : PlaceTree) →
    note_in m none_walked p (fill f t) ≡ cond (f.place == p) (full_in m t * full_row m f.others) 0 + (note_in m none_walked p t + note_row m none_walked p f.others)
note_fill m p f t = ap (λ n. cond (f.place == p) n 0 + (note_in m none_walked p t + note_row m none_walked p f.others)) (none_more _ _ (walked_none m (then t f.others)))
  where
    none_more : (a b : ℕ) → b ≡ 0 → a + 2 * b ≡ a
    none_more a b e = omega arith

pub note_hole : (m : ℕ → ℕ) (p : ℕ) (fs : List Frame) (t : PlaceTree) → note_in m none_walked p (plug fs t) ≡ note_in m none_walked p t + frames_note m p fs (full_in m t)
note_hole m p [] t = omega arith
note_hole m p (f ∷ fs) t =
    turn_sum _ _ _ _ _ (note_hole m p fs (fill f t) ∙ ap (λ n. n + frames_note m p fs (full_in m t * full_row m f.others)) (note_fill m p f t))

pub nodes_hole : (m : ℕ → ℕ) (fs : List Frame) (t : PlaceTree) → full_nodes m (plug fs t) ≡ full_nodes m t + frames_nodes m fs (full_in m t)
nodes_hole m [] t = omega arith
nodes_hole m (f ∷ fs) t = turn_sum _ _ _ _ _ (nodes_hole m fs (fill f t))

-- ---- what doesn't have the name that is marked now is as it was

pub record AreUnmoved (m k : ℕ → ℕ) (ts : PlaceTrees) : Type 0 where
  pub full : full_row k ts ≡ full_row m ts
  pub counted : full_count k ts ≡ full_count m ts
  pub nodes : full_nodes_row k ts ≡ full_nodes_row m ts
  pub tallies : (p : ℕ) → tally_row k p ts ≡ tally_row m p ts
  pub notes : (p : ℕ) → note_row k none_walked p ts ≡ note_row m none_walked p ts

more_other : (m : ℕ → ℕ) (n v : ℕ) → ◌≡◌ {A = ℕ} (cond (v == n) 1 0) 0 → more m n v ≡ m v
more_other m n v none = let e = cond_no n v 1 (λ same. not_at v n none (sym same)) in omega arith

module _ (m : ℕ → ℕ) (n : ℕ) where
  mutual
    pub unmoved_in : (t : PlaceTree) → name_in n t ≡ 0 → AreUnmoved m (more m n) (then t no_more)
    unmoved_in (tip q v) none = record {
      full = ap (λ x. x * 1) (more_other m n v none);
      counted = ap (λ x. x + 0) (more_other m n v none);
      nodes = refl;
      tallies = λ p. refl;
      notes = λ p. ap (λ x. cond (q == p) x 0 + 0) (more_other m n v none);
    }
    unmoved_in (inner q k ts) none =
        let a = unmoved_row ts none in
        let w : walked_count (more m n) none_walked ts ≡ walked_count m none_walked ts = walked_none (more m n) ts ∙ sym (walked_none m ts) in
        record {
          full = ap (λ x. x * 1) a.full;
          counted = ap (λ x. x + 0) a.full;
          nodes = λ i. (a.full i + a.nodes i) + 0;
          tallies = λ p. λ i. (cond (q == p) (a.counted i) 0 + a.tallies p i) + 0;
          notes = λ p. λ i. (cond (q == p) (a.full i + 2 * w i) 0 + a.notes p i) + 0;
        }

    pub unmoved_row : (ts : PlaceTrees) → name_row n ts ≡ 0 → AreUnmoved m (more m n) ts
    unmoved_row no_more none = record { full = refl; counted = refl; nodes = refl; tallies = λ p. refl; notes = λ p. refl }
    unmoved_row (then t ts) none =
        let a = unmoved_in t (omega arith) in
        let b = unmoved_row ts (omega arith) in
        let f : full_in (more m n) t ≡ full_in m t = plus_none (full_in (more m n) t) (full_in m t) a.counted in
        let g : full_nodes (more m n) t ≡ full_nodes m t = plus_none (full_nodes (more m n) t) (full_nodes m t) a.nodes in
        record {
          full = λ i. f i * b.full i;
          counted = λ i. f i + b.counted i;
          nodes = λ i. g i + b.nodes i;
          tallies = λ p. λ i. plus_none (tally_in (more m n) p t) (tally_in m p t) (a.tallies p) i + b.tallies p i;
          notes = λ p. λ i. plus_none (note_in (more m n) none_walked p t) (note_in m none_walked p t) (a.notes p) i + b.notes p i;
        }

  pub frames_tally_same : (fs : List Frame) (p b : ℕ) → frames_names n fs ≡ 0 → frames_tally (more m n) p fs b ≡ frames_tally m p fs b
  frames_tally_same [] p b none = refl
  frames_tally_same (f ∷ fs) p b none =
      let a = unmoved_row f.others (omega arith) in
      let rest : frames_tally (more m n) p fs (b * full_row (more m n) f.others) ≡ frames_tally m p fs (b * full_row m f.others) =
      frames_tally_same fs p (b * full_row (more m n) f.others) (omega arith) ∙ ap (λ x. frames_tally m p fs (b * x)) a.full in
      λ i. (cond (f.place == p) (b + a.counted i) 0 + a.tallies p i) + rest i

  pub frames_note_same : (fs : List Frame) (p b : ℕ) → frames_names n fs ≡ 0 → frames_note (more m n) p fs b ≡ frames_note m p fs b
  frames_note_same [] p b none = refl
  frames_note_same (f ∷ fs) p b none =
      let a = unmoved_row f.others (omega arith) in
      let rest : frames_note (more m n) p fs (b * full_row (more m n) f.others) ≡ frames_note m p fs (b * full_row m f.others) =
      frames_note_same fs p (b * full_row (more m n) f.others) (omega arith) ∙ ap (λ x. frames_note m p fs (b * x)) a.full in
      λ i. (cond (f.place == p) (b * a.full i) 0 + a.notes p i) + rest i

  pub frames_nodes_same : (fs : List Frame) (b : ℕ) → frames_names n fs ≡ 0 → frames_nodes (more m n) fs b ≡ frames_nodes m fs b
  frames_nodes_same [] b none = refl
  frames_nodes_same (f ∷ fs) b none =
      let a = unmoved_row f.others (omega arith) in
      let rest : frames_nodes (more m n) fs (b * full_row (more m n) f.others) ≡ frames_nodes m fs (b * full_row m f.others) =
      frames_nodes_same fs (b * full_row (more m n) f.others) (omega arith) ∙ ap (λ x. frames_nodes m fs (b * x)) a.full in
      λ i. (b * a.full i + a.nodes i) + rest i

-- ---- a place that isn't there has no tally and no note

mutual
  pub tally_none : (m : ℕ → ℕ) (p : ℕ) (t : PlaceTree) → times_in p t ≡ 0 → tally_in m p t ≡ 0
  tally_none m p (tip q v) none = refl
  tally_none m p (inner q k ts) none =
      let here = cond_no q p (full_count m ts) (not_at q p (omega arith)) in
      let rest = tallies_none m p ts (omega arith) in
      omega arith

  pub tallies_none : (m : ℕ → ℕ) (p : ℕ) (ts : PlaceTrees) → times_among p ts ≡ 0 → tally_row m p ts ≡ 0
  tallies_none m p no_more none = refl
  tallies_none m p (then t ts) none = let first = tally_none m p t (omega arith) in let rest = tallies_none m p ts (omega arith) in omega arith

mutual
  pub note_none : (m w : ℕ → ℕ) (p : ℕ) (t : PlaceTree) → times_in p t ≡ 0 → note_in m w p t ≡ 0
  note_none m w p (tip q v) none = cond_no q p (m v) (not_at q p none)
  note_none m w p (inner q k ts) none = sum_none _ _ (cond_no q p (full_row m ts + 2 * walked_count m w ts) (not_at q p (omega arith))) (notes_none m w p ts (omega arith))

  pub notes_none : (m w : ℕ → ℕ) (p : ℕ) (ts : PlaceTrees) → times_among p ts ≡ 0 → note_row m w p ts ≡ 0
  notes_none m w p no_more none = refl
  notes_none m w p (then t ts) none = let first = note_none m w p t (omega arith) in let rest = notes_none m w p ts (omega arith) in omega arith

pub frames_tally_none : (m : ℕ → ℕ) (p : ℕ) (fs : List Frame) (b : ℕ) → frames_times p fs ≡ 0 → frames_tally m p fs b ≡ 0
frames_tally_none m p [] b none = refl
frames_tally_none m p (f ∷ fs) b none =
    let here = cond_no f.place p (b + full_count m f.others) (not_at f.place p (omega arith)) in
    let beside = tallies_none m p f.others (omega arith) in
    let rest = frames_tally_none m p fs (b * full_row m f.others) (omega arith) in
    omega arith

pub frames_note_none : (m : ℕ → ℕ) (p : ℕ) (fs : List Frame) (b : ℕ) → frames_times p fs ≡ 0 → frames_note m p fs b ≡ 0
frames_note_none m p [] b none = refl
frames_note_none m p (f ∷ fs) b none =
    sum_none _ _
    (sum_none _ _ (cond_no f.place p (b * full_row m f.others) (not_at f.place p (omega arith))) (notes_none m none_walked p f.others (omega arith)))
    (frames_note_none m p fs (b * full_row m f.others) (omega arith))

-- ---- full is 1 or 0

pub low_product : (a b : ℕ) → a ≤ 1 → b ≤ 1 → a * b ≤ 1
low_product a b low_a low_b =
    elim (cases_lt 0 a) [
      | inl some ↦ let e : a ≡ 1 = omega arith in let f = ap (λ z. z * b) e in omega arith
      | inr none ↦ let e : a ≡ 0 = omega arith in let f = ap (λ z. z * b) e in omega arith
    ]

module _ (m : ℕ → ℕ) (marks : AreNameMarks m) where
  mutual
    pub full_low : (t : PlaceTree) → full_in m t ≤ 1
    full_low (tip p v) = marks v
    full_low (inner p k ts) = fulls_low ts

    pub fulls_low : (ts : PlaceTrees) → full_row m ts ≤ 1
    fulls_low no_more = omega arith
    fulls_low (then t ts) = low_product (full_in m t) (full_row m ts) (full_low t) (fulls_low ts)

  pub full_count_low : (ts : PlaceTrees) → full_count m ts ≤ row_length ts
  full_count_low no_more = omega arith
  full_count_low (then t ts) = let a = full_low t in let b = full_count_low ts in omega arith

  -- all are full
  pub count_full : (ts : PlaceTrees) → full_count m ts ≡ row_length ts → full_row m ts ≡ 1
  count_full no_more all = refl
  count_full (then t ts) all =
      let a = full_low t in
      let b = full_count_low ts in
      let one : full_in m t ≡ 1 = omega arith in
      let rest = count_full ts (omega arith) in
      λ i. one i * rest i

  -- one of them isn't full
  pub count_less : (ts : PlaceTrees) → full_count m ts < row_length ts → full_row m ts ≡ 0
  count_less no_more less = absurd (omega arith)
  count_less (then t ts) less =
      elim (cases_lt 0 (full_in m t)) [
        | inl some ↦ let a = full_low t in ap (λ z. full_in m t * z) (count_less ts (omega arith)) ∙ omega arith
        | inr none ↦ let e : full_in m t ≡ 0 = omega arith in ap (λ z. z * full_row m ts) e ∙ omega arith
      ]

  pub all_full : (ts : PlaceTrees) → 0 < full_row m ts → full_count m ts ≡ row_length ts
  all_full ts some =
      elim (cases_lt (full_count m ts) (row_length ts)) [
        | inl less ↦ absurd (let e = count_less ts less in omega arith)
        | inr not ↦ let low = full_count_low ts in omega arith
      ]

  mutual
    pub nodes_low : (t : PlaceTree) → full_nodes m t ≤ node_count t
    nodes_low (tip p v) = omega arith
    nodes_low (inner p k ts) = let a = fulls_low ts in let b = nodes_row_low ts in omega arith

    pub nodes_row_low : (ts : PlaceTrees) → full_nodes_row m ts ≤ node_counts ts
    nodes_row_low no_more = omega arith
    nodes_row_low (then t ts) = let a = nodes_low t in let b = nodes_row_low ts in omega arith

  pub frames_nodes_low : (fs : List Frame) (b : ℕ) → b ≤ 1 → frames_nodes m fs b ≤ frames_count fs
  frames_nodes_low [] b low = omega arith
  frames_nodes_low (f ∷ fs) b low =
      let all = low_product b (full_row m f.others) low (fulls_low f.others) in
      let a = nodes_row_low f.others in
      let rest = frames_nodes_low fs (b * full_row m f.others) all in
      omega arith

-- with one mark more they are marks, where that name wasn't marked
pub more_marks : (m : ℕ → ℕ) (n : ℕ) → AreNameMarks m → m n ≡ 0 → AreNameMarks (more m n)
more_marks m n marks fresh v =
    elim (cases_eq n v) [
      | inl same ↦ let e = ap m same in let h = hit n v same in omega arith
      | inr other ↦ let h = miss n v other in let e = marks v in omega arith
    ]
