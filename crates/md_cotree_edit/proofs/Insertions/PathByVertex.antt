-- Where a new vertex can't be taken in, three names of the tree make an induced path with it.
use Rattle.std.proofs.Common.{◌≡◌, ◌⊎◌, ℕ, zero, suc, ◌+◌, ◌-◌, ◌*◌, ◌<◌, ◌≤◌, min, Bool, true, false, not, cond, refl, sym, ◌∙◌, inl, inr, arith}
use Rattle.std.proofs.lemmas.Bool.{cases_lt}
use Rattle.md_cotree.specs.PlaceTrees.{PlaceTree, tip, inner, PlaceTrees, no_more, then, row_length, IsInner, NoneInner, Alternates, AllAlternate}
use Rattle.md_cotree_edit.specs.Counts.{name_in, name_row, pair_row, edge_in, edge_row}
use Rattle.md_cotree_edit.specs.Marks.{AreNameMarks, hits_in, hits_row, full_in, full_row, full_count, mixed_in, mixed_count, CanTake, AllCanTake}
use Rattle.md_cotree_edit.proofs.Trees.LocalCounts.{cond_zero, edge_none, edges_none, edge_turned, edges_turned, pair_none, pair_turned}
use Rattle.md_cotree_edit.proofs.Trees.TurnedPairs.{other_kind}
use Rattle.md_cotree_edit.proofs.Insertions.MarkedNames.{unmarked_name, marked_name, full_hits, two_names, edges_low}
use Rattle.md_cotree_edit.proofs.Marks.MarksAroundHole.{low_product, full_low, fulls_low}
use Rattle.md_cotree_edit.proofs.Climbs.LowestMixed.{mixed_parts}
use Rattle.md_cotree_edit.proofs.Marks.MarkedBelow.{left_zero}

-- a marked name and one that isn't, of those that are there, neighbours if the node above is parallel
pub record Two (m : ℕ → ℕ) (k : Bool) (there : ℕ → ℕ) (edge : ℕ → ℕ → ℕ) : Type 0 where
  pub a : ℕ
  pub z : ℕ
  pub mark_a : m a ≡ 1
  pub mark_z : m z ≡ 0
  pub in_a : 0 < there a
  pub in_z : 0 < there z
  pub az : edge a z ≡ cond k 0 1

-- the two among others, where they are neighbours or not as before
abbrev two_elsewhere : {m : ℕ → ℕ} {k : Bool} {there others : ℕ → ℕ} {edge edges : ℕ → ℕ → ℕ} (w : Two m k there edge) → ((x : ℕ) → 0 < there x → 0 < others x) → edges w.a w.z ≡ cond k 0 1 → Two m k others edges
two_elsewhere w more az = record { a = w.a; z = w.z; mark_a = w.mark_a; mark_z = w.mark_z; in_a = more w.a w.in_a; in_z = more w.z w.in_z; az = az }

abbrev pub TreeTwo : (ℕ → ℕ) → Bool → PlaceTree → Type 0
TreeTwo m k t = Two m k (λ x. name_in x t) (λ x y. edge_in x y t)

-- three names of a tree: the first is marked and the second isn't; the third is the neighbour of both and isn't marked, and the two
-- aren't neighbours; or it is marked and the neighbour of neither, and the two are neighbours
pub record Witness (m : ℕ → ℕ) (t : PlaceTree) : Type 0 where
  pub k : Bool
  pub two : TreeTwo m k t
  pub open two use *
  pub r : ℕ
  pub mark_r : m r ≡ cond k 0 1
  pub in_r : 0 < name_in r t
  pub ar : edge_in a r t ≡ cond k 1 0
  pub rz : edge_in r z t ≡ cond k 1 0

-- two names of one tree of a row
record RowTwo (m : ℕ → ℕ) (k : Bool) (ts : PlaceTrees) : Type 0 where
  two : Two m k (λ x. name_row x ts) (λ x y. edge_row x y ts)
  open two use *
  az_pair : pair_row a z ts ≡ 0

-- and a third, with as many edges to both in one tree, and as many pairs with both in two
record RowThree (m : ℕ → ℕ) (k : Bool) (e n : ℕ) (ts : PlaceTrees) : Type 0 where
  row_two : RowTwo m k ts
  open row_two use *
  r : ℕ
  mark_r : m r ≡ cond k 0 1
  in_r : 0 < name_row r ts
  ar : edge_row a r ts ≡ e
  rz : edge_row r z ts ≡ e
  ar_pair : pair_row a r ts ≡ n
  rz_pair : pair_row r z ts ≡ n

-- three such names of a tree of a row
abbrev RowWitness : (ℕ → ℕ) → PlaceTrees → Type 0
RowWitness m ts = (k : Bool) × RowThree m k (cond k 1 0) 0 ts

-- two such names of a tree, and a third of another tree of the row
abbrev RowBreach : (ℕ → ℕ) → Bool → PlaceTrees → Type 0
RowBreach m k ts = RowThree m k 0 1 ts

-- ---- pairs of a row with one tree more

front_edge : (x y : ℕ) (t : PlaceTree) (ts : PlaceTrees) (n : ℕ) → edge_in x y t ≡ n → name_row x ts ≡ 0 → edge_row x y (then t ts) ≡ n
front_edge x y t ts n e none = let f = edges_none x y ts none in omega arith

front_pair : (x y : ℕ) (t : PlaceTree) (ts : PlaceTrees) → name_row x ts ≡ 0 → name_row y ts ≡ 0 → pair_row x y (then t ts) ≡ 0
front_pair x y t ts no_x no_y = (λ i. (name_in x t * no_y i + name_in y t * no_x i) + pair_none x y ts no_x i) ∙ omega arith

later_edge : (x y : ℕ) (t : PlaceTree) (ts : PlaceTrees) (n : ℕ) → edge_row x y ts ≡ n → name_in x t ≡ 0 → edge_row x y (then t ts) ≡ n
later_edge x y t ts n e none = let f = edge_none x y t none in omega arith

later_pair : (x y : ℕ) (t : PlaceTree) (ts : PlaceTrees) (n : ℕ) → pair_row x y ts ≡ n → name_in x t ≡ 0 → name_in y t ≡ 0 → pair_row x y (then t ts) ≡ n
later_pair x y t ts n e no_x no_y = (λ i. (no_x i * name_row y ts + no_y i * name_row x ts) + e i) ∙ omega arith

-- one name in the first tree, the other in one behind it
across_edge : (x y : ℕ) (t : PlaceTree) (ts : PlaceTrees) → name_row x ts ≡ 0 → name_in y t ≡ 0 → edge_row x y (then t ts) ≡ 0
across_edge x y t ts no_x no_y = let e = edge_turned x y t ∙ edge_none y x t no_y in let f = edges_none x y ts no_x in omega arith

across_pair : (x y : ℕ) (t : PlaceTree) (ts : PlaceTrees) → ((v : ℕ) → name_row v (then t ts) ≤ 1) → 0 < name_in x t → 0 < name_row y ts → pair_row x y (then t ts) ≡ 1
across_pair x y t ts once some_x some_y =
    let o = once x in
    let e = once y in
    let one_x : name_in x t ≡ 1 = omega arith in
    let one_y : name_row y ts ≡ 1 = omega arith in
    let no_x : name_row x ts ≡ 0 = omega arith in
    let no_y : name_in y t ≡ 0 = omega arith in
    λ i. (one_x i * one_y i + no_y i * no_x i) + pair_none x y ts no_x i

-- the names of a row with one tree more
module _ (m : ℕ → ℕ) (t : PlaceTree) (ts : PlaceTrees) (once : (x : ℕ) → name_row x (then t ts) ≤ 1) where
  not_behind : (x : ℕ) → 0 < name_in x t → name_row x ts ≡ 0
  not_behind x some = let o = once x in omega arith

  not_first : (x : ℕ) → 0 < name_row x ts → name_in x t ≡ 0
  not_first x some = let o = once x in omega arith

  abbrev two_first : (k : Bool) → TreeTwo m k t → RowTwo m k (then t ts)
  two_first k w = record {
    two = two_elsewhere w (λ x some. omega arith) (front_edge w.a w.z t ts (cond k 0 1) w.az (not_behind w.a w.in_a));
    az_pair = front_pair w.a w.z t ts (not_behind w.a w.in_a) (not_behind w.z w.in_z);
  }

  abbrev two_rest : (k : Bool) → RowTwo m k ts → RowTwo m k (then t ts)
  two_rest k w = record {
    two = two_elsewhere w.two (λ x some. omega arith) (later_edge w.a w.z t ts (cond k 0 1) w.az (not_first w.a w.in_a));
    az_pair = later_pair w.a w.z t ts 0 w.az_pair (not_first w.a w.in_a) (not_first w.z w.in_z);
  }

  three_rest : (k : Bool) (e n : ℕ) → RowThree m k e n ts → RowThree m k e n (then t ts)
  three_rest k e n w =
      let no_a = not_first w.a w.in_a in
      let no_r = not_first w.r w.in_r in
      record {
        row_two = two_rest k w.row_two;
        r = w.r;
        mark_r = w.mark_r;
        in_r = let some = w.in_r in omega arith;
        ar = later_edge w.a w.r t ts e w.ar no_a;
        rz = later_edge w.r w.z t ts e w.rz no_r;
        ar_pair = later_pair w.a w.r t ts n w.ar_pair no_a no_r;
        rz_pair = later_pair w.r w.z t ts n w.rz_pair no_r (not_first w.z w.in_z);
      }

module _ (m : ℕ → ℕ) (marks : AreNameMarks m) where
  -- three names of a row, below a node
  below_node : (p : ℕ) (j k : Bool) (e n : ℕ) (ts : PlaceTrees) → cond j n 0 + e ≡ cond k 1 0 → RowThree m k e n ts → Witness m (inner p j ts)
  below_node p j k e n ts is w = record {
    k = k;
    two = two_elsewhere w.two (λ x some. some) ((λ i. cond_zero j (pair_row w.a w.z ts) w.az_pair i + w.az i) ∙ omega arith);
    r = w.r;
    mark_r = w.mark_r;
    in_r = w.in_r;
    ar = (λ i. cond j (w.ar_pair i) 0 + w.ar i) ∙ is;
    rz = (λ i. cond j (w.rz_pair i) 0 + w.rz i) ∙ is;
  }

  from_row : (p : ℕ) (k : Bool) (ts : PlaceTrees) → RowWitness m ts → Witness m (inner p k ts)
  from_row p k ts w = let none = cond_zero k 0 refl in below_node p k w.0 (cond w.0 1 0) 0 ts (omega arith) w.1

  from_breach : (p : ℕ) (k : Bool) (ts : PlaceTrees) → RowBreach m k ts → Witness m (inner p k ts)
  from_breach p k ts w = below_node p k k 0 1 ts (omega arith) w

  from_first : (t : PlaceTree) (ts : PlaceTrees) → ((x : ℕ) → name_row x (then t ts) ≤ 1) → Witness m t → RowWitness m (then t ts)
  from_first t ts once w =
      let no_a = not_behind m t ts once w.a w.in_a in
      let no_r = not_behind m t ts once w.r w.in_r in (
        w.k,
        record {
          row_two = two_first m t ts once w.k w.two;
          r = w.r;
          mark_r = w.mark_r;
          in_r = let some = w.in_r in omega arith;
          ar = front_edge w.a w.r t ts (cond w.k 1 0) w.ar no_a;
          rz = front_edge w.r w.z t ts (cond w.k 1 0) w.rz no_r;
          ar_pair = front_pair w.a w.r t ts no_a no_r;
          rz_pair = front_pair w.r w.z t ts no_r (not_behind m t ts once w.z w.in_z);
        },
      )

  from_rest : (t : PlaceTree) (ts : PlaceTrees) → ((x : ℕ) → name_row x (then t ts) ≤ 1) → RowWitness m ts → RowWitness m (then t ts)
  from_rest t ts once w = (w.0, three_rest m t ts once w.0 (cond w.0 1 0) 0 w.1)

  -- a marked name and one that isn't, of a mixed tree
  mixed_names : (k : Bool) (t : PlaceTree) → Alternates t → (IsInner t k → ⊥) → ((x : ℕ) → name_in x t ≤ 1) → 0 < mixed_in m t → TreeTwo m k t
  mixed_names k (tip p v) is other once some = absurd (let parts = mixed_parts (m v) (m v) (marks v) some in let none = parts.0 in let hit = parts.1 in omega arith)
  mixed_names k (inner p j ts) is other once some =
      let parts = mixed_parts (full_row m ts) (hits_row m ts) (fulls_low m marks ts) some in
      let two = two_names m marks ts is.2 is.0 parts.1 parts.0 in
      let low = edges_low two.0 two.1 ts in
      let pair = two.4 in
      let names = low_product (name_row two.0 ts) (name_row two.1 ts) (once two.0) (once two.1) in
      let some_a = positive_left (name_row two.0 ts) (name_row two.1 ts) (omega arith) in
      let some_z = positive_left (name_row two.1 ts) (name_row two.0 ts) (let e = pair in omega arith) in
      let none : edge_row two.0 two.1 ts ≡ 0 = omega arith in
      let one : pair_row two.0 two.1 ts ≡ 1 = omega arith in
      let kind : j ≡ not k = other_kind k j (λ e. other (sym e)) in
      record {
        a = two.0;
        z = two.1;
        mark_a = two.2;
        mark_z = two.3;
        in_a = some_a;
        in_z = some_z;
        az = (λ i. cond (kind i) (one i) 0 + none i) ∙ value k;
      }
    where
      positive_left : (x y : ℕ) → 0 < x * y → 0 < x
      positive_left zero y some = absurd (omega arith)
      positive_left (suc x) y some = omega arith

      value : (k : Bool) → ◌≡◌ {A = ℕ} (cond (not k) 1 0 + 0) (cond k 0 1)
      value true = refl
      value false = refl

  row_mixed : (k : Bool) (ts : PlaceTrees) → AllAlternate ts → NoneInner ts k → ((x : ℕ) → name_row x ts ≤ 1) → 0 < mixed_count m ts → RowTwo m k ts
  row_mixed k no_more is none once some = absurd (omega arith)
  row_mixed k (then t ts) is none once some =
      elim (cases_lt 0 (mixed_in m t)) [
        | inl here ↦ two_first m t ts once k (mixed_names k t is.0 none.0 (λ x. let o = once x in omega arith) here)
        | inr not ↦ two_rest m t ts once k (row_mixed k ts is.1 none.1 (λ x. let o = once x in omega arith) (omega arith))
      ]

  -- ---- trees that a node with a mixed child may not have beside it

  abbrev off_in : Bool → PlaceTree → ℕ
  off_in k t = cond k (1 - full_in m t) (min 1 (hits_in m t))

  abbrev off_count : Bool → PlaceTrees → ℕ
  off_count k no_more = 0
  off_count k (then t ts) = off_in k t + off_count k ts

  off_name : (k : Bool) (t : PlaceTree) → 0 < off_in k t → (r : ℕ) × (0 < name_in r t) × (m r ≡ cond k 0 1)
  off_name true t some = unmarked_name m marks t (omega arith)
  off_name false t some = marked_name m marks t (omega arith)

  off_among : (k : Bool) (ts : PlaceTrees) → 0 < off_count k ts → (r : ℕ) × (0 < name_row r ts) × (m r ≡ cond k 0 1)
  off_among k no_more some = absurd (omega arith)
  off_among k (then t ts) some =
      elim (cases_lt 0 (off_in k t)) [
        | inl here ↦ let r = off_name k t here in (r.0, (let low = r.1 in omega arith), r.2)
        | inr not ↦ let r = off_among k ts (omega arith) in (r.0, (let low = r.1 in omega arith), r.2)
      ]

  off_low : (k : Bool) (t : PlaceTree) → off_in k t ≤ 1
  off_low true t = omega arith
  off_low false t = omega arith

  mixed_off : (k : Bool) (t : PlaceTree) → mixed_in m t ≤ off_in k t
  mixed_off k t = go k (full_in m t) (hits_in m t)
    where
      go : (k : Bool) (f h : ℕ) → (1 - f) * min 1 h ≤ cond k (1 - f) (min 1 h)
      go true zero zero = omega arith
      go true zero (suc h) = omega arith
      go true (suc f) h = let none = left_zero (1 - suc f) (min 1 h) (omega arith) in omega arith
      go false zero h = omega arith
      go false (suc f) h = let none = left_zero (1 - suc f) (min 1 h) (omega arith) in omega arith

  row_off : (k : Bool) (ts : PlaceTrees) → mixed_count m ts ≤ off_count k ts
  row_off k no_more = omega arith
  row_off k (then t ts) = let first = mixed_off k t in let rest = row_off k ts in omega arith

  row_breach : (k : Bool) (ts : PlaceTrees) → AllAlternate ts → NoneInner ts k → ((x : ℕ) → name_row x ts ≤ 1) → 0 < mixed_count m ts → 2 ≤ off_count k ts → RowBreach m k ts
  row_breach k no_more is none once some two = absurd (omega arith)
  row_breach k (then t ts) is none once some two =
      elim (cases_lt 0 (mixed_in m t)) [
        | inl here ↦
            let w = mixed_names k t is.0 none.0 (λ x. let o = once x in omega arith) here in
            let low = off_low k t in
            let r = off_among k ts (omega arith) in
            let some_r = r.1 in
            let no_a = not_behind m t ts once w.a w.in_a in
            let no_z = not_behind m t ts once w.z w.in_z in
            let no_r = not_first m t ts once r.0 r.1 in
            record {
              row_two = two_first m t ts once k w;
              r = r.0;
              mark_r = r.2;
              in_r = omega arith;
              ar = across_edge w.a r.0 t ts no_a no_r;
              rz = edges_turned r.0 w.z (then t ts) ∙ across_edge w.z r.0 t ts no_z no_r;
              ar_pair = across_pair w.a r.0 t ts once w.in_a r.1;
              rz_pair = pair_turned r.0 w.z (then t ts) ∙ across_pair w.z r.0 t ts once w.in_z r.1;
            }
        | inr not ↦ elim (cases_lt 0 (off_in k t)) [
          | inl off ↦
              let w = row_mixed k ts is.1 none.1 (λ x. let o = once x in omega arith) (omega arith) in
              let r = off_name k t off in
              let some_r = r.1 in
              let no_a = not_first m t ts once w.a w.in_a in
              let no_z = not_first m t ts once w.z w.in_z in
              let no_r = not_behind m t ts once r.0 r.1 in
              record {
                row_two = two_rest m t ts once k w;
                r = r.0;
                mark_r = r.2;
                in_r = omega arith;
                ar = edges_turned w.a r.0 (then t ts) ∙ across_edge r.0 w.a t ts no_r no_a;
                rz = across_edge r.0 w.z t ts no_r no_z;
                ar_pair = pair_turned w.a r.0 (then t ts) ∙ across_pair r.0 w.a t ts once r.1 w.in_a;
                rz_pair = across_pair r.0 w.z t ts once r.1 w.in_z;
              }
          | inr on ↦ three_rest m t ts once k 0 1 (row_breach k ts is.1 none.1 (λ x. let o = once x in omega arith) (omega arith) (omega arith))
        ]
      ]

  -- ---- the decision

  off_series : (ts : PlaceTrees) → full_count m ts + off_count true ts ≡ row_length ts
  off_series no_more = refl
  off_series (then t ts) = let low = full_low m marks t in let rest = off_series ts in omega arith

  off_parallel : (ts : PlaceTrees) → AllAlternate ts → off_count false ts ≡ full_count m ts + mixed_count m ts
  off_parallel no_more is = refl
  off_parallel (then t ts) is =
      let rest = off_parallel ts is.1 in
      let first = go (full_in m t) (hits_in m t) (full_low m marks t) (full_hits m marks t is.0) in
      omega arith
    where
      go : (f h : ℕ) → f ≤ 1 → (f ≡ 1 → 0 < h) → min 1 h ≡ f + (1 - f) * min 1 h
      go zero h low some = omega arith
      go (suc zero) zero low some = absurd (let e = some refl in omega arith)
      go (suc zero) (suc h) low some = let none = left_zero (1 - 1) (min 1 (suc h)) (omega arith) in omega arith
      go (suc (suc f)) h low some = absurd (omega arith)

  at_node : (n : ℕ) (p : ℕ) (k : Bool) (ts : PlaceTrees) → n ≡ mixed_count m ts → AllCanTake m ts → Alternates (inner p k ts) → ((x : ℕ) → name_row x ts ≤ 1) → CanTake m (inner p k ts) ⊎ Witness m (inner p k ts)
  at_node zero p k ts e all is once = inl ((omega arith), (λ one. absurd (omega arith)), all)
  at_node (suc (suc n)) p k ts e all is once =
      inr (from_breach p k ts (row_breach k ts is.2 is.1 once (omega arith) (let low = row_off k ts in omega arith)))
  at_node (suc zero) p true ts e all is once =
      let off = off_series ts in
      elim (cases_lt (full_count m ts + 1) (row_length ts)) [
        | inl more ↦ inr (from_breach p true ts (row_breach true ts is.2 is.1 once (omega arith) (omega arith)))
        | inr same ↦ inl ((omega arith), (λ one. let low = row_off true ts in omega arith), all)
      ]
  at_node (suc zero) p false ts e all is once =
      let off = off_parallel ts is.2 in
      elim (cases_lt 0 (full_count m ts)) [
        | inl more ↦ inr (from_breach p false ts (row_breach false ts is.2 is.1 once (omega arith) (omega arith)))
        | inr none ↦ inl ((omega arith), (λ one. omega arith), all)
      ]

  mutual
    -- a new vertex can be taken in, or there are three names
    pub take_or_breach : (t : PlaceTree) → Alternates t → ((x : ℕ) → name_in x t ≤ 1) → CanTake m t ⊎ Witness m t
    take_or_breach (tip p v) is once = inl tt
    take_or_breach (inner p k ts) is once =
        elim (take_or_breach_row ts is.2 once) [
          | inl all ↦ at_node (mixed_count m ts) p k ts refl all is once
          | inr w ↦ inr (from_row p k ts w)
        ]

    take_or_breach_row : (ts : PlaceTrees) → AllAlternate ts → ((x : ℕ) → name_row x ts ≤ 1) → AllCanTake m ts ⊎ RowWitness m ts
    take_or_breach_row no_more is once = inl tt
    take_or_breach_row (then t ts) is once =
        elim (take_or_breach t is.0 (λ x. let o = once x in omega arith)) [
          | inl first ↦ elim (take_or_breach_row ts is.1 (λ x. let o = once x in omega arith)) [
            | inl rest ↦ inl (first, rest)
            | inr w ↦ inr (from_rest t ts once w)
          ]
          | inr w ↦ inr (from_first t ts once w)
        ]
