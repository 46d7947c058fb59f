-- A new leaf that comes into a tree, and how what is marked beside it makes its edges.
use Rattle.std.proofs.Common.{◌≡◌, ℕ, zero, suc, ◌+◌, ◌*◌, ◌<◌, Bool, true, false, not, cond, ◌==◌, List, [], ◌∷◌, refl, sym, ◌∙◌, ap, inl, inr, arith}
use Rattle.std.proofs.lemmas.Bool.{cases_eq}
use Rattle.md_cotree.specs.PlaceTrees.{PlaceTree, tip, inner, PlaceTrees, no_more, then, row_length, IsInner, NoneInner, Alternates, AllAlternate}
use Rattle.md_cotree.proofs.Frames.{miss}
use Rattle.md_cotree_edit.specs.Counts.{name_in, name_row, pair_row, edge_in, edge_row}
use Rattle.md_cotree_edit.specs.Contexts.{Frame, fill, plug}
use Rattle.md_cotree_edit.specs.Turns.{IsTidied, IsBeside}
use Rattle.md_cotree_edit.specs.Marks.{hits_in, hits_row, full_in, full_row, AreBesideIt, AreReady, IsInserted}
use Rattle.md_cotree_edit.specs.Relinks.{IsRowSplit}

-- a product that is 1
pub one_left : (a b : ℕ) → a * b ≡ 1 → a ≡ 1
one_left zero b e = absurd (omega arith)
one_left (suc zero) b e = refl
one_left (suc (suc a)) zero e = absurd (omega arith)
one_left (suc (suc a)) (suc b) e = absurd (omega arith)

pub one_right : (a b : ℕ) → a * b ≡ 1 → b ≡ 1
one_right a b e = let f = one_left a b e in let g : 1 * b ≡ 1 = ap (λ z. z * b) (sym f) ∙ e in omega arith

times_sum : (a b c x y : ℕ) → a * b ≡ x → a * c ≡ y → a * (b + c) ≡ x + y
times_sum a b c x y e f = omega arith

module _ (m : ℕ → ℕ) where
  mutual
    pub full_name : (b : ℕ) (t : PlaceTree) → full_in m t ≡ 1 → m b * name_in b t ≡ name_in b t
    full_name b (tip p v) full =
        elim (cases_eq v b) [
          | inl same ↦ let e : m b ≡ 1 = ap m (sym same) ∙ full in ap (λ z. z * name_in b (tip p v)) e ∙ omega arith
          | inr other ↦ let h = miss v b other in ap (λ z. m b * z) h ∙ omega arith
        ]
    full_name b (inner p k ts) full = full_names b ts full

    -- all names of full trees are marked
    pub full_names : (b : ℕ) (ts : PlaceTrees) → full_row m ts ≡ 1 → m b * name_row b ts ≡ name_row b ts
    full_names b no_more full = omega arith
    full_names b (then t ts) full =
        times_sum (m b) (name_in b t) (name_row b ts) (name_in b t) (name_row b ts)
        (full_name b t (one_left (full_in m t) (full_row m ts) full)) (full_names b ts (one_right (full_in m t) (full_row m ts) full))

  mutual
    pub none_name : (b : ℕ) (t : PlaceTree) → hits_in m t ≡ 0 → m b * name_in b t ≡ 0
    none_name b (tip p v) none =
        elim (cases_eq v b) [
          | inl same ↦ let e : m b ≡ 0 = ap m (sym same) ∙ none in ap (λ z. z * name_in b (tip p v)) e ∙ omega arith
          | inr other ↦ let h = miss v b other in ap (λ z. m b * z) h ∙ omega arith
        ]
    none_name b (inner p k ts) none = none_names b ts none

    -- no name of trees without marked names is marked
    pub none_names : (b : ℕ) (ts : PlaceTrees) → hits_row m ts ≡ 0 → m b * name_row b ts ≡ 0
    none_names b no_more none = omega arith
    none_names b (then t ts) none =
        times_sum (m b) (name_in b t) (name_row b ts) 0 0 (none_name b t (omega arith)) (none_names b ts (omega arith))

-- ---- a leaf in a tree with a hole

-- the edges of a name at p and one at q, where the names of a row beside them are all marked, or none is
beside_all : (p q : Bool) (na nb oa ob ma mb es et pair rest : ℕ) → ma * oa ≡ oa → mb * ob ≡ ob → es ≡ et + (cond p (mb * nb) 0 + cond q (ma * na) 0) →
    (((na + cond p 1 0) * ob + (nb + cond q 1 0) * oa) + pair) + (es + rest) ≡ (((na * ob + nb * oa) + pair) + (et + rest)) + (cond p (mb * (nb + ob)) 0 + cond q (ma * (na + oa)) 0)
beside_all true true na nb oa ob ma mb es et pair rest fa fb e = omega arith
beside_all true false na nb oa ob ma mb es et pair rest fa fb e = omega arith
beside_all false true na nb oa ob ma mb es et pair rest fa fb e = omega arith
beside_all false false na nb oa ob ma mb es et pair rest fa fb e = omega arith

beside_none : (p q : Bool) (na nb oa ob ma mb es et rest : ℕ) → ma * oa ≡ 0 → mb * ob ≡ 0 → es ≡ et + (cond p (mb * nb) 0 + cond q (ma * na) 0) →
    0 + (es + rest) ≡ (0 + (et + rest)) + (cond p (mb * (nb + ob)) 0 + cond q (ma * (na + oa)) 0)
beside_none true true na nb oa ob ma mb es et rest fa fb e = omega arith
beside_none true false na nb oa ob ma mb es et rest fa fb e = omega arith
beside_none false true na nb oa ob ma mb es et rest fa fb e = omega arith
beside_none false false na nb oa ob ma mb es et rest fa fb e = omega arith

module _ (m : ℕ → ℕ) (leaf x : ℕ) where
  inserted_edges : (k : Bool) (p : ℕ) (others : PlaceTrees) (t s : PlaceTree) → AreBesideIt m k others → IsInserted m leaf x t s → (a b : ℕ) →
      edge_in a b (inner p k (then s others)) ≡ edge_in a b (inner p k (then t others)) + (cond (x == a) (m b * name_in b (inner p k (then t others))) 0 + cond (x == b) (m a * name_in a (inner p k (then t others))) 0)
  inserted_edges true p others t s all is a b =
      (λ i. (((is.named a i) * name_row b others + (is.named b i) * name_row a others) + pair_row a b others) + (edge_in a b s + edge_row a b others))
      ∙ beside_all (x == a) (x == b) (name_in a t) (name_in b t) (name_row a others) (name_row b others) (m a) (m b) (edge_in a b s) (edge_in a b t) (pair_row a b others) (edge_row a b others)
      (full_names m a others all) (full_names m b others all) (is.edges a b)
  inserted_edges false p others t s none is a b =
      beside_none (x == a) (x == b) (name_in a t) (name_in b t) (name_row a others) (name_row b others) (m a) (m b) (edge_in a b s) (edge_in a b t) (edge_row a b others)
      (none_names m a others none) (none_names m b others none) (is.edges a b)

  inserted_fill : (f : Frame) (t s : PlaceTree) → AreBesideIt m f.series f.others → IsInserted m leaf x t s → IsInserted m leaf x (fill f t) (fill f s)
  inserted_fill f t s beside is = record {
    tips = λ p v. let e = is.tips p v in omega arith;
    named = λ v. let e = is.named v in omega arith;
    edges = inserted_edges f.series f.place f.others t s beside is;
    leaves = let e = is.leaves in omega arith;
  }

  pub inserted_plug : (fs : List Frame) (t s : PlaceTree) → AreReady m fs → IsInserted m leaf x t s → IsInserted m leaf x (plug fs t) (plug fs s)
  inserted_plug [] t s ready is = is
  inserted_plug (f ∷ fs) t s ready is = inserted_plug fs (fill f t) (fill f s) ready.1 (inserted_fill f t s ready.0 is)

  -- ---- a leaf beside one of two parts of a row

  module _ (place node : ℕ) (ts us vs : PlaceTrees) (split : IsRowSplit ts us vs) (full : full_row m us ≡ 1) (none : hits_row m vs ≡ 0) where
    part_names : (b : ℕ) → m b * name_row b ts ≡ name_row b us
    part_names b =
        ap (λ z. m b * z) (split.named b) ∙ times_sum (m b) (name_row b us) (name_row b vs) (name_row b us) 0 (full_names m b us full) (none_names m b vs none) ∙ omega arith

    -- below a parallel node the full ones are joined to it
    pub inserted_parallel : (y r : PlaceTree) → IsTidied us false node y → IsBeside true y (tip leaf x) r → IsInserted m leaf x (inner place false ts) (inner place false (then r vs))
    inserted_parallel y r tidied beside = record {
      tips = λ p v. let e = beside.tips p v in let f = tidied.tips p v in let g = split.tips p v in omega arith;
      named = λ v. let e = beside.named v in let f = tidied.named v in let g = split.named v in omega arith;
      edges = λ a b.
          joined (x == a) (x == b) _ _ _ _ _ _ _ _ _ _ _ _ _ (beside.edges a b) (tidied.edges a b) (split.edges a b) (tidied.named a) (tidied.named b) (part_names a) (part_names b);
      leaves = let e = beside.leaves in let f = tidied.leaves in let g = split.leaves in omega arith;
    }
      where
        joined : (p q : Bool) (r y na nb ua ub eu ev et ma mb ta tb : ℕ) → r ≡ (y + 0) + (na * cond q 1 0 + nb * cond p 1 0) → y ≡ 0 + eu → et ≡ eu + ev → na ≡ ua → nb ≡ ub → ma * ta ≡ ua → mb * tb ≡ ub →
            0 + (r + ev) ≡ (0 + et) + (cond p (mb * tb) 0 + cond q (ma * ta) 0)
        joined true true r y na nb ua ub eu ev et ma mb ta tb e f g h i j k = omega arith
        joined true false r y na nb ua ub eu ev et ma mb ta tb e f g h i j k = omega arith
        joined false true r y na nb ua ub eu ev et ma mb ta tb e f g h i j k = omega arith
        joined false false r y na nb ua ub eu ev et ma mb ta tb e f g h i j k = omega arith

    -- below a series node the others are parted from it
    pub inserted_series : (y r : PlaceTree) → IsTidied vs true place y → IsBeside false y (tip leaf x) r → IsInserted m leaf x (inner place true ts) (inner node true (then r us))
    inserted_series y r tidied beside = record {
      tips = λ p v. let e = beside.tips p v in let f = tidied.tips p v in let g = split.tips p v in omega arith;
      named = λ v. let e = beside.named v in let f = tidied.named v in let g = split.named v in omega arith;
      edges = λ a b.
          (λ i. (((beside.named a ∙ ap (λ z. z + cond (x == a) 1 0) (tidied.named a)) i * name_row b us + (beside.named b ∙ ap (λ z. z + cond (x == b) 1 0) (tidied.named b)) i * name_row a us) + pair_row a b us) + (edge_in a b r + edge_row a b us))
          ∙ parted (x == a) (x == b) (edge_in a b r) (edge_in a b y) (name_row a us) (name_row b us) (name_row a vs) (name_row b vs) (pair_row a b us) (pair_row a b vs) (pair_row a b ts)
          (edge_row a b us) (edge_row a b vs) (edge_row a b ts) (m a * name_row a ts) (m b * name_row b ts)
          (beside.edges a b) (tidied.edges a b) (split.edges a b) (split.pairs a b) (part_names a) (part_names b);
      leaves = let e = beside.leaves in let f = tidied.leaves in let g = split.leaves in omega arith;
    }
      where
        parted : (p q : Bool) (r y ua ub va vb pu pv pt eu ev et ta tb : ℕ) → r ≡ (y + 0) + 0 → y ≡ pv + ev → et ≡ eu + ev → pt ≡ (pu + pv) + (ua * vb + ub * va) → ta ≡ ua → tb ≡ ub →
            (((va + cond p 1 0) * ub + (vb + cond q 1 0) * ua) + pu) + (r + eu) ≡ (pt + et) + (cond p tb 0 + cond q ta 0)
        parted true true r y ua ub va vb pu pv pt eu ev et ta tb e f g h i j = omega arith
        parted true false r y ua ub va vb pu pv pt eu ev et ta tb e f g h i j = omega arith
        parted false true r y ua ub va vb pu pv pt eu ev et ta tb e f g h i j = omega arith
        parted false false r y ua ub va vb pu pv pt eu ev et ta tb e f g h i j = omega arith

-- ---- kinds alternate

-- a node is of one kind
one_kind : (t : PlaceTree) (k : Bool) → IsInner t (not k) → IsInner t k → ⊥
one_kind (tip p v) k a b = a
one_kind (inner p true ts) true a b = absurd cc
one_kind (inner p true ts) false a b = absurd cc
one_kind (inner p false ts) true a b = absurd cc
one_kind (inner p false ts) false a b = absurd cc

pub alternates_pair : (k : Bool) (q p : ℕ) (ys zs : PlaceTrees) (leaf x : ℕ) (y r : PlaceTree) → NoneInner ys k → AllAlternate ys → NoneInner zs k → AllAlternate zs → 0 < row_length zs →
    IsTidied ys k p y → IsBeside (not k) y (tip leaf x) r → Alternates (inner q k (then r zs))
alternates_pair k q p ys zs leaf x y r none_ys all_ys none_zs all_zs some tidied beside =
    (omega arith, (one_kind r k beside.kind, none_zs), (beside.alternates (tidied.alternates none_ys all_ys) tt (λ i. i), all_zs))
