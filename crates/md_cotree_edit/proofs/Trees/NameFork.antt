-- The node where two names of a tree lie in different children.
use Rattle.std.proofs.Common.{◌≡◌, ◌≢◌, ◌⊎◌, ℕ, ◌<◌, Bool, List, [], ◌∷◌, ◌++◌, sym, ◌∙◌, subst, inl, inr, arith}
use Rattle.std.proofs.lemmas.Bool.{cases_eq, cases_lt}
use Rattle.md_cotree.specs.PlaceTrees.{PlaceTree, tip, inner, PlaceTrees, no_more, then}
use Rattle.md_cotree.proofs.Frames.{miss}
use Rattle.md_cotree_edit.specs.Counts.{name_in, name_row}
use Rattle.md_cotree_edit.specs.Contexts.{Frame, fill, plug}
use Rattle.md_cotree_edit.proofs.Trees.SameRows.{SameRow, SameTree, same_refl, same_trans, same_swap, same_rest, same_first, same_inner, plug_last, front_name}

-- a node that has one name in one child and the other in another
abbrev pub meeting : ℕ → Bool → PlaceTree → PlaceTree → PlaceTrees → PlaceTree
meeting w k i j rest = inner w k (then i (then j rest))

pub record Met (t : PlaceTree) (u v : ℕ) : Type 0 where
  pub frames : List Frame
  pub place : ℕ
  pub series : Bool
  pub left : PlaceTree
  pub right : PlaceTree
  pub rest : PlaceTrees
  pub same : SameTree t (plug frames (meeting place series left right rest))
  pub has_left : 0 < name_in u left
  pub has_right : 0 < name_in v right

-- in one of the trees
record Inside (ts : PlaceTrees) (u v : ℕ) : Type 0 where
  tree : PlaceTree
  others : PlaceTrees
  met : Met tree u v
  same : SameRow ts (then tree others)

-- in two of them
record Across (ts : PlaceTrees) (u v : ℕ) : Type 0 where
  left : PlaceTree
  right : PlaceTree
  rest : PlaceTrees
  same : SameRow ts (then left (then right rest))
  has_left : 0 < name_in u left
  has_right : 0 < name_in v right

only_one : (p w x : ℕ) → 0 < name_in x (tip p w) → w ≡ x
only_one p w x some = elim (cases_eq w x) [ inl same ↦ same | inr other ↦ absurd (let m = miss w x other in omega arith) ]

inside_more : (t : PlaceTree) (ts : PlaceTrees) (u v : ℕ) → Inside ts u v → Inside (then t ts) u v
inside_more t ts u v at = record {
  tree = at.tree;
  others = then t at.others;
  met = at.met;
  same = same_trans (then t ts) (then t (then at.tree at.others)) (then at.tree (then t at.others)) (same_rest t ts (then at.tree at.others) at.same) (same_swap t at.tree at.others);
}

across_more : (t : PlaceTree) (ts : PlaceTrees) (u v : ℕ) → Across ts u v → Across (then t ts) u v
across_more t ts u v at = record {
  left = at.left;
  right = at.right;
  rest = then t at.rest;
  same =
      same_trans (then t ts) (then t (then at.left (then at.right at.rest))) (then at.left (then at.right (then t at.rest)))
      (same_rest t ts (then at.left (then at.right at.rest)) at.same)
      (same_trans (then t (then at.left (then at.right at.rest))) (then at.left (then t (then at.right at.rest))) (then at.left (then at.right (then t at.rest)))
      (same_swap t at.left (then at.right at.rest))
      (same_rest at.left (then t (then at.right at.rest)) (then at.right (then t at.rest)) (same_swap t at.right at.rest)));
  has_left = at.has_left;
  has_right = at.has_right;
}

mutual
  pub met : (t : PlaceTree) (u v : ℕ) → u ≢ v → 0 < name_in u t → 0 < name_in v t → Met t u v
  met (tip p w) u v differ hu hv = absurd (differ (sym (only_one p w u hu) ∙ only_one p w v hv))
  met (inner p k ts) u v differ hu hv =
      elim (met_row ts u v differ hu hv) [
        | inl at ↦
            let m = at.met in
            let f : Frame = record { place = p; series = k; others = at.others } in
            record {
              frames = m.frames ++ f ∷ [];
              place = m.place;
              series = m.series;
              left = m.left;
              right = m.right;
              rest = m.rest;
              same = subst (SameTree (inner p k ts)) (sym (plug_last m.frames f (meeting m.place m.series m.left m.right m.rest)))
                  (same_trans (then (inner p k ts) no_more) (then (fill f at.tree) no_more) (then (fill f (plug m.frames (meeting m.place m.series m.left m.right m.rest))) no_more)
                  (same_inner p k ts (then at.tree at.others) at.same)
                  (same_inner p k (then at.tree at.others) (then (plug m.frames (meeting m.place m.series m.left m.right m.rest)) at.others)
                  (same_first at.tree (plug m.frames (meeting m.place m.series m.left m.right m.rest)) at.others m.same)));
              has_left = m.has_left;
              has_right = m.has_right;
            }
        | inr at ↦ record {
          frames = [];
          place = p;
          series = k;
          left = at.left;
          right = at.right;
          rest = at.rest;
          same = same_inner p k ts (then at.left (then at.right at.rest)) at.same;
          has_left = at.has_left;
          has_right = at.has_right;
        }
      ]

  met_row : (ts : PlaceTrees) (u v : ℕ) → u ≢ v → 0 < name_row u ts → 0 < name_row v ts → Inside ts u v ⊎ Across ts u v
  met_row no_more u v differ hu hv = absurd (omega arith)
  met_row (then t ts) u v differ hu hv =
      elim (cases_lt 0 (name_in u t)) [
        | inl iu ↦ elim (cases_lt 0 (name_in v t)) [
          | inl iv ↦ inl (record { tree = t; others = ts; met = met t u v differ iu iv; same = same_refl (then t ts) })
          | inr jv ↦
              let f = front_name ts v (omega arith) in
              inr (record { left = t; right = f.0; rest = f.2.others; same = same_rest t ts (then f.0 f.2.others) f.2.same; has_left = iu; has_right = f.1 })
        ]
        | inr ju ↦ elim (cases_lt 0 (name_in v t)) [
          | inl iv ↦
              let f = front_name ts u (omega arith) in
              inr (record {
                left = f.0;
                right = t;
                rest = f.2.others;
                same = same_trans (then t ts) (then t (then f.0 f.2.others)) (then f.0 (then t f.2.others)) (same_rest t ts (then f.0 f.2.others) f.2.same) (same_swap t f.0 f.2.others);
                has_left = f.1;
                has_right = iv;
              })
          | inr jv ↦ elim (met_row ts u v differ (omega arith) (omega arith)) [
            | inl at ↦ inl (inside_more t ts u v at)
            | inr at ↦ inr (across_more t ts u v at)
          ]
        ]
      ]
