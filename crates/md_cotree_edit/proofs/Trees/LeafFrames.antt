-- A leaf and the nodes around it.
use Rattle.std.proofs.Common.{ℕ, ◌<◌, ◌==◌, List, [], ◌∷◌, ◌++◌, sym, subst, inl, inr, arith}
use Rattle.std.proofs.lemmas.Bool.{cases_lt, eqb-true}
use Rattle.md_cotree.specs.PlaceTrees.{PlaceTree, tip, inner, PlaceTrees, no_more, then, leaves_in, leaves_among}
use Rattle.md_cotree_edit.specs.Contexts.{Frame, plug}
use Rattle.md_cotree_edit.proofs.Trees.SameRows.{SameRow, SameTree, same_refl, same_trans, same_swap, same_rest, same_first, same_inner, plug_last}
use Rattle.md_cotree.proofs.Frames.{some_of}

pub record IsLeafAt (t : PlaceTree) (p v : ℕ) : Type 0 where
  pub frames : List Frame
  pub same : SameTree t (plug frames (tip p v))

record IsLeafAmong (ts : PlaceTrees) (p v : ℕ) : Type 0 where
  tree : PlaceTree
  others : PlaceTrees
  front : SameRow ts (then tree others)
  there : IsLeafAt tree p v

mutual
  pub leaf_at : (t : PlaceTree) (p v : ℕ) → 0 < leaves_in p v t → IsLeafAt t p v
  leaf_at (tip q w) p v some =
      let both = some_of (q == p) (w == v) some in
      record {
        frames = [];
        same = subst (λ s. SameTree (tip q w) s) (λ i. tip (eqb-true q p both.0 i) (eqb-true w v both.1 i)) (same_refl (then (tip q w) no_more));
      }
  leaf_at (inner q k ts) p v some =
      let among = leaf_among ts p v some in
      let f : Frame = record { place = q; series = k; others = among.others } in
      record {
        frames = among.there.frames ++ f ∷ [];
        same = subst (λ s. SameTree (inner q k ts) s) (sym (plug_last among.there.frames f (tip p v)))
            (same_inner q k ts (then (plug among.there.frames (tip p v)) among.others)
            (same_trans ts (then among.tree among.others) (then (plug among.there.frames (tip p v)) among.others) among.front
            (same_first among.tree (plug among.there.frames (tip p v)) among.others among.there.same)));
      }

  leaf_among : (ts : PlaceTrees) (p v : ℕ) → 0 < leaves_among p v ts → IsLeafAmong ts p v
  leaf_among no_more p v some = absurd (omega arith)
  leaf_among (then t ts) p v some =
      elim (cases_lt 0 (leaves_in p v t)) [
        | inl here ↦ record { tree = t; others = ts; front = same_refl (then t ts); there = leaf_at t p v here }
        | inr none ↦
            let rest = leaf_among ts p v (omega arith) in
            record {
              tree = rest.tree;
              others = then t rest.others;
              front = same_trans (then t ts) (then t (then rest.tree rest.others)) (then rest.tree (then t rest.others)) (same_rest t ts (then rest.tree rest.others) rest.front) (same_swap t rest.tree rest.others);
              there = rest.there;
            }
      ]
