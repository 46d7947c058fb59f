-- Leaves that are further apart: the graph with their edge turned has an induced path.
use Rattle.std.proofs.Common.{◌≡◌, ◌≢◌, ◌⊎◌, ℕ, ◌<◌, ◌≤◌, Bool, true, false, not, cond, ◌&&◌, ◌||◌, ◌==◌, List, ◌∷◌, refl, sym, ◌∙◌, subst, inl, inr, arith}
use Rattle.std.proofs.lemmas.Bool.{eq-eqb, ne_eqb}
use Rattle.md_graph.specs.Sets.{Has}
use Rattle.md_graph.specs.PlainGraph.{adjacent, without_edge}
use Rattle.md_graph.proofs.GraphLemmas.{IsGraph-with_edge, IsGraph-without_edge, adjacent-with_edge, adjacent-without_edge, adjacent_sym}
use Rattle.md_modules.specs.InducedPaths.{HasInducedPath}
use Rattle.md_modules.proofs.Paths.{path_of_values}
use Rattle.md_modules.proofs.Turns.{graph_adjacency}
use Rattle.md_tree.specs.Trees.{names}
use Rattle.md_cotree.specs.PlaceTrees.{PlaceTree, tip, inner, PlaceTrees, no_more, then, row_length, Alternates, AllAlternate, shape}
use Rattle.md_cotree.proofs.Frames.{hit}
use Rattle.md_cotree.proofs.TreeGraphs.{some_graph}
use Rattle.md_cotree_edit.specs.Counts.{name_in, name_row, edge_in}
use Rattle.md_cotree_edit.specs.Contexts.{Frame, plug}
use Rattle.md_cotree_edit.specs.Turns.{turned_graph}
use Rattle.md_cotree_edit.proofs.Trees.SameRows.{SameRow, SameTree, same_trans, same_swap, same_rest, same_first, same_inner, same_plug, tree_name, tree_edge, front_name, same_refl}
use Rattle.md_cotree_edit.proofs.Trees.NameFork.{meeting}
use Rattle.md_cotree_edit.proofs.Trees.LocalCounts.{name_plug, edge_plug, edge_turned, across_front}
use Rattle.md_cotree_edit.proofs.Trees.TurnedPairs.{around_plug}
use Rattle.md_cotree_edit.proofs.Trees.AdjacencyByCounts.{AreNamed, graph_in, told_graph, same_value, counted_has}

-- ---- names

mutual
  pub some_name : (t : PlaceTree) → Alternates t → (x : ℕ) × (0 < name_in x t)
  some_name (tip p v) is = (v, let h = hit v v refl in omega arith)
  some_name (inner p k ts) is = names_some ts is.2 (let two = is.0 in omega arith)

  pub names_some : (ts : PlaceTrees) → AllAlternate ts → 0 < row_length ts → (x : ℕ) × (0 < name_row x ts)
  names_some no_more is some = absurd (omega arith)
  names_some (then t ts) is some = let first = some_name t is.0 in (first.0, let low = first.1 in omega arith)

-- ---- values

-- two names in a child and in others of a node
pair_value : (fs : List Frame) (p : ℕ) (k : Bool) (t : PlaceTree) (ts : PlaceTrees) (x y : ℕ) → ((z : ℕ) → name_in z (plug fs (inner p k (then t ts))) ≤ 1) → 0 < name_in x t → 0 < name_row y ts →
    edge_in x y (plug fs (inner p k (then t ts))) ≡ cond k 1 0
pair_value fs p k t ts x y one hx hy =
    let lx = name_plug fs x (inner p k (then t ts)) in
    let ly = name_plug fs y (inner p k (then t ts)) in
    let ox = one x in
    let oy = one y in
    edge_plug fs x y (inner p k (then t ts)) (omega arith) (omega arith) ox oy ∙ across_front x y p k t ts (omega arith) (omega arith) (omega arith) (omega arith)

-- four names, of which the first three neighbouring pairs are told by another value than the other pairs, once u and v are turned
pub record FourNames (t : PlaceTree) (k : Bool) (u v : ℕ) : Type 0 where
  pub one : ℕ
  pub two : ℕ
  pub three : ℕ
  pub four : ℕ
  pub inside : (0 < name_in one t) × (0 < name_in two t) × (0 < name_in three t) × (0 < name_in four t)
  pub beside : (adjacent (turned_graph k (graph_in t) u v) one two ≡ not k) × (adjacent (turned_graph k (graph_in t) u v) two three ≡ not k) × (adjacent (turned_graph k (graph_in t) u v) three four ≡ not k)
  pub apart : (adjacent (turned_graph k (graph_in t) u v) one three ≡ k) × (adjacent (turned_graph k (graph_in t) u v) one four ≡ k) × (adjacent (turned_graph k (graph_in t) u v) two four ≡ k)

module _ (t : PlaceTree) (named : AreNamed t) (u v : ℕ) (hu : 0 < name_in u t) (hv : 0 < name_in v t) (differ : u ≢ v) where
  has : (x : ℕ) → 0 < name_in x t → Has (names (shape t)) x
  has x h = counted_has t x h

  pub four_path : (k : Bool) → FourNames t k u v → HasInducedPath (adjacent (turned_graph k (graph_in t) u v)) (turned_graph k (graph_in t) u v).vertices
  four_path false f =
      path_of_values (graph_adjacency (IsGraph-with_edge (some_graph (shape t) named.low) u v (has u hu) (has v hv) differ)) (names (shape t)) f.one f.two f.three f.four
      (has f.one f.inside.0, has f.two f.inside.1, has f.three f.inside.2, has f.four f.inside.3) f.beside f.apart
  four_path true f =
      path_of_values (graph_adjacency (IsGraph-without_edge (some_graph (shape t) named.low) u v)) (names (shape t)) f.two f.four f.one f.three
      (has f.two f.inside.1, has f.four f.inside.3, has f.one f.inside.0, has f.three f.inside.2)
      (f.apart.2, adjacent_sym (without_edge (graph_in t) u v) f.four f.one ∙ f.apart.1, f.apart.0)
      (adjacent_sym (without_edge (graph_in t) u v) f.two f.one ∙ f.beside.0, f.beside.1, adjacent_sym (without_edge (graph_in t) u v) f.four f.three ∙ f.beside.2)

  pub turned_pair : (k : Bool) → adjacent (graph_in t) u v ≡ k → adjacent (turned_graph k (graph_in t) u v) u v ≡ not k
  turned_pair true is = adjacent-without_edge (graph_in t) u v u v ∙ (λ i. not ((eq-eqb u u refl i && eq-eqb v v refl i) || ((u == v) && (v == u))) && adjacent (graph_in t) u v)
  turned_pair false is = adjacent-with_edge (graph_in t) u v u v ∙ (λ i. ((eq-eqb u u refl i && eq-eqb v v refl i) || ((u == v) && (v == u))) || adjacent (graph_in t) u v)

  off_pair : (x y : ℕ) → ((x ≢ u) × (x ≢ v)) ⊎ ((y ≢ u) × (y ≢ v)) → (((x == u) && (y == v)) || ((x == v) && (y == u))) ≡ false
  off_pair x y (inl off) = λ i. (ne_eqb x u off.0 i && (y == v)) || (ne_eqb x v off.1 i && (y == u))
  off_pair x y (inr off) = (λ i. ((x == u) && ne_eqb y v off.1 i) || ((x == v) && ne_eqb y u off.0 i)) ∙ both (x == u) (x == v)
    where
      both : (a b : Bool) → ((a && false) || (b && false)) ≡ false
      both true true = refl
      both true false = refl
      both false true = refl
      both false false = refl

  turned_off : (k : Bool) (x y : ℕ) → ((x ≢ u) × (x ≢ v)) ⊎ ((y ≢ u) × (y ≢ v)) → adjacent (turned_graph k (graph_in t) u v) x y ≡ adjacent (graph_in t) x y
  turned_off true x y off = adjacent-without_edge (graph_in t) u v x y ∙ (λ i. not (off_pair x y off i) && adjacent (graph_in t) x y)
  turned_off false x y off = adjacent-with_edge (graph_in t) u v x y ∙ (λ i. off_pair x y off i || adjacent (graph_in t) x y)

  -- a pair that isn't turned is told by its count
  pub other_pair : (k j : Bool) (x y : ℕ) → 0 < name_in x t → 0 < name_in y t → ((x ≢ u) × (x ≢ v)) ⊎ ((y ≢ u) × (y ≢ v)) → edge_in x y t ≡ cond j 1 0 → adjacent (turned_graph k (graph_in t) u v) x y ≡ j
  other_pair k j x y hx hy off e = turned_off k x y off ∙ same_value (adjacent (graph_in t) x y) j (sym (told_graph t named x y hx hy) ∙ e)

-- ---- both leaves are below children of the node

module _ (t : PlaceTree) (named : AreNamed t) (k : Bool) (u v : ℕ) (differ : u ≢ v) (hu : 0 < name_in u t) (hv : 0 < name_in v t) (is : adjacent (graph_in t) u v ≡ k) (fs : List Frame) (w : ℕ) where
  -- the tree with two trees first below the node, in either order
  record IsArranged (left right : PlaceTree) (rest : PlaceTrees) : Type 0 where
    once : (z : ℕ) → name_in z (plug fs (inner w k (then left (then right rest)))) ≤ 1
    once_other : (z : ℕ) → name_in z (plug fs (inner w k (then right (then left rest)))) ≤ 1
    edge : (a b : ℕ) → edge_in a b t ≡ edge_in a b (plug fs (inner w k (then left (then right rest))))
    edge_other : (a b : ℕ) → edge_in a b t ≡ edge_in a b (plug fs (inner w k (then right (then left rest))))
    low : (z : ℕ) → name_in z (inner w k (then left (then right rest))) ≤ name_in z (plug fs (inner w k (then left (then right rest))))
    there : (z : ℕ) → 0 < name_in z (inner w k (then left (then right rest))) → 0 < name_in z t

  module _ (left right : PlaceTree) (rest : PlaceTrees) (same : SameTree t (plug fs (inner w k (then left (then right rest))))) where
    abbrev whole : PlaceTree
    whole = plug fs (inner w k (then left (then right rest)))

    abbrev other : PlaceTree
    other = plug fs (inner w k (then right (then left rest)))

    swap : SameTree whole other
    swap =
        same_plug fs (inner w k (then left (then right rest))) (inner w k (then right (then left rest)))
        (same_inner w k (then left (then right rest)) (then right (then left rest)) (same_swap left right rest))

    one : (z : ℕ) → name_in z whole ≤ 1
    one z = let e = tree_name t whole same z in let n = named.once z in omega arith

    whole_edge : (a b : ℕ) → edge_in a b t ≡ edge_in a b whole
    whole_edge a b = sym (tree_edge t whole same a b)

    inside_low : (z : ℕ) → name_in z (inner w k (then left (then right rest))) ≤ name_in z whole
    inside_low z = name_plug fs z (inner w k (then left (then right rest)))

    arranged : IsArranged left right rest
    arranged = record {
      once = one;
      once_other = λ z. let e = tree_name whole other swap z in let n = one z in omega arith;
      edge = whole_edge;
      edge_other = λ a b. whole_edge a b ∙ sym (tree_edge whole other swap a b);
      low = inside_low;
      there = λ z some. let e = tree_name t whole same z in let l = inside_low z in omega arith;
    }

  -- the trees below the node become others
  changed : (left right l r : PlaceTree) (rest : PlaceTrees) → SameTree t (plug fs (meeting w k left right rest)) → SameTree left l → SameTree right r → SameTree t (plug fs (inner w k (then l (then r rest))))
  changed left right l r rest same a b =
      same_trans (then t no_more) (then (plug fs (meeting w k left right rest)) no_more) (then (plug fs (inner w k (then l (then r rest)))) no_more) same
      (same_plug fs (meeting w k left right rest) (inner w k (then l (then r rest)))
      (same_inner w k (then left (then right rest)) (then l (then r rest))
      (same_trans (then left (then right rest)) (then l (then right rest)) (then l (then r rest)) (same_first left l (then right rest) a)
      (same_rest l (then right rest) (then r rest) (same_first right r rest b)))))

  module _ (i j : ℕ) (us vs : PlaceTrees) (rest : PlaceTrees) (same : SameTree t (plug fs (meeting w k (inner i (not k) us) (inner j (not k) vs) rest)))
      (alternates : Alternates (plug fs (meeting w k (inner i (not k) us) (inner j (not k) vs) rest))) (in_us : 0 < name_row u us) (in_vs : 0 < name_row v vs) where
    pub far_both : FourNames t k u v
    far_both =
        let around = (around_plug fs w k (then (inner i (not k) us) (then (inner j (not k) vs) rest)) alternates).1 in
        let a = front_name us u in_us in
        let b = front_name vs v in_vs in
        let o = a.2.others in
        let p = b.2.others in
        let all_us = a.2.same.alternates around.2.0.2 in
        let all_vs = b.2.same.alternates around.2.1.0.2 in
        let x = names_some o all_us.1 (let two = around.2.0.0 in let e = a.2.same.long in omega arith) in
        let y = names_some p all_vs.1 (let two = around.2.1.0.0 in let e = b.2.same.long in omega arith) in
        let left : PlaceTree = inner i (not k) (then a.0 o) in
        let right : PlaceTree = inner j (not k) (then b.0 p) in
        let at = arranged left right rest
        (changed (inner i (not k) us) (inner j (not k) vs) left right rest same (same_inner i (not k) us (then a.0 o) a.2.same) (same_inner j (not k) vs (then b.0 p) b.2.same)) in
        let ha = a.1 in
        let hb = b.1 in
        let hx = x.1 in
        let hy = y.1 in
        let in_x = at.there x.0 (omega arith) in
        let in_y = at.there y.0 (omega arith) in
        let no_xu : x.0 ≢ u = λ e. (let l = at.low u in let n = at.once u in let h = subst (λ z. 0 < name_row z o) e hx in omega arith) in
        let no_xv : x.0 ≢ v = λ e. (let l = at.low v in let n = at.once v in let h = subst (λ z. 0 < name_row z o) e hx in omega arith) in
        let no_yu : y.0 ≢ u = λ e. (let l = at.low u in let n = at.once u in let h = subst (λ z. 0 < name_row z p) e hy in omega arith) in
        let no_yv : y.0 ≢ v = λ e. (let l = at.low v in let n = at.once v in let h = subst (λ z. 0 < name_row z p) e hy in omega arith) in
        let inside_left : Frame = record { place = w; series = k; others = then right rest } in
        let inside_right : Frame = record { place = w; series = k; others = then left rest } in
        record {
          one = x.0;
          two = u;
          three = v;
          four = y.0;
          inside = (in_x, hu, hv, in_y);
          beside = (
            other_pair t named u v hu hv differ k (not k) x.0 u in_x hu (inl (no_xu, no_xv))
                (at.edge x.0 u ∙ edge_turned x.0 u (plug fs (inner w k (then left (then right rest)))) ∙ pair_value (inside_left ∷ fs) i (not k) a.0 o u x.0 at.once ha hx),
            turned_pair t named u v hu hv differ k is,
            other_pair t named u v hu hv differ k (not k) v y.0 hv in_y (inr (no_yu, no_yv))
                (at.edge_other v y.0 ∙ pair_value (inside_right ∷ fs) j (not k) b.0 p v y.0 at.once_other hb hy),
          );
          apart = (
            other_pair t named u v hu hv differ k k x.0 v in_x hv (inl (no_xu, no_xv)) (at.edge x.0 v ∙ pair_value fs w k left (then right rest) x.0 v at.once (omega arith) (omega arith)),
            other_pair t named u v hu hv differ k k x.0 y.0 in_x in_y (inl (no_xu, no_xv)) (at.edge x.0 y.0 ∙ pair_value fs w k left (then right rest) x.0 y.0 at.once (omega arith) (omega arith)),
            other_pair t named u v hu hv differ k k u y.0 hu in_y (inr (no_yu, no_yv)) (at.edge u y.0 ∙ pair_value fs w k left (then right rest) u y.0 at.once (omega arith) (omega arith)),
          );
        }

  -- ---- the one leaf is a child of the node, the other is deeper than a grandchild

  module _ (left : PlaceTree) (j r : ℕ) (vs rs os : PlaceTrees) (rest : PlaceTrees) (in_left : 0 < name_in u left) (in_rs : 0 < name_row v rs) (front : SameRow vs (then (inner r k rs) os))
      (same : SameTree t (plug fs (meeting w k left (inner j (not k) vs) rest))) (alternates : Alternates (plug fs (meeting w k left (inner j (not k) vs) rest))) where
    pub far_one : FourNames t k u v
    far_one =
        let around = (around_plug fs w k (then left (then (inner j (not k) vs) rest)) alternates).1 in
        let all_vs = front.alternates around.2.1.0.2 in
        let b = front_name rs v in_rs in
        let p = b.2.others in
        let all_rs = b.2.same.alternates all_vs.0.2 in
        let z = names_some os all_vs.1 (let two = around.2.1.0.0 in let e = front.long in omega arith) in
        let y = names_some p all_rs.1 (let two = all_vs.0.0 in let e = b.2.same.long in omega arith) in
        let deep : PlaceTree = inner r k (then b.0 p) in
        let right : PlaceTree = inner j (not k) (then deep os) in
        let to_right : SameTree (inner j (not k) vs) right =
        same_inner j (not k) vs (then deep os)
        (same_trans vs (then (inner r k rs) os) (then deep os) front (same_first (inner r k rs) deep os (same_inner r k rs (then b.0 p) b.2.same))) in
        let at = arranged left right rest (changed left (inner j (not k) vs) left right rest same (same_refl (then left no_more)) to_right) in
        let hb = b.1 in
        let hz = z.1 in
        let hy = y.1 in
        let in_z = at.there z.0 (omega arith) in
        let in_y = at.there y.0 (omega arith) in
        let no_zu : z.0 ≢ u = λ e. (let l = at.low u in let n = at.once u in let h = subst (λ c. 0 < name_row c os) e hz in omega arith) in
        let no_zv : z.0 ≢ v = λ e. (let l = at.low v in let n = at.once v in let h = subst (λ c. 0 < name_row c os) e hz in omega arith) in
        let no_yu : y.0 ≢ u = λ e. (let l = at.low u in let n = at.once u in let h = subst (λ c. 0 < name_row c p) e hy in omega arith) in
        let no_yv : y.0 ≢ v = λ e. (let l = at.low v in let n = at.once v in let h = subst (λ c. 0 < name_row c p) e hy in omega arith) in
        let inside : Frame = record { place = w; series = k; others = then left rest } in
        let inner_frame : Frame = record { place = j; series = not k; others = os } in
        record {
          one = u;
          two = v;
          three = z.0;
          four = y.0;
          inside = (hu, hv, in_z, in_y);
          beside = (
            turned_pair t named u v hu hv differ k is,
            other_pair t named u v hu hv differ k (not k) v z.0 hv in_z (inr (no_zu, no_zv))
                (at.edge_other v z.0 ∙ pair_value (inside ∷ fs) j (not k) deep os v z.0 at.once_other (omega arith) hz),
            other_pair t named u v hu hv differ k (not k) z.0 y.0 in_z in_y (inl (no_zu, no_zv))
                (at.edge_other z.0 y.0 ∙ edge_turned z.0 y.0 (plug fs (inner w k (then right (then left rest)))) ∙ pair_value (inside ∷ fs) j (not k) deep os y.0 z.0 at.once_other (omega arith) hz),
          );
          apart = (
            other_pair t named u v hu hv differ k k u z.0 hu in_z (inr (no_zu, no_zv)) (at.edge u z.0 ∙ pair_value fs w k left (then right rest) u z.0 at.once in_left (omega arith)),
            other_pair t named u v hu hv differ k k u y.0 hu in_y (inr (no_yu, no_yv)) (at.edge u y.0 ∙ pair_value fs w k left (then right rest) u y.0 at.once in_left (omega arith)),
            other_pair t named u v hu hv differ k k v y.0 hv in_y (inr (no_yu, no_yv))
                (at.edge_other v y.0 ∙ pair_value (inner_frame ∷ inside ∷ fs) r k b.0 p v y.0 at.once_other hb hy),
          );
        }
