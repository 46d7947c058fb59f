-- A leaf leaves its tree.
use Rattle.std.proofs.Common.{◌≡◌, ◌≢◌, ℕ, zero, suc, ◌+◌, ◌*◌, ◌<◌, ◌≤◌, Bool, true, false, cond, List, [], ◌∷◌, length, Option, Some, None, refl, sym, ◌∙◌, ap, subst, min, arith}
use Rattle.md_lists.specs.declared.kinds.PlaceKind.TheVariants.{Leaf}
use Rattle.md_lists.specs.Links.{Links, parent_at, children_at, IsLive, IsBare, AreLinks, with_kind}
use Rattle.md_lists.proofs.LinkLaws.{live_within}
use Rattle.md_cotree.specs.PlaceTrees.{PlaceTree, tip, inner, PlaceTrees, no_more, then, place_of, leaf_counts, row_length, NoneInner, Alternates, AllAlternate}
use Rattle.md_cotree.proofs.Frames.{hit, miss}
use Rattle.md_cotree.proofs.Rows.{some_nodes}
use Rattle.md_cotree_edit.specs.Counts.{kind_code, name_in, name_row, pair_row, edge_in, edge_row}
use Rattle.md_cotree_edit.specs.Contexts.{Frame, fill, plug, AreAround, AreTreesKept}
use Rattle.md_cotree_edit.specs.Turns.{IsTurned}
use Rattle.md_cotree_edit.specs.Deletions.{below_count, beside_count, CloseView, open_tree, CanClose, IsNodeClosed, IsKeptFrom, no_pairs, PruneView, leaf_tree, CanPrune, IsWithoutLeaf, IsPruned, HasFew}
use Rattle.md_cotree_edit.proofs.Trees.SameRows.{same_swap}
use Rattle.md_cotree_edit.proofs.Trees.LocalCounts.{times_plug, name_plug}
use Rattle.md_cotree_edit.proofs.Trees.KeptTrees.{kept_live, kept_along}
use Rattle.md_cotree_edit.proofs.Trees.ListCalls.{tip_alone, alone_freed, alone_bare}
use Rattle.md_cotree_edit.proofs.Trees.AdoptedTrees.{node_live, kept_count}
use Rattle.md_cotree_edit.proofs.EdgeTurns.LiftedLeaves.{off_kept, off_marks, Off}
use Rattle.md_cotree_edit.proofs.Trees.TurnedPairs.{shift_names, shift_tips, shift_leaves, shift_edges, place_plug, around_plug, alternates_plug, self_not}
use Rattle.md_cotree_edit.proofs.Trees.KeptNames.{few_below}
use Rattle.md_cotree_edit.proofs.Deletions.ReplacedNode.{no_frame, IsFramed, some_frame}

-- ---- a loose leaf is freed

module _ (l : Links) (ok : AreLinks l) (p v : ℕ) (ts : PlaceTrees) (kept : AreTreesKept l (then (tip p v) ts)) where
  pub tip_live : IsLive l p
  tip_live = kept_live l (then (tip p v) ts) kept p (let h = hit p p refl in omega arith)

  pub tip_bare : l.marked ≡ [] → IsBare l p
  tip_bare = alone_bare l ok p (kind_code (Some (Leaf v))) (tip p v) ts (tip_alone p v) kept

  freed_row : AreTreesKept (with_kind l p None) ts
  freed_row = alone_freed l ok p (kind_code (Some (Leaf v))) (tip p v) ts (tip_alone p v) kept (live_within l ok p tip_live)

  pub tip_freed : (n : Links) → n ≡ with_kind l p None → AreTreesKept n ts
  tip_freed n is = subst (λ z. AreTreesKept z ts) (sym is) freed_row

-- ---- the tree without it

module _ (leaf x : ℕ) where
  without_root : IsWithoutLeaf leaf x (tip leaf x) no_more
  without_root = record { tips = λ p v. omega arith; named = λ v. omega arith; edges = λ a b na nb. refl; leaves = refl }

  module _ (fs : List Frame) (p : ℕ) (k : Bool) (others : PlaceTrees) where
    abbrev old : PlaceTree
    old = inner p k (then (tip leaf x) others)

    abbrev new : PlaceTree
    new = inner p k others

    same_edge : (a b : ℕ) → x ≢ a → x ≢ b → edge_in a b new ≡ edge_in a b old
    same_edge a b na nb =
        let ea = miss x a na in
        let eb = miss x b nb in
        let pairs : pair_row a b (then (tip leaf x) others) ≡ pair_row a b others = (λ i. (ea i * name_row b others + eb i * name_row a others) + pair_row a b others) ∙ omega arith in
        let e : edge_in a b old ≡ cond k (pair_row a b others) 0 + (0 + edge_row a b others) = λ i. cond k (pairs i) 0 + (0 + edge_row a b others) in
        omega arith

    without_frame : IsWithoutLeaf leaf x (plug fs old) (then (plug fs new) no_more)
    without_frame = record {
      tips = λ q v. let e = shift_tips fs q v old new in omega arith;
      named = λ v. let e = shift_names fs v old new in omega arith;
      edges = λ a b na nb.
          let ea = miss x a na in
          let eb = miss x b nb in
          let e = shift_edges fs a b old new (omega arith) (omega arith) in
          let f = same_edge a b na nb in
          omega arith;
      leaves = let e = shift_leaves fs old new in omega arith;
    }

  without_turned : (t s w : PlaceTree) → IsWithoutLeaf leaf x t (then s no_more) → IsTurned false no_pairs s w → IsWithoutLeaf leaf x t (then w no_more)
  without_turned t s w is turned = record {
    tips = λ p v. let e = is.tips p v in let f = turned.tips p v in omega arith;
    named = λ v. let e = is.named v in let f = turned.named v in omega arith;
    edges = λ a b na nb. let e = is.edges a b na nb in let f = turned.edges a b in omega arith;
    leaves = let e = is.leaves in let f = turned.leaves in omega arith;
  }

-- ---- few children move

edge_low : (fs : List Frame) (a b : ℕ) (t : PlaceTree) → edge_in a b t ≤ edge_in a b (plug fs t)
edge_low [] a b t = omega arith
edge_low (f ∷ fs) a b t = let rest = edge_low fs a b (fill f t) in omega arith

-- one leaf a tree
pub long_low : (ts : PlaceTrees) → AllAlternate ts → row_length ts ≤ leaf_counts ts
long_low ts all = let e = few_below ts all in let f = some_nodes ts in omega arith

below_low : (y : PlaceTree) → Alternates y → below_count y ≤ leaf_counts (then y no_more)
below_low (tip p v) is = omega arith
below_low (inner p k ts) is = let e = long_low ts is.2 in omega arith

-- a name in one tree and another in the others are joined below a series node
joined_low : (x v p : ℕ) (t : PlaceTree) (ts : PlaceTrees) → name_in x t ≡ 1 → 0 < name_row v ts → 0 < edge_in x v (inner p true (then t ts))
joined_low x v p t ts one some = let e : name_in x t * name_row v ts ≡ 1 * name_row v ts = λ i. one i * name_row v ts in omega arith

module _ (n x leaf p : ℕ) (y : PlaceTree) (alternates : Alternates y) where
  abbrev lowest : Bool → PlaceTree
  lowest k = inner p k (then (tip leaf x) (then y no_more))

  has_x : (fs : List Frame) (k : Bool) → ((v : ℕ) → name_in v (plug fs (lowest k)) ≤ 1) → name_in x (lowest k) ≡ 1
  has_x fs k once = let low = name_plug fs x (lowest k) in let o = once x in let h = hit x x refl in omega arith

  few_below_it : (fs : List Frame) → ((v : ℕ) → name_in v (plug fs (lowest true)) ≤ 1) → HasFew n x (plug fs (lowest true)) → below_count y ≤ n
  few_below_it fs once few =
      let low = below_low y alternates in
      let e = few.few (then y no_more) (λ v. (let o = once v in let low = name_plug fs v (lowest true) in omega arith))
      (λ v some. (let j = joined_low x v p (tip leaf x) (then y no_more) (hit x x refl) some in let low = edge_low fs x v (lowest true) in omega arith)) in
      omega arith

  few_beside : (f : Frame) (fs : List Frame) (k : Bool) → f.series ≡ true → AllAlternate f.others → ((v : ℕ) → name_in v (plug (f ∷ fs) (lowest k)) ≤ 1) →
      HasFew n x (plug (f ∷ fs) (lowest k)) → row_length f.others ≤ n
  few_beside f fs k series all once few =
      let low = long_low f.others all in
      let one = has_x (f ∷ fs) k once in
      let e = few.few f.others (λ v. (let o = once v in let low = name_plug fs v (fill f (lowest k)) in omega arith))
      (λ v some. (
      let j : 0 < edge_in x v (fill f (lowest k)) = subst (λ b. 0 < edge_in x v (inner f.place b (then (lowest k) f.others))) (sym series) (joined_low x v f.place (lowest k) f.others one some) in
      let low = edge_low fs x v (fill f (lowest k)) in omega arith)) in
      omega arith

  pub few_moved : (fs : List Frame) (k : Bool) → AreAround fs k → ((v : ℕ) → name_in v (plug fs (lowest k)) ≤ 1) → HasFew n x (plug fs (lowest k)) → min (below_count y) (beside_count fs) ≤ n
  few_moved fs true around once few = let e = few_below_it fs once few in omega arith
  few_moved [] false around once few = omega arith
  few_moved (f ∷ fs) false around once few = let e = few_beside f fs false around.0 around.3 once few in omega arith

-- ---- the calls

two_of : (n : ℕ) → 1 ≤ n → n ≢ 1 → 2 ≤ n
two_of zero some other = absurd (omega arith)
two_of (suc zero) some other = absurd (other refl)
two_of (suc (suc n)) some other = omega arith

pub one_tree : (ts : PlaceTrees) → row_length ts ≡ 1 → (y : PlaceTree) × (ts ≡ then y no_more)
one_tree no_more e = absurd (omega arith)
one_tree (then y no_more) e = (y, refl)
one_tree (then y (then z ts)) e = absurd (omega arith)

module _ (l : Links) (ok : AreLinks l) (root : Option ℕ) (leaf : ℕ) (d : PruneView) (can : CanPrune l root leaf d) where
  abbrev lone : PlaceTree
  lone = tip leaf d.name

  pub prune_live : IsLive l leaf
  prune_live = kept_live l (then (leaf_tree leaf d) no_more) can.is.kept leaf (let low = times_plug d.frames leaf lone in let h = hit leaf leaf refl in omega arith)

  -- ---- it is the root

  module _ (none : None ≡ parent_at l leaf) where
    alone : d.frames ≡ []
    alone = no_frame l ok d.frames lone no_more can.is.kept none

    alone_kept : AreTreesKept l (then lone no_more)
    alone_kept = subst (λ fs. AreTreesKept l (then (plug fs lone) no_more)) alone can.is.kept

    pub lone_bare : l.marked ≡ [] → IsBare l leaf
    lone_bare = tip_bare l ok leaf d.name no_more alone_kept

    pub lone_done : (n : Links) → n ≡ with_kind l leaf None → IsPruned n None leaf d
    lone_done n freed = record {
      tree = None;
      kept = tip_freed l ok leaf d.name no_more alone_kept n freed;
      root = refl;
      alternates = tt;
      without = subst (λ fs. IsWithoutLeaf leaf d.name (plug fs lone) no_more) (sym alone) (without_root leaf d.name);
    }

  -- ---- it is below a node

  module _ (g : ℕ) (is : Some g ≡ parent_at l leaf) where
    abbrev site : IsFramed d.frames g
    site = some_frame l ok d.frames lone no_more can.is.kept g is

    abbrev node : PlaceTrees → PlaceTree
    node ts = plug site.frames (inner g site.series ts)

    below_kept : AreTreesKept l (then (node (then lone site.others)) no_more)
    below_kept = subst (λ fs. AreTreesKept l (then (plug fs lone) no_more)) site.is can.is.kept

    parts : AreAround site.frames site.series × Alternates (inner g site.series (then lone site.others))
    parts = around_plug site.frames g site.series (then lone site.others) (subst (λ fs. Alternates (plug fs lone)) site.is can.alternates)

    site_root : (s : PlaceTree) → place_of s ≡ g → root ≡ Some (place_of (plug site.frames s))
    site_root s at =
        subst (λ fs. root ≡ Some (place_of (plug fs lone))) site.is can.is.root
        ∙ sym (ap Some (place_plug site.frames (inner g site.series (then lone site.others)) s at))

    module _ (m : Links) (ok_m : AreLinks m) (off : Off l leaf m) where
      off_row : AreTreesKept m (then lone (then (node site.others) no_more))
      off_row = kept_along m (then (node site.others) (then lone no_more)) (then lone (then (node site.others) no_more)) (same_swap (node site.others) lone no_more)
          (off_kept l ok site.frames g site.series lone site.others no_more below_kept m off)

      pub off_leaf_live : IsLive m leaf
      off_leaf_live = tip_live m ok_m leaf d.name (then (node site.others) no_more) off_row

      off_unmarked : l.marked ≡ [] → m.marked ≡ []
      off_unmarked unmarked = off_marks l ok site.frames g site.series lone site.others no_more below_kept m off ∙ unmarked

      pub off_leaf_bare : l.marked ≡ [] → IsBare m leaf
      off_leaf_bare unmarked = tip_bare m ok_m leaf d.name (then (node site.others) no_more) off_row (off_unmarked unmarked)

      module _ (n : Links) (ok_n : AreLinks n) (freed : n ≡ with_kind m leaf None) where
        pub left_unmarked : l.marked ≡ [] → n.marked ≡ []
        left_unmarked unmarked = ap (λ (z : Links). z.marked) freed ∙ off_unmarked unmarked

        left_kept : AreTreesKept n (then (node site.others) no_more)
        left_kept = tip_freed m ok_m leaf d.name (then (node site.others) no_more) off_row n freed

        pub left_live : IsLive n g
        left_live = node_live n ok_n site.frames g site.series site.others no_more left_kept

        pub left_count : length (children_at n g) ≡ row_length site.others
        left_count = kept_count n ok_n site.frames g site.series site.others no_more left_kept

        left_without : IsWithoutLeaf leaf d.name (leaf_tree leaf d) (then (node site.others) no_more)
        left_without = subst (λ fs. IsWithoutLeaf leaf d.name (plug fs lone) (then (node site.others) no_more)) (sym site.is) (without_frame leaf d.name site.frames g site.series site.others)

        -- more than one child is left
        pub left_many : (count : ℕ) → count ≡ length (children_at n g) → count ≢ 1 → IsPruned n root leaf d
        left_many count at many = record {
          tree = Some (node site.others);
          kept = left_kept;
          root = site_root (inner g site.series site.others) refl;
          alternates = (
            alternates_plug site.frames site.series (inner g site.series site.others) parts.0 (self_not site.series)
                (two_of (row_length site.others) (let two = parts.1.0 in omega arith) (λ one. many (at ∙ left_count ∙ one)), parts.1.1.1, parts.1.2.1),
            tt,
          );
          without = left_without;
        }

        -- one child is left
        module _ (count : ℕ) (at : count ≡ length (children_at n g)) (one : count ≡ 1) where
          abbrev single : (y : PlaceTree) × (site.others ≡ then y no_more)
          single = one_tree site.others (sym left_count ∙ sym at ∙ one)

          abbrev pub left_view : CloseView
          left_view = record { frames = site.frames; series = site.series; child = single.0 }

          same_tree : node site.others ≡ open_tree g left_view
          same_tree = ap node single.1

          pub left_can : CanClose n root g left_view
          left_can = record {
            is = subst (IsKeptFrom n root) same_tree (record { kept = left_kept; root = site_root (inner g site.series site.others) refl });
            around = parts.0;
            alternates = (subst AllAlternate single.1 parts.1.2.1).0;
            kind = (subst (λ ts. NoneInner ts site.series) single.1 parts.1.1.1).0;
          }

          pub left_closed : (e : Links) (r : Option ℕ) → IsNodeClosed e r (open_tree g left_view) → IsPruned e r leaf d
          left_closed e r closed = record {
            tree = Some closed.tree;
            kept = closed.is.kept;
            root = closed.is.root;
            alternates = (closed.alternates, tt);
            without = without_turned leaf d.name (leaf_tree leaf d) (open_tree g left_view) closed.tree
                (subst (λ s. IsWithoutLeaf leaf d.name (leaf_tree leaf d) (then s no_more)) same_tree left_without) closed.turned;
          }

          -- the tree with the leaf, beside that child
          full_tree : leaf_tree leaf d ≡ plug site.frames (inner g site.series (then lone (then single.0 no_more)))
          full_tree = ap (λ fs. plug fs lone) site.is ∙ ap (λ ts. node (then lone ts)) single.1

          pub left_few : (m : ℕ) → HasFew m d.name (leaf_tree leaf d) → min (below_count left_view.child) (beside_count left_view.frames) ≤ m
          left_few m few =
              few_moved m d.name leaf g single.0 left_can.alternates site.frames site.series parts.0
              (subst (λ t. (v : ℕ) → name_in v t ≤ 1) full_tree can.once) (subst (HasFew m d.name) full_tree few)
