-- The sets of a directed graph that wait to be taken apart, and the parts of its tree so far.
use Rattle.std.proofs.Common.{◌≡◌, ℕ, ◌+◌, ◌-◌, ◌*◌, ◌<◌, ◌≤◌, Bool, List, [], ◌∷◌, ◌++◌, length, map, None, refl, sym, ◌∙◌, ap, subst, inl, inr, arith}
use Rattle.std.proofs.lemmas.List.{map-append}
use Rattle.std.specs.FinSet.{len}
use Rattle.md_graph.specs.Sets.{NameSet, Within, HasSome, HasTwo}
use Rattle.md_graph.proofs.Search.{some_len}
use Rattle.md_modules.specs.Modules.{IsMaximalStrong}
use Rattle.md_digraph.specs.ArcColours.{between}
use Rattle.md_digraph.proofs.ArcTurns.{arcs_told}
use Rattle.md_text.proofs.Lists.{In, of_append, in_left, in_right}
use Rattle.md_tree.specs.Trees.{leaf, node, names, row}
use Rattle.md_tree.specs.Parts.{PlainPartOf, name, inner, parts_of, parts_backward}
use Rattle.md_tree.proofs.Kinded.{built_tree}
use Rattle.md_decompose.proofs.Joining.{all_names, weights, weights-append, child_maximal, children_fall}
use Rattle.md_decompose.proofs.Waiting.{no_trees, count_trees, laid_parts, parts_laid, GoesOn, IsPartOver, goes_begin, goes_more, goes_end}
use Rattle.md_dtree.specs.declared.DKind.{DKind}
use Rattle.md_dtree.specs.declared.DPair.{DPair}
use Rattle.md_dtree.specs.DirectedTrees.{PlainDTree, StandsBefore, IsDirectedTreeOf}
use Rattle.md_dtree.proofs.ArcKinds.{directed_kinds_law, two_of_kind}
use Rattle.md_dtree.proofs.DirectedCanonical.{IsDBuilt}
use Rattle.md_ddecompose.specs.declared.decomposition.Open.{Open}
use Rattle.md_ddecompose.specs.Children.{DiffersFrom}
use Rattle.md_ddecompose.specs.Turns.{open_below, IsDPartOf, IsTakenApart}
use Rattle.md_ddecompose.proofs.DirectedNodes.{child_differs, node_built, not_own}

abbrev names_of : {w : ℕ} → Open w → NameSet
names_of o = o.names

abbrev pub sets_of : {w : ℕ} → List (Open w) → List NameSet
sets_of os = map names_of os

sets_below : (w : ℕ) (k : DKind) (cs : List NameSet) → sets_of (map (open_below {w = w} k) cs) ≡ cs
sets_below w k [] = refl
sets_below w k (c ∷ cs) = ap (λ ds. c ∷ ds) (sets_below w k cs)

of_below : {w : ℕ} (k : DKind) (cs : List NameSet) (o : Open w) → In (map (open_below k) cs) o → (c : NameSet) × In cs c × (o ≡ open_below k c)
of_below k [] o i = absurd i
of_below k (c ∷ cs) o (inl same) = (c, inl refl, same)
of_below k (c ∷ cs) o (inr i) = let r = of_below k cs o i in (r.0, inr r.1, r.2)

-- a set that waits: a nonempty part of all the names, which doesn't split as the node above does
pub record IsReady {w : ℕ} (arc : ℕ → ℕ → Bool) (all : NameSet) (o : Open w) : Type 0 where
  pub some : HasSome o.names
  pub inside : Within o.names all
  pub below : DiffersFrom arc o.names o.parent

pub record IsOpened {w : ℕ} (arc : ℕ → ℕ → Bool) (all : NameSet) (parts : List (PlainPartOf DKind DPair)) (os : List (Open w)) : Type 0 where
  pub ready : (o : Open w) → In os o → IsReady arc all o
  pub goes_on : GoesOn laid_parts (IsDBuilt arc) all parts (sets_of os)

module _ {w : ℕ} (arc : ℕ → ℕ → Bool) (all : NameSet) where
  pub opened_begin : (o : Open w) (os : List (Open w)) (parts : List (PlainPartOf DKind DPair)) → HasSome all → o ≡ record { names = all; parent = None } → os ≡ o ∷ [] → parts ≡ [] → IsOpened arc all parts os
  opened_begin o os parts some is alone none = record {
    ready = λ q i. elim (subst (λ ws. In ws q) alone i) [
      | inl same ↦ subst (IsReady arc all) (sym (same ∙ is)) (record { some = some; inside = λ x h. h; below = tt })
      | inr j ↦ absurd j
    ];
    goes_on = subst (λ ps. GoesOn laid_parts (IsDBuilt arc) all ps (sets_of os)) (sym none)
        (subst (GoesOn laid_parts (IsDBuilt arc) all []) (ap (λ m. m ∷ []) (sym (ap names_of is)) ∙ sym (ap sets_of alone)) (goes_begin parts_laid (IsDBuilt arc) all));
  }

  module _ (parts : List (PlainPartOf DKind DPair)) (os waiting : List (Open w)) (o : Open w) (is : IsOpened arc all parts os) (popped : os ≡ waiting ++ o ∷ []) where
    pub next_ready : IsReady arc all o
    next_ready = is.ready o (subst (λ ws. In ws o) (sym popped) (in_right waiting (o ∷ []) o (inl refl)))

    part_falls : (p : PlainPartOf DKind DPair) (added : List (Open w)) → IsDPartOf arc o.names p added → weights (sets_of added) < 2 * len o.names - 1
    part_falls (name v) added part =
        let a : 1 ≤ len o.names = some_len o.names next_ready.some.0 next_ready.some.1 in
        let b : weights (sets_of added) ≡ 0 = ap (λ ws. weights (sets_of ws)) part.1 in
        omega arith
    part_falls (inner k n ps) added part =
        let a : weights part.0 < 2 * len o.names - 1 = children_fall o.names (StandsBefore arc k) (not_own arc k) part.0 part.1.children.exactly part.1.children.order arcs_told (two_of_kind arc o.names k part.1.kind) in
        let b : weights (sets_of added) ≡ weights part.0 = ap weights (ap sets_of part.2 ∙ sets_below w k part.0) in
        omega arith

    part_ready : (p : PlainPartOf DKind DPair) (added : List (Open w)) → IsDPartOf arc o.names p added → (q : Open w) → In added q → IsReady arc all q
    part_ready (name v) added part q i = absurd (subst (λ ws. In ws q) part.1 i)
    part_ready (inner k n ps) added part q i =
        let c : (c : NameSet) × In part.0 c × (q ≡ open_below k c) = of_below k part.0 q (subst (λ ws. In ws q) part.2 i) in
        let max : IsMaximalStrong (between arc) o.names c.0 = child_maximal o.names part.0 part.1.children.exactly c.0 c.1 in
        subst (IsReady arc all) (sym c.2) (record {
          some = max.is_strong.is_module.some;
          inside = λ x h. next_ready.inside x (max.is_strong.is_module.inside x h);
          below = child_differs arc o.names c.0 k part.1.kind max;
        })

    -- the tree of o over those of its children
    tree_over : (p : PlainPartOf DKind DPair) (added : List (Open w)) → IsDPartOf arc o.names p added → IsPartOver laid_parts (IsDBuilt arc) o.names p (sets_of added)
    tree_over (name v) added part us sets each =
        (leaf v, sym part.0, tt, ap (λ ts. name v ∷ parts_backward (row ts)) (sym (no_trees us (sets ∙ ap sets_of part.1))))
    tree_over (inner k n ps) added part us sets each =
        let same : map names us ≡ part.0 = sets ∙ ap sets_of part.2 ∙ sets_below w k part.0 in
        let two : HasTwo o.names = two_of_kind arc o.names k part.1.kind in (
          node k (row us) ps,
          all_names us part.0 same o.names part.1.children.exactly arcs_told two,
          (node_built arc us part.0 same o.names k part.1.children two ps part.1.kind part.1.pairs, each),
          ap (λ m. inner k m ps ∷ parts_backward (row us)) (count_trees us ∙ ap (λ cs. length cs) same ∙ sym part.1.number),
        )

    module _ (parts' : List (PlainPartOf DKind DPair)) (os' : List (Open w)) where
      pub turn_falls : IsTakenApart arc o.names parts waiting parts' os' → weights (sets_of os') < weights (sets_of os)
      turn_falls turn =
          let a : weights (sets_of os') ≡ weights (sets_of waiting) + weights (sets_of turn.1) =
          ap weights (ap sets_of turn.4 ∙ map-append names_of waiting turn.1) ∙ weights-append (sets_of waiting) (sets_of turn.1) in
          let b : weights (sets_of os) ≡ weights (sets_of waiting) + ((2 * len o.names - 1) + 0) =
          ap weights (ap sets_of popped ∙ map-append names_of waiting (o ∷ [])) ∙ weights-append (sets_of waiting) (o.names ∷ []) in
          let c : weights (sets_of turn.1) < 2 * len o.names - 1 = part_falls turn.0 turn.1 turn.2 in
          omega arith

      opened_by : (p : PlainPartOf DKind DPair) (added : List (Open w)) → IsDPartOf arc o.names p added → parts' ≡ parts ++ p ∷ [] → os' ≡ waiting ++ added → IsOpened arc all parts' os'
      opened_by p added part later left = record {
        ready = λ q i. elim (of_append waiting added q (subst (λ ws. In ws q) left i)) [
          | inl a ↦ is.ready q (subst (λ ws. In ws q) (sym popped) (in_left waiting (o ∷ []) q a))
          | inr b ↦ part_ready p added part q b
        ];
        goes_on = subst (GoesOn laid_parts (IsDBuilt arc) all parts') (sym (ap sets_of left ∙ map-append names_of waiting added))
            (subst (λ ps. GoesOn laid_parts (IsDBuilt arc) all ps (sets_of waiting ++ sets_of added)) (sym later)
            (goes_more parts_laid (IsDBuilt arc) all parts (sets_of waiting) o.names
            (subst (GoesOn laid_parts (IsDBuilt arc) all parts) (ap sets_of popped ∙ map-append names_of waiting (o ∷ [])) is.goes_on)
            p (sets_of added) (tree_over p added part)));
      }

      pub opened_more : IsTakenApart arc o.names parts waiting parts' os' → IsOpened arc all parts' os'
      opened_more turn = opened_by turn.0 turn.1 turn.2 turn.3 turn.4

  pub opened_end : (parts : List (PlainPartOf DKind DPair)) (os : List (Open w)) → IsOpened arc all parts os → os ≡ [] → (t : PlainDTree) × IsDirectedTreeOf arc all t × (parts ≡ parts_of t)
  opened_end parts os is none =
      let b = goes_end parts_laid (IsDBuilt arc) all parts (subst (GoesOn laid_parts (IsDBuilt arc) all parts) (ap sets_of none) is.goes_on) in
      (b.0, built_tree (directed_kinds_law arc) arcs_told all b.0 b.1 b.2, b.3)
