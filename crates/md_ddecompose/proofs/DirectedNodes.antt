-- A node of a directed graph's tree over the trees of a set's children.
use Rattle.std.proofs.Common.{◌≡◌, ℕ, Bool, List, [], ◌∷◌, map, Option, Some, None, MatchOption, sym, subst}
use Rattle.md_graph.specs.Sets.{NameSet, Has, HasSome, HasTwo}
use Rattle.md_modules.specs.Modules.{IsMaximalStrong}
use Rattle.md_modules.specs.Kinds.{IsUnsplit}
use Rattle.md_modules.proofs.Splits.{child_unsplit}
use Rattle.md_digraph.specs.ArcColours.{ArcColour, between, no_arc, both_arcs}
use Rattle.md_digraph.proofs.ArcTurns.{arcs_turn, arcs_told}
use Rattle.md_text.proofs.Lists.{Later, of_pairs}
use Rattle.md_tree.specs.Trees.{names, row}
use Rattle.md_tree.specs.StrongTrees.{StandBy, ListsExactly}
use Rattle.md_tree.proofs.Nodes.{IsChild, child_of_name}
use Rattle.md_decompose.proofs.Joining.{of_child, in_order, at_position, maximal, all_names, child_sets}
use Rattle.md_dtree.specs.declared.DKind.{DKind}
use Rattle.md_dtree.specs.declared.DKind.TheVariants.{Parallel, Series, Order, Prime}
use Rattle.md_dtree.specs.declared.DPair.{DPair}
use Rattle.md_dtree.specs.DirectedSpelling.{directed_pairs}
use Rattle.md_dtree.specs.DirectedTrees.{PlainDTree, arc_forth, SplitsWith, HasDirectedKind, AllArcsTo, StandsBefore, IsArcPair, HasArcPairs}
use Rattle.md_dtree.proofs.ArcKinds.{directed_kinds_law}
use Rattle.md_dtree.proofs.DirectedCanonical.{IsDBuilt, unsplit_prime}
use Rattle.md_ddecompose.specs.Children.{AreDirectedChildren, DiffersFrom, IsArcOfSets, ListsArcsFor}

module _ (arc : ℕ → ℕ → Bool) where
  abbrev e : ℕ → ℕ → ArcColour
  e = between arc

  -- ---- kinds

  pub is_unsplit : (s : NameSet) → HasTwo s → (SplitsWith arc s no_arc → ⊥) → (SplitsWith arc s both_arcs → ⊥) → (SplitsWith arc s arc_forth → ⊥) → IsUnsplit e s
  is_unsplit s two a b c = record {
    two = two;
    unsplit = λ v part split. unsplit_prime arc s (record { two = two; not_parallel = a; not_series = b; not_order = c }) v (part, split);
  }

  pub child_differs : (s c : NameSet) (k : DKind) → HasDirectedKind arc s k → IsMaximalStrong e s c → DiffersFrom arc c (Some k)
  child_differs s c Parallel kind max = λ inner. child_unsplit (arcs_turn arc) arcs_told s c kind.0 no_arc kind.1 max inner.0 inner.1
  child_differs s c Series kind max = λ inner. child_unsplit (arcs_turn arc) arcs_told s c kind.0 both_arcs kind.1 max inner.0 inner.1
  child_differs s c Order kind max = λ inner. child_unsplit (arcs_turn arc) arcs_told s c kind.0 arc_forth kind.1 max inner.0 inner.1
  child_differs s c Prime kind max = tt

  -- ---- a node over trees

  arcs_in_order : (ts : List PlainDTree) → Later (AllArcsTo arc) (map names ts) → StandBy (AllArcsTo arc) (row ts)
  arcs_in_order [] later = tt
  arcs_in_order (t ∷ ts) later = (
    λ a b ha hb.
        let c : (c : PlainDTree) × IsChild (row ts) c × Has (names c) b = child_of_name (row ts) b hb in
        later.0 (names c.0) (of_child ts c.0 c.1) a b ha c.2,
    arcs_in_order ts later.1,
  )

  stand : (k : DKind) (ts : List PlainDTree) → Later (StandsBefore arc k) (map names ts) → ((c : PlainDTree) → IsChild (row ts) c → HasSome (names c)) → StandBy (StandsBefore arc k) (row ts)
  stand Parallel ts later some = in_order ts later some
  stand Series ts later some = in_order ts later some
  stand Order ts later some = arcs_in_order ts later
  stand Prime ts later some = in_order ts later some

  module _ (ts : List PlainDTree) (cs : List NameSet) (same : map names ts ≡ cs) where
    to_pair : (i j : ℕ) → IsArcOfSets arc cs i j → IsArcPair arc (row ts) i j
    to_pair i j is = record {
      differ = is.differ;
      runs = (is.runs.0, is.runs.1, subst (λ s. Has s is.runs.0) (sym (at_position ts cs same i)) is.runs.2, subst (λ s. Has s is.runs.1) (sym (at_position ts cs same j)) is.runs.3, is.runs.4);
    }

    of_pair : (i j : ℕ) → IsArcPair arc (row ts) i j → IsArcOfSets arc cs i j
    of_pair i j is = record {
      differ = is.differ;
      runs = (is.runs.0, is.runs.1, subst (λ s. Has s is.runs.0) (at_position ts cs same i) is.runs.2, subst (λ s. Has s is.runs.1) (at_position ts cs same j) is.runs.3, is.runs.4);
    }

    has_pairs : (k : DKind) (ps : List DPair) → ListsArcsFor arc k cs ps → HasArcPairs arc k (row ts) ps
    has_pairs Parallel ps lists = lists
    has_pairs Series ps lists = lists
    has_pairs Order ps lists = lists
    has_pairs Prime ps lists =
        let is : ListsExactly directed_pairs (IsArcOfSets arc cs) ps = lists in
        record {
          ascending = is.ascending;
          exactly = λ p. ((λ c. to_pair p.from p.to ((is.exactly p).0 c)), λ j. (is.exactly p).1 (of_pair p.from p.to j));
        }

    -- where they are the children of s
    module _ (s : NameSet) (k : DKind) (are : AreDirectedChildren arc s k cs) (two : HasTwo s) where
      pub node_built : (ps : List DPair) → HasDirectedKind arc s k → ListsArcsFor arc k cs ps → IsDBuilt arc k (row ts) ps
      node_built ps kind lists = record {
        node_of = record {
          kind = subst (λ w. HasDirectedKind arc w k) (sym (all_names ts cs same s are.exactly arcs_told two)) kind;
          order = stand k ts (subst (Later (StandsBefore arc k)) (sym same) (of_pairs (StandsBefore arc k) cs are.order)) (λ c i. (maximal ts cs same s are.exactly c i).is_strong.is_module.some);
          pairs = has_pairs k ps lists;
        };
        children = child_sets ts cs same s are.exactly arcs_told two;
      }

  -- no set stands before itself
  pub not_own : (k : DKind) (c : NameSet) → HasSome c → StandsBefore arc k c c → ⊥
  not_own k c some own = (directed_kinds_law arc).not_both k c c some some own own

-- what is known where nothing is found
pub none_of : {A P : Type 0} (Q : A → Type 0) (o : Option A) → MatchOption o P Q → o ≡ None → P
none_of Q None m none = m
none_of Q (Some x) m none = absurd (cc)
