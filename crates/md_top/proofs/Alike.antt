-- A session on cographs over given edits has one state behind them, and one number of edits that are applied.
use Rattle.std.proofs.Common.{◌≡◌, ℕ, List, [], map, Option, refl, sym, ◌∙◌, ap, subst}
use Rattle.std.specs.FinSet as set
use Rattle.md_graph.specs.PlainGraph.{PlainGraph, adjacent, empty_graph}
use Rattle.md_tree.specs.Trees.{PlainTree}
use Rattle.md_tree.specs.StrongTrees.{IsTree}
use Rattle.md_tree.proofs.OneTree.{one_option}
use Rattle.md_script.specs.declared.edit.Edit.{Edit}
use Rattle.md_script.specs.declared.item.Item.TheVariants.{One}
use Rattle.md_report.specs.declared.line.SessionMode.TheVariants.{Quiet}
use Rattle.md_report.specs.Sessions.{State, first_state}
use Rattle.md_report.proofs.Alike.{cograph_runs_proof}
use Rattle.md_top.specs.declared.big.Numbers.{Numbers}
use Rattle.md_top.specs.Big.{RunsTo, HasNodes, AreNumbersOf, inserts, cuts, deletions}

-- two runs from one state
record AreOne (a b c d : ℕ) (h k : PlainGraph) : Type 0 where
  done : a ≡ c
  undone : b ≡ d
  last : h ≡ k

runs_alike : (g g' : PlainGraph) (edits : List Edit) (a b c d : ℕ) (h k : PlainGraph) → g ≡ g' → RunsTo g edits a b h → RunsTo g' edits c d k → AreOne a b c d h k
runs_alike g g' edits a b c d h k same from_one from_other =
    let first = from_one [] in
    let second = subst (λ (x : PlainGraph). RunsTo x edits c d k) (sym same) from_other [] in
    let r = first.1 in
    let s = second.1 in
    let one = cograph_runs_proof Quiet Quiet tt tt (first_state g) (map One edits) r.lines s.lines r.run s.run in
    record {
      done = r.done_is ∙ one.done ∙ sym s.done_is;
      undone = r.undone_is ∙ one.undone ∙ sym s.undone_is;
      last = ap (λ (x : State). x.graph) (r.last ∙ one.last ∙ sym s.last);
    }

-- a graph has one tree, so that its nodes are one number
nodes_alike : (g h : PlainGraph) (n m : ℕ) → g ≡ h → HasNodes g n → HasNodes h m → n ≡ m
nodes_alike g h n m same a b =
    let some : (t : Option PlainTree) × IsTree (adjacent g) g.vertices t = one_option g in
    a some.0 some.1 ∙ sym (b some.0 (subst (λ (x : PlainGraph). IsTree (adjacent x) x.vertices some.0) same some.1))

abbrev made : ℕ → ℕ → ℕ → ℕ → ℕ → Numbers
made a b c d e = record { inserted = a; refused = b; nodes = c; left = d; left_nodes = e }

numbers_same : (n m : Numbers) → n.inserted ≡ m.inserted → n.refused ≡ m.refused → n.nodes ≡ m.nodes → n.left ≡ m.left → n.left_nodes ≡ m.left_nodes → n ≡ m
numbers_same n m a b c d e =
    ap (λ (x : ℕ). made x n.refused n.nodes n.left n.left_nodes) a ∙ ap (λ (x : ℕ). made m.inserted x n.nodes n.left n.left_nodes) b
    ∙ ap (λ (x : ℕ). made m.inserted m.refused x n.left n.left_nodes) c ∙ ap (λ (x : ℕ). made m.inserted m.refused m.nodes x n.left_nodes) d
    ∙ ap (λ (x : ℕ). made m.inserted m.refused m.nodes m.left x) e

pub numbers_alike : (size : ℕ) (n m : Numbers) → AreNumbersOf size n → AreNumbersOf size m → n ≡ m
numbers_alike size n m a b =
    let one = runs_alike empty_graph empty_graph (inserts size) _ _ _ _ _ _ refl a.inserting b.inserting in
    let two = runs_alike a.full b.full (cuts size) _ _ _ _ _ _ one.last a.cutting b.cutting in
    let three = runs_alike a.cut b.cut (deletions size) _ _ _ _ _ _ two.last a.deleting b.deleting in
    numbers_same n m one.done two.undone
    (nodes_alike a.cut b.cut n.nodes m.nodes two.last a.nodes b.nodes)
    (a.left ∙ ap (λ (g : PlainGraph). set.len g.vertices) three.last ∙ sym b.left)
    (nodes_alike a.last b.last n.left_nodes m.left_nodes three.last a.left_nodes b.left_nodes)
