-- A graph as a comparison with the text of a tree sees it.
use Rattle.std.proofs.Common.{◌≡◌, ℕ, ◌<◌, ◌≤◌, Bool, true, false, Option, Some, min, max, List, [], ◌++◌, length, get_or, refl, sym, ◌∙◌, ap, ap₂, subst, true≢false, arith}
use Rattle.std.specs.Prelude.{◌↔◌, not, ⊤}
use Rattle.std.proofs.lemmas.List.{append_cancel_left}
use Rattle.std.specs.Cmp.{both_ways}
use Rattle.md_graph.specs.PlainGraph.{PlainGraph, IsGraph, adjacent}
use Rattle.md_graph.specs.Sets.{Has}
use Rattle.md_graph.proofs.Search.{decide_test}
use Rattle.md_modules.proofs.Modules.{undirected}
use Rattle.md_modules.proofs.Turns.{graph_adjacency}
use Rattle.md_tree.specs.declared.Kind.{Kind}
use Rattle.md_tree.specs.declared.Kind.TheVariants.{Parallel, Series, Prime}
use Rattle.md_tree.specs.declared.Pair.{Pair}
use Rattle.md_text.proofs.Lists.{to_contains}
use Rattle.md_tree.specs.Held.{Ascends, MayListIf}
use Rattle.md_tree.specs.Spellings.{is_prime, graph_kinds, graph_pairs}
use Rattle.md_tree.specs.StrongTrees.{IsTreeOf}
use Rattle.md_tree.specs.TreeGraph.{joins, lists_pair}
use Rattle.md_tree.specs.TreeTexts.{tree_text, text_of}
use Rattle.md_tree.specs.Trees.{PlainTreeOf, PlainTreesOf, PlainTree, PlainTrees, leaf, node, no_tree, one_more, EachNode, EachNodeBelow}
use Rattle.md_tree.specs.WellFormed.{IsWellFormed}
use Rattle.md_tree.proofs.Graph.{of_lists, to_lists}
use Rattle.md_tree.proofs.OneTree.{canonical_proof}
use Rattle.md_tree.proofs.Spelled.{graph_law, graph_pairs_law}
use Rattle.md_tree.proofs.Texts.{one_text_proof}
use Rattle.md_checker.specs.FitTests.{AreJoined}
use Rattle.md_outline.specs.NodeRows.{is_edge_up}
use Rattle.md_checker.specs.GraphViews.{view_where}
use Rattle.md_outline.specs.HeadPairs.{head_pairs}
use Rattle.md_checker.specs.TextViews.{IsView, AdmitsNode, IsTextOfTree}
use Rattle.md_checker.proofs.FitsTree.{fits_proof}
use Rattle.md_checker.proofs.HeadPairs.{only_pairs}
use Rattle.md_outline.proofs.HeadPairs.{ascend_two, listed_in, in_listed}
use Rattle.md_outline.proofs.NodeRows.{edge_up, stands_first}

-- the pairs that are listed join exactly the adjacent names
edges_joined : (e : ℕ → ℕ → Bool) (list : List ℕ) → Ascends list → AreJoined e Prime (head_pairs graph_pairs (is_edge_up e) list) list
edges_joined e list up i j less below =
    let low : min i j ≡ i = omega arith in
    let high : max i j ≡ j = omega arith in
    let ps = head_pairs graph_pairs (is_edge_up e) list in
    both_ways (e (get_or list i 0) (get_or list j 0)) (lists_pair (head_pairs graph_pairs (is_edge_up e) list) i j)
    (λ t. to_lists ps (record { low = i; high = j })
    (listed_in graph_pairs_law (is_edge_up e) list i j (omega arith) below ((edge_up e (get_or list i 0) (get_or list j 0)).1 (t, ascend_two list up i j less below))))
    (λ t. ((edge_up e (get_or list i 0) (get_or list j 0)).0 (in_listed graph_pairs_law (is_edge_up e) list i j (of_lists ps i j t))).0)
    ∙ ap₂ (lists_pair ps) (sym low) (sym high)

-- and other pairs don't
edges_only : (e : ℕ → ℕ → Bool) (list : List ℕ) → Ascends list → (ps : List Pair) → MayListIf graph_pairs true (length list) ps → AreJoined e Prime ps list → ps ≡ head_pairs graph_pairs (is_edge_up e) list
edges_only e list up ps may joined = only_pairs graph_pairs_law (is_edge_up e) list ps may.1
    (λ p i.
    let of : (p.low < p.high) × (p.high < length list) = may.2 p (to_contains ps p i) in
    let a : p.low < p.high = of.0 in
    let b : p.high < length list = of.1 in
    let edge : e (get_or list p.low 0) (get_or list p.high 0) ≡ true = at p.low p.high a b ∙ to_lists ps p i in
    (omega arith, b, (edge_up e (get_or list p.low 0) (get_or list p.high 0)).1 (edge, ascend_two list up p.low p.high a b)))
    (λ i k bi bk edge.
    let two = (edge_up e (get_or list i 0) (get_or list k 0)).0 edge in
    let less : i < k = stands_first list up i k bi bk two.1 in
    of_lists ps i k (sym (at i k less bk) ∙ two.0))
  where
    at : (i k : ℕ) → i < k → k < length list → e (get_or list i 0) (get_or list k 0) ≡ lists_pair ps i k
    at i k less below =
        let low : min i k ≡ i = omega arith in
        let high : max i k ≡ k = omega arith in
        joined i k less below ∙ ap₂ (lists_pair ps) low high

listed_only : (e : ℕ → ℕ → Bool) (k : Kind) → is_prime k ≡ true → (list : List ℕ) → Ascends list → (ps : List Pair) → MayListIf graph_pairs true (length list) ps → AreJoined e k ps list → ps ≡ head_pairs graph_pairs (is_edge_up e) list
listed_only e Parallel lists list up ps may joined = absurd (true≢false (sym lists))
listed_only e Series lists list up ps may joined = absurd (true≢false (sym lists))
listed_only e Prime lists list up ps may joined = edges_only e list up ps may joined

prime_alone : (k : Kind) → is_prime k ≡ true → k ≡ Prime
prime_alone Parallel lists = absurd (true≢false (sym lists))
prime_alone Series lists = absurd (true≢false (sym lists))
prime_alone Prime lists = refl

joins_evenly : (k : Kind) → is_prime k ≡ false → (i j m n : ℕ) → joins k [] i j ≡ joins k [] m n
joins_evenly Parallel lists i j m n = refl
joins_evenly Series lists i j m n = refl
joins_evenly Prime lists i j m n = absurd (true≢false lists)

listed_joined : (e : ℕ → ℕ → Bool) (k : Kind) → is_prime k ≡ true → (list : List ℕ) → Ascends list → AreJoined e k (head_pairs graph_pairs (is_edge_up e) list) list
listed_joined e Parallel lists list up = absurd (true≢false (sym lists))
listed_joined e Series lists list up = absurd (true≢false (sym lists))
listed_joined e Prime lists list up = edges_joined e list up

pub graph_seen : (Admits : Kind → PlainTrees → Type 0) {g : PlainGraph} → IsGraph g → IsView graph_kinds graph_pairs (view_where Admits g)
graph_seen Admits {g} graph = record {
  names = graph.names;
  told = decide_test;
  reverse = λ c. c;
  turns = undirected (graph_adjacency graph);
  many = (let b : 3 ≤ 4 = omega arith in b);
  sorts = λ k h. refl;
  positions = λ list stand i j bi bj edge. (stands_first list stand.order i j bi bj ((edge_up (adjacent g) (get_or list i 0) (get_or list j 0)).0 edge).1, bj);
  listing = λ k. (prime_alone k, λ is. ap is_prime is);
  joined = λ k lists list stand. listed_joined (adjacent g) k lists list stand.order;
  only = λ k lists list stand. listed_only (adjacent g) k lists list stand.order;
  even = joins_evenly;
}

-- ---- two vertices that are joined as a node joins its children

not_told : (b : Bool) → not b ≡ true → b ≡ false
not_told true is = sym is
not_told false is = refl

pub parallel_joined : (k : Kind) (edge told : Bool) → k ≡ Parallel → told ≡ edge → (not told ≡ true) ↔ ((is_prime k ≡ false) × ((i j : ℕ) → edge ≡ joins k [] i j))
parallel_joined k edge told is same = subst (λ (l : Kind). (not told ≡ true) ↔ ((is_prime l ≡ false) × ((i j : ℕ) → edge ≡ joins l [] i j))) (sym is)
    (λ yes. (refl, λ i j. sym same ∙ not_told told yes), λ two. ap not (same ∙ two.1 0 0))

pub series_joined : (k : Kind) (edge told : Bool) → k ≡ Series → told ≡ edge → (told ≡ true) ↔ ((is_prime k ≡ false) × ((i j : ℕ) → edge ≡ joins k [] i j))
series_joined k edge told is same = subst (λ (l : Kind). (told ≡ true) ↔ ((is_prime l ≡ false) × ((i j : ℕ) → edge ≡ joins l [] i j))) (sym is)
    (λ yes. (refl, λ i j. sym same ∙ yes), λ two. same ∙ two.1 0 0)

-- a text that the comparison takes is that of the tree of strong modules
pub text_told : (Admits : Kind → PlainTrees → Type 0) {g : PlainGraph} → IsGraph g → (text : List ℕ) (t : PlainTree) → IsTextOfTree graph_kinds graph_pairs (view_where Admits g) text t → IsWellFormed (Some t) × IsTreeOf (adjacent g) g.vertices t × (text ≡ tree_text t)
text_told Admits {g} graph text t is = (
  ((λ x h. graph.names x (subst (λ s. Has s x) is.names_are h)), is.canonical),
  (fits_proof (adjacent g) (graph_adjacency graph) g.vertices t is.canonical).0 (is.names_are, is.fits),
  is.spelled,
)

-- and the other way round, where its nodes are such as are asked for
pub text_found : (Admits : Kind → PlainTrees → Type 0) {g : PlainGraph} → IsGraph g → (text : List ℕ) (t : PlainTree) → IsTreeOf (adjacent g) g.vertices t → text ≡ tree_text t → EachNode (AdmitsNode (view_where Admits g)) t → IsTextOfTree graph_kinds graph_pairs (view_where Admits g) text t
text_found Admits {g} graph text t made is asked =
    let canon = (canonical_proof (adjacent g) (graph_adjacency graph) g.vertices t made).1 in
    let fit = (fits_proof (adjacent g) (graph_adjacency graph) g.vertices t canon).1 made in
    record { canonical = canon; names_are = fit.0; fits = fit.1; admitted = asked; spelled = is }

-- a tree with the text of another one is that one
pub same_tree : (text : List ℕ) (o : Option PlainTree) (t : PlainTree) → text ≡ text_of o → text ≡ tree_text t → Some t ≡ o
same_tree text o t is other = one_text_proof graph_law (Some t) o (sym other ∙ is)

-- what is behind a word
pub word_cut : (word behind text : List ℕ) (t : PlainTree) → text ≡ word ++ behind → text ≡ word ++ tree_text t → behind ≡ tree_text t
word_cut word behind text t cut is = append_cancel_left word behind (tree_text t) (sym cut ∙ is)

-- what is asked of no node holds of each
mutual
  pub any_nodes : {K P : Type 0} (t : PlainTreeOf K P) → EachNode (λ k cs ps. ⊤) t
  any_nodes (leaf v) = tt
  any_nodes (node k cs ps) = (tt, any_below cs)

  any_below : {K P : Type 0} (ts : PlainTreesOf K P) → EachNodeBelow (λ k cs ps. ⊤) ts
  any_below no_tree = tt
  any_below (one_more t ts) = (any_nodes t, any_below ts)
