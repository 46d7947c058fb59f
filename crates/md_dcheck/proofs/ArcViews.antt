-- A directed graph as a comparison with the text of a tree sees it.
use Rattle.std.proofs.Common.{◌≡◌, ◌≢◌, ℕ, ◌<◌, ◌≤◌, Bool, true, false, Some, List, [], length, get_or, refl, sym, ◌∙◌, ap, ap₂, subst, inl, inr, true≢false, lit≤, arith}
use Rattle.std.specs.Prelude.{◌↔◌, ◌&&◌, ◌||◌, not}
use Rattle.std.specs.Cmp.{both_ways}
use Rattle.std.specs.FinSet.{contains}
use Rattle.md_graph.specs.declared.TheConstants.{NAMES}
use Rattle.md_graph.specs.Sets.{NameSet, Has}
use Rattle.md_digraph.specs.declared.TheConstants.{DIRECTED_NAMES}
use Rattle.md_digraph.specs.PlainDigraph.{PlainDigraph, IsDigraph, has_arc_to, successors}
use Rattle.md_digraph.specs.ArcColours.{ArcColour, between, swapped, no_arc, both_arcs}
use Rattle.md_digraph.proofs.ArcTurns.{arcs_turn, arcs_told}
use Rattle.md_digraph.proofs.DigraphLemmas.{in_heads}
use Rattle.md_graph.proofs.SetLemmas.{ascending_or_not}
use Rattle.md_text.proofs.Lists.{to_contains}
use Rattle.md_tree.specs.Held.{MayListIf}
use Rattle.md_checker.specs.FitTests.{AreJoinedBy}
use Rattle.md_outline.specs.HeadPairs.{head_pairs}
use Rattle.md_checker.specs.TextViews.{IsView, IsTextOfTree}
use Rattle.md_checker.proofs.HeadPairs.{only_pairs}
use Rattle.md_outline.proofs.HeadPairs.{listed_in, in_listed}
use Rattle.md_dtree.specs.declared.DKind.{DKind}
use Rattle.md_dtree.specs.declared.DPair.{DPair}
use Rattle.md_dtree.specs.declared.DKind.TheVariants.{Parallel, Series, Order, Prime}
use Rattle.md_dtree.specs.DirectedFits.{lists_arc, puts_arcs}
use Rattle.md_dtree.specs.DirectedSpelling.{directed_kinds, directed_pairs, lists_arcs, stands_by_names}
use Rattle.md_dtree.specs.DirectedTexts.{directed_text_of}
use Rattle.md_dtree.specs.DirectedTrees.{PlainDTree, IsDirectedTree, arc_forth}
use Rattle.md_dtree.proofs.ArcKinds.{directed_spelling_law}
use Rattle.md_dtree.proofs.FitsDirected.{of_listed, to_listed, fits_proof}
use Rattle.md_dtree.proofs.OneDirected.{canonical_proof}
use Rattle.md_checker.proofs.GraphTexts.{any_nodes}
use Rattle.md_dcheck.specs.DirectedViews.{digraph_view}

listing_sorts : (k : DKind) → lists_arcs k ≡ true → stands_by_names k ≡ true
listing_sorts Parallel h = refl
listing_sorts Series h = refl
listing_sorts Order h = absurd (true≢false (sym h))
listing_sorts Prime h = refl

-- arcs there and back
pub two_arcs : (a b c d : Bool) → a ≡ c → b ≡ d → ◌≡◌ {A = ArcColour} (a, b) (c, d)
two_arcs a b c d there back = let both : Bool → Bool → ArcColour = λ x y. (x, y) in ap₂ both there back

-- the arcs that nodes which list no pairs put between any two of their children
pub put_none : (a b : Bool) → (not (a || b) ≡ true) ↔ (◌≡◌ {A = ArcColour} (a, b) no_arc)
put_none true b = (λ e. absurd (true≢false (sym e)), λ e. absurd (true≢false (ap (λ (c : ArcColour). c.0) e)))
put_none false true = (λ e. absurd (true≢false (sym e)), λ e. absurd (true≢false (ap (λ (c : ArcColour). c.1) e)))
put_none false false = (λ e. refl, λ e. refl)

pub put_both : (a b : Bool) → ((a && b) ≡ true) ↔ (◌≡◌ {A = ArcColour} (a, b) both_arcs)
put_both true true = (λ e. refl, λ e. refl)
put_both true false = (λ e. absurd (true≢false (sym e)), λ e. absurd (true≢false (sym (ap (λ (c : ArcColour). c.1) e))))
put_both false b = (λ e. absurd (true≢false (sym e)), λ e. absurd (true≢false (sym (ap (λ (c : ArcColour). c.0) e))))

pub put_forth : (a b : Bool) → ((a && not b) ≡ true) ↔ (◌≡◌ {A = ArcColour} (a, b) arc_forth)
put_forth true true = (λ e. absurd (true≢false (sym e)), λ e. absurd (true≢false (ap (λ (c : ArcColour). c.1) e)))
put_forth true false = (λ e. refl, λ e. refl)
put_forth false b = (λ e. absurd (true≢false (sym e)), λ e. absurd (true≢false (sym (ap (λ (c : ArcColour). c.0) e))))

puts_evenly : (k : DKind) → lists_arcs k ≡ false → (i j m n : ℕ) → puts_arcs k [] i j ≡ puts_arcs k [] m n
puts_evenly Parallel lists i j m n = refl
puts_evenly Series lists i j m n = refl
puts_evenly Order lists i j m n = refl
puts_evenly Prime lists i j m n = absurd (true≢false lists)

pub as_put : (k kind : DKind) (there back told : Bool) → kind ≡ k → lists_arcs k ≡ false → (told ≡ true) ↔ (◌≡◌ {A = ArcColour} (there, back) (puts_arcs k [] 0 0)) →
    (told ≡ true) ↔ ((lists_arcs kind ≡ false) × ((i j : ℕ) → ◌≡◌ {A = ArcColour} (there, back) (puts_arcs kind [] i j)))
as_put k kind there back told is plain both = subst (λ (w : DKind). (told ≡ true) ↔ ((lists_arcs w ≡ false) × ((i j : ℕ) → ◌≡◌ {A = ArcColour} (there, back) (puts_arcs w [] i j)))) (sym is)
    (λ yes. (plain, λ i j. both.0 yes ∙ puts_evenly k plain 0 0 i j), λ two. both.1 (two.1 0 0))

-- the row of a vertex
pub arcs_ahead : {g : PlainDigraph} → IsDigraph g → (v : ℕ) (row : NameSet) → row ≡ successors g v → (y : ℕ) → (has_arc_to g v y ≡ true) ↔ (Has row y × (0 ≤ y))
arcs_ahead {g} digraph v row is y =
    let told : contains row y ≡ has_arc_to g v y = in_heads digraph v row is y in
    ((λ t. (told ∙ t, omega arith)), λ t. sym told ∙ t.0)

-- the pairs that are listed have exactly the arcs
arcs_joined : (arc : ℕ → ℕ → Bool) (list : List ℕ) → AreJoinedBy (puts_arcs Prime (head_pairs directed_pairs arc list)) (between arc) list
arcs_joined arc list i j less below =
    let there : arc (get_or list i 0) (get_or list j 0) ≡ lists_arc (head_pairs directed_pairs arc list) i j = one i j (omega arith) below in
    let back : arc (get_or list j 0) (get_or list i 0) ≡ lists_arc (head_pairs directed_pairs arc list) j i = one j i below (omega arith) in
    λ n. (there n, back n)
  where
    one : (i j : ℕ) → i < length list → j < length list → arc (get_or list i 0) (get_or list j 0) ≡ lists_arc (head_pairs directed_pairs arc list) i j
    one i j bi bj = both_ways (arc (get_or list i 0) (get_or list j 0)) (lists_arc (head_pairs directed_pairs arc list) i j)
        (λ t. to_listed (head_pairs directed_pairs arc list) (record { from = i; to = j }) (listed_in directed_spelling_law.pairs arc list i j bi bj t))
        (λ t. in_listed directed_spelling_law.pairs arc list i j (of_listed (head_pairs directed_pairs arc list) i j t))

listed_joined : (arc : ℕ → ℕ → Bool) (k : DKind) → lists_arcs k ≡ true → (list : List ℕ) → AreJoinedBy (puts_arcs k (head_pairs directed_pairs arc list)) (between arc) list
listed_joined arc Parallel lists list = absurd (true≢false (sym lists))
listed_joined arc Series lists list = absurd (true≢false (sym lists))
listed_joined arc Order lists list = absurd (true≢false (sym lists))
listed_joined arc Prime lists list = arcs_joined arc list

-- and other pairs don't
arcs_only : (arc : ℕ → ℕ → Bool) → ((a b : ℕ) → arc a b ≡ true → a ≢ b) → (list : List ℕ) (ps : List DPair) → MayListIf directed_pairs true (length list) ps → AreJoinedBy (puts_arcs Prime ps) (between arc) list → ps ≡ head_pairs directed_pairs arc list
arcs_only arc differ list ps may joined = only_pairs directed_spelling_law.pairs arc list ps may.1
    (λ p i. let of = may.2 p (to_contains ps p i) in (of.1, of.2, at p.from p.to of.0 of.1 of.2 ∙ to_listed ps p i))
    (λ i k bi bk edge. of_listed ps i k (sym (at i k (λ same. differ (get_or list i 0) (get_or list k 0) edge (ap (λ n. get_or list n 0) same)) bi bk) ∙ edge))
  where
    at : (i k : ℕ) → i ≢ k → i < length list → k < length list → arc (get_or list i 0) (get_or list k 0) ≡ lists_arc ps i k
    at i k other bi bk = elim (ascending_or_not i k other) [
      | inl less ↦ ap (λ (c : ArcColour). c.0) (joined i k less bk)
      | inr more ↦ ap (λ (c : ArcColour). c.1) (joined k i more bi)
    ]

listed_only : (arc : ℕ → ℕ → Bool) → ((a b : ℕ) → arc a b ≡ true → a ≢ b) → (k : DKind) → lists_arcs k ≡ true → (list : List ℕ) (ps : List DPair) → MayListIf directed_pairs true (length list) ps → AreJoinedBy (puts_arcs k ps) (between arc) list →
    ps ≡ head_pairs directed_pairs arc list
listed_only arc differ Parallel lists list ps may joined = absurd (true≢false (sym lists))
listed_only arc differ Series lists list ps may joined = absurd (true≢false (sym lists))
listed_only arc differ Order lists list ps may joined = absurd (true≢false (sym lists))
listed_only arc differ Prime lists list ps may joined = arcs_only arc differ list ps may joined

prime_alone : (k : DKind) → lists_arcs k ≡ true → k ≡ Prime
prime_alone Parallel lists = absurd (true≢false (sym lists))
prime_alone Series lists = absurd (true≢false (sym lists))
prime_alone Order lists = absurd (true≢false (sym lists))
prime_alone Prime lists = refl

pub digraph_seen : {g : PlainDigraph} → IsDigraph g → IsView directed_kinds directed_pairs (digraph_view g)
digraph_seen {g} digraph = record {
  names = λ x h. let small = digraph.names x h in let few : DIRECTED_NAMES ≤ NAMES = lit≤ tt in omega arith;
  told = arcs_told;
  reverse = swapped;
  turns = arcs_turn (has_arc_to g);
  many = (let b : 3 ≤ 3 = omega arith in b);
  sorts = listing_sorts;
  positions = λ list stand i j bi bj arc. ((λ same. digraph.differ (get_or list i 0) (get_or list j 0) arc (ap (λ k. get_or list k 0) same)), bi, bj);
  listing = λ k. (prime_alone k, λ is. ap lists_arcs is);
  joined = λ k lists list stand. listed_joined (has_arc_to g) k lists list;
  only = λ k lists list stand. listed_only (has_arc_to g) digraph.differ k lists list;
  even = puts_evenly;
}

-- a text that the comparison takes is that of the tree of strong modules
pub text_told : (g : PlainDigraph) (text : List ℕ) (t : PlainDTree) → IsTextOfTree directed_kinds directed_pairs (digraph_view g) text t → IsDirectedTree (has_arc_to g) g.vertices (Some t) × (text ≡ directed_text_of (Some t))
text_told g text t is = ((fits_proof (has_arc_to g) g.vertices t is.canonical).0 (is.names_are, is.fits), is.spelled)

-- and the other way round
pub text_found : (g : PlainDigraph) (text : List ℕ) (t : PlainDTree) → IsDirectedTree (has_arc_to g) g.vertices (Some t) → text ≡ directed_text_of (Some t) → IsTextOfTree directed_kinds directed_pairs (digraph_view g) text t
text_found g text t made is =
    let canon = (canonical_proof (has_arc_to g) g.vertices t made).1 in
    let fit = (fits_proof (has_arc_to g) g.vertices t canon).1 made in
    record { canonical = canon; names_are = fit.0; fits = fit.1; admitted = any_nodes t; spelled = is }
