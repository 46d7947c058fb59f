-- The text of a tree whose nodes are as a mode of sessions asks for: the graph may be a state.
use Rattle.std.proofs.Common.{◌≡◌, ◌≢◌, ℕ, zero, suc, ◌+◌, ◌<◌, Bool, true, false, ◌||◌, ◌&&◌, List, [], ◌∷◌, ◌++◌, length, get_or, map, Option, Some, None, sym, ◌∙◌, ap, inl, inr, refl, true≢false, arith}
use Rattle.std.specs.Prelude.{is_some, IsSome}
use Rattle.std.proofs.lemmas.Bool.{cases_eq, or_cases}
use Rattle.md_graph.specs.PlainGraph.{PlainGraph, IsGraph, adjacent}
use Rattle.md_graph.proofs.SetLemmas.{clash}
use Rattle.md_modules.proofs.Turns.{graph_adjacency}
use Rattle.md_bar_tree.specs.declared.BarKind.TheVariants.{P4 as BarP4}
use Rattle.md_bar_tree.specs.Inner.{IsInnerTree, AreLeaves, HasOneInner, IsNarrow}
use Rattle.md_bar_tree.proofs.BarLaw.{no_bar_if_few_inner_proof}
use Rattle.md_tree.specs.declared.Kind.TheVariants.{Prime}
use Rattle.md_tree.specs.Spellings.{graph_kinds, graph_pairs}
use Rattle.md_tree.specs.StrongTrees.{IsTree, IsTreeOf}
use Rattle.md_tree.specs.Trees.{PlainTreeOf, PlainTreesOf, PlainTree, leaf, node, no_tree, one_more, row, EachNode, EachNodeBelow}
use Rattle.md_report.specs.declared.line.SessionMode.{SessionMode}
use Rattle.md_report.specs.declared.line.SessionMode.TheVariants.{Edit, Cograph, Quiet, Of}
use Rattle.md_report.specs.Cographs.{IsCograph}
use Rattle.md_report.specs.ItemLines.{IsAllowed}
use Rattle.md_report.proofs.ByTrees.{cograph_by_tree}
use Rattle.md_checker.specs.GraphViews.{MayStandIn, state_view}
use Rattle.md_checker.specs.States.{HasOneNode, IsStateText}
use Rattle.md_checker.specs.TextViews.{root_kind, IsTextOfTree}
use Rattle.md_checker.proofs.GraphTexts.{text_told, text_found, word_cut, any_nodes}

-- ---- what holds of each node

module _ {K P : Type 0} (M N : K → PlainTreesOf K P → List P → Type 0) where
  mutual
    each_two : (t : PlainTreeOf K P) → EachNode (λ k cs ps. M k cs ps × N k cs ps) t → EachNode M t × EachNode N t
    each_two (leaf v) each = (tt, tt)
    each_two (node k cs ps) each = let two : EachNodeBelow M cs × EachNodeBelow N cs = two_below cs each.1 in ((each.0.0, two.0), (each.0.1, two.1))

    two_below : (ts : PlainTreesOf K P) → EachNodeBelow (λ k cs ps. M k cs ps × N k cs ps) ts → EachNodeBelow M ts × EachNodeBelow N ts
    two_below no_tree each = (tt, tt)
    two_below (one_more t ts) each =
        let first : EachNode M t × EachNode N t = each_two t each.0 in
        let rest : EachNodeBelow M ts × EachNodeBelow N ts = two_below ts each.1 in
        ((first.0, rest.0), (first.1, rest.1))

  mutual
    both_each : (t : PlainTreeOf K P) → EachNode M t → EachNode N t → EachNode (λ k cs ps. M k cs ps × N k cs ps) t
    both_each (leaf v) m n = tt
    both_each (node k cs ps) m n = ((m.0, n.0), both_below cs m.1 n.1)

    both_below : (ts : PlainTreesOf K P) → EachNodeBelow M ts → EachNodeBelow N ts → EachNodeBelow (λ k cs ps. M k cs ps × N k cs ps) ts
    both_below no_tree m n = tt
    both_below (one_more t ts) m n = (both_each t m.0 n.0, both_below ts m.1 n.1)

state_allowed : (mode : SessionMode) {g : PlainGraph} → IsGraph g → (t : PlainTree) → IsTreeOf (adjacent g) g.vertices t → EachNode (λ k cs ps. MayStandIn mode k cs) t → IsAllowed mode g
state_allowed Edit graph t made each = tt
state_allowed Cograph {g} graph t made each = (cograph_by_tree g graph (Some t) made).0 each
state_allowed Quiet {g} graph t made each = (cograph_by_tree g graph (Some t) made).0 each
state_allowed (Of class) {g} graph t made each =
    let two = each_two (λ k cs ps. k ≢ Prime) (λ k cs ps. IsNarrow class k → HasOneInner cs) t each in
    (no_bar_if_few_inner_proof (adjacent g) (graph_adjacency graph) g.vertices (Some t) made ((cograph_by_tree g graph (Some t) made).0 two.0) class).1 two.1

allowed_nodes : (mode : SessionMode) {g : PlainGraph} → IsGraph g → (t : PlainTree) → IsTreeOf (adjacent g) g.vertices t → IsAllowed mode g → EachNode (λ k cs ps. MayStandIn mode k cs) t
allowed_nodes Edit graph t made allowed = any_nodes t
allowed_nodes Cograph {g} graph t made allowed = (cograph_by_tree g graph (Some t) made).1 allowed
allowed_nodes Quiet {g} graph t made allowed = (cograph_by_tree g graph (Some t) made).1 allowed
allowed_nodes (Of class) {g} graph t made allowed =
    let cograph : IsCograph g = λ p. allowed (record { kind = BarP4; a = p.0; b = p.1; c = p.2; d = p.3 }, record { bars = tt; is = p.4 }) in
    both_each (λ k cs ps. k ≢ Prime) (λ k cs ps. IsNarrow class k → HasOneInner cs) t ((cograph_by_tree g graph (Some t) made).1 cograph)
    ((no_bar_if_few_inner_proof (adjacent g) (graph_adjacency graph) g.vertices (Some t) made cograph class).0 allowed)

-- a graph without vertices may be a state in each mode
pub allowed_none : (mode : SessionMode) {g : PlainGraph} → IsGraph g → IsTree (adjacent g) g.vertices None → IsAllowed mode g
allowed_none Edit graph none = tt
allowed_none Cograph {g} graph none = (cograph_by_tree g graph None none).0 tt
allowed_none Quiet {g} graph none = (cograph_by_tree g graph None none).0 tt
allowed_none (Of class) {g} graph none =
    (no_bar_if_few_inner_proof (adjacent g) (graph_adjacency graph) g.vertices None none ((cograph_by_tree g graph None none).0 tt) class).1 tt

-- a text that the comparison takes is that of a state, behind the word
pub state_told : (mode : SessionMode) {g : PlainGraph} → IsGraph g → (word behind text : List ℕ) → text ≡ word ++ behind → (t : PlainTree) → IsTextOfTree graph_kinds graph_pairs (state_view mode g) behind t → IsStateText mode g word text
state_told mode graph word behind text cut t is =
    let good = text_told (MayStandIn mode) graph behind t is in
    record { allowed = state_allowed mode graph t good.1 is.admitted; tree = t; fits = good.1; spelled = cut ∙ ap (λ l. word ++ l) good.2 }

pub state_found : (mode : SessionMode) {g : PlainGraph} → IsGraph g → (word behind text : List ℕ) → text ≡ word ++ behind → IsStateText mode g word text → (t : PlainTree) × IsTextOfTree graph_kinds graph_pairs (state_view mode g) behind t
state_found mode graph word behind text cut s =
    (s.tree, text_found (MayStandIn mode) graph behind s.tree s.fits (word_cut word behind text s.tree cut s.spelled) (allowed_nodes mode graph s.tree s.fits s.allowed))

-- ---- at most one of the children is a node

inner_root : (t : PlainTree) → IsInnerTree t → IsSome (root_kind t)
inner_root (leaf v) inner = absurd inner
inner_root (node k cs ps) inner = refl

no_inner : (ts : List PlainTree) → ((j : ℕ) → j < length (map root_kind ts) → IsSome (get_or (map root_kind ts) j None) → ⊥) → AreLeaves (row ts)
no_inner [] none = tt
no_inner (t ∷ ts) none = (
  λ inner. none 0 (let b : 0 < suc (length (map root_kind ts)) = omega arith in b) (inner_root t inner),
  no_inner ts (λ j l. none (suc j) (let b : suc j < suc (length (map root_kind ts)) = omega arith in b)),
)

pub one_inner : (ts : List PlainTree) → HasOneNode (map root_kind ts) → HasOneInner (row ts)
one_inner [] one = tt
one_inner (t ∷ ts) one = (
  λ inner. no_inner ts (λ j l. one 0 (suc j) (omega arith) (let b : suc j < suc (length (map root_kind ts)) = omega arith in b) (inner_root t inner)),
  one_inner ts (λ i j less l. one (suc i) (suc j) (omega arith) (let b : suc j < suc (length (map root_kind ts)) = omega arith in b)),
)

root_inner : (t : PlainTree) → IsSome (root_kind t) → IsInnerTree t
root_inner (leaf v) some = absurd (true≢false (sym some))
root_inner (node k cs ps) some = tt

none_inner : (ts : List PlainTree) → AreLeaves (row ts) → (j : ℕ) → j < length (map root_kind ts) → IsSome (get_or (map root_kind ts) j None) → ⊥
none_inner [] leaves j below some = let b : j < 0 = below in absurd (omega arith)
none_inner (t ∷ ts) leaves zero below some = leaves.0 (root_inner t some)
none_inner (t ∷ ts) leaves (suc j) below some = let b : suc j < suc (length (map root_kind ts)) = below in none_inner ts leaves.1 j (omega arith) some

pub inner_one : (ts : List PlainTree) → HasOneInner (row ts) → HasOneNode (map root_kind ts)
inner_one [] one i j less below left right = let b : j < 0 = below in absurd (omega arith)
inner_one (t ∷ ts) one i zero less below left right = absurd (omega arith)
inner_one (t ∷ ts) one zero (suc j) less below left right =
    let b : suc j < suc (length (map root_kind ts)) = below in none_inner ts (one.0 (root_inner t left)) j (omega arith) right
inner_one (t ∷ ts) one (suc i) (suc j) less below left right =
    let b : suc j < suc (length (map root_kind ts)) = below in
    let l : suc i < suc j = less in
    inner_one ts one.1 i j (omega arith) (omega arith) left right

-- some roots of which at most one is that of a node, and whether one is
pub record AreSeen {K : Type 0} (roots : List (Option K)) (n : ℕ) (found : Bool) : Type 0 where
  pub none : found ≡ false → (i : ℕ) → i < n → IsSome (get_or roots i None) → ⊥
  pub one : (i j : ℕ) → i < j → j < n → IsSome (get_or roots i None) → IsSome (get_or roots j None) → ⊥
  pub some : found ≡ true → (i : ℕ) × (i < n) × IsSome (get_or roots i None)

pub more_seen : {K : Type 0} (roots : List (Option K)) (n : ℕ) (found told new : Bool) (root : Option K) → get_or roots n None ≡ root → told ≡ is_some root → (found && told) ≡ false → new ≡ (found || told) → AreSeen roots n found → AreSeen roots (n + 1) new
more_seen roots n found told new root is tells not_both made so = record {
  none = λ told_no i below some. elim (cases_eq i n) [
    | inl same ↦ clash (told_here i same some) (or_false found told (sym made ∙ told_no)).1
    | inr other ↦ (let less : i < n = omega arith in so.none (or_false found told (sym made ∙ told_no)).0 i less some)
  ];
  one = λ i j less below left right. elim (cases_eq j n) [
    | inl same ↦ (let low : i < n = omega arith in so.none (and_false found told (told_here j same right) not_both) i low left)
    | inr other ↦ (let low : j < n = omega arith in so.one i j less low left right)
  ];
  some = λ yes. elim (or_cases found told (sym made ∙ yes)) [
    | inl before ↦ (let i = so.some before in let b : i.0 < n = i.1 in (i.0, (let c : i.0 < n + 1 = omega arith in c), i.2))
    | inr here ↦ (n, (let c : n < n + 1 = omega arith in c), ap is_some is ∙ sym tells ∙ here)
  ];
} where
  told_here : (i : ℕ) → i ≡ n → IsSome (get_or roots i None) → told ≡ true
  told_here i same some = tells ∙ ap is_some (sym is) ∙ ap (λ k. is_some (get_or roots k None)) (sym same) ∙ some

  or_false : (a b : Bool) → (a || b) ≡ false → (a ≡ false) × (b ≡ false)
  or_false true b e = clash refl e
  or_false false b e = (refl, e)

  and_false : (a b : Bool) → b ≡ true → (a && b) ≡ false → a ≡ false
  and_false true b so e = clash so e
  and_false false b so e = refl
