-- The children of a node, as the code reads them.
use Rattle.std.proofs.Common.{◌≡◌, ℕ, zero, suc, ◌+◌, ◌<◌, ◌≤◌, List, [], ◌∷◌, length, get_or, map, Bool, Option, Some, None, refl, sym, ◌∙◌, ap, subst, inl, inr, arith}
use Rattle.md_graph.specs.Sets.{NameSet}
use Rattle.md_graph.specs.Adjacency.{IsAdjacency}
use Rattle.md_tree.specs.declared.Kind.{Kind}
use Rattle.md_tree.specs.declared.Pair.{Pair}
use Rattle.md_tree.specs.declared.PairsOf.{PairsOf}
use Rattle.md_tree.specs.declared.ChildrenOf.{ChildrenOf}
use Rattle.md_tree.specs.declared.TreeOf.{TreeOf, Leaf, Node}
use Rattle.md_tree.specs.Trees.{PlainTree, node, PlainTrees, no_tree, one_more, names, names_below, names_at, count, row, EachNode, EachNodeBelow}
use Rattle.md_tree.specs.Plain.{plain, plain_option, row_of_children}
use Rattle.md_tree.specs.NoPrimes.{HasNoPrime}
use Rattle.md_tree.specs.StrongTrees.{IsTreeOf, IsTree}
use Rattle.md_tree.specs.WellFormed.{IsCanonicalNode, IsCanonicalTree, HasNoPrimeNode}
use Rattle.md_tree.proofs.Plain.{plain_is_leaf, plain_is_node}
use Rattle.md_tree.proofs.OneTree.{canonical_proof}
use Rattle.md_tree.proofs.Nodes.{IsChild, child_inside}
use Rattle.md_tree.proofs.Loops.{rest, rest_at, rest_end, first_of_rest, count_plain, names_at_row}
use Rattle.md_bar_tree.specs.declared.Class.{Class}
use Rattle.md_bar_tree.specs.declared.Bar.{Bar}
use Rattle.md_bar_tree.specs.Bars.{IsBar, HasBar}
use Rattle.md_bar_tree.specs.Inner.{IsInnerTree, AreLeaves, HasOneInner, IsNarrow, HasFewInner, HaveFewInner}
use Rattle.md_bar_tree.specs.Following.{across, FollowsTree, FollowsRow}
use Rattle.md_tree.specs.Held.{IsLeast}
use Rattle.md_bar_tree.specs.Finding.{IsFoundIn, LeavesThen, IsNextInner, AreLeastTwo, IsBarOfTwo}
use Rattle.md_bar_tree.proofs.Leasts.{least_of_leaf, least_of_node, two_at_least}
use Rattle.md_bar_tree.proofs.Witnesses.{witness, bar_within}
use Rattle.md_bar_tree.proofs.BarLaw.{first_canonical, row_of_node, one_of_then, tree_follows, no_bar_of_tree, no_bar_of_none}

abbrev TreeNow : Type 0
TreeNow = TreeOf Kind Pair

-- leaves and nodes
pub leaf_not_inner : (t : TreeNow) (v : ℕ) → t ≡ Leaf v → IsInnerTree (plain t) → ⊥
leaf_not_inner t v is i = subst IsInnerTree (plain_is_leaf t v is) i

pub node_inner : (t : TreeNow) (k : Kind) (cs : ChildrenOf Kind Pair) (ps : PairsOf Pair) → t ≡ Node k cs ps → IsInnerTree (plain t)
node_inner t k cs ps is = subst IsInnerTree (sym (plain_is_node t k cs ps is)) tt

-- the child at a position
at_row : (xs : List TreeNow) (i : ℕ) (d : TreeNow) → i < length xs → IsChild (row (map plain xs)) (plain (get_or xs i d))
at_row [] i d h = let b : i < 0 = h in absurd (omega arith)
at_row (x ∷ xs) zero d h = inl refl
at_row (x ∷ xs) (suc i) d h = inr (at_row xs i d (let b : suc i < suc (length xs) = h in omega arith))

each_at : (N : Kind → PlainTrees → List Pair → Type 0) (cs : PlainTrees) (c : PlainTree) → IsChild cs c → EachNodeBelow N cs → EachNode N c
each_at N no_tree c i each = absurd i
each_at N (one_more t ts) c (inl same) each = subst (EachNode N) (sym same) each.0
each_at N (one_more t ts) c (inr i) each = each_at N ts c i each.1

follows_at : (e : ℕ → ℕ → _) (v : _) (cs : PlainTrees) (c : PlainTree) → IsChild cs c → FollowsRow e v cs → FollowsTree e c
follows_at e v no_tree c i f = absurd i
follows_at e v (one_more t ts) c (inl same) f = subst (FollowsTree e) (sym same) f.0
follows_at e v (one_more t ts) c (inr i) f = follows_at e v ts c i f.2

-- a bar found in a child is one of the node
found_below : (class : Class) (k : Kind) (cs : PlainTrees) (ps : List Pair) (c : PlainTree) (bar : Bar) → IsChild cs c → IsFoundIn class c bar → IsFoundIn class (node k cs ps) bar
found_below class k cs ps c bar i found canonical free e adj f =
    bar_within class e (names c) (names_below cs) bar (child_inside cs c i)
    (found (each_at IsCanonicalNode cs c i canonical.1) (each_at _ cs c i free.1) e adj (follows_at e (across k) cs c i f))

pub found_at : (class : Class) (k : Kind) (xs ys : List TreeNow) (i : ℕ) (r : TreeNow) (bar : Bar) → ys ≡ xs → r ≡ get_or ys i r → i < length ys →
    IsFoundIn class (plain r) bar → (ps : List Pair) → IsFoundIn class (node k (row (map plain xs)) ps) bar
found_at class k xs ys i r bar same is less found ps =
    found_below class k (row (map plain xs)) ps (plain r) bar
    (subst (λ t. IsChild (row (map plain xs)) (plain t)) (sym (is ∙ ap (λ l. get_or l i r) same)) (at_row xs i r (subst (λ l. i < length l) same less))) found

-- what was found in a node was found in the tree that it is
pub found_node : (class : Class) (t : TreeNow) (k : Kind) (cs : ChildrenOf Kind Pair) (ps : PairsOf Pair) → t ≡ Node k cs ps → (bar : Bar) →
    ((qs : List Pair) → IsFoundIn class (node k (row_of_children cs) qs) bar) → IsFoundIn class (plain t) bar
found_node class t k cs ps is bar found = subst (λ w. IsFoundIn class w bar) (sym (plain_is_node t k cs ps is)) (found ps.list.items)

pub few_leaf : (class : Class) (t : TreeNow) (v : ℕ) → t ≡ Leaf v → HasFewInner class (plain t)
few_leaf class t v is = subst (HasFewInner class) (sym (plain_is_leaf t v is)) tt

pub few_node : (class : Class) (t : TreeNow) (k : Kind) (cs : ChildrenOf Kind Pair) (ps : PairsOf Pair) → t ≡ Node k cs ps →
    (IsNarrow class k → HasOneInner (row_of_children cs)) → HaveFewInner class (row_of_children cs) → HasFewInner class (plain t)
few_node class t k cs ps is one few = subst (HasFewInner class) (sym (plain_is_node t k cs ps is)) (one, few)

-- least names
pub least_leaf : (t : TreeNow) (v : ℕ) → t ≡ Leaf v → IsLeast (names (plain t)) v
least_leaf t v is = subst (λ w. IsLeast (names w) v) (sym (plain_is_leaf t v is)) (least_of_leaf v)

pub least_node : (t : TreeNow) (k : Kind) (cs : ChildrenOf Kind Pair) (ps : PairsOf Pair) (p : ℕ) → t ≡ Node k cs ps →
    (EachNodeBelow IsCanonicalNode (row_of_children cs) → 0 < count (row_of_children cs) → IsLeast (names_at (row_of_children cs) 0) p) → IsCanonicalTree (plain t) → IsLeast (names (plain t)) p
least_node t k cs ps p is first canonical =
    let c : IsCanonicalTree (node k (row_of_children cs) ps.list.items) = subst IsCanonicalTree (plain_is_node t k cs ps is) canonical in
    let two : 2 ≤ count (row_of_children cs) = two_at_least k (row_of_children cs) ps.list.items c.0 in
    subst (λ w. IsLeast (names w) p) (sym (plain_is_node t k cs ps is))
    (least_of_node k (row_of_children cs) ps.list.items p c.0 (first c.1 (omega arith)))

-- what `get` gives
pub least_item : (xs ys : List TreeNow) (i : ℕ) (r : TreeNow) (p : ℕ) → ys ≡ xs → i < count (row (map plain xs)) → r ≡ get_or ys i r → EachNodeBelow IsCanonicalNode (row (map plain xs)) →
    (IsCanonicalTree (plain r) → IsLeast (names (plain r)) p) → IsLeast (names_at (row (map plain xs)) i) p
least_item xs ys i r p same less is each least =
    let a : i < length xs = subst (λ n. i < n) (count_plain xs) less in
    let b : get_or xs i r ≡ r = sym (is ∙ ap (λ l. get_or l i r) same) in
    subst (λ w. IsLeast w p) (sym (names_at_row xs i r a ∙ ap (λ t. names (plain t)) b))
    (least (each_at IsCanonicalNode (row (map plain xs)) (plain r) (subst (λ t. IsChild (row (map plain xs)) (plain t)) b (at_row xs i r a)) each))

pub no_item : {P : Type 0} (xs ys : List TreeNow) (i : ℕ) → ys ≡ xs → length ys ≤ i → i < count (row (map plain xs)) → P
no_item xs ys i same past less = let a : count (row (map plain xs)) ≡ length xs = count_plain xs in let b : length ys ≡ length xs = ap length same in absurd (omega arith)

-- leaves that are passed over
pub then_self : (cs : PlainTrees) → LeavesThen cs cs
then_self no_tree = refl
then_self (one_more t ts) = inl refl

some_tree : {P : Type 0} (t : PlainTree) (ts : PlainTrees) → one_more t ts ≡ no_tree → P
some_tree t ts same = let a : suc (count ts) ≡ 0 = ap count same in absurd (omega arith)

then_more : (cs : PlainTrees) (t : PlainTree) (ts : PlainTrees) → LeavesThen cs (one_more t ts) → (IsInnerTree t → ⊥) → LeavesThen cs ts
then_more no_tree t ts same bare = some_tree t ts same
then_more (one_more u us) t ts (inl same) bare = subst (λ w. LeavesThen w ts) same (inr (bare, then_self ts))
then_more (one_more u us) t ts (inr later) bare = inr (later.0, then_more us t ts later.1 bare)

then_end : (cs : PlainTrees) → LeavesThen cs no_tree → AreLeaves cs
then_end no_tree same = tt
then_end (one_more t ts) (inl same) = some_tree t ts (sym same)
then_end (one_more t ts) (inr later) = (later.0, then_end ts later.1)

pub skip_more : (cs : PlainTrees) (xs : List TreeNow) (i : ℕ) (r : TreeNow) → LeavesThen cs (rest xs i) → r ≡ get_or xs i r → i < length xs → (IsInnerTree (plain r) → ⊥) → LeavesThen cs (rest xs (i + 1))
skip_more cs xs i r h is less bare = then_more cs (plain r) (rest xs (i + 1)) (subst (LeavesThen cs) (first_of_rest xs xs i r refl is less) h) bare

pub skip_end : (cs : PlainTrees) (xs : List TreeNow) (i : ℕ) → LeavesThen cs (rest xs i) → length xs ≤ i → AreLeaves cs
skip_end cs xs i h past = then_end cs (subst (LeavesThen cs) (rest_end xs i past) h)

-- the first two children
pub two_of_leaf : (t : TreeNow) (v p q : ℕ) → t ≡ Leaf v → IsInnerTree (plain t) → AreLeastTwo (plain t) p q
two_of_leaf t v p q is inner = absurd (leaf_not_inner t v is inner)

pub two_of_node : (t : TreeNow) (k : Kind) (cs : ChildrenOf Kind Pair) (ps : PairsOf Pair) (p q : ℕ) → t ≡ Node k cs ps →
    (EachNodeBelow IsCanonicalNode (row_of_children cs) → 0 < count (row_of_children cs) → IsLeast (names_at (row_of_children cs) 0) p) →
    (EachNodeBelow IsCanonicalNode (row_of_children cs) → 1 < count (row_of_children cs) → IsLeast (names_at (row_of_children cs) 1) q) →
    IsCanonicalTree (plain t) → AreLeastTwo (plain t) p q
two_of_node t k cs ps p q is first second canonical =
    let c : IsCanonicalTree (node k (row_of_children cs) ps.list.items) = subst IsCanonicalTree (plain_is_node t k cs ps is) canonical in
    let two : 2 ≤ count (row_of_children cs) = two_at_least k (row_of_children cs) ps.list.items c.0 in
    subst (λ w. AreLeastTwo w p q) (sym (plain_is_node t k cs ps is)) (first c.1 (omega arith), second c.1 (omega arith))

-- the bar of two children that are no leaves
found_two : (class : Class) (k : Kind) (cs : PlainTrees) (ps : List Pair) (x : PlainTree) (xs : PlainTrees) (y : PlainTree) (ys : PlainTrees) (bar : Bar) → IsNarrow class k →
    LeavesThen cs (one_more x xs) → IsInnerTree x → LeavesThen xs (one_more y ys) → IsInnerTree y →
    (IsCanonicalTree x → IsInnerTree x → IsCanonicalTree y → IsInnerTree y → IsBarOfTwo k x y bar) → IsFoundIn class (node k cs ps) bar
found_two class k cs ps x xs y ys bar narrow first inner second other of_two canonical free e adj f =
    let row = row_of_node e k cs ps canonical free f in
    let a : IsCanonicalTree x × EachNodeBelow IsCanonicalNode xs = first_canonical cs x xs first row.canonical in
    let b : IsCanonicalTree y × EachNodeBelow IsCanonicalNode ys = first_canonical xs y ys second a.1 in
    let h : IsBarOfTwo k x y bar = of_two a.0 inner b.0 other in
    subst (IsBar class e (names_below cs)) (sym h.6) (witness adj k free.0 (names_below cs) class narrow cs x xs y ys row first second h.0 h.1 h.2 h.3 h.4 h.5)

pub found_two_at : (class : Class) (k : Kind) (xs : List TreeNow) (i j : ℕ) (x y : TreeNow) (bar : Bar) → IsNarrow class k →
    IsNextInner (row (map plain xs)) (rest xs i) → x ≡ get_or xs i x → i < length xs →
    IsNextInner (rest xs (i + 1)) (rest xs j) → y ≡ get_or xs j y → j < length xs →
    (IsCanonicalTree (plain x) → IsInnerTree (plain x) → IsCanonicalTree (plain y) → IsInnerTree (plain y) → IsBarOfTwo k (plain x) (plain y) bar) →
    (ps : List Pair) → IsFoundIn class (node k (row (map plain xs)) ps) bar
found_two_at class k xs i j x y bar narrow first is_x less_i second is_y less_j of_two ps =
    let a : rest xs i ≡ one_more (plain x) (rest xs (i + 1)) = first_of_rest xs xs i x refl is_x less_i in
    let b : rest xs j ≡ one_more (plain y) (rest xs (j + 1)) = first_of_rest xs xs j y refl is_y less_j in
    let c : IsNextInner (row (map plain xs)) (one_more (plain x) (rest xs (i + 1))) = subst (IsNextInner (row (map plain xs))) a first in
    let d : IsNextInner (rest xs (i + 1)) (one_more (plain y) (rest xs (j + 1))) = subst (IsNextInner (rest xs (i + 1))) b second in
    found_two class k (row (map plain xs)) ps (plain x) (rest xs (i + 1)) (plain y) (rest xs (j + 1)) bar narrow c.0 c.1 d.0 d.1 of_two

pub one_at : (xs : List TreeNow) (i : ℕ) → IsNextInner (row (map plain xs)) (rest xs i) → i < length xs → AreLeaves (rest xs (i + 1)) → HasOneInner (row (map plain xs))
one_at xs i first less leaves =
    let d : TreeNow = Leaf 0 in
    one_of_then (row (map plain xs)) (plain (get_or xs i d)) (rest xs (i + 1)) (subst (LeavesThen (row (map plain xs))) (rest_at xs i d less) first.0) leaves

-- the bar of the graph whose tree it is
found_in_graph : (class : Class) (t : PlainTree) → HasNoPrimeNode t → (bar : Bar) → IsFoundIn class t bar → (e : ℕ → ℕ → Bool) (s : NameSet) → IsAdjacency e → IsTreeOf e s t → IsBar class e s bar
found_in_graph class t free bar found e s adj is =
    let c : (names t ≡ s) × IsCanonicalTree t = canonical_proof e adj s t is in
    subst (λ w. IsBar class e w bar) c.0 (found c.1 free e adj (tree_follows e adj s t is free))

pub found_of_tree : (class : Class) (o : Option TreeNow) (t : TreeNow) → o ≡ Some t → HasNoPrime (plain_option o) → (bar : Bar) → IsFoundIn class (plain t) bar →
    (e : ℕ → ℕ → Bool) (s : NameSet) → IsAdjacency e → IsTree e s (plain_option o) → IsBar class e s bar
found_of_tree class o t same free bar found e s adj is =
    found_in_graph class (plain t) (subst (λ w. HasNoPrime (plain_option w)) same free) bar found e s adj (subst (λ w. IsTree e s (plain_option w)) same is)

pub none_of_tree : (class : Class) (o : Option TreeNow) (t : TreeNow) → o ≡ Some t → HasNoPrime (plain_option o) → HasFewInner class (plain t) →
    (e : ℕ → ℕ → Bool) (s : NameSet) → IsAdjacency e → IsTree e s (plain_option o) → HasBar class e s → ⊥
none_of_tree class o t same free few e s adj is =
    no_bar_of_tree e adj s (plain t) (subst (λ w. IsTree e s (plain_option w)) same is) class (subst (λ w. HasNoPrime (plain_option w)) same free) few

pub none_of_none : (class : Class) (o : Option TreeNow) → o ≡ None → (e : ℕ → ℕ → Bool) (s : NameSet) → IsAdjacency e → IsTree e s (plain_option o) → HasBar class e s → ⊥
none_of_none class o same e s adj is = no_bar_of_none class e s (subst (λ w. IsTree e s (plain_option w)) same is)
