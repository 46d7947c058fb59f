-- What an edit of a cotree needs to know of the graph, and what its answer says of the graph after the edit.
use Rattle.std.proofs.Common.{◌≡◌, ◌≢◌, ℕ, ◌≤◌, length, arith, Bool, true, false, not, cond, ◌==◌, find, is_ok, List, [], ◌∷◌, All, Option, Some, None, Result, Ok, Err, IfOk, IsErr, OnOk, ◌↔◌, refl, sym, ◌∙◌, subst}
use Rattle.std.proofs.lemmas.Bool.{eqb-false}
use Rattle.std.proofs.lemmas.List.Elements.{All-nil, All-cons}
use Rattle.std.specs.FinSet as set
use Rattle.md_graph.specs.declared.TheConstants.{NAMES}
use Rattle.md_graph.specs.Sets.{NameSet, Has, Lacks}
use Rattle.md_graph.specs.NameSet.{AllBelow, ascending}
use Rattle.md_graph.proofs.NameLemmas.{length-ascending, few_below}
use Rattle.md_graph.specs.PlainGraph.{PlainGraph, IsGraph, adjacent}
use Rattle.md_modules.specs.InducedPaths.{HasInducedPath}
use Rattle.md_modules.proofs.Turns.{graph_adjacency}
use Rattle.md_tree.specs.declared.Kind.{Kind}
use Rattle.md_tree.specs.declared.Pair.{Pair}
use Rattle.md_tree.specs.declared.TreeOf.{TreeOf}
use Rattle.md_tree.specs.Plain.{plain_option}
use Rattle.md_tree.specs.Trees.{PlainTree}
use Rattle.md_tree.specs.StrongTrees.{IsTree}
use Rattle.md_tree.proofs.OneTree.{no_path_proof}
use Rattle.md_cotree.specs.declared.cotree.Cotree.{Cotree}
use Rattle.md_cotree.specs.Cotrees.{Denotes}
use Rattle.md_tree.specs.NoPrimes.{HasNoPrime}
use Rattle.md_script.specs.declared.edit.Edit.{Edit}
use Rattle.md_script.specs.declared.edit.Edit.TheVariants.{AddEdge, DelEdge, AddVertex, DelVertex}
use Rattle.md_script.specs.Edit.{least_absent, reason_of, after}
use Rattle.md_script.proofs.ChangeLemmas.{ends_by_tests, by_parts}
use Rattle.md_report.specs.Cographs.{IsCograph}
use Rattle.md_script.proofs.BackLemmas.{only_passes, added_was_absent, deleted_was_there}

-- ---- no reason speaks against the edit

pub edge_may_come : (g : PlainGraph) (u v : ℕ) → reason_of g (AddEdge u v) ≡ None → Has g.vertices u × Has g.vertices v × (u ≢ v) × (adjacent g u v ≡ false)
edge_may_come g u v none =
    let told = ends_by_tests u v (u == v) (set.contains g.vertices u) (set.contains g.vertices v) _ none in
    (told.1, told.2, eqb-false u v told.0, added_was_absent g u v none)

pub edge_may_go : (g : PlainGraph) (u v : ℕ) → reason_of g (DelEdge u v) ≡ None → Has g.vertices u × Has g.vertices v × (u ≢ v) × (adjacent g u v ≡ true)
edge_may_go g u v none =
    let told = ends_by_tests u v (u == v) (set.contains g.vertices u) (set.contains g.vertices v) _ none in
    (told.1, told.2, eqb-false u v told.0, deleted_was_there g u v none)

one_there : (s : NameSet) (v : ℕ) (rest : List ℕ) (there : Bool) → set.contains s v ≡ there → cond (not there) (Some v) (find (λ w. not (set.contains s w)) rest) ≡ None →
    (find (λ w. not (set.contains s w)) rest ≡ None → All (Has s) rest) → All (Has s) (v ∷ rest)
one_there s v rest true has none before = All-cons (Has s) v rest has (before none)
one_there s v rest false has none before = absurd (cc)

all_there : (s : NameSet) (list : List ℕ) → find (λ w. not (set.contains s w)) list ≡ None → All (Has s) list
all_there s [] none = All-nil (Has s)
all_there s (v ∷ rest) none = one_there s v rest (set.contains s v) refl none (all_there s rest)

pub vertex_may_come : (g : PlainGraph) (x : ℕ) (list : List ℕ) → reason_of g (AddVertex x list) ≡ None → Lacks g.vertices x × All (Has g.vertices) list
vertex_may_come g x list none =
    let told = by_parts (least_absent g list) (set.contains g.vertices x) x none in
    (told.0, all_there g.vertices list told.1)

pub vertex_may_go : (g : PlainGraph) (x : ℕ) → reason_of g (DelVertex x) ≡ None → Has g.vertices x
vertex_may_go g x none = only_passes (set.contains g.vertices x) _ none

-- ---- what the answer says

on_ok : {A B : Type 0} (P : Type 0) (r : Result A B) → is_ok r ≡ true → OnOk r P → P
on_ok P (Ok x) fine done = done
on_ok P (Err e) fine done = absurd (cc)

is_error : {A B : Type 0} (r : Result A B) → is_ok r ≡ false → IsErr r
is_error (Ok x) fails = absurd (cc)
is_error (Err e) fails = refl

module _ {A B : Type 0} (edit form : Edit) (is : edit ≡ form) (r : Result A B) (ok : Bool) (told : ok ≡ is_ok r) (g : PlainGraph) where
  pub done_by : (new : Cotree) → OnOk r (Denotes new (after g form)) → ok ≡ true → Denotes new (after g edit)
  done_by new done fine = subst (λ e. Denotes new (after g e)) (sym is) (on_ok (Denotes new (after g form)) r (sym told ∙ fine) done)

  pub refused_by : (IsErr r ↔ HasInducedPath (adjacent (after g form)) (after g form).vertices) → ok ≡ false → HasInducedPath (adjacent (after g edit)) (after g edit).vertices
  refused_by refused fails = subst (λ e. HasInducedPath (adjacent (after g e)) (after g e).vertices) (sym is) (refused.0 (is_error r (sym told ∙ fails)))

-- where a graph is a cograph, nothing refuses it
pub done_free : {A B : Type 0} (r : Result A B) (P Bad : Type 0) → OnOk r P → (IsErr r ↔ Bad) → (Bad → ⊥) → P
done_free (Ok x) P Bad done refused free = done
done_free (Err e) P Bad done refused free = absurd (free (refused.0 refl))

-- ---- a cograph's tree has no prime node

pub no_prime_of : (g : PlainGraph) → IsGraph g → (o : Option PlainTree) → IsTree (adjacent g) g.vertices o → IsCograph g → HasNoPrime o
no_prime_of g is None tree free = tt
no_prime_of g is (Some t) tree free = (no_path_proof (adjacent g) (graph_adjacency is) g.vertices t tree).0 free

-- ---- the tree that is told of the cotree

module _ {E : Type 0} (c : Cotree) (g h : PlainGraph) (den : Denotes c g) (same : g ≡ h) where
  pub told_of : (r : Result (Option (TreeOf Kind Pair)) E) → IfOk r (λ tree. (k : PlainGraph) → Denotes c k → IsTree (adjacent k) k.vertices (plain_option tree)) → IfOk r (λ tree. IsTree (adjacent h) h.vertices (plain_option tree))
  told_of (Ok tree) told = subst (λ k. IsTree (adjacent k) k.vertices (plain_option tree)) same (told g den)
  told_of (Err e) told = told

-- ---- the neighbours in a list

pub few_names : (s : NameSet) (n : ℕ) → AllBelow s NAMES → AllBelow s n → length (ascending s) ≤ n
few_names s n names below =
    let all = length-ascending s NAMES names in
    let some = length-ascending s n below in
    let few = few_below s 0 n in
    omega arith
