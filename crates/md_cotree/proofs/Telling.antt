-- The tree that is told of a cotree: its tree with the children in order.
use Rattle.std.proofs.Common.{◌≡◌, ℕ, ◌<◌, ◌≤◌, Bool, true, false, ◌&&◌, Option, Some, None, refl, sym, ◌∙◌, ap, subst, inl, inr, arith}
use Rattle.std.proofs.lemmas.Bool.{cases_lt, false_from_ne_true}
use Rattle.std.proofs.lemmas.Option.{none-some, same_Some}
use Rattle.std.specs.FinSet.{contains}
use Rattle.std.specs.Option.{option_map}
use Rattle.md_graph.specs.declared.TheConstants.{NAMES}
use Rattle.md_graph.specs.Sets.{Has}
use Rattle.md_graph.specs.PlainGraph.{PlainGraph, adjacent, pairs_where}
use Rattle.md_graph.proofs.SetLemmas.{Has-along}
use Rattle.md_lists.specs.Links.{AreLinks}
use Rattle.md_lists.specs.Words.{holds_once}
use Rattle.md_lists.proofs.LinkLaws.{held, holds-once-same}
use Rattle.md_tree.specs.Trees.{PlainTree, names, EachNodeBelow}
use Rattle.md_tree.specs.StrongTrees.{IsTreeOf}
use Rattle.md_tree.specs.TreeGraph.{adjacent_in, graph_of_tree}
use Rattle.md_tree.specs.WellFormed.{NoneOfKind, AreDisjoint, IsWellFormed, HasNoPrimeNode}
use Rattle.md_tree.proofs.Spelled.{least_two}
use Rattle.md_cotree.specs.declared.cotree.Cotree.{Cotree}
use Rattle.md_cotree.specs.PlaceTrees.{PlaceTree, tip, inner, PlaceTrees, no_more, then, place_of, kind_of, leaves_in, leaves_among, NoneInner, Alternates, AllAlternate, shape, shapes, Stands}
use Rattle.md_cotree.specs.Cotrees.{place_at, IsKeptAs, Denotes}
use Rattle.md_cotree.specs.Orders.{IsLooseNode, IsLoose, IsOrdered, HasTree}
use Rattle.md_cotree.proofs.Cographs.{tree_proof}
use Rattle.md_cotree.proofs.NoPaths.{name_stands, name_below, kept_below, kind_not_prime}
use Rattle.md_cotree.proofs.Rooted.{count_shapes}
use Rattle.md_cotree.proofs.Room.{room}

-- ---- the tree that is kept is loose

same_kind_of : (j k : Bool) → kind_of j ≡ kind_of k → j ≡ k
same_kind_of true true e = refl
same_kind_of true false e = absurd cc
same_kind_of false true e = absurd cc
same_kind_of false false e = refl

none_of_kind : (ts : PlaceTrees) (k : Bool) → NoneInner ts k → NoneOfKind (shapes ts) (kind_of k)
none_of_kind no_more k none = tt
none_of_kind (then (tip p v) ts) k none = ((λ is. is), none_of_kind ts k none.1)
none_of_kind (then (inner p j us) ts) k none = ((λ is. none.0 (same_kind_of j k is)), none_of_kind ts k none.1)

mutual
  loose_in : (t : PlaceTree) → Alternates t → ((v p : ℕ) → leaves_in p v t ≤ 1) → ((v p q : ℕ) → 0 < leaves_in p v t → 0 < leaves_in q v t → p ≡ q) → IsLoose (shape t)
  loose_in (tip p v) alternates few one = tt
  loose_in (inner p k ts) alternates few one =
      let below = loose_below ts alternates.2 few one in (
        record {
          not_prime = kind_not_prime k;
          apart = below.1;
          plain = record {
            enough = let two = alternates.0 in let e = count_shapes ts in let least = least_two (kind_of k) (kind_not_prime k) in omega arith;
            other_kinds = none_of_kind ts k alternates.1;
            no_pairs = refl;
          };
        },
        below.0,
      )

  loose_below : (ts : PlaceTrees) → AllAlternate ts → ((v p : ℕ) → leaves_among p v ts ≤ 1) → ((v p q : ℕ) → 0 < leaves_among p v ts → 0 < leaves_among q v ts → p ≡ q) →
      EachNodeBelow IsLooseNode (shapes ts) × AreDisjoint (shapes ts)
  loose_below no_more alternates few one = (tt, tt)
  loose_below (then t ts) alternates few one =
      let first = loose_in t alternates.0 (λ v p. let low = few v p in omega arith) (λ v p q a b. one v p q (omega arith) (omega arith)) in
      let rest = loose_below ts alternates.1 (λ v p. let low = few v p in omega arith) (λ v p q a b. one v p q (omega arith) (omega arith)) in (
        (first, rest.0),
        (
          λ v h. false_from_ne_true _ (λ k.
              let here = name_stands t v h in
              let there = name_below ts v k in
              let same = one v here.0 there.0 (let some = here.1 in omega arith) (let some = there.1 in omega arith) in
              let low = few v here.0 in
              let some = here.1 in
              let more = there.1 in
              let e = ap (λ z. leaves_among z v ts) same in
              absurd (omega arith)),
          rest.1,
        ),
      )

module _ (c : Cotree) (t : PlaceTree) (kept : IsKeptAs c (Some t)) where
  pub loose_kept : IsLoose (shape t)
  loose_kept =
      loose_in t kept.alternates.0
      (λ v p. elim (cases_lt 1 (leaves_in p v t)) [
        | inl more ↦ absurd (
            let e = kept.names v p in
            let is = held (place_at c v) p (omega arith) in
            let one = ap (λ o. holds_once o p) is ∙ holds-once-same p in
            omega arith)
        | inr low ↦ low
      ])
      (λ v p q a b. same_Some p q (sym (held (place_at c v) p (let e = kept.names v p in omega arith)) ∙ held (place_at c v) q (let e = kept.names v q in omega arith)))

  pub kept_tree : AreLinks c.lists → (root : ℕ) → c.root ≡ Some root → HasTree c.lists root
  kept_tree ok root is = (
    t,
    kept.fits.stand.1,
    same_Some (place_of t) root (sym kept.root ∙ is),
    let all = room c.lists (then t no_more) ok kept.fits in omega arith,
    loose_kept,
  )

-- ---- the same graph

graph_same : (t s : PlainTree) → names t ≡ names s → ((u v : ℕ) → Has (names s) u → Has (names s) v → adjacent_in t u v ≡ adjacent_in s u v) → graph_of_tree (Some t) ≡ graph_of_tree (Some s)
graph_same t s same told = λ i. record { vertices = same i; edges = pairs_where (λ a b. edge a b i) NAMES }
  where
    both : (a b : ℕ) (x y : Bool) → contains (names s) a ≡ x → contains (names s) b ≡ y → ((x && y) && adjacent_in t a b) ≡ ((x && y) && adjacent_in s a b)
    both a b true true hx hy = told a b hx hy
    both a b true false hx hy = refl
    both a b false y hx hy = refl

    edge : (a b : ℕ) → ((contains (names t) a && contains (names t) b) && adjacent_in t a b) ≡ ((contains (names s) a && contains (names s) b) && adjacent_in s a b)
    edge a b = (λ i. (contains (same i) a && contains (same i) b) && adjacent_in t a b) ∙ both a b (contains (names s) a) (contains (names s) b) refl refl

-- what was told of the tree that is kept
abbrev pub IsTold : Cotree → ℕ → PlainTree → Type 0
IsTold c root t = (s : PlaceTree) → Stands c.lists s → place_of s ≡ root → IsLoose (shape s) → IsOrdered t (shape s)

module _ (c : Cotree) (root : ℕ) (is : c.root ≡ Some root) (t : PlainTree) (told : IsTold c root t) where
  told_kept : (s : PlaceTree) → IsKeptAs c (Some s) → IsOrdered t (shape s)
  told_kept s kept = told s kept.fits.stand.1 (same_Some (place_of s) root (sym kept.root ∙ is)) (loose_kept c s kept)

  well_kept : (s : PlaceTree) → IsKeptAs c (Some s) → IsWellFormed (Some t)
  well_kept s kept =
      let o = told_kept s kept in
      ((λ v h. kept_below c s kept v (Has-along (names t) (names (shape s)) o.same_names v h)), o.canonical)

  pub told_well_formed : (o : Option PlaceTree) → IsKeptAs c o → IsWellFormed (Some t)
  told_well_formed None kept = absurd (none-some root (sym kept.root ∙ is))
  told_well_formed (Some s) kept = well_kept s kept

  pub told_no_prime : (o : Option PlaceTree) → IsKeptAs c o → HasNoPrimeNode t
  told_no_prime None kept = absurd (none-some root (sym kept.root ∙ is))
  told_no_prime (Some s) kept = (told_kept s kept).no_prime

  pub told_tree : (g : PlainGraph) → Denotes c g → IsTreeOf (adjacent g) g.vertices t
  told_tree g den = go den.0 den.1 den.2
    where
      go : (o : Option PlaceTree) → IsKeptAs c o → graph_of_tree (option_map shape o) ≡ g → IsTreeOf (adjacent g) g.vertices t
      go None kept same = absurd (none-some root (sym kept.root ∙ is))
      go (Some s) kept same =
          let o = told_kept s kept in
          subst (λ h. IsTreeOf (adjacent h) h.vertices t) (graph_same t (shape s) o.same_names o.same_adjacent ∙ same) (tree_proof (Some t) (well_kept s kept) o.no_prime)

-- a cotree with a root keeps a tree
pub has_tree : (c : Cotree) (o : Option PlaceTree) → IsKeptAs c o → AreLinks c.lists → (root : ℕ) → c.root ≡ Some root → HasTree c.lists root
has_tree c None kept ok root is = absurd (none-some root (sym kept.root ∙ is))
has_tree c (Some t) kept ok root is = kept_tree c t kept ok root is
