-- The names of a quotient: the heads of trees and the two ends, as far as they are vertices.
use Rattle.std.proofs.Common.{◌≡◌, ℕ, ◌+◌, ◌<◌, ◌≤◌, cond, List, [], ◌∷◌, ◌++◌, map, take, get_or, length, refl, sym, ◌∙◌, ap, subst, inl, inr, arith}
use Rattle.std.proofs.lemmas.Bool.{cases_Bool}
use Rattle.std.proofs.lemmas.List.{map_more}
use Rattle.std.specs.FinSet.{contains, empty, insert, intersection, len}
use Rattle.md_graph.specs.Sets.{NameSet, Has}
use Rattle.md_graph.proofs.SetLemmas.{clash, Has-along, same_members, empty_lacks, insert_new, insert_old, of_insert, meet_has, of_meet}
use Rattle.md_graph.proofs.Search.{len_within}
use Rattle.md_tree.specs.declared.Kind.{Kind}
use Rattle.md_tree.specs.declared.Pair.{Pair}
use Rattle.md_tree.specs.declared.TreeOf.{TreeOf}
use Rattle.md_tree.specs.Trees.{PlainTree, row}
use Rattle.md_tree.specs.Heads.{head, heads}
use Rattle.md_tree.specs.Plain.{plain}
use Rattle.md_local.specs.Growing.{quotient_names}

insert_swap : (s : NameSet) (a b : ℕ) → insert (insert s a) b ≡ insert (insert s b) a
insert_swap s a b = same_members (insert (insert s a) b) (insert (insert s b) a) (swap s a b) (swap s b a) where
  swap : (s : NameSet) (a b x : ℕ) → Has (insert (insert s a) b) x → Has (insert (insert s b) a) x
  swap s a b x h = elim (of_insert (insert s a) b x h) [
    | inl same ↦ insert_old (insert s b) a x (subst (Has (insert s b)) (sym same) (insert_new s b))
    | inr more ↦ elim (of_insert s a x more) [
      | inl same ↦ subst (Has (insert (insert s b) a)) (sym same) (insert_new (insert s b) a)
      | inr old ↦ insert_old (insert s b) a x (insert_old s b x old)
    ]
  ]

heads_more : (ts : List PlainTree) (t : PlainTree) → heads (row (ts ++ t ∷ [])) ≡ insert (heads (row ts)) (head t)
heads_more [] t = refl
heads_more (w ∷ ts) t = ap (λ s. insert s (head w)) (heads_more ts t) ∙ insert_swap (heads (row ts)) (head t) (head w)

-- one more tree
names_more : (ts : List PlainTree) (t : PlainTree) (u v : ℕ) → quotient_names (ts ++ t ∷ []) u v ≡ insert (quotient_names ts u v) (head t)
names_more ts t u v =
    ap (λ s. insert (insert s u) v) (heads_more ts t) ∙ ap (λ s. insert s v) (insert_swap (heads (row ts)) (head t) u)
    ∙ insert_swap (insert (heads (row ts)) u) (head t) v

-- a name is inserted where it is a vertex
insert_met : (vertices old new s : NameSet) (x : ℕ) → old ≡ intersection vertices s → new ≡ cond (contains vertices x) (insert old x) old → new ≡ intersection vertices (insert s x)
insert_met vertices old new s x are is = elim (cases_Bool (contains vertices x)) [
  | inl live ↦
      let made : new ≡ insert old x = is ∙ ap (λ b. cond b (insert old x) old) live in
      same_members new (intersection vertices (insert s x))
      (λ y h. elim (of_insert old x y (Has-along new (insert old x) made y h)) [
        | inl same ↦ meet_has vertices (insert s x) y (subst (Has vertices) (sym same) live) (subst (Has (insert s x)) (sym same) (insert_new s x))
        | inr known ↦
            let both = of_meet vertices s y (Has-along old (intersection vertices s) are y known) in
            meet_has vertices (insert s x) y both.0 (insert_old s x y both.1)
      ])
      (λ y h.
      let both = of_meet vertices (insert s x) y h in
      Has-along (insert old x) new (sym made) y (elim (of_insert s x y both.1) [
        | inl same ↦ subst (Has (insert old x)) (sym same) (insert_new old x)
        | inr known ↦ insert_old old x y (Has-along (intersection vertices s) old (sym are) y (meet_has vertices s y both.0 known))
      ]))
  | inr dead ↦
      let made : new ≡ old = is ∙ ap (λ b. cond b (insert old x) old) dead in
      same_members new (intersection vertices (insert s x))
      (λ y h.
      let both = of_meet vertices s y (Has-along old (intersection vertices s) are y (Has-along new old made y h)) in
      meet_has vertices (insert s x) y both.0 (insert_old s x y both.1))
      (λ y h.
      let both = of_meet vertices (insert s x) y h in
      Has-along old new (sym made) y (elim (of_insert s x y both.1) [
        | inl same ↦ clash (subst (Has vertices) same both.0) dead
        | inr known ↦ Has-along (intersection vertices s) old (sym are) y (meet_has vertices s y both.0 known)
      ]))
]

pub names_begin : (vertices none one two : NameSet) (u v : ℕ) → none ≡ empty → one ≡ cond (contains vertices u) (insert none u) none → two ≡ cond (contains vertices v) (insert one v) one →
    two ≡ intersection vertices (quotient_names [] u v)
names_begin vertices none one two u v is first second =
    insert_met vertices one two (insert empty u) v (insert_met vertices none one empty u bare first) second
  where
    bare : none ≡ intersection vertices empty
    bare = same_members none (intersection vertices empty)
        (λ x h. clash (Has-along none empty is x h) (empty_lacks x))
        (λ x h. clash (of_meet vertices empty x h).1 (empty_lacks x))

pub names_step : (vertices old new : NameSet) (xs : List (TreeOf Kind Pair)) (i : ℕ) (d : TreeOf Kind Pair) (u v x : ℕ) → i < length xs → old ≡ intersection vertices (quotient_names (map plain (take i xs)) u v) →
    x ≡ head (plain (get_or xs i d)) → new ≡ cond (contains vertices x) (insert old x) old → new ≡ intersection vertices (quotient_names (map plain (take (i + 1) xs)) u v)
names_step vertices old new xs i d u v x less are own is =
    insert_met vertices old new (quotient_names (map plain (take i xs)) u v) x are is
    ∙ ap (intersection vertices)
    (ap (insert (quotient_names (map plain (take i xs)) u v)) own ∙ sym (names_more (map plain (take i xs)) (plain (get_or xs i d)) u v)
    ∙ ap (λ ts. quotient_names ts u v) (sym (map_more plain xs i d less)))

-- ---- steps

pub more_steps : (old new few many : ℕ) → new ≤ old + few → few ≤ many → new ≤ old + many
more_steps old new few many taken less = omega arith

pub few_vertices : (old new : ℕ) (vertices all set : NameSet) → new ≡ old + len set → set ≡ intersection vertices all → new ≤ old + len all
few_vertices old new vertices all set taken is =
    let few : len set ≤ len all = len_within set all (λ x h. (of_meet vertices all x (Has-along set (intersection vertices all) is x h)).1) in
    omega arith

-- a set with a vertex isn't empty
pub vertex_there : (vertices set : NameSet) (ts : List PlainTree) (u v : ℕ) → set ≡ intersection vertices (quotient_names ts u v) → Has vertices u → set ≡ empty → ⊥
vertex_there vertices set ts u v is live none =
    clash (Has-along set empty none u (Has-along (intersection vertices (quotient_names ts u v)) set (sym is) u
    (meet_has vertices (quotient_names ts u v) u live (insert_old (insert (heads (row ts)) u) v u (insert_new (heads (row ts)) u))))) (empty_lacks u)
