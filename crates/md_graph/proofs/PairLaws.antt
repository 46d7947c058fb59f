-- The laws of finite sets at pairs of numbers, each once and with four numbers, in the forms that `grind` and `rw` take.
use Rattle.std.specs.Prelude.{◌≡◌, ℕ, ◌+◌, Bool, false, cond, not, ◌&&◌, ◌||◌, ◌==◌, List, [], ◌∷◌, ◌++◌, refl}
use Rattle.std.proofs.Common.{ap, sym, ◌∙◌}
use Rattle.std.proofs.lemmas.Bool.{and_parts, eqb-true}
use Rattle.std.proofs.lemmas.Cmp.{then_total, on_total}
use Rattle.std.specs.declared.cmp.Ordering.{Ordering}
use Rattle.std.specs.declared.cmp.Ordering.TheVariants.{Less, Equal, Greater}
use Rattle.std.specs.Ordering.{nat_cmp, is_eq, eq_by_cmp, ordering_then}
use Rattle.std.specs.Cmp.{IsTotalOrder, nat_cmp_total, unsigned_tied}
use Rattle.std.specs.FinSet as set
use Rattle.std.specs.FinSet.{IsAntisymmetric}
use Rattle.md_graph.specs.PlainGraph.{PairSet, pair_cmp}

-- whether (a, b) is the pair (u, v)
abbrev pub is_pair : ℕ → ℕ → ℕ → ℕ → Bool
is_pair u v a b = (a == u) && (b == v)

pub pair_total : IsTotalOrder pair_cmp
pair_total = then_total (on_total (λ (p : ℕ × ℕ). p.0) nat_cmp_total) (on_total (λ (p : ℕ × ℕ). p.1) nat_cmp_total)

is_eq-then : (o p : Ordering) → is_eq (ordering_then o p) ≡ (is_eq o && is_eq p)
is_eq-then Less p = refl
is_eq-then Equal p = refl
is_eq-then Greater p = refl

-- two pairs tie where both parts are equal
pub pair_tied : (u v a b : ℕ) → eq_by_cmp pair_cmp (u, v) (a, b) ≡ ((u == a) && (v == b))
pair_tied u v a b =
    is_eq-then (nat_cmp u a) (nat_cmp v b) ∙ (λ i. unsigned_tied u a i && unsigned_tied v b i)

pair_parts : (u v a b : ℕ) → pair_cmp (u, v) (a, b) ≡ Equal → (u ≡ a) × (v ≡ b)
pair_parts u v a b e =
    let both = and_parts (u == a) (v == b) (sym (pair_tied u v a b) ∙ ap is_eq e) in
    (eqb-true u a both.0, eqb-true v b both.1)

pub pair_cmp-IsAntisymmetric : IsAntisymmetric pair_cmp
pair_cmp-IsAntisymmetric p q e = let parts = pair_parts p.0 p.1 q.0 q.1 e in λ i. (parts.0 i, parts.1 i)

pub pairs-empty : (u v : ℕ) → set.contains (set.empty {R = pair_cmp}) (u, v) ≡ false
pairs-empty u v = set.contains-empty pair_cmp (u, v)

pub pairs-insert : (s : PairSet) (a b u v : ℕ) → set.contains (set.insert s (a, b)) (u, v) ≡ (((u == a) && (v == b)) || set.contains s (u, v))
pairs-insert s a b u v =
    set.contains-insert pair_total s (a, b) (u, v) ∙ ap (λ t. t || set.contains s (u, v)) (pair_tied u v a b)

pub pairs-remove : (s : PairSet) (a b u v : ℕ) → set.contains (set.remove s (a, b)) (u, v) ≡ (not ((u == a) && (v == b)) && set.contains s (u, v))
pairs-remove s a b u v =
    set.contains-remove pair_total s (a, b) (u, v) ∙ ap (λ t. not t && set.contains s (u, v)) (pair_tied u v a b)

pub pairs-union : (s t : PairSet) (u v : ℕ) → set.contains (set.union s t) (u, v) ≡ (set.contains s (u, v) || set.contains t (u, v))
pairs-union s t u v = set.contains-union pair_total s t (u, v)

pub pairs-retain : (s : PairSet) (p : ℕ × ℕ → Bool) (u v : ℕ) → set.contains (set.retain s p) (u, v) ≡ (set.contains s (u, v) && p (u, v))
pairs-retain s p u v =
    set.contains-retain s p (u, v) (λ x e. ap p (sym (pair_cmp-IsAntisymmetric (u, v) x e)))

pub pairs-len-empty : set.len (set.empty {R = pair_cmp}) ≡ 0
pairs-len-empty = set.len-empty pair_cmp

pub pairs-len-insert : (s : PairSet) (a b : ℕ) → set.len (set.insert s (a, b)) ≡ cond (set.contains s (a, b)) (set.len s) (set.len s + 1)
pairs-len-insert s a b = set.len-insert pair_total s (a, b)

pub pairs-from_list_push : (ks : List (ℕ × ℕ)) (k : ℕ × ℕ) → set.from_list {R = pair_cmp} (ks ++ k ∷ []) ≡ set.insert (set.from_list ks) k
pairs-from_list_push ks k = set.from_list_push pair_total pair_cmp-IsAntisymmetric ks k

-- two sets with the same pairs are equal
pub same_pairs : (s t : PairSet) → ((u v : ℕ) → set.contains s (u, v) ≡ set.contains t (u, v)) → s ≡ t
same_pairs s t is = set.same_set pair_total pair_cmp-IsAntisymmetric s t (λ p. is p.0 p.1)
