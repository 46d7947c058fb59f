-- The laws of finite sets at numbers, each once, in the forms that `grind` and `rw` take. `set_laws` lists those on members.
use Rattle.std.specs.Prelude.{◌≡◌, ℕ, ◌+◌, ◌-◌, Bool, false, cond, not, ◌&&◌, ◌||◌, ◌==◌}
use Rattle.std.proofs.Common.{ap, sym, ◌∙◌}
use Rattle.std.specs.Ordering.{nat_cmp}
use Rattle.std.specs.Cmp.{nat_cmp_total, unsigned_tied}
use Rattle.std.specs.FinSet as set
use Rattle.std.specs.FinSet.{nat_cmp-IsAntisymmetric}
use Rattle.md_graph.specs.Sets.{NameSet}

pub contains-empty : (q : ℕ) → set.contains (set.empty {R = nat_cmp}) q ≡ false
contains-empty q = set.contains-empty nat_cmp q

pub contains-insert : (s : NameSet) (k q : ℕ) → set.contains (set.insert s k) q ≡ ((q == k) || set.contains s q)
contains-insert s k q =
    set.contains-insert nat_cmp_total s k q ∙ ap (λ b. b || set.contains s q) (unsigned_tied q k)

pub contains-remove : (s : NameSet) (k q : ℕ) → set.contains (set.remove s k) q ≡ (not (q == k) && set.contains s q)
contains-remove s k q =
    set.contains-remove nat_cmp_total s k q ∙ ap (λ b. not b && set.contains s q) (unsigned_tied q k)

pub contains-union : (s t : NameSet) (q : ℕ) → set.contains (set.union s t) q ≡ (set.contains s q || set.contains t q)
contains-union s t q = set.contains-union nat_cmp_total s t q

pub contains-intersection : (s t : NameSet) (q : ℕ) → set.contains (set.intersection s t) q ≡ (set.contains s q && set.contains t q)
contains-intersection s t q = set.contains-intersection nat_cmp_total s t q

pub contains-difference : (s t : NameSet) (q : ℕ) → set.contains (set.difference s t) q ≡ (set.contains s q && not (set.contains t q))
contains-difference s t q = set.contains-difference nat_cmp_total s t q

pub contains-retain : (s : NameSet) (p : ℕ → Bool) (q : ℕ) → set.contains (set.retain s p) q ≡ (set.contains s q && p q)
contains-retain s p q = set.contains-retain s p q (λ x e. ap p (sym (nat_cmp-IsAntisymmetric q x e)))

pub len-empty : set.len (set.empty {R = nat_cmp}) ≡ 0
len-empty = set.len-empty nat_cmp

pub len-insert : (s : NameSet) (k : ℕ) → set.len (set.insert s k) ≡ cond (set.contains s k) (set.len s) (set.len s + 1)
len-insert s k = set.len-insert nat_cmp_total s k

pub len-remove : (s : NameSet) (k : ℕ) → set.len (set.remove s k) ≡ cond (set.contains s k) (set.len s - 1) (set.len s)
len-remove s k = set.len-remove nat_cmp_total s k

-- a set without members by its length
pub empty_of_len : (s : NameSet) → set.len s ≡ 0 → s ≡ set.empty
empty_of_len s e = set.empty_of_len s e

-- two sets with the same members are equal
pub same_set : (s t : NameSet) → ((q : ℕ) → set.contains s q ≡ set.contains t q) → s ≡ t
same_set s t is = set.same_set nat_cmp_total nat_cmp-IsAntisymmetric s t is

pub ruleset set_laws = (contains-empty, contains-insert, contains-remove, contains-union, contains-intersection, contains-difference, contains-retain)
