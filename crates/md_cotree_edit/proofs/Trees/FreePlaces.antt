-- How many places are free when one more is taken, or given back.
use Rattle.std.proofs.Common.{◌≡◌, ℕ, ◌+◌, ◌<◌, ◌≤◌, Option, Some, None, arith}
use Rattle.std.proofs.lemmas.List.Sums.{sum_by-set}
use Rattle.md_lists.specs.declared.kinds.PlaceKind.{PlaceKind}
use Rattle.md_lists.specs.declared.TheConstants.{PLACES}
use Rattle.md_lists.specs.Links.{Links, kind_at, AreLinks, with_kind, spare_count}
use Rattle.md_cotree.proofs.Room.{none_one}

none_low : (o : Option PlaceKind) → none_one o ≤ 1
none_low None = omega arith
none_low (Some k) = omega arith

module _ (l : Links) (ok : AreLinks l) (p : ℕ) (within : p < PLACES) where
  set_count : (o : Option PlaceKind) → spare_count (with_kind l p o) + none_one (kind_at l p) ≡ spare_count l + none_one o
  set_count o = sum_by-set none_one l.kinds p o None (let e = ok.kinds_len in omega arith)

  pub spare_freed : spare_count l ≤ spare_count (with_kind l p None)
  spare_freed = add_up _ _ _ (set_count None) (none_low (kind_at l p))
    where
      add_up : (a b n : ℕ) → a + n ≡ b + 1 → n ≤ 1 → b ≤ a
      add_up a b n e f = omega arith
