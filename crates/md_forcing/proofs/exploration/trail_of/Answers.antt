use Rattle.std.proofs.Common.{rules, arith}
use Rattle.md_forcing.proofs.SeenRows.{none_seen}
use Rattle.md_forcing.proofs.exploration.trail_of.Goals as goal

pub explore-requires : goal.explore-requires
explore-requires g c = (
  search rules,
  (
    search rules,
    (
      λ v h.
          let above = c.bound.ensures.above v h in
          let size = c.in_ok-seen.ensures.room in
          omega arith,
      (search rules, (none_seen _ c.in_ok-seen.ensures.none c.args.first, λ a b h _ _. absurd (none_seen _ c.in_ok-seen.ensures.none a h))),
    ),
  ),
)
