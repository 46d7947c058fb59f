use Rattle.std.proofs.Common.{sym, subst}
use Rattle.md_forcing.proofs.ListLemmas.{key_at}
use Rattle.md_levels.specs.Levels.{InLevel}
use Rattle.md_levels.proofs.Depths.{in_level, of_stands}
use Rattle.md_levels.proofs.levels.Levels.level_of.Goals as goal

pub returns-in-Some-clause-found : goal.returns-in-Some-clause-found
returns-in-Some-clause-found c =
    let class = c.self.invariant in
    subst (λ l. InLevel l c.depth_of.result c.args.by) c.self.view_is
    (of_stands class.0 class.1 _ class.2 c.depth_of.result c.args.by (c.in-Some.place, c.in-Some.ensures.found.0, c.in-Some.ensures.found.1, c.depth_of.ensures))

pub returns-in-None-clause-none : goal.returns-in-None-clause-none
returns-in-None-clause-none c =
    λ k there.
    let class = c.self.invariant in
    let (place, p, stands, far) = in_level class.0 class.1 _ class.2 k c.args.by (subst (λ l. InLevel l k c.args.by) (sym c.self.view_is) there) in
    c.in-None.ensures.none (key_at _ place c.args.by p stands)
