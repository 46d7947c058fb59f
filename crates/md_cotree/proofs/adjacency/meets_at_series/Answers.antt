use Rattle.std.proofs.Common.{◌-◌, refl, sym, subst}
use Rattle.md_cotree.specs.Climbs.{Climbs}
use Rattle.md_cotree.proofs.Ways.{level, way_left, way_right, meet_from}
use Rattle.md_cotree.proofs.adjacency.meets_at_series.Goals as goal

pub depth-left-requires-clause-way : goal.depth-left-requires-clause-way
depth-left-requires-clause-way g c =
    let m = c.requires.ways.1 in
    (_, m.root, way_left c.args.lists.now c.args.p c.args.q c.requires.ways.0 m, m.no_parent, m.left_few)

pub depth-right-requires-clause-way : goal.depth-right-requires-clause-way
depth-right-requires-clause-way g c =
    let m = c.requires.ways.1 in
    (_, m.root, way_right c.args.lists.now c.args.p c.args.q c.requires.ways.0 m, m.no_parent, m.right_few)

pub ancestor-a-requires-clause-way : goal.ancestor-a-requires-clause-way
ancestor-a-requires-clause-way g c =
    let b = c.requires.ways.0 in
    let m = c.requires.ways.1 in
    let at = level c.args.lists.now c.args.p c.args.q c.depth-left.result c.depth-right.result (c.depth-left.result - c.depth-right.result) (c.depth-right.result - c.depth-left.result) b m
    (c.depth-left.ensures.depth _ m.root (way_left c.args.lists.now c.args.p c.args.q b m) m.no_parent)
    (c.depth-right.ensures.depth _ m.root (way_right c.args.lists.now c.args.p c.args.q b m) m.no_parent) refl refl in
    (at.left, subst (λ n. Climbs c.args.lists.now n c.args.p at.left) (sym c.saturating_sub.ensures) at.from_left)

pub ancestor-b-requires-clause-way : goal.ancestor-b-requires-clause-way
ancestor-b-requires-clause-way g c =
    let b = c.requires.ways.0 in
    let m = c.requires.ways.1 in
    let at = level c.args.lists.now c.args.p c.args.q c.depth-left.result c.depth-right.result (c.depth-left.result - c.depth-right.result) (c.depth-right.result - c.depth-left.result) b m
    (c.depth-left.ensures.depth _ m.root (way_left c.args.lists.now c.args.p c.args.q b m) m.no_parent)
    (c.depth-right.ensures.depth _ m.root (way_right c.args.lists.now c.args.p c.args.q b m) m.no_parent) refl refl in
    (at.right, subst (λ n. Climbs c.args.lists.now n c.args.q at.right) (sym c.saturating_sub-2.ensures) at.from_right)

pub meet_at_series-requires-clause-ways : goal.meet_at_series-requires-clause-ways
meet_at_series-requires-clause-ways g c =
    let b = c.requires.ways.0 in
    let m = c.requires.ways.1 in
    let at = level c.args.lists.now c.args.p c.args.q c.depth-left.result c.depth-right.result c.saturating_sub.result c.saturating_sub-2.result b m
    (c.depth-left.ensures.depth _ m.root (way_left c.args.lists.now c.args.p c.args.q b m) m.no_parent)
    (c.depth-right.ensures.depth _ m.root (way_right c.args.lists.now c.args.p c.args.q b m) m.no_parent) c.saturating_sub.ensures c.saturating_sub-2.ensures in (
      at.steps,
      b,
      meet_from c.args.lists.now at.left c.ancestor-a.result at.right c.ancestor-b.result at.steps b (c.ancestor-a.ensures at.left at.from_left) (c.ancestor-b.ensures at.right at.from_right) at.meet,
      at.few,
    )

pub returns : goal.returns
returns g c b m =
    let at = level c.args.lists.now c.args.p c.args.q c.depth-left.result c.depth-right.result c.saturating_sub.result c.saturating_sub-2.result b m
    (c.depth-left.ensures.depth _ m.root (way_left c.args.lists.now c.args.p c.args.q b m) m.no_parent)
    (c.depth-right.ensures.depth _ m.root (way_right c.args.lists.now c.args.p c.args.q b m) m.no_parent) c.saturating_sub.ensures c.saturating_sub-2.ensures in
    c.meet_at_series.ensures at.steps b
    (meet_from c.args.lists.now at.left c.ancestor-a.result at.right c.ancestor-b.result at.steps b (c.ancestor-a.ensures at.left at.from_left) (c.ancestor-b.ensures at.right at.from_right) at.meet)
