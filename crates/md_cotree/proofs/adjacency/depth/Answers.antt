use Rattle.std.proofs.Common.{sym, arith}
use Rattle.md_cotree.proofs.Ways.{below_begin, below_more, below_less, below_end, parent_live}
use Rattle.md_cotree.proofs.adjacency.depth.Goals as goal

pub loop-parent-init : goal.loop-parent-init
loop-parent-init g c = record { live = c.requires.live; way = λ n r way none. below_begin _ _ _ _ way }

pub overflow_add-depth : goal.overflow_add-depth
overflow_add-depth g c =
    let w = c.requires.way in
    let less = below_less _ _ _ _ _ _ _ (c.loop-parent.invariant.way w.0 w.1 w.2 w.3) w.3 (sym c.in-Some.ensures.parent) in
    let low = w.4 in
    omega arith

pub loop-parent-preserved : goal.loop-parent-preserved
loop-parent-preserved g c = record {
  live = parent_live c.args.lists.now c.in-Some.ensures.links c.loop-parent.place c.in-Some.parent (sym c.in-Some.ensures.parent);
  way = λ n r way none.
      let at = c.loop-parent.invariant.way n r way none in
      let is = sym c.in-Some.ensures.parent in
      below_more _ _ _ _ _ _ _ at is (below_less _ _ _ _ _ _ _ at none is);
}

pub loop-parent-smaller : goal.loop-parent-smaller
loop-parent-smaller g c =
    let w = c.requires.way in
    let less = below_less _ _ _ _ _ _ _ (c.loop-parent.invariant.way w.0 w.1 w.2 w.3) w.3 (sym c.in-Some.ensures.parent) in
    let low = w.4 in
    omega arith

pub returns : goal.returns
returns g c = record {
  depth = λ n r way none. below_end _ _ _ _ _ _ (c.loop-parent.invariant.way n r way none) (sym c.in_default.ensures.parent);
  links = c.in_default.ensures.links;
}
