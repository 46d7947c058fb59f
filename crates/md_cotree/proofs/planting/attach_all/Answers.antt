use Rattle.std.proofs.Common.{◌≡◌, ◌+◌, ◌-◌, refl, subst, arith}
use Rattle.md_cotree.proofs.Attaching.{IsAttaching, attach_begin, attach_next, attach_more, attach_end}
use Rattle.md_cotree.proofs.planting.attach_all.Goals as goal

pub loop-i-init : goal.loop-i-init
loop-i-init g c = record { trees = λ k us ts fits is. attach_begin _ _ _ _ _ _ _ refl fits is; links = c.requires.links; marked = refl }

pub attach-requires : goal.attach-requires
attach-requires g c =
    let i = c.loop-i.i - 1 in
    let some = c.loop-i-test.true in
    let low = c.loop-i.auto.i in
    let at : c.loop-i.i ≡ i + 1 = omega arith in
    let next = attach_next c.loop-i.lists c.loop-i.invariant.links c.args.place c.requires.forest.0 c.requires.forest.1 c.requires.forest.2 c.args.children.now i (omega arith)
    (subst (IsAttaching c.loop-i.lists c.args.place c.requires.forest.0 c.requires.forest.1 c.requires.forest.2 c.args.children.now) at
    (c.loop-i.invariant.trees c.requires.forest.0 c.requires.forest.1 c.requires.forest.2 c.requires.forest.3 c.requires.forest.4)) in
    record { parent = next.parent; child = next.child; differ = next.differ; loose = next.loose }

pub loop-i-preserved : goal.loop-i-preserved
loop-i-preserved g c =
    let i = c.loop-i.i - 1 in
    let some = c.loop-i-test.true in
    let low = c.loop-i.auto.i in
    let at : c.loop-i.i ≡ i + 1 = omega arith in
    record {
      trees = λ k us ts fits is.
          rw c.attach.ensures.attached
          (attach_more c.loop-i.lists c.loop-i.invariant.links c.args.place k us ts c.args.children.now i (omega arith)
          (subst (IsAttaching c.loop-i.lists c.args.place k us ts c.args.children.now) at (c.loop-i.invariant.trees k us ts fits is)));
      links = c.attach.ensures.links;
      marked = rw c.attach.ensures.attached c.loop-i.invariant.marked;
    }

pub returns : goal.returns
returns g c =
    let none = c.loop-i-test.false in
    record {
      forest = λ k us ts fits is. attach_end c.loop-i.lists c.args.place k us ts c.args.children.now c.loop-i.i (omega arith) (c.loop-i.invariant.trees k us ts fits is);
      links = c.loop-i.invariant.links;
      marked = c.loop-i.invariant.marked;
    }
