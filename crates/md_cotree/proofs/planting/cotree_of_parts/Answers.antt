use Rattle.std.proofs.Common.{◌≡◌, ◌+◌, ◌-◌, refl, subst, arith}
use Rattle.md_outline.specs.declared.outline.OutlinePart.TheVariants.{Name}
use Rattle.md_cotree.proofs.Planted.{IsPlanting, cotree_parts, plant_begin, plant_finds, plant_room, plant_ready, plant_more, planted}
use Rattle.md_cotree.proofs.planting.cotree_of_parts.Goals as goal

pub loop-i-init : goal.loop-i-init
loop-i-init g c = plant_begin _ _ _ _ refl c.spare-spare.ensures.links c.new-stack.ensures.items c.in_ok-cotree.ensures

pub put-requires : goal.put-requires
put-requires g c =
    let tree = c.requires.tree in
    let are = cotree_parts c.args.parts.now tree.0 tree.1 tree.2 tree.3 in
    let i = c.loop-i.i - 1 in
    let some = c.loop-i-test.true in
    let low = c.loop-i.auto.i in
    let at : c.loop-i.i ≡ i + 1 = omega arith in
    let so = subst (λ n. IsPlanting c.args.parts.now c.loop-i.cotree n c.loop-i.stack.items) at c.loop-i.invariant in
    record {
      forest = (
        so.trees,
        so.forest,
        plant_room c.args.parts.now are c.loop-i.cotree c.loop-i.stack.items i (omega arith) (Name 0) so,
        plant_finds c.args.parts.now are c.loop-i.cotree c.loop-i.stack.items i (omega arith) _ so,
      );
      ready = plant_ready c.args.parts.now are c.loop-i.cotree c.loop-i.stack.items i (omega arith) _ so;
    }

pub loop-i-preserved : goal.loop-i-preserved
loop-i-preserved g c =
    let tree = c.requires.tree in
    let are = cotree_parts c.args.parts.now tree.0 tree.1 tree.2 tree.3 in
    let i = c.loop-i.i - 1 in
    let some = c.loop-i-test.true in
    let low = c.loop-i.auto.i in
    let at : c.loop-i.i ≡ i + 1 = omega arith in
    let so = subst (λ n. IsPlanting c.args.parts.now c.loop-i.cotree n c.loop-i.stack.items) at c.loop-i.invariant in
    plant_more c.args.parts.now are c.loop-i.cotree c.loop-i.stack.items i (omega arith) _ so _ _
    (c.in_ok-put.ensures so.trees so.forest (plant_finds c.args.parts.now are c.loop-i.cotree c.loop-i.stack.items i (omega arith) _ so))

pub returns : goal.returns
returns g c = λ o is not all.
    let none = c.loop-i-test.false in
    planted c.args.parts.now o is not all c.loop-i.cotree _ c.loop-i.stack.items c.pop-cotree.new.self.items c.loop-i.stack.len c.loop-i.i c.loop-i.invariant (omega arith) refl refl refl c.pop-cotree.ensures.items c.loop-i.stack.ok.0 c.pop-cotree.ensures.value
