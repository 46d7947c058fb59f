use Rattle.std.proofs.Common.{◌*◌, ◌++◌, List, ℕ, length, ◌∙◌, ap, arith}
use Rattle.md_cograph.proofs.Changed.{few_names}
use Rattle.md_cograph.proofs.changes.list_names.Goals as goal

pub loop-v-init : goal.loop-v-init
loop-v-init g c =
    let listed = c.into_iter-v-iterator.ensures.into_iter_gives ∙ c.members-v-items.ensures.list in
    let few = few_names c.args.names.now (64 * g.row.W) c.members-v-items.ensures.names c.members-v-items.ensures.below in
    let same = ap length listed in
    let room = c.requires in
    let empty = c.clear.ensures.len in
    let kept = c.clear.ensures.capacity in
    record { listed = ap (λ (l : List ℕ). l ++ c.into_iter-v-iterator.result) c.clear.ensures.items ∙ listed; room = omega arith; kept = kept }
