use Rattle.std.proofs.Common.{arith, ap, length}
use Rattle.md_script.proofs.ItemLemmas.{items_few}
use Rattle.md_script.proofs.script.Script.len.Goals as goal

pub returns-clause-few : goal.returns-clause-few
returns-clause-few c =
    let few = items_few c.self.inside.items.items in
    let room = c.self.invariant.1 in
    let same = ap length c.self.view_is in
    omega arith
