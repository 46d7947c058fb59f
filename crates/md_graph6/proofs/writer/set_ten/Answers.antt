use Rattle.std.proofs.Common.{◌+◌, refl}
use Rattle.md_graph6.proofs.PutLemmas.{put_two_more}
use Rattle.md_graph6.proofs.writer.set_ten.Goals as goal

pub returns : goal.returns
returns c =
    let at = c.args.at in
    let bits = c.args.bits in
    let four = put_two_more _ _ _ at 2 (at + 2) 4 bits c.set_two.ensures c.set_two-2.ensures refl refl in
    let six = put_two_more _ _ _ at 4 (at + 4) 6 bits four c.set_two-3.ensures refl refl in
    let eight = put_two_more _ _ _ at 6 (at + 6) 8 bits six c.set_two-4.ensures refl refl in
    put_two_more _ _ _ at 8 (at + 8) 10 bits eight c.set_two-5.ensures refl refl
