use Rattle.std.proofs.Common.{length, ◌≤◌, arith}
use Rattle.std.proofs.lemmas.Bool.Decides.{nat_tests}
use Rattle.md_graph6.proofs.NumberLemmas.{no_number}
use Rattle.md_graph6.proofs.sparse.group_at.Goals as goal

pub returns-clause-value : goal.returns-clause-value
returns-clause-value c =
    let past : length c.args.body.now ≤ c.args.at = grind (arith, nat_tests) in
    no_number c.args.body.now c.args.at past
