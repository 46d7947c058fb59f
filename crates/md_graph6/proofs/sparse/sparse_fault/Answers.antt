use Rattle.std.proofs.Common.{◌≡◌, ◌<◌, true, length, None, Some, sym, ◌∙◌, arith}
use Rattle.std.specs.List.{list_all}
use Rattle.std.proofs.lemmas.Grind.{common_steps}
use Rattle.md_graph6.specs.Line.{is_group}
use Rattle.md_graph6.specs.Size.{size_of}
use Rattle.md_graph6.specs.SparseLine.{sparse_size_fault}
use Rattle.md_graph6.proofs.SparseLemmas.{sparse_fault-empty, sparse_fault-some, sparse_fault-sized, size_inside}
use Rattle.md_graph6.proofs.sparse.sparse_fault.Goals as goal

pub returns-then-is_empty : goal.returns-then-is_empty
returns-then-is_empty c = grind (arith, common_steps, sparse_fault-empty c.args.limit c.args.rest.now)

pub returns-then-not-are_groups : goal.returns-then-not-are_groups
returns-then-not-are_groups c = grind (arith, common_steps, sparse_fault-some c.args.limit c.args.rest.now)

pub pairs_fault-requires-clause-inside : goal.pairs_fault-requires-clause-inside
pairs_fault-requires-clause-inside c =
    let sized : size_of c.args.rest.now ≡ Some (c.in-Some.taken, c.in-Some.n) = cc in
    let some : 0 < length c.args.rest.now = grind (arith, common_steps) in
    size_inside c.args.rest.now c.in-Some.taken c.in-Some.n some sized

pub returns-in-Some : goal.returns-in-Some
unfolding sparse_size_fault
returns-in-Some c =
    let sized : size_of c.args.rest.now ≡ Some (c.in-Some.taken, c.in-Some.n) = cc in
    let some : 0 < length c.args.rest.now = grind (arith, common_steps) in
    let groups : list_all is_group c.args.rest.now ≡ true = cc in
    c.pairs_fault.ensures ∙ sym (sparse_fault-sized c.args.limit c.args.rest.now _ some groups sized)

pub returns-in-None : goal.returns-in-None
unfolding sparse_size_fault
returns-in-None c =
    let sized : size_of c.args.rest.now ≡ None = cc in
    let some : 0 < length c.args.rest.now = grind (arith, common_steps) in
    let groups : list_all is_group c.args.rest.now ≡ true = cc in
    sym (sparse_fault-sized c.args.limit c.args.rest.now _ some groups sized)
