use Rattle.std.proofs.Common.{◌≡◌, ◌+◌, ◌*◌, ◌/◌, ◌^◌, arith, ap}
use Rattle.md_graph.proofs.Limits.{NAMES-lt}
use Rattle.md_graph6.proofs.NumberLemmas.{step_small}
use Rattle.md_graph6.specs.Sparse.{spelt_number}
use Rattle.md_graph6.proofs.sparse.pair_at.Goals as goal

pub overflow_add-result : goal.overflow_add-result
overflow_add-result c =
    let small = step_small c.args.body.now (6 * c.args.place.at + c.args.place.shift) c.args.digits in
    let e : c.spelt_number-number.result / 2 ^ c.args.digits ≡ spelt_number c.args.body.now (6 * c.args.place.at + c.args.place.shift) (c.args.digits + 1) / 2 ^ c.args.digits = ap (λ x. x / 2 ^ c.args.digits) c.spelt_number-number.ensures in
    let names = NAMES-lt in
    omega (arith, c.requires.reached)

pub returns-clause-near : goal.returns-clause-near
returns-clause-near c =
    let small = step_small c.args.body.now (6 * c.args.place.at + c.args.place.shift) c.args.digits in
    let e : c.spelt_number-number.result / 2 ^ c.args.digits ≡ spelt_number c.args.body.now (6 * c.args.place.at + c.args.place.shift) (c.args.digits + 1) / 2 ^ c.args.digits = ap (λ x. x / 2 ^ c.args.digits) c.spelt_number-number.ensures in
    omega (arith, c.requires.reached)
