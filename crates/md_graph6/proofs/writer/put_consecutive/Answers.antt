use Rattle.std.proofs.Common.{◌+◌, refl, arith, rules}
use Rattle.std.specs.FinSet as set
use Rattle.md_graph.proofs.Limits.{NAMES-lt, words_few}
use Rattle.md_graph6.proofs.WriteLemmas.{IsWritten-more, consecutive_column, consecutive_name, consecutive_vertex, pair_next, pair_mono}
use Rattle.md_graph6.proofs.writer.put_consecutive.Goals as goal

pub neighbours-requires : goal.neighbours-requires
neighbours-requires g c =
    (search rules, (search rules, consecutive_vertex c.args.graph.now c.args.least c.args.n c.loop-j.j c.requires.count c.requires.consecutive c.loop-j-test.true))

pub put_column-requires : goal.put_column-requires
put_column-requires g c =
    let room = pair_mono (c.loop-j.j + 1) c.args.n (omega (arith, c.loop-j-test.true)) in
    (search rules, (c.vertices-vertices.ensures.limit, (consecutive_name c.args.graph.now _ c.args.least c.args.n c.loop-j.j c.vertices-vertices.ensures.below c.requires.count c.requires.consecutive c.loop-j-test.true, (c.loop-j.invariant.groups, (omega (arith, c.requires.room, c.loop-j.auto.body, pair_next c.loop-j.j, room), c.loop-j.invariant.blank)))))

pub overflow_add-least : goal.overflow_add-least
overflow_add-least g c =
    let name = consecutive_name c.args.graph.now _ c.args.least c.args.n c.loop-j.j c.vertices-vertices.ensures.below c.requires.count c.requires.consecutive c.loop-j-test.true in
    omega (arith, NAMES-lt, name, words_few _ c.vertices-vertices.ensures.limit)

pub loop-j-preserved : goal.loop-j-preserved
loop-j-preserved g c =
    IsWritten-more (λ i. set.contains c.neighbours.result.now (c.args.least + i)) c.loop-j.invariant c.put_column.ensures.groups c.put_column.ensures.before c.put_column.ensures.column
    (consecutive_column c.neighbours.result.now c.args.least c.args.n c.loop-j.j (c.args.least + c.loop-j.j) c.neighbours.ensures.graph refl c.neighbours.ensures.set c.requires.consecutive c.loop-j-test.true)
