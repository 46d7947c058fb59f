use Rattle.std.proofs.Common.{◌≡◌, ◌+◌, ◌∙◌, ap, subst, refl, arith, rules}
use Rattle.std.specs.FinSet as set
use Rattle.md_graph.proofs.Limits.{NAMES-lt, words_few}
use Rattle.md_graph6.proofs.WriteLemmas.{consecutive_column, consecutive_name, consecutive_vertex}
use Rattle.md_graph6.specs.Short.{put_bit}
use Rattle.md_graph6.specs.Written.{IsWritten}
use Rattle.md_graph6.proofs.PutShort.{written_none, unput_column, written_column, written_all}
use Rattle.md_graph6.proofs.writer.put_few_columns.Goals as goal

pub neighbours-requires : goal.neighbours-requires
neighbours-requires g c =
    (search rules, (search rules, consecutive_vertex c.args.graph.now c.args.least c.args.n c.loop-j.j c.requires.count c.requires.consecutive c.loop-j-test.true))

pub with_column-unput-requires : goal.with_column-unput-requires
with_column-unput-requires g c =
    (search rules, (search rules, (c.vertices-vertices.ensures.limit, (consecutive_name c.args.graph.now _ c.args.least c.args.n c.loop-j.j c.vertices-vertices.ensures.below c.requires.count c.requires.consecutive c.loop-j-test.true, (search rules, search rules)))))

pub overflow_add-least : goal.overflow_add-least
overflow_add-least g c =
    omega (arith, NAMES-lt, words_few _ c.vertices-vertices.ensures.limit, consecutive_name c.args.graph.now _ c.args.least c.args.n c.loop-j.j c.vertices-vertices.ensures.below c.requires.count c.requires.consecutive c.loop-j-test.true)

pub loop-j-init : goal.loop-j-init
loop-j-init g c = written_none c.requires.blank

pub put_whole-unput-requires-clause-unput : goal.put_whole-unput-requires-clause-unput
put_whole-unput-requires-clause-unput g c =
    unput_column (λ i. set.contains c.neighbours.result.now (c.args.least + i)) _ _ _ c.loop-j.invariant c.with_column-unput.ensures.column c.with_column-unput.ensures.held c.with_column-unput.ensures.at

pub loop-j-preserved : goal.loop-j-preserved
loop-j-preserved g c =
    written_column (λ i. set.contains c.neighbours.result.now (c.args.least + i)) c.with_column-unput.result.bits c.with_column-unput.result.held _ _ _ c.loop-j.invariant
    c.with_column-unput.ensures.before c.with_column-unput.ensures.column c.with_column-unput.ensures.held
    (consecutive_column c.neighbours.result.now c.args.least c.args.n c.loop-j.j (c.args.least + c.loop-j.j) c.neighbours.ensures.graph refl c.neighbours.ensures.set c.requires.consecutive c.loop-j-test.true)
    c.put_whole-unput.ensures.unput (omega (arith, c.put_whole-unput.ensures.place, c.with_column-unput.ensures.at)) c.put_whole-unput.ensures.few
    (λ k. c.put_whole-unput.ensures.same k ∙ ap (λ at. put_bit c.loop-j.body c.with_column-unput.result.bits at k) c.with_column-unput.ensures.at)

pub returns : goal.returns
returns g c =
    let all : c.loop-j.j ≡ c.args.n = omega arith in
    subst (IsWritten c.put_rest.new.body c.args.graph.now) all (written_all c.loop-j.invariant c.put_rest.ensures.groups c.put_rest.ensures.bits)
