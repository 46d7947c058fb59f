use Rattle.std.proofs.Common.{◌∙◌, rules}
use Rattle.md_modules.proofs.PathSearch.{Meeting-start, Meeting-more, Meeting-end}
use Rattle.md_graph.proofs.Walks.{Walked-start, Walked-item}
use Rattle.md_modules.proofs.induced_paths.met_by.Goals as goal

pub loop-o-init : goal.loop-o-init
loop-o-init g c =
    Meeting-start c.args.graph.now c.args.names.now c.args.others.now c.args.value _ _ _ c.copy-left.ensures.value c.none-met.ensures.value
    (Walked-start (c.into_iter-o-iterator.ensures.into_iter_gives ∙ c.members-o-items.ensures.list) c.members-o-items.ensures.names)

pub move_seen-requires : goal.move_seen-requires
move_seen-requires g c = (search rules, (search rules, c.requires.others c.in-Some.o (Walked-item c.loop-o.invariant.walked c.in-Some.o _ c.in-Some.ensures.steps)))

pub loop-o-preserved : goal.loop-o-preserved
loop-o-preserved g c =
    Meeting-more c.requires.graph c.args.names.now c.args.others.now c.args.value c.loop-o.left c.loop-o.met c.move_seen.new.left c.move_seen.new.todo c.loop-o.o-iterator c.loop-o.invariant
    c.in-Some.o _ c.in-Some.ensures.steps c.move_seen.ensures.left c.move_seen.ensures.todo

pub returns : goal.returns
returns g c = Meeting-end c.args.graph.now c.args.names.now c.args.others.now c.args.value c.loop-o.left c.loop-o.met c.loop-o.o-iterator c.loop-o.invariant _ c.in-None.ensures.steps
