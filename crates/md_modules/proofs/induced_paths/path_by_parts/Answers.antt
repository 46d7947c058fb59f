use Rattle.std.proofs.Common.{rules}
use Rattle.md_modules.proofs.PathSearch.{part_whole, Searched-start, Searched-more}
use Rattle.md_graph.proofs.Search.{rest_falls}
use Rattle.md_modules.proofs.induced_paths.path_by_parts.Goals as goal

pub loop-y-init : goal.loop-y-init
loop-y-init g c =
    Searched-start c.args.graph.now c.args.names.now c.args.others.now c.args.value c.to_begin_from-left.result c.to_begin_from-left.ensures.inside c.to_begin_from-left.ensures.met

pub path_by_part-requires : goal.path_by_part-requires
path_by_part-requires g c = (
  search rules,
  (
    search rules,
    (
      search rules,
      (
        λ w h. c.requires.inside w (c.part_of.ensures.closed.inside w h),
        (
          search rules,
          (
            part_whole c.requires.graph c.args.names.now c.part_of.new.into c.args.value c.in-Some.y c.part_of.ensures,
            (search rules, search rules),
          ),
        ),
      ),
    ),
  ),
)

pub loop-y-smaller : goal.loop-y-smaller
loop-y-smaller g c =
    rest_falls c.loop-y.left c.part_of.new.into c.minus-left.result c.in-Some.y c.in-Some.ensures.found.member c.part_of.ensures.holds c.minus-left.ensures.value

pub loop-y-preserved : goal.loop-y-preserved
loop-y-preserved g c =
    Searched-more c.args.graph.now c.args.names.now c.args.others.now c.args.value c.loop-y.left c.part_of.new.into c.minus-left.result c.in-Some.y c.loop-y.invariant c.part_of.ensures c.minus-left.ensures.value c.in_default-path_by_part.ensures.none
