use Rattle.md_modules.proofs.PathSearch.{if_none_map, no_path_by_sides}
use Rattle.md_modules.proofs.induced_paths.path_by_sides.Goals as goal

pub returns-clause-none : goal.returns-clause-none
returns-clause-none g c =
    if_none_map c.path_by_parts-2.result _ _
    (no_path_by_sides c.requires.graph c.args.x c.args.value c.args.first.now c.args.second.now c.requires.first c.requires.second c.in_default.ensures.none)
    c.path_by_parts-2.ensures.none
